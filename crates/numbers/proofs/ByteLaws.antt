-- Numbers and their bytes, high byte first: bytes are read by their two parts, written by them, and a number that fits so many bytes is read back
-- from them.
use Prim.Native.Nat.{ℕ, zero, suc, ◌+◌, ◌-◌, ◌*◌, ◌/◌, ◌%◌, ◌^◌, ◌≤◌, ◌<◌}
use native.Mathlib.Nat.{add-mul, mul_assoc, mul_comm, zero-mul, one-mul, mul-le-mul_right, pow-suc, mod-eq_of_lt, div-add-mod', div-div-eq-div-mul}
use native.Mathlib.Omega.{arith}
use mathlib.Core.Path.{◌≡◌, refl, sym, ap, ap₂, subst, ◌∙◌}
use mathlib.Core.List.{List, [], ◌∷◌, ◌++◌, append_assoc}
use lib.ListN.{get_or, take, drop, length, length-drop}
use lib.Seq.{length-take-le, take-length, drop-drop, take-nil, take-take, get_or-take, get_or-drop}
use borrow.Rule.Slice.PartMut.{put_mid}
use Rattle.std.specs.Int.{w64, from_be_bytes, bytes_high_first}
use Rattle.numbers.specs.Bytes.{number_from, number_of, bytes_of}

-- one digit more, to the base 256
digit_split : (n p : ℕ) → n % (p * 256) ≡ n / p % 256 * p + n % p
digit_split n p =
    let high = n / p / 256 in
    omega (
      arith,
      div-add-mod' n p,
      ap (λ x. x * p) (div-add-mod' (n / p) 256),
      add-mul (high * 256) (n / p % 256) p,
      mul_assoc high 256 p,
      ap (λ x. high * x) (mul_comm 256 p),
      div-add-mod' n (p * 256),
      ap (λ x. x * (p * 256)) (div-div-eq-div-mul n p 256),
    )

read_back : (k front n : ℕ) → number_from front (bytes_of k n) ≡ front * 256 ^ k + n % 256 ^ k
unfolding number_from bytes_of
read_back zero front n = omega arith
read_back (suc k) front n =
    let p = 256 ^ k in
    read_back k (front * 256 + n / p % 256) n
    ∙ rw (pow-suc 256 k)
    (omega (
      arith,
      digit_split n p,
      add-mul (front * 256) (n / p % 256) p,
      mul_assoc front 256 p,
      ap (λ x. front * x) (mul_comm 256 p),
    ))

pub number_of_bytes : (k n : ℕ) → n < 256 ^ k → number_of (bytes_of k n) ≡ n
number_of_bytes k n fits = read_back k 0 n ∙ omega (arith, mod-eq_of_lt fits, zero-mul (256 ^ k))

-- ---- bytes read

small_from :
    (front : ℕ) (bytes : List ℕ)
    → ((i : ℕ) → get_or bytes i 0 < 256)
    → number_from front bytes < (front + 1) * 256 ^ length bytes
unfolding number_from
small_from front [] small = omega arith
small_from front (b ∷ bytes) small =
    let p = 256 ^ length bytes in
    let room : front * 256 + b + 1 ≤ (front + 1) * 256 = omega (arith, small 0) in
    rw (pow-suc 256 (length bytes))
    (omega (
      arith,
      small_from (front * 256 + b) bytes (λ i. small (suc i)),
      mul-le-mul_right p room,
      mul_assoc (front + 1) 256 p,
      ap (λ x. (front + 1) * x) (mul_comm 256 p),
    ))

-- the first of some small numbers are small
part_small : (k : ℕ) (l : List ℕ) → ((i : ℕ) → get_or l i 0 < 256) → (i : ℕ) → get_or (take k l) i 0 < 256
part_small zero l small i = omega arith
part_small (suc k) [] small i = omega arith
part_small (suc k) (x ∷ l) small zero = small 0
part_small (suc k) (x ∷ l) small (suc i) = part_small k l (λ j. small (suc j)) i

-- k bytes stand for a number below 256 ^ k
pub number_below : (bytes : List ℕ) → ((i : ℕ) → get_or bytes i 0 < 256) → number_of bytes < 256 ^ length bytes
number_below bytes small = omega (arith, small_from 0 bytes small, one-mul (256 ^ length bytes))

at_end :
    (bytes : List ℕ)
    → length bytes ≤ 8
    → from_be_bytes w64 (put_mid (8 - length bytes) (8 - (8 - length bytes)) (0 ∷ 0 ∷ 0 ∷ 0 ∷ 0 ∷ 0 ∷ 0 ∷ 0 ∷ []) bytes) ≡ number_of bytes
unfolding number_from
at_end [] few = omega arith
at_end (a ∷ []) few = omega arith
at_end (a ∷ b ∷ []) few = omega arith
at_end (a ∷ b ∷ c ∷ []) few = omega arith
at_end (a ∷ b ∷ c ∷ d ∷ []) few = omega arith
at_end (a ∷ b ∷ c ∷ d ∷ e ∷ []) few = omega arith
at_end (a ∷ b ∷ c ∷ d ∷ e ∷ f ∷ []) few = omega arith
at_end (a ∷ b ∷ c ∷ d ∷ e ∷ f ∷ g ∷ []) few = omega arith
at_end (a ∷ b ∷ c ∷ d ∷ e ∷ f ∷ g ∷ h ∷ []) few = omega arith
at_end (a ∷ b ∷ c ∷ d ∷ e ∷ f ∷ g ∷ h ∷ i ∷ bytes) few = absurd (omega arith)

-- the bytes of a part of a list, and how many they are
part_long : (n : ℕ) (l : List ℕ) (at : ℕ) → at + n ≤ length l → length (take n (drop at l)) ≡ n
part_long n l at within = length-take-le n (drop at l) (omega (arith, length-drop at l))

-- a number read by its bytes at the end of eight
pub number_read :
    (l eight part : List ℕ) (at n : ℕ)
    → n ≤ 8
    → at + n ≤ length l
    → part ≡ take (at + n - at) (drop at l)
    → eight ≡ put_mid (8 - n) (8 - (8 - n)) (0 ∷ 0 ∷ 0 ∷ 0 ∷ 0 ∷ 0 ∷ 0 ∷ 0 ∷ []) part
    → from_be_bytes w64 eight ≡ number_of (take n (drop at l))
number_read l eight part at n few within is made =
    let count : at + n - at ≡ n = omega arith in
    let same : part ≡ take n (drop at l) = is ∙ ap (λ k. take k (drop at l)) count in
    let long : length part ≡ n = ap length same ∙ part_long n l at within in
    ap (from_be_bytes w64) (made ∙ ap (λ k. put_mid (8 - k) (8 - (8 - k)) (0 ∷ 0 ∷ 0 ∷ 0 ∷ 0 ∷ 0 ∷ 0 ∷ 0 ∷ []) part) (sym long))
    ∙ at_end part (omega arith)
    ∙ ap number_of same

-- n bytes of a buffer stand for a number below 256 ^ n
pub number_fits : (l : List ℕ) (at n : ℕ) → at + n ≤ length l → ((i : ℕ) → get_or l i 0 < 256) → number_of (take n (drop at l)) < 256 ^ n
number_fits l at n within small =
    let part = take n (drop at l) in
    subst (λ k. number_of part < 256 ^ k) (part_long n l at within)
    (number_below part (λ i. part_small n (drop at l) (λ j. rw (get_or-drop at l j 0) (small (at + j))) i))

-- two bytes stand for a number below 65,536
pub two_bytes_below : (l : List ℕ) → ((i : ℕ) → get_or l i 0 < 256) → number_of (take 2 l) < 65536
unfolding number_from
two_bytes_below [] small = omega arith
two_bytes_below (a ∷ []) small = omega (arith, small 0)
two_bytes_below (a ∷ b ∷ l) small = omega (arith, small 0, small 1)

-- ---- parts of a list

-- a part of the first bytes of a list is that part of the list
pub part_of_first : (i j k : ℕ) (l : List ℕ) → i + j ≤ k → take j (drop i (take k l)) ≡ take j (drop i l)
part_of_first zero j k l within = take-take j k l (omega arith)
part_of_first (suc i) j zero l within = absurd (omega arith)
part_of_first (suc i) j (suc k) [] within = refl
part_of_first (suc i) j (suc k) (x ∷ l) within = part_of_first i j k l (omega arith)

pub byte_of_part : (k : ℕ) (l : List ℕ) (at i : ℕ) → i < k → get_or (take k (drop at l)) i 0 ≡ get_or l (at + i) 0
byte_of_part k l at i within = get_or-take k (drop at l) i 0 within ∙ get_or-drop at l i 0

-- what is past some of the first bytes of a list
pub past_first : (i k : ℕ) (l : List ℕ) → drop i (take k l) ≡ take (k - i) (drop i l)
past_first zero k l = let all : k ≡ k - 0 = omega arith in ap (λ n. take n l) all
past_first (suc i) zero l = let none : 0 ≡ 0 - suc i = omega arith in ap (λ n. take n (drop (suc i) l)) none
past_first (suc i) (suc k) [] = sym (take-nil (suc k - suc i))
past_first (suc i) (suc k) (x ∷ l) =
    let same : k - i ≡ suc k - suc i = omega arith in
    past_first i k l ∙ ap (λ n. take n (drop i l)) same

-- ---- bytes written

-- std's bytes of a number, and ours
high_first : (k n : ℕ) → bytes_high_first k n ≡ bytes_of k n
unfolding bytes_of
high_first zero n = refl
high_first (suc zero) n = ap (λ b. b ∷ []) (omega arith)
high_first (suc (suc k)) n = ap (λ bytes. n / 256 ^ suc k % 256 ∷ bytes) (high_first (suc k) n)

past_high : (j k n : ℕ) → drop j (bytes_of (j + k) n) ≡ bytes_of k n
unfolding bytes_of
past_high zero k n = let none : 0 + k ≡ k = omega arith in ap (λ m. bytes_of m n) none
past_high (suc j) k n =
    let next : suc j + k ≡ suc (j + k) = omega arith in
    ap (λ m. drop (suc j) (bytes_of m n)) next ∙ past_high j k n

-- the last k of eight
pub last_bytes : (k n : ℕ) → k ≤ 8 → drop (8 - k) (bytes_high_first 8 n) ≡ bytes_of k n
last_bytes k n few =
    let all : 8 ≡ (8 - k) + k = omega arith in
    ap (drop (8 - k)) (high_first 8 n ∙ ap (λ m. bytes_of m n) all) ∙ past_high (8 - k) k n

pub length_bytes_of : (k n : ℕ) → length (bytes_of k n) ≡ k
unfolding bytes_of
length_bytes_of zero n = refl
length_bytes_of (suc k) n = ap suc (length_bytes_of k n)

-- the last bytes of a number in the place of as many of a buffer
pub number_written :
    (l part : List ℕ) (at k n : ℕ)
    → k ≤ 8
    → part ≡ take (8 - (8 - k)) (drop (8 - k) (bytes_high_first 8 n))
    → put_mid at (at + k - at) l part ≡ take at l ++ bytes_of k n ++ drop (at + k) l
number_written l part at k n few is =
    let count : at + k - at ≡ k = omega arith in
    let all : 8 - (8 - k) ≡ length (bytes_of k n) = omega (arith, length_bytes_of k n) in
    let bytes : part ≡ bytes_of k n =
    is ∙ ap₂ take all (last_bytes k n few) ∙ take-length (bytes_of k n) in
    ap₂ (λ m bytes. take at l ++ (bytes ++ drop m (drop at l))) count bytes
    ∙ ap (λ rest. take at l ++ (bytes_of k n ++ rest)) (drop-drop k at l)
    ∙ sym (append_assoc (take at l) (bytes_of k n) (drop (at + k) l))
