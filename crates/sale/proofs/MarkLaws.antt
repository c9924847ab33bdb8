-- How the groups' sizes change when a mark is appended, and their bounds: one group's size grows by one, or none does. The sizes in one word.
use mathlib.Core.Path.{◌≡◌, refl, sym, ◌∙◌}
use mathlib.Core.List.{List, [], ◌∷◌, ◌++◌}
use Prim.Native.Nat.{ℕ, zero, suc, ◌+◌, ◌^◌, ◌≤◌, ◌<◌}
use native.Mathlib.Decide.{dec_lt, ℕ_discrete}
use native.Mathlib.Nat.{pow-suc, pow-le-pow_right, lt_of_lt_of_le}
use native.Mathlib.Omega.{arith}
use lib.Dec.{eqb}
use lib.ListN.{length, get_or, set, length-append, length-set, get_or-eq_default, replicate}
use lib.Seq.{ext_get_or, get_or-set_same, get_or-set_other}
use borrow.Author.Tests.{eq-eqb, ne_eqb}
use Rattle.std.specs.Int.{w64, from_le_bytes}
use Rattle.sale.specs.Lists.{keep}
use Rattle.sale.specs.Ways.{size_of, by_group, size_word}
use Rattle.sale.proofs.KeepLaws.{keep_append, length_keep_le}

-- a mark of the group adds one to its size
pub size_same : (xs : List ℕ) (m : ℕ) → size_of (xs ++ (m ∷ [])) m ≡ size_of xs m + 1
unfolding size_of keep
size_same xs m = simp (keep_append, length-append, eq-eqb m m refl)

-- a mark of another group changes nothing
pub size_other : (xs : List ℕ) (m k : ℕ) → (k ≡ m → ⊥) → size_of (xs ++ (m ∷ [])) k ≡ size_of xs k
unfolding size_of keep
size_other xs m k other = simp (keep_append, length-append, ne_eqb k m other) (omega arith)

pub size_le : (xs : List ℕ) (k : ℕ) → size_of xs k ≤ length xs
unfolding size_of
size_le xs k = length_keep_le (eqb k) xs

pub none_counted : by_group (size_of []) ≡ replicate 8 0
unfolding by_group size_of keep
none_counted = refl

pub length_by_group : (f : ℕ → ℕ) → length (by_group f) ≡ 8
unfolding by_group
length_by_group f = refl

-- the figure of each group in its place
pub get_or_by_group : (f : ℕ → ℕ) (i : ℕ) → i < 8 → get_or (by_group f) i 0 ≡ f (suc i)
unfolding by_group
get_or_by_group f zero h = refl
get_or_by_group f (suc zero) h = refl
get_or_by_group f (suc (suc zero)) h = refl
get_or_by_group f (suc (suc (suc zero))) h = refl
get_or_by_group f (suc (suc (suc (suc zero)))) h = refl
get_or_by_group f (suc (suc (suc (suc (suc zero))))) h = refl
get_or_by_group f (suc (suc (suc (suc (suc (suc zero)))))) h = refl
get_or_by_group f (suc (suc (suc (suc (suc (suc (suc zero))))))) h = refl
get_or_by_group f (suc (suc (suc (suc (suc (suc (suc (suc i)))))))) h = absurd (omega arith)

-- two figures that agree on the groups 1 to 8
pub by_group_same : (f g : ℕ → ℕ) → ((i : ℕ) → i < 8 → f (suc i) ≡ g (suc i)) → by_group f ≡ by_group g
by_group_same f g same =
    ext_get_or 0 (by_group f) (by_group g) (length_by_group f ∙ sym (length_by_group g)) at_place
  where
    at_place : (i : ℕ) → i < length (by_group f) → get_or (by_group f) i 0 ≡ get_or (by_group g) i 0
    at_place i h =
        let small : i < 8 = omega (arith, length_by_group f) in
        get_or_by_group f i small ∙ same i small ∙ sym (get_or_by_group g i small)

pub by_group_le : (f : ℕ → ℕ) (limit : ℕ) → ((k : ℕ) → f k ≤ limit) → (i : ℕ) → get_or (by_group f) i 0 ≤ limit
by_group_le f limit bounded i = go (dec_lt i 8)
  where
    go : Dec (i < 8) → get_or (by_group f) i 0 ≤ limit
    go (yes h) = rw (get_or_by_group f i h) (bounded (suc i))
    go (no h) =
        let long : length (by_group f) ≤ i = omega (arith, length_by_group f) in
        rw (get_or-eq_default (by_group f) 0 long) (omega arith)

pub figure_le : (xs : List ℕ) (i : ℕ) → get_or (by_group (size_of xs)) i 0 ≤ length xs
figure_le xs i = by_group_le (size_of xs) (length xs) (size_le xs) i

-- figures that differ in one group only
pub by_group_set : (f g : ℕ → ℕ) (i : ℕ) {v : ℕ} → i < 8 → v ≡ g (suc i) → ((k : ℕ) → (k ≡ suc i → ⊥) → g k ≡ f k) → set (by_group f) i v ≡ by_group g
by_group_set f g i {v} h here others =
    ext_get_or 0 (set (by_group f) i v) (by_group g) (simp (length-set, length_by_group)) at_place
  where
    by_case : (j : ℕ) → j < 8 → Dec (j ≡ i) → get_or (set (by_group f) i v) j 0 ≡ get_or (by_group g) j 0
    by_case j small (yes e) =
        rw (e, get_or-set_same (by_group f) i v 0 (omega (arith, length_by_group f)), get_or_by_group g i h) here
    by_case j small (no e) =
        rw (get_or-set_other (by_group f) i j v 0 e, get_or_by_group f j small, get_or_by_group g j small) (sym (others (suc j) (λ q. e (omega arith))))

    at_place : (j : ℕ) → j < length (set (by_group f) i v) → get_or (set (by_group f) i v) j 0 ≡ get_or (by_group g) j 0
    at_place j inside = by_case j (omega (arith, length_by_group f, length-set (by_group f) i v)) (ℕ_discrete j i)

-- a mark that names a group, whose figure stands in place i
pub mark_counted : (xs : List ℕ) (m i : ℕ) → suc i ≡ m → i < 8 →
    set (by_group (size_of xs)) i (get_or (by_group (size_of xs)) i 0 + 1) ≡ by_group (size_of (xs ++ (m ∷ [])))
mark_counted xs m i place h =
    by_group_set (size_of xs) (size_of (xs ++ (m ∷ []))) i h
    (rw (get_or_by_group (size_of xs) i h, place) (sym (size_same xs m)))
    (λ k other. size_other xs m k (λ e. other (e ∙ sym place)))

-- a mark that names none of the groups 1 to 8
pub mark_passed : (xs : List ℕ) (m : ℕ) → ((i : ℕ) → i < 8 → suc i ≡ m → ⊥) → by_group (size_of xs) ≡ by_group (size_of (xs ++ (m ∷ [])))
mark_passed xs m other =
    by_group_same (size_of xs) (size_of (xs ++ (m ∷ []))) (λ i h. sym (size_other xs m (suc i) (other i h)))

-- ---- the sizes in one word

-- eight bytes fit a word
word_below : (xs : List ℕ) → ((i : ℕ) → get_or xs i 0 < 256) → size_word xs < 256 ^ length xs
unfolding size_word
word_below [] small = omega arith
word_below (x ∷ xs) small = rw (pow-suc 256 (length xs)) (omega (arith, small 0, word_below xs (λ i. small (suc i))))

pub word_fits : (xs : List ℕ) → ((i : ℕ) → get_or xs i 0 < 256) → length xs ≤ 8 → size_word xs < 2 ^ 64
word_fits xs small few = lt_of_lt_of_le (word_below xs small) (pow-le-pow_right (omega arith) {j = 8} few)

-- std's number of eight bytes, the lowest first
pub word_of_eight : (sizes : List ℕ) → length sizes ≡ 8 → from_le_bytes w64 sizes ≡ size_word sizes
unfolding size_word
word_of_eight (a ∷ b ∷ c ∷ d ∷ e ∷ f ∷ g ∷ h ∷ []) long = omega arith
word_of_eight [] long = absurd (omega arith)
word_of_eight (a ∷ []) long = absurd (omega arith)
word_of_eight (a ∷ b ∷ []) long = absurd (omega arith)
word_of_eight (a ∷ b ∷ c ∷ []) long = absurd (omega arith)
word_of_eight (a ∷ b ∷ c ∷ d ∷ []) long = absurd (omega arith)
word_of_eight (a ∷ b ∷ c ∷ d ∷ e ∷ []) long = absurd (omega arith)
word_of_eight (a ∷ b ∷ c ∷ d ∷ e ∷ f ∷ []) long = absurd (omega arith)
word_of_eight (a ∷ b ∷ c ∷ d ∷ e ∷ f ∷ g ∷ []) long = absurd (omega arith)
word_of_eight (a ∷ b ∷ c ∷ d ∷ e ∷ f ∷ g ∷ h ∷ i ∷ rest) long = absurd (omega arith)
