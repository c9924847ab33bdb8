-- "none below $200": no major prize is paid less than the floor, and where there are 250 or more each is paid exactly the floor, cut or not.
-- For the second: nobody joins F any more, so that B + p × size of F ≤ 250 × p for each p outside F. Summed over them, 250 prizes at the most
-- can share; with 250 the sums are equal, and so each of the inequalities is an equation. A member of ps is a `List.Memᴰ p ps`.
use mathlib.Core.Path.{◌≡◌, refl, sym, ap, ◌∙◌}
use mathlib.Core.Bool.{Bool, true, false, cond, not, false≢true}
use mathlib.Core.List.{List, [], ◌∷◌, map, Memᴰ}
use Prim.Native.Nat.{ℕ, suc, ◌+◌, ◌*◌, ◌-◌, ◌/◌, ◌≤◌, ◌<◌}
use native.Mathlib.Nat.{add-mul, mul-add, mul_comm, mul_left_comm, mul-zero, mul-div_cancel, suc-mul, le-div_iff_mul-le, mul-le-mul_right, le_antisymm}
use native.Mathlib.Omega.{arith}
use lib.Dec.{leb}
use lib.ListN.{length}
use borrow.Author.Tests.{ltb-false, le-leb, leb-true, leb-false}
use Rattle.sale.specs.Lists.{sum, keep}
use Rattle.prizes.specs.Prize.{major_floor, is_major}
use Rattle.prizes.specs.Cut.{majors_limit, floor_count, cut_base, joins, floored_of, cut_prize, payout}
use Rattle.prizes.specs.Found.{sure_of}
use Rattle.sale.proofs.KeepLaws.{sum_within}
use Rattle.prizes.proofs.CutRounds.{rounds_end}
use Rattle.prizes.proofs.CutStates.{outside_le_base}
use Rattle.prizes.proofs.CutPayouts.{payout_minor, share_above_zero}

-- ---- an inequality that holds of each number of a list, summed, with what one of them has to spare

module _ (a b c : ℕ) where
  abbrev Holds : ℕ → Type 0
  Holds x = c + x * a ≤ x * b

  summed : (xs : List ℕ) → ((x : ℕ) → Memᴰ x xs → Holds x) → length xs * c + sum xs * a ≤ sum xs * b
  unfolding sum
  summed [] each = omega arith
  summed (x ∷ xs) each =
      omega (
        arith,
        each x (Memᴰ.head refl),
        summed xs (λ y m. each y (Memᴰ.tail m)),
        suc-mul (length xs) c,
        add-mul x (sum xs) a,
        add-mul x (sum xs) b,
      )

  spared : (xs : List ℕ) → ((x : ℕ) → Memᴰ x xs → Holds x) → (p : ℕ) → Memᴰ p xs
      → length xs * c + sum xs * a + p * b ≤ sum xs * b + c + p * a
  unfolding sum
  spared [] each p m = elim m [ ]
  spared (x ∷ xs) each p (Memᴰ.head e) =
      rw e
      (omega (
        arith,
        summed xs (λ y m. each y (Memᴰ.tail m)),
        suc-mul (length xs) c,
        add-mul x (sum xs) a,
        add-mul x (sum xs) b,
      ))
  spared (x ∷ xs) each p (Memᴰ.tail m) =
      omega (
        arith,
        each x (Memᴰ.head refl),
        spared xs (λ y k. each y (Memᴰ.tail k)) p m,
        suc-mul (length xs) c,
        add-mul x (sum xs) a,
        add-mul x (sum xs) b,
      )

-- ---- what is kept

-- a member that is kept, and back
pub keep_member : (f : ℕ → Bool) (xs : List ℕ) (p : ℕ) → Memᴰ p xs → f p ≡ true → Memᴰ p (keep f xs)
unfolding keep
keep_member f [] p m h = elim m [ ]
keep_member f (x ∷ xs) p (Memᴰ.head e) h = rw (ap f (sym e) ∙ h) (Memᴰ.head e)
keep_member f (x ∷ xs) p (Memᴰ.tail m) h = go (f x) (keep_member f xs p m h)
  where
    go : (t : Bool) → Memᴰ p (keep f xs) → Memᴰ p (cond t (x ∷ keep f xs) (keep f xs))
    go true k = Memᴰ.tail k
    go false k = k

pub member_kept : (f : ℕ → Bool) (xs : List ℕ) (p : ℕ) → Memᴰ p (keep f xs) → Memᴰ p xs × (f p ≡ true)
unfolding keep
member_kept f [] p m = elim m [ ]
member_kept f (x ∷ xs) p m = go (f x) refl m (member_kept f xs p)
  where
    go : (t : Bool) → f x ≡ t → Memᴰ p (cond t (x ∷ keep f xs) (keep f xs))
        → (Memᴰ p (keep f xs) → Memᴰ p xs × (f p ≡ true)) → Memᴰ p (x ∷ xs) × (f p ≡ true)
    go true e (Memᴰ.head q) rest = (Memᴰ.head q, ap f q ∙ e)
    go true e (Memᴰ.tail k) rest = (Memᴰ.tail (rest k).0, (rest k).1)
    go false e k rest = (Memᴰ.tail (rest k).0, (rest k).1)

-- what passes a test and what does not are together as many as there are
pub length_keep_split : (f : ℕ → Bool) (xs : List ℕ) → length (keep f xs) + length (keep (λ x. not (f x)) xs) ≡ length xs
unfolding keep
length_keep_split f [] = refl
length_keep_split f (x ∷ xs) = go (f x) (keep f xs) (keep (λ y. not (f y)) xs) (length_keep_split f xs)
  where
    go : (t : Bool) (l m : List ℕ) → length l + length m ≡ length xs
        → length (cond t (x ∷ l) l) + length (cond (not t) (x ∷ m) m) ≡ suc (length xs)
    go true l m e = omega arith
    go false l m e = omega arith

-- ---- a prize outside F

module _ (ps : List ℕ) where
  abbrev floored : ℕ
  floored = floor_count (floored_of ps) ps

  abbrev base : ℕ
  base = cut_base (floored_of ps) ps

  -- does not join it: p × A ≥ 20,000 × B, in units of 20,000
  stays_out : (p : ℕ) → Memᴰ p ps → floored_of ps p ≡ false → base + p * floored ≤ p * 250
  unfolding joins
  stays_out p m outside = go (joins ps (floored_of ps) p) refl
    where
      go : (j : Bool) → joins ps (floored_of ps) p ≡ j → base + p * floored ≤ p * 250
      go true d = absurd (false≢true (sym outside ∙ rounds_end ps p m d))
      go false d =
          let test : major_floor * base + p * (major_floor * floored) ≤ p * majors_limit = ltb-false _ _ d in
          let units : p * (major_floor * floored) ≡ major_floor * (p * floored) = mul_left_comm p major_floor floored in
          omega arith

  -- so that its part of A
  part : (p : ℕ) → Memᴰ p ps → 0 < p → floored_of ps p ≡ false
      → p * (majors_limit - major_floor * floored) ≡ major_floor * (p * 250 - p * floored)
  part p m positive outside =
      let few : major_floor * floored < majors_limit = share_above_zero ps p m positive outside in
      let left : ℕ = 250 - floored in
      let shared : majors_limit - major_floor * floored ≡ major_floor * left = omega arith in
      let whole : p * 250 ≡ p * left + p * floored = ap (λ (n : ℕ). p * n) (omega arith) ∙ mul-add p left floored in
      ap (λ (n : ℕ). p * n) shared ∙ mul_left_comm p major_floor left ∙ ap (λ (n : ℕ). major_floor * n) (omega arith)

  -- is at least the floor
  pub cut_floor : (p : ℕ) → Memᴰ p ps → 0 < p → major_floor ≤ cut_prize ps p
  unfolding cut_prize
  cut_floor p m positive = go (floored_of ps p) refl
    where
      go : (t : Bool) → floored_of ps p ≡ t → major_floor ≤ cut_prize ps p
      go true e = rw e (omega arith)
      go false e =
          let some : 0 < base = omega (arith, outside_le_base ps (floored_of ps) p m e) in
          rw e
          ((le-div_iff_mul-le some).1 (rw (part p m positive e) (omega (arith, stays_out p m e))))

  module _ (large : (p : ℕ) → Memᴰ p ps → major_floor ≤ p) (many : 250 ≤ length ps) where
    outsiders : List ℕ
    outsiders = keep (λ p. not (floored_of ps p)) ps

    -- with 250 prizes or more a prize outside F has nothing to spare
    no_more : (p : ℕ) → Memᴰ p ps → floored_of ps p ≡ false → p * 250 ≤ base + p * floored
    unfolding outsiders floor_count cut_base
    no_more p m outside =
        let each : (q : ℕ) → Memᴰ q outsiders → base + q * floored ≤ q * 250 =
        λ q k. let own = member_kept (λ x. not (floored_of ps x)) ps q k in stays_out q own.0 (not_true (floored_of ps q) own.1) in
        let spare = spared floored 250 base outsiders each p (keep_member (λ x. not (floored_of ps x)) ps p m (ap not outside)) in
        let count : floored + length outsiders ≡ length ps = length_keep_split (floored_of ps) ps in
        let all : 250 * base ≤ (length outsiders + floored) * base = mul-le-mul_right base (omega arith) in
        omega (arith, add-mul (length outsiders) floored base, mul_comm floored base, mul_comm 250 base)
      where
        not_true : (t : Bool) → not t ≡ true → t ≡ false
        not_true true e = sym e
        not_true false e = refl

    many_cut : (p : ℕ) → Memᴰ p ps → cut_prize ps p ≡ major_floor
    unfolding cut_prize
    many_cut p m = go (floored_of ps p) refl
      where
        go : (t : Bool) → floored_of ps p ≡ t → cut_prize ps p ≡ major_floor
        go true e = rw e
        go false e =
            let positive : 0 < p = omega (arith, large p m) in
            let some : 0 < base = omega (arith, outside_le_base ps (floored_of ps) p m e) in
            let equal : p * 250 - p * floored ≡ base = omega (arith, stays_out p m e, no_more p m e) in
            rw e
            (ap (λ (n : ℕ). n / base) (part p m positive e ∙ ap (λ (n : ℕ). major_floor * n) equal) ∙ mul-div_cancel major_floor some)

    many_uncut : sum ps ≤ majors_limit → (p : ℕ) → Memᴰ p ps → p ≡ major_floor
    many_uncut within p m =
        let spare = spared 0 1 major_floor ps (λ x k. omega (arith, large x k)) p m in
        le_antisymm (omega arith) (large p m)

    -- where there are 250 or more, each gets exactly the floor
    pub payout_many : (p : ℕ) → Memᴰ p ps → payout ps p ≡ major_floor
    unfolding payout
    payout_many p m = rw (le-leb major_floor p (large p m)) (go (leb (sum ps) majors_limit) refl)
      where
        go : (t : Bool) → leb (sum ps) majors_limit ≡ t → cond t p (cut_prize ps p) ≡ major_floor
        go true e = many_uncut (leb-true (sum ps) majors_limit e) p m
        go false e = many_cut p m

-- a major prize of the game is paid at least the floor
pub payout_floor : (ps : List ℕ) (p : ℕ) → Memᴰ p ps → major_floor ≤ p → major_floor ≤ payout ps p
unfolding payout
payout_floor ps p m major = rw (le-leb major_floor p major) (go (leb (sum ps) majors_limit))
  where
    go : (t : Bool) → major_floor ≤ cond t p (cut_prize ps p)
    go true = major
    go false = cut_floor ps p m (omega arith)

-- ---- prizes of which the major ones begin at the floor

-- what some prizes of a game are paid: what is sure of each, and what a major one is raised by
pub paid_raised : (ps qs : List ℕ) → ((p : ℕ) → Memᴰ p (keep is_major qs) → major_floor ≤ payout ps p)
    → sum (map (payout ps) qs) ≡ sum (map sure_of qs) + sum (map (λ p. payout ps p - major_floor) (keep is_major qs))
unfolding sum keep
paid_raised ps [] least = refl
paid_raised ps (q ∷ qs) least = go (is_major q) refl least (paid_raised ps qs)
  where
    raised : List ℕ → ℕ
    raised l = sum (map (λ p. payout ps p - major_floor) l)

    go : (t : Bool) → is_major q ≡ t → ((p : ℕ) → Memᴰ p (cond t (q ∷ keep is_major qs) (keep is_major qs)) → major_floor ≤ payout ps p)
        → (((p : ℕ) → Memᴰ p (keep is_major qs) → major_floor ≤ payout ps p)
        → sum (map (payout ps) qs) ≡ sum (map sure_of qs) + sum (map (λ p. payout ps p - major_floor) (keep is_major qs)))
        → payout ps q + sum (map (payout ps) qs)
        ≡ sure_of q + sum (map sure_of qs) + sum (map (λ p. payout ps p - major_floor) (cond t (q ∷ keep is_major qs) (keep is_major qs)))
    go true e each rest =
        omega (
          arith,
          leb-true major_floor q e,
          each q (Memᴰ.head refl),
          rest (λ p m. each p (Memᴰ.tail m)),
        )
    go false e each rest =
        omega (arith, leb-false major_floor q e, payout_minor ps q (leb-false major_floor q e), rest each)

-- where each major prize is paid the floor, that is what is sure
pub paid_sure : (ps qs : List ℕ) → ((p : ℕ) → Memᴰ p (keep is_major qs) → payout ps p ≡ major_floor)
    → sum (map (payout ps) qs) ≡ sum (map sure_of qs)
paid_sure ps qs each =
    let raise : sum (map (λ p. payout ps p - major_floor) (keep is_major qs)) ≤ length (keep is_major qs) * 0 =
    sum_within (λ p. payout ps p - major_floor) 0 (keep is_major qs) (λ p m. omega (arith, each p m)) in
    omega (arith, paid_raised ps qs (λ p m. omega (arith, each p m)), mul-zero (length (keep is_major qs)))
