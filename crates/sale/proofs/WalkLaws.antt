-- Laws on the walk that leaves or takes each group: over all groups it goes over the ways in their order, the figures that it carries are
-- those of the ways at its end, and where no number of groups that is still possible is nominated there is nothing to find.
use Prim.Native.Nat.{ℕ, zero, suc, ◌+◌, ◌*◌, ◌-◌, ◌/◌, ◌%◌, ◌^◌, ◌≤◌}
use mathlib.Core.Path.{◌≡◌, refl, sym, ap, ap₂, ◌∙◌}
use mathlib.Core.Bool.{Bool, true, false, cond}
use mathlib.Core.List.{List, [], ◌∷◌, ◌++◌, map, map-append, append_assoc}
use native.Mathlib.Nat.{zero-mul, mul-one, mod-eq_of_lt, zero-add, add-zero, mul-mod_left, mul-div_cancel, div-div-eq-div-mul, div-one, pow-succ', zero-lt-suc}
use native.Mathlib.Numerals.{add-one, one-add}
use native.Mathlib.Omega.{arith}
use lib.Dec.{leb, eqb}
use lib.Count.{ones, ones_cat}
use lib.Pow.{mod-mod-pow, field, shr-shr, pow_pos, pow-lt}
use borrow.Author.Tests.{eqb-true, not-true, not-false}
use Rattle.sale.specs.Lists.{below, keep}
use Rattle.sale.specs.Ways.{nominated, ways}
use Rattle.sale.specs.Passes.{ways_from, nominable, ends_here}
use Rattle.sale.proofs.KeepLaws.{and_right, keep_append}
use Rattle.sale.proofs.WayLaws.{lower, middle, upper, next}

-- ---- over all groups

module _ (types : ℕ) where
  -- the ways below a number
  ways_below : ℕ → List ℕ
  ways_below n = keep (λ m. nominated types (ones m)) (below n)

  ways_below_suc : (n : ℕ) → ways_below (suc n) ≡ ways_below n ++ ways_from types zero n
  unfolding ways_below keep below ways_from
  ways_below_suc n = keep_append (λ m. nominated types (ones m)) (below n) (n ∷ [])

  ways_from_below : (left m : ℕ) → ways_below (m * 2 ^ left + 2 ^ left) ≡ ways_below (m * 2 ^ left) ++ ways_from types left m
  unfolding ways_from
  ways_from_below zero m =
      ap (λ k. ways_below (k + 1)) (mul-one m) ∙ ap ways_below (add-one m) ∙ ways_below_suc m
      ∙ ap (λ k. ways_below k ++ ways_from types zero m) (sym (mul-one m))
  ways_from_below (suc n) m =
      ap ways_below (upper m n) ∙ ways_from_below n (m * 2 + 1)
      ∙ ap (λ k. ways_below k ++ ways_from types n (m * 2 + 1)) (middle m n)
      ∙ ap (λ l. l ++ ways_from types n (m * 2 + 1)) (ways_from_below n (m * 2))
      ∙ ap (λ k. ways_below k ++ ways_from types n (m * 2) ++ ways_from types n (m * 2 + 1)) (lower m n)
      ∙ append_assoc (ways_below (m * 2 ^ suc n)) (ways_from types n (m * 2)) (ways_from types n (m * 2 + 1))

-- what the walk over g groups goes over is their ways
pub ways_from_ways : (g types : ℕ) → ways_from types g 0 ≡ ways g types
unfolding ways ways_below below keep
ways_from_ways g types =
    ap (λ k. ways_below types k ++ ways_from types g 0) (sym (zero-mul (2 ^ g))) ∙ sym (ways_from_below types g 0)
    ∙ ap (ways_below types) (ap (λ k. k + 2 ^ g) (zero-mul (2 ^ g)) ∙ zero-add (2 ^ g))

-- ---- at the end of the walk and at a step of it

-- where no group is left, the mask is a way or there is none
pub ways_from_end : (types m : ℕ) {left : ℕ} → left ≡ 0 → ways_from types left m ≡ cond (nominated types (ones m)) (m ∷ []) []
unfolding ways_from
ways_from_end types m none = ap (λ k. ways_from types k m) none

-- the ways that leave the next group, and then those that take it
pub ways_from_step : (types m : ℕ) {left : ℕ} → (left ≡ 0 → ⊥)
    → ways_from types left m ≡ ways_from types (left - 1) (m * 2) ++ ways_from types (left - 1) (m * 2 + 1)
unfolding ways_from
ways_from_step types m some = ap (λ k. ways_from types k m) (sym (next some))

-- the same of a figure of each way. What a mask takes of the groups is what the walk carries to its end (`carried_all`).
module _ {A : Type 0} (f : ℕ → A) (types m : ℕ) {left : ℕ} where
  pub map_end : left ≡ 0 → map f (ways_from types left m) ≡ cond (nominated types (ones m)) (f m ∷ []) []
  map_end none = ap (map f) (ways_from_end types m none) ∙ go (nominated types (ones m))
    where
      go : (b : Bool) → map f (cond b (m ∷ []) []) ≡ cond b (f m ∷ []) []
      go true = refl
      go false = refl

  pub map_step : (left ≡ 0 → ⊥)
      → map f (ways_from types left m) ≡ map f (ways_from types (left - 1) (m * 2)) ++ map f (ways_from types (left - 1) (m * 2 + 1))
  map_step some =
      ap (map f) (ways_from_step types m some)
      ∙ map-append f (ways_from types (left - 1) (m * 2)) (ways_from types (left - 1) (m * 2 + 1))

-- ---- what cannot be nominated

pub ones_without : (m : ℕ) → ones (m * 2) ≡ ones m
unfolding ones
ones_without m = ap ones (sym (add-zero (m * 2))) ∙ ones_cat 1 m 0 (omega arith) ∙ add-zero (ones m)

ones_with : (m : ℕ) → ones (m * 2 + 1) ≡ ones m + 1
unfolding ones
ones_with m = ones_cat 1 m 1 (omega arith)

-- bit k of the byte's double is that of k groups
nominated_bit : (types k : ℕ) → nominated types k ≡ eqb (types * 2 / 2 ^ k % 2) 1
unfolding nominated
nominated_bit types zero = rw (div-one (types * 2), mul-mod_left types 2)
nominated_bit types (suc k) =
    ap (λ n. eqb (n % 2) 1)
    (ap (λ n. n / 2 ^ k) (sym (mul-div_cancel types (zero-lt-suc 1))) ∙ div-div-eq-div-mul (types * 2) 2 (2 ^ k)
    ∙ ap (λ n. types * 2 / n) (sym (pow-succ' 2 k)))

-- the low digits are 0 where those below one more are, and so are those above the lowest
fewer_zero : (x n : ℕ) → x % 2 ^ suc n ≡ 0 → x % 2 ^ n ≡ 0
fewer_zero x n e =
    sym (mod-mod-pow x 1 n) ∙ ap (λ k. x % 2 ^ k % 2 ^ n) (one-add n) ∙ ap (λ k. k % 2 ^ n) e ∙ mod-eq_of_lt (pow_pos n)

rest_zero : (x n : ℕ) → x % 2 ^ suc n ≡ 0 → x / 2 % 2 ^ n ≡ 0
rest_zero x n e = sym (field x n 1) ∙ ap (λ k. x % 2 ^ k / 2) (add-one n) ∙ ap (λ k. k / 2) e

module _ (types : ℕ) where
  none_from : (left m : ℕ) → types * 2 / 2 ^ ones m % 2 ^ suc left ≡ 0 → ways_from types left m ≡ []
  unfolding ways_from
  none_from zero m e = ap (λ b. cond b (m ∷ []) []) (nominated_bit types (ones m) ∙ ap (λ n. eqb n 1) e)
  none_from (suc n) m e =
      ap₂ ◌++◌
      (none_from n (m * 2) (rw (ones_without m) (fewer_zero (types * 2 / 2 ^ ones m) (suc n) e)))
      (none_from n (m * 2 + 1)
      (rw (ones_with m, ← shr-shr (types * 2) (ones m) 1) (rest_zero (types * 2 / 2 ^ ones m) (suc n) e)))

  -- where no number of groups that is still possible is nominated, no way begins so
  pub none_nominable : (left m : ℕ) → nominable types (ones m) left ≡ false → ways_from types left m ≡ []
  unfolding nominable
  none_nominable left m e = none_from left m (ap (λ k. types * 2 / 2 ^ ones m % 2 ^ k) (sym (add-one left)) ∙ eqb-true _ 0 (not-false _ e))

  pub none_here : (left m : ℕ) → ends_here types m left ≡ true → ways_from types left m ≡ []
  unfolding ends_here
  none_here left m ends = none_nominable left m (not-true _ (and_right (leb 3 left) _ ends))

-- one more than so many digits, as the code shifts to it
pub span : (left : ℕ) → left ≤ 8 → 2 * 2 ^ left % 2 ^ 32 ≡ 2 ^ (left + 1)
span left few =
    ap (λ k. k % 2 ^ 32) (sym (pow-succ' 2 left)) ∙ ap (λ k. 2 ^ k % 2 ^ 32) (sym (add-one left))
    ∙ mod-eq_of_lt (pow-lt {j = 32} (omega arith))
