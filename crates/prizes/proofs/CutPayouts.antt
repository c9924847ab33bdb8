-- What the rule pays: a prize that is not cut is paid as it is, A is above zero where a prize stands outside F, and no prize of the game is
-- paid more than 5,000,000. A member of ps is a `List.Memᴰ p ps`.
use mathlib.Core.Path.{◌≡◌, refl, sym, ◌∙◌}
use mathlib.Core.Bool.{Bool, true, false, cond, false≢true}
use mathlib.Core.List.{List, Memᴰ}
use Prim.Native.Nat.{ℕ, suc, ◌+◌, ◌*◌, ◌-◌, ◌/◌, ◌≤◌, ◌<◌}
use native.Mathlib.Nat.{div-le_of_le-mul, mul-le-mul_left, mul-le-mul_right, le_trans}
use native.Mathlib.Omega.{arith}
use lib.Dec.{ltb, leb}
use borrow.Author.Tests.{ltb-true, ltb-false, le-leb, lt-leb, leb-true, leb-false}
use Rattle.sale.specs.Lists.{sum}
use Rattle.prizes.specs.Prize.{major_floor, is_major}
use Rattle.prizes.specs.Cut.{majors_limit, floor_count, cut_base, joins, floored_of, cut_prize, payout}
use Rattle.sale.proofs.KeepLaws.{member_le_sum}
use Rattle.prizes.proofs.CutRounds.{rounds_end}
use Rattle.prizes.proofs.CutStates.{outside_le_base}

-- a prize that is no major one is paid as it is
pub payout_minor : (ps : List ℕ) (p : ℕ) → p < major_floor → payout ps p ≡ p
unfolding payout
payout_minor ps p h = rw (lt-leb major_floor p h)

-- and so is every prize of a game whose major prizes do not pass the limit
pub payout_uncut : (ps : List ℕ) (p : ℕ) → sum ps ≤ majors_limit → payout ps p ≡ p
unfolding payout
payout_uncut ps p h = rw (le-leb (sum ps) majors_limit h) (go (is_major p))
  where
    go : (t : Bool) → cond t p p ≡ p
    go true = refl
    go false = refl

-- A is above zero where a prize stands outside F, so that the definition's difference is A: such a prize is at most B, and does not join
pub share_above_zero : (ps : List ℕ) (p : ℕ) → Memᴰ p ps → 0 < p → floored_of ps p ≡ false →
    major_floor * floor_count (floored_of ps) ps < majors_limit
unfolding joins
share_above_zero ps p m positive outside = go (ltb majors_limit (suc taken)) refl (joins ps (floored_of ps) p) refl
  where
    taken : ℕ
    taken = major_floor * floor_count (floored_of ps) ps

    go : (t : Bool) → ltb majors_limit (suc taken) ≡ t → (j : Bool) → joins ps (floored_of ps) p ≡ j → taken < majors_limit
    go false e j d = ltb-false majors_limit (suc taken) e
    go true e true d = absurd (false≢true (sym outside ∙ rounds_end ps p m d))
    go true e false d =
        let most : p * majors_limit ≤ p * taken = mul-le-mul_left p (omega (arith, ltb-true majors_limit (suc taken) e)) in
        let part : p ≤ cut_base (floored_of ps) ps = outside_le_base ps (floored_of ps) p m outside in
        absurd (omega (arith, ltb-false (p * majors_limit) (major_floor * cut_base (floored_of ps) ps + p * taken) d))

-- the floored get 20,000, and the others no more than A, each being a part of B
cut_le : (ps : List ℕ) (p : ℕ) → Memᴰ p ps → cut_prize ps p ≤ majors_limit
unfolding cut_prize
cut_le ps p m = go (floored_of ps p) refl
  where
    left : ℕ
    left = majors_limit - major_floor * floor_count (floored_of ps) ps

    go : (t : Bool) → floored_of ps p ≡ t → cut_prize ps p ≤ majors_limit
    go true e = rw e (omega arith)
    go false e =
        let part : p * left / cut_base (floored_of ps) ps ≤ left =
        div-le_of_le-mul (cut_base (floored_of ps) ps) (mul-le-mul_right left (outside_le_base ps (floored_of ps) p m e)) in
        rw e (le_trans part (omega arith))

-- no prize of the game is paid more than the limit
pub payout_le : (ps : List ℕ) (p : ℕ) → Memᴰ p ps → payout ps p ≤ majors_limit
unfolding payout
payout_le ps p m = go (is_major p) refl (leb (sum ps) majors_limit) refl
  where
    go : (s : Bool) → is_major p ≡ s → (t : Bool) → leb (sum ps) majors_limit ≡ t → payout ps p ≤ majors_limit
    go true d true e = rw (d, e) (le_trans (member_le_sum ps p m) (leb-true (sum ps) majors_limit e))
    go true d false e = rw (d, e) (cut_le ps p m)
    go false d true e = rw d (omega (arith, leb-false major_floor p d))
    go false d false e = rw d (omega (arith, leb-false major_floor p d))
