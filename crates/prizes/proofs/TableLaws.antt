-- Laws of any table of prizes, whatever its size: a test computed over all its entries, or over all numbers below one, holds at each.
use mathlib.Core.Path.{◌≡◌, refl, sym, subst, ap, ◌∙◌}
use mathlib.Core.Bool.{Bool, true, false, ◌&&◌}
use mathlib.Core.List.{List, [], ◌∷◌}
use Prim.Native.Nat.{ℕ, zero, suc, ◌<◌}
use native.Mathlib.Nat.{not-suc-le-zero}
use native.Mathlib.Omega.{arith}
use lib.Dec.{T, eqb}
use lib.ListN.{get_or, set}
use lib.Seq.{get_or-set_other}
use borrow.Author.Tests.{eqb-true, eqb-false}
use Rattle.sale.specs.Lists.{every}
use Rattle.prizes.specs.Schedules.{standard_rows, special_one_rows, cell}

pub both : (a b : Bool) → T (a && b) → T a × T b
both true b t = (tt, t)
both false b t = absurd t

module _ {A : Type 0} where
  -- a test that every entry passes, and what stands past the end too, is passed wherever one looks
  every_at : (f : A → Bool) (d : A) → T (f d) → (ys : List A) → T (every f ys) → (k : ℕ) → T (f (get_or ys k d))
  unfolding every
  every_at f d t [] e k = t
  every_at f d t (y ∷ ys) e zero = (both (f y) (every f ys) e).0
  every_at f d t (y ∷ ys) e (suc k) = every_at f d t ys (both (f y) (every f ys) e).1 k

-- all numbers below n pass a test
abbrev pub all_below : ℕ → (ℕ → Bool) → Bool
all_below zero f = true
all_below (suc n) f = f n && all_below n f

below_next : (n : ℕ) (f : ℕ → Bool) (k : ℕ) → T (f n) → (k < n → T (f k)) → k < suc n → T (f k)
below_next n f k t below h = go (eqb k n) refl
  where
    go : (b : Bool) → eqb k n ≡ b → T (f k)
    go true e = subst (λ i. T (f i)) (sym (eqb-true k n e)) t
    go false e = below (omega (arith, eqb-false k n e))

pub below_at : (n : ℕ) (f : ℕ → Bool) → T (all_below n f) → (k : ℕ) → k < n → T (f k)
below_at zero f t k h = absurd (not-suc-le-zero h)
below_at (suc n) f t k h = below_next n f k (both (f n) (all_below n f) t).0 (below_at n f (both (f n) (all_below n f) t).1 k) h

module _ (rows : List (List ℕ)) where
  -- a test that every cell of the table passes, and 0 too, is passed by every selection and match
  pub every_cell : (f : ℕ → Bool) → T (f 0) → T (every (every f) rows) → (s m : ℕ) → T (f (cell rows s m))
  unfolding every cell
  every_cell f t e s m = every_at f 0 t (get_or rows s []) (every_at (every f) [] tt rows e s) m

  -- a table of which one row is changed is the same at every other selection
  pub other_row : {i s : ℕ} (m : ℕ) (row : List ℕ) → (s ≡ i → ⊥) → cell (set rows i row) s m ≡ cell rows s m
  unfolding cell
  other_row {i} {s} m row h = ap (λ r. get_or r m 0) (get_or-set_other rows i s row [] h)

-- rule 18.2 is rule 18.1 but for 6 and 8 numbers
pub as_standard : (s m : ℕ) → (s ≡ 6 → ⊥) → (s ≡ 8 → ⊥) → cell standard_rows s m ≡ cell special_one_rows s m
unfolding special_one_rows
as_standard s m not_six not_eight = sym (other_row _ m _ not_eight ∙ other_row _ m _ not_six)
