-- Figures joined one by one to the places of a table: the next place is as it was, one figure more is one store more, and in the end each place has its
-- figure beside what it had.
use Prim.Native.Nat.{ℕ, ◌+◌}
use mathlib.Core.Path.{◌≡◌, refl, sym, ap, subst, ◌∙◌}
use mathlib.Core.List.{List, [], ◌∷◌, ◌++◌, zip_with}
use native.Mathlib.Omega.{arith}
use lib.ListN.{length, set, get_or}

unfoldable pub joined_to : List ℕ → List ℕ → List ℕ
joined_to [] xs = []
joined_to (p ∷ ps) [] = p ∷ ps
joined_to (p ∷ ps) (x ∷ xs) = (p + x) ∷ joined_to ps xs

pub joined_none : (ps : List ℕ) → joined_to ps [] ≡ ps
unfolding joined_to
joined_none [] = refl
joined_none (p ∷ ps) = refl

joined_next : (ps xs : List ℕ) → get_or (joined_to ps xs) (length xs) 0 ≡ get_or ps (length xs) 0
unfolding joined_to
joined_next [] xs = refl
joined_next (p ∷ ps) [] = refl
joined_next (p ∷ ps) (x ∷ xs) = joined_next ps xs

joined_more : (ps xs : List ℕ) (x : ℕ) → set (joined_to ps xs) (length xs) (get_or ps (length xs) 0 + x) ≡ joined_to ps (xs ++ (x ∷ []))
unfolding joined_to
joined_more [] xs x = refl
joined_more (p ∷ ps) [] x = ap (◌∷◌ (p + x)) (sym (joined_none ps))
joined_more (p ∷ ps) (y ∷ xs) x = ap (◌∷◌ (p + y)) (joined_more ps xs x)

joined_all : (ps xs : List ℕ) → length ps ≡ length xs → joined_to ps xs ≡ zip_with ◌+◌ ps xs
unfolding joined_to zip_with
joined_all [] xs e = refl
joined_all (p ∷ ps) [] e = absurd (omega arith)
joined_all (p ∷ ps) (x ∷ xs) e = ap (◌∷◌ (p + x)) (joined_all ps xs (omega arith))

-- of a table to which so many figures are joined
module _ (ps xs : List ℕ) {table : List ℕ} (held : table ≡ joined_to ps xs) {n : ℕ} (count : length xs ≡ n) where
  pub joined_place : get_or table n 0 ≡ get_or ps n 0
  joined_place = ap (λ l. get_or l n 0) held ∙ subst (λ k. get_or (joined_to ps xs) k 0 ≡ get_or ps k 0) count (joined_next ps xs)

  pub joined_step : (x : ℕ) → set table n (get_or table n 0 + x) ≡ joined_to ps (xs ++ (x ∷ []))
  joined_step x =
      ap (λ k. set table n (k + x)) joined_place
      ∙ ap (λ l. set l n (get_or ps n 0 + x)) held
      ∙ subst (λ k. set (joined_to ps xs) k (get_or ps k 0 + x) ≡ joined_to ps (xs ++ (x ∷ []))) count (joined_more ps xs x)

  pub joined_whole : length ps ≡ n → table ≡ zip_with ◌+◌ ps xs
  joined_whole all = held ∙ joined_all ps xs (all ∙ sym count)
