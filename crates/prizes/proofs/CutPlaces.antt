-- The rule's rounds never tell equal prizes apart. F is taken here as a set of prizes, one flag for each place of the list, so that equal prizes
-- could be in it and outside it; after every round the flags are those of the test on the amount. By induction on the rounds.
use mathlib.Core.Path.{◌≡◌, refl, ap, ◌∙◌}
use mathlib.Core.Bool.{Bool, true, false, cond, not, ◌||◌}
use mathlib.Core.List.{List, [], ◌∷◌, map, zip_with}
use Prim.Native.Nat.{ℕ, zero, suc, ◌+◌, ◌*◌}
use native.Mathlib.Omega.{arith}
use lib.Dec.{ltb}
use lib.ListN.{length}
use Rattle.sale.specs.Lists.{sum, keep}
use Rattle.prizes.specs.Prize.{major_floor}
use Rattle.prizes.specs.Cut.{majors_limit, Floored, floor_count, cut_base, joins, round_of, rounds}

-- the size of F
abbrev pub flagged : List Bool → ℕ
flagged fs = length (keep (λ f. f) fs)

-- B
abbrev pub unflagged : List Bool → List ℕ → ℕ
unflagged fs ps = sum (zip_with (λ f p. cond f 0 p) fs ps)

-- one round: every prize outside F with p × A < 20,000 × B joins it
abbrev pub flag_round : List ℕ → List Bool → List Bool
flag_round ps fs =
    zip_with (λ f p. f || ltb (p * majors_limit) (major_floor * unflagged fs ps + p * (major_floor * flagged fs))) fs ps

-- the flags after n rounds
unfoldable pub flags : ℕ → List ℕ → List Bool
flags zero ps = map (λ p. false) ps
flags (suc n) ps = flag_round ps (flags n ps)

flagged_count : (f : Floored) (ps : List ℕ) → flagged (map f ps) ≡ length (keep f ps)
unfolding keep
flagged_count f [] = refl
flagged_count f (p ∷ ps) = go (f p) (flagged_count f ps)
  where
    go : (t : Bool) → flagged (map f ps) ≡ length (keep f ps) →
        length (cond t (t ∷ keep (λ s. s) (map f ps)) (keep (λ s. s) (map f ps))) ≡ length (cond t (p ∷ keep f ps) (keep f ps))
    go true later = ap suc later
    go false later = later

unflagged_sum : (f : Floored) (ps : List ℕ) → unflagged (map f ps) ps ≡ sum (keep (λ p. not (f p)) ps)
unfolding keep sum zip_with
unflagged_sum f [] = refl
unflagged_sum f (p ∷ ps) = go (f p) (unflagged_sum f ps)
  where
    outside : List ℕ
    outside = keep (λ q. not (f q)) ps

    go : (t : Bool) → unflagged (map f ps) ps ≡ sum outside → cond t 0 p + unflagged (map f ps) ps ≡ sum (cond (not t) (p ∷ outside) outside)
    go true later = omega (arith, later)
    go false later = ap (λ (n : ℕ). p + n) later

zip_map : (f : Floored) (g : Bool → ℕ → Bool) (ps : List ℕ) → zip_with g (map f ps) ps ≡ map (λ p. g (f p) p) ps
unfolding zip_with
zip_map f g [] = refl
zip_map f g (p ∷ ps) = ap (λ fs. g (f p) p ∷ fs) (zip_map f g ps)

-- a round on the flags of a test gives the flags of that test's round
round_by_place : (f : Floored) (ps : List ℕ) → flag_round ps (map f ps) ≡ map (round_of ps f) ps
unfolding round_of joins floor_count cut_base
round_by_place f ps =
    rw (flagged_count f ps, unflagged_sum f ps)
    (zip_map f
    (λ t p. t || ltb (p * majors_limit) (major_floor * cut_base f ps + p * (major_floor * floor_count f ps))) ps)

-- after every round F has the same prizes, told by their places or by a test on their amounts
pub rounds_by_place : (n : ℕ) (ps : List ℕ) → flags n ps ≡ map (rounds n ps) ps
unfolding flags rounds
rounds_by_place zero ps = refl
rounds_by_place (suc n) ps = ap (flag_round ps) (rounds_by_place n ps) ∙ round_by_place (rounds n ps) ps
