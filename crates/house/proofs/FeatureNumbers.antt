-- What Lucky Last calls the ticket's numbers are those of its way: a sale with a feature that the checks accept has one way, which takes all groups, so that
-- it selects every number that is marked, and these are 1 to 15.
use mathlib.Core.Path.{◌≡◌, refl, sym, ap, ◌∙◌}
use mathlib.Core.Bool.{Bool, true, false, not, ◌&&◌, ◌||◌, false≢true}
use mathlib.Core.List.{List, [], ◌∷◌}
use Prim.Native.Nat.{ℕ, zero, suc, ◌≤◌, ◌<◌}
use native.Mathlib.Omega.{arith}
use lib.Dec.{ltb, leb, eqb}
use native.Mathlib.Decide.{dec_lt}
use lib.ListN.{length, take, get_or, get_or-eq_default}
use borrow.Author.Tests.{eqb-true, ltb-false, leb-true, not-false, ne_eqb}
use Rattle.sale.specs.Lists.{sum, keep, every}
use Rattle.sale.specs.Kinds.{kind_of, within, sizes_fit}
use Rattle.sale.specs.Ways.{size_of, sizes, way_sizes}
use Rattle.sale.specs.Checks.{Operands, has_feature, operand_code, way_count}
use Rattle.sale.proofs.MarkLaws.{length_by_group, get_or_by_group}
use Rattle.sale.proofs.OneWay.{one_way_size}
use Rattle.prizes.specs.LuckyLast.{numbers_marked}
use Rattle.prizes.proofs.LuckyLastLaws.{all_marked}
use Rattle.house.proofs.Refusals.{or_false, and_true, OperandsAccepted, operands_accepted}
use Rattle.house.proofs.CheckedOperands.{some_way, mark_within}

pub record FeatureNumbers (o : Operands) : Type 0 where
  pub way : way_sizes o.groups o.types (sizes o.marks) ≡ numbers_marked o.marks ∷ []
  pub some : 1 ≤ numbers_marked o.marks
  pub few : numbers_marked o.marks ≤ 15

-- ---- no group beyond the last has a number

none_of : (marks : List ℕ) (g k : ℕ) → ((n : ℕ) → get_or marks n 0 ≤ g) → g < k → size_of marks k ≡ 0
unfolding size_of keep
none_of [] g k small beyond = refl
none_of (m ∷ marks) g k small beyond =
    rw (ne_eqb k m (λ same. omega (arith, small 0))) (none_of marks g k (λ n. small (suc n)) beyond)

beyond_last : (marks : List ℕ) (g : ℕ) → ((n : ℕ) → get_or marks n 0 ≤ g) → (i : ℕ) → g ≤ i → get_or (sizes marks) i 0 ≡ 0
beyond_last marks g small i beyond = go (dec_lt i 8)
  where
    go : Dec (i < 8) → get_or (sizes marks) i 0 ≡ 0
    go (yes group) = get_or_by_group (size_of marks) i group ∙ none_of marks g (suc i) small (omega arith)
    go (no none) =
        let past : length (sizes marks) ≤ i = omega (arith, length_by_group (size_of marks)) in
        get_or-eq_default (sizes marks) 0 past

-- figures beyond which there is nothing
first_figures : (xs : List ℕ) (g : ℕ) → ((i : ℕ) → g ≤ i → get_or xs i 0 ≡ 0) → sum (take g xs) ≡ sum xs
unfolding sum
first_figures [] zero none = refl
first_figures [] (suc g) none = refl
first_figures (x ∷ xs) zero none = omega (arith, none 0 (omega arith), first_figures xs zero (λ i h. none (suc i) (omega arith)))
first_figures (x ∷ xs) (suc g) none = omega (arith, first_figures xs g (λ i h. none (suc i) (omega arith)))

-- ---- the sale

module _ (o : Operands) (a : OperandsAccepted o) (entered : has_feature o.feature ≡ true) where
  clear : (not (eqb o.kind 0) || ltb 1 (way_count o)) ≡ false
  clear = passed (has_feature o.feature) _ entered a.feature
    where
      passed : (t u : Bool) → t ≡ true → t && u ≡ false → u ≡ false
      passed true u e rest = rest
      passed false u e rest = absurd (false≢true e)

  both : (not (eqb o.kind 0) ≡ false) × (ltb 1 (way_count o) ≡ false)
  both = or_false (not (eqb o.kind 0)) (ltb 1 (way_count o)) clear

  standard : o.kind ≡ 0
  standard = eqb-true o.kind 0 (not-false _ both.0)

  one : way_count o ≡ 1
  one = omega (arith, ltb-false 1 (way_count o) both.1, some_way o.groups o.types a.some_types a.few_types)

  marked : (n : ℕ) → get_or o.marks n 0 ≤ o.groups
  marked = mark_within o.groups o.marks a.marks

  way_is : way_sizes o.groups o.types (sizes o.marks) ≡ numbers_marked o.marks ∷ []
  way_is =
      one_way_size o.groups o.types (sizes o.marks) one
      ∙ ap (λ n. n ∷ [])
      (first_figures (sizes o.marks) o.groups (beyond_last o.marks o.groups marked)
      ∙ all_marked o.marks (λ n. omega (arith, marked n, a.few_groups)))

  sized : (leb 1 (numbers_marked o.marks) && leb (numbers_marked o.marks) 15) ≡ true
  unfolding within every kind_of
  sized = (and_true _ _ fits).0
    where
      fits : sizes_fit (kind_of 0) (numbers_marked o.marks ∷ []) ≡ true
      fits = ap (λ (l : List ℕ). sizes_fit (kind_of 0) l) (sym way_is) ∙ ap (λ k. sizes_fit (kind_of k) (way_sizes o.groups o.types (sizes o.marks))) (sym standard) ∙ a.sized

pub feature_numbers : (o : Operands) → operand_code o ≡ 0 → has_feature o.feature ≡ true → FeatureNumbers o
feature_numbers o passed entered =
    let a = operands_accepted o passed in
    let bounds = and_true _ _ (sized o a entered) in
    record {
      way = way_is o a entered;
      some = leb-true 1 (numbers_marked o.marks) bounds.0;
      few = leb-true (numbers_marked o.marks) 15 bounds.1;
    }
