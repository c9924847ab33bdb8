-- Laws of the operand checks: tests over lists step by step, and the first refusal that is met.
use mathlib.Core.Path.{◌≡◌, refl, sym, ap, ◌∙◌}
use mathlib.Core.Bool.{Bool, true, false, cond, not, ◌&&◌, false≢true}
use mathlib.Core.List.{List, [], ◌∷◌, ◌++◌}
use Prim.Native.Nat.{ℕ, ◌*◌, ◌/◌, ◌≤◌, ◌<◌}
use native.Mathlib.Nat.{div-eq_of_lt, le-div_iff_mul-le, one-mul}
use native.Mathlib.Omega.{arith}
use lib.Dec.{leb, eqb}
use lib.ListN.{length, take}
use borrow.Author.Tests.{eq-eqb, ne_eqb, leb-true, leb-false, not-true}
use Rattle.std.specs.List.{list_all}
use Rattle.std.specs.Prelude.{Option, None, Some, MatchOption}
use Rattle.std.specs.Option.{unwrap_or}
use Rattle.refusals.specs.Refusal.{refusal_number}
use Rattle.refusals.specs.declared.refusal.Refusal.{Refusal}
use Rattle.refusals.proofs.Refusals.{refusal_some}
use Rattle.sale.specs.Lists.{every}
use Rattle.sale.specs.Kinds.{is_jackpot, within, jackpot_by, number_of, jackpot_number, jackpot_named}
use Rattle.sale.specs.Ways.{sizes, way_sizes}
use Rattle.sale.specs.Checks.{first_met, marks_fit, Operands, feature_stake, mark_rows, way_rows, feature_row, stake_row, feature_stake_row, charge_row, price_rows, operand_rows, operand_code}
use Rattle.sale.specs.declared.terms.JackpotKind.{JackpotKind}
use Rattle.sale.specs.declared.terms.Terms.{Terms}
use Rattle.sale.proofs.KeepLaws.{and_right}

-- std's test of every element is ours
pub list_all_every : {A : Type 0} (f : A → Bool) (xs : List A) → list_all f xs ≡ every f xs
unfolding every
list_all_every f [] = refl
list_all_every f (x ∷ xs) = ap (λ rest. f x && rest) (list_all_every f xs)

pub small_quotient : (t n : ℕ) → 0 < n → eqb (t / n) 0 ≡ not (leb n t)
small_quotient t n some = go (leb n t) refl
  where
    go : (b : Bool) → leb n t ≡ b → eqb (t / n) 0 ≡ not b
    go false e = eq-eqb (t / n) 0 (div-eq_of_lt (leb-false n t e))
    go true e =
        let whole : 1 * n ≤ t = omega (arith, leb-true n t e, one-mul n) in
        let quotient : 1 ≤ t / n = (le-div_iff_mul-le some).1 whole in
        ne_eqb (t / n) 0 (λ q. omega arith)

and_left : (a b : Bool) → a && b ≡ true → a ≡ true
and_left true b e = refl
and_left false b e = absurd (false≢true e)

pub within_le : (lo x hi : ℕ) → leb lo x && leb x hi ≡ true → x ≤ hi
within_le lo x hi both = leb-true x hi (and_right (leb lo x) (leb x hi) both)

-- the test of the marks: of their number, and of the groups by sizes that are theirs
pub marks_few : (g : ℕ) (marks : List ℕ) → (length marks ≡ 80 → ⊥) → marks_fit g marks ≡ false
unfolding marks_fit
marks_few g marks few = rw (ne_eqb (length marks) 80 few)

pub marks_by_groups : (g : ℕ) (marks : List ℕ) {counts : List ℕ} → length marks ≡ 80 → counts ≡ sizes marks
    → (every (λ m. leb m g) marks && every (λ n. not (eqb n 0)) (take g counts)) ≡ marks_fit g marks
unfolding marks_fit
marks_by_groups g marks eighty same =
    ap (λ (l : List ℕ). every (λ m. leb m g) marks && every (λ n. not (eqb n 0)) (take g l)) same
    ∙ ap (λ b. b && every (λ m. leb m g) marks && every (λ n. not (eqb n 0)) (take g (sizes marks)))
    (sym (eq-eqb (length marks) 80 eighty))

-- ---- the first row that is met

-- a row that is not met, and one that is
pub row_passed : (test : Bool) (code : ℕ) (rows : List (Bool × ℕ)) → test ≡ false → first_met ((test, code) ∷ rows) ≡ first_met rows
unfolding first_met
row_passed test code rows e = rw e

pub row_met : (test : Bool) (code : ℕ) (rows : List (Bool × ℕ)) → test ≡ true → first_met ((test, code) ∷ rows) ≡ code
unfolding first_met
row_met test code rows e = rw e

-- where a row alone refuses nothing, it is not met
pub row_clear : (test : Bool) (code : ℕ) → (code ≡ 0 → ⊥) → first_met ((test, code) ∷ []) ≡ 0 → test ≡ false
unfolding first_met
row_clear true code some e = absurd (some e)
row_clear false code some e = refl

-- no row has the number 0
abbrev pub nonzero : List (Bool × ℕ) → Bool
nonzero rows = every (λ row. not (eqb row.1 0)) rows

-- of two tables one below the other: the first one's refusal where it has one, and the second one's otherwise
pub first_met_append :
    (rows more : List (Bool × ℕ))
    → nonzero rows ≡ true
    → first_met (rows ++ more) ≡ cond (eqb (first_met rows) 0) (first_met more) (first_met rows)
unfolding first_met every
first_met_append [] more n = refl
first_met_append (row ∷ rows) more n =
    go row.0 (and_left (not (eqb row.1 0)) _ n) (first_met_append rows more (and_right (not (eqb row.1 0)) _ n))
  where
    go :
        (met : Bool)
        → not (eqb row.1 0) ≡ true
        → first_met (rows ++ more) ≡ cond (eqb (first_met rows) 0) (first_met more) (first_met rows)
        → cond met row.1 (first_met (rows ++ more))
        ≡ cond (eqb (cond met row.1 (first_met rows)) 0) (first_met more) (cond met row.1 (first_met rows))
    go true some later = rw (not-true (eqb row.1 0) some)
    go false some later = later

-- the same where the first one's code is known
module _ (rows more : List (Bool × ℕ)) (n : nonzero rows ≡ true) {code : ℕ} (first : code ≡ first_met rows) where
  pub stage_refused : (code ≡ 0 → ⊥) → first_met (rows ++ more) ≡ code
  stage_refused some = first_met_append rows more n ∙ rw (← first, ne_eqb code 0 some)

  pub stage_passed : code ≡ 0 → first_met (rows ++ more) ≡ first_met more
  stage_passed none = first_met_append rows more n ∙ rw (← first, none)

-- a stage that ends in a refusal, and one that is passed
module _ (rows more : List (Bool × ℕ)) (n : nonzero rows ≡ true) where
  pub stage_err : (refusal : Refusal) → refusal_number refusal ≡ first_met rows → first_met (rows ++ more) ≡ refusal_number refusal
  stage_err refusal first = stage_refused rows more n first (refusal_some refusal)

  pub stage_ok : 0 ≡ first_met rows → first_met (rows ++ more) ≡ first_met more
  stage_ok first = stage_passed rows more n first refl

-- the feature stake, or 0 where a sale enters no feature
pub staked_or_none : (feature : Option ℕ) → unwrap_or feature 0 ≡ feature_stake feature
staked_or_none None = refl
staked_or_none (Some stake) = refl

-- ---- the jackpot

-- the number of a jackpot that there may be, as the code reads it
pub jackpot_word : (found : Option JackpotKind) (word : ℕ) → MatchOption found (word ≡ 0) (λ jackpot. word ≡ number_of jackpot) → word ≡ jackpot_number found
jackpot_word None word told = told
jackpot_word (Some jackpot) word told = told

-- a jackpot named by 6, 8 or 0 has that number again
named_back : (plays six eight : Bool) → jackpot_number (jackpot_named (cond plays (cond six 6 (cond eight 8 0)) 0)) ≡ cond plays (cond six 6 (cond eight 8 0)) 0
unfolding jackpot_named
named_back false six eight = refl
named_back true true eight = refl
named_back true false true = refl
named_back true false false = refl

pub jackpot_back : (t : Terms) (counts : List ℕ) → jackpot_number (jackpot_named (jackpot_by t counts)) ≡ jackpot_by t counts
unfolding jackpot_by
jackpot_back t counts =
    named_back (is_jackpot t.kind) (within 6 6 (way_sizes t.groups t.types counts)) (within 8 8 (way_sizes t.groups t.types counts))

-- ---- the stages of a sale's table: each decides once those before it are passed

module _ (o : Operands) where
  pub refused_by_feature : (e : Refusal) → refusal_number e ≡ first_met (feature_row o ∷ []) → refusal_number e ≡ first_met (price_rows o)
  unfolding every
  refused_by_feature e first = sym (stage_err (feature_row o ∷ []) (stake_row o ∷ feature_stake_row o ∷ charge_row o ∷ []) refl e first)

  module _ (feature : 0 ≡ first_met (feature_row o ∷ [])) where
    past_feature : first_met (price_rows o) ≡ first_met (stake_row o ∷ feature_stake_row o ∷ charge_row o ∷ [])
    unfolding every
    past_feature = stage_ok (feature_row o ∷ []) (stake_row o ∷ feature_stake_row o ∷ charge_row o ∷ []) refl feature

    pub refused_by_stake : (e : Refusal) → refusal_number e ≡ first_met (stake_row o ∷ []) → refusal_number e ≡ first_met (price_rows o)
    unfolding every
    refused_by_stake e first = sym (past_feature ∙ stage_err (stake_row o ∷ []) (feature_stake_row o ∷ charge_row o ∷ []) refl e first)

    module _ (stake : 0 ≡ first_met (stake_row o ∷ [])) where
      past_stake : first_met (price_rows o) ≡ first_met (feature_stake_row o ∷ charge_row o ∷ [])
      unfolding every
      past_stake = past_feature ∙ stage_ok (stake_row o ∷ []) (feature_stake_row o ∷ charge_row o ∷ []) refl stake

      pub refused_by_feature_stake : (e : Refusal) → refusal_number e ≡ first_met (feature_stake_row o ∷ []) → refusal_number e ≡ first_met (price_rows o)
      unfolding every
      refused_by_feature_stake e first = sym (past_stake ∙ stage_err (feature_stake_row o ∷ []) (charge_row o ∷ []) refl e first)

      pub decided_by_charge :
          (code : ℕ)
          → 0 ≡ first_met (feature_stake_row o ∷ [])
          → code ≡ first_met (charge_row o ∷ [])
          → code ≡ first_met (price_rows o)
      unfolding every
      decided_by_charge code feature_stake first =
          first ∙ sym (past_stake ∙ stage_ok (feature_stake_row o ∷ []) (charge_row o ∷ []) refl feature_stake)

  pub refused_by_marks : (e : Refusal) → refusal_number e ≡ first_met (mark_rows o) → refusal_number e ≡ operand_code o
  unfolding operand_code operand_rows every
  refused_by_marks e first = sym (stage_err (mark_rows o) (way_rows o ++ price_rows o) refl e first)

  module _ (marks : 0 ≡ first_met (mark_rows o)) where
    past_marks : operand_code o ≡ first_met (way_rows o ++ price_rows o)
    unfolding operand_code operand_rows every
    past_marks = stage_ok (mark_rows o) (way_rows o ++ price_rows o) refl marks

    pub refused_by_ways : (e : Refusal) → refusal_number e ≡ first_met (way_rows o) → refusal_number e ≡ operand_code o
    unfolding every
    refused_by_ways e first = sym (past_marks ∙ stage_err (way_rows o) (price_rows o) refl e first)

    pub decided_by_price : (code : ℕ) → 0 ≡ first_met (way_rows o) → code ≡ first_met (price_rows o) → code ≡ operand_code o
    unfolding every
    decided_by_price code ways first = first ∙ sym (past_marks ∙ stage_ok (way_rows o) (price_rows o) refl ways)
