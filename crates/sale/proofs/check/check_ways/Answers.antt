-- Each return is at the row that the tests before it lead to, for the operands whose sizes and kind it is given.
use mathlib.Core.Path.{◌≡◌, sym, ap, ap₂, ◌∙◌}
use mathlib.Core.Bool.{Bool, true, not, ◌&&◌, ◌||◌}
use mathlib.Core.List.{List, []}
use Prim.Native.Nat.{ℕ, ◌^◌}
use lib.Dec.{leb, eqb}
use lib.ListN.{drop}
use borrow.Author.Tests.{not-true, not-false}
use Rattle.sale.specs.Kinds.{kind_of, is_special_one, sizes_fit}
use Rattle.sale.specs.Ways.{sizes, way_sizes}
use Rattle.sale.specs.Checks.{Operands, operands_of, first_met, way_count, way_rows}
use Rattle.sale.specs.Passes.{survey_of, MarksPassed, LookedAt}
use Rattle.sale.specs.declared.terms.Kind.{Kind}
use Rattle.sale.specs.declared.survey.Survey.{Survey}
use Rattle.sale.proofs.CheckLaws.{row_passed, row_met}
use Rattle.sale.proofs.SurveyLaws.{surveyed_count}
use Rattle.sale.proofs.check.check_ways.Goals as goal

-- the operands of a sale whose marks have the sizes given, and what was seen of their ways
module _ (o : Operands) where
  past_1 : {fit : Bool} → fit ≡ not (eqb o.types 0 || leb (2 ^ o.groups) o.types) → fit ≡ true
      → first_met (way_rows o) ≡ first_met (drop 1 (way_rows o))
  past_1 test fits = row_passed _ 11 _ (not-true _ (sym test ∙ fits))

  past_2 : {fit : Bool} → fit ≡ sizes_fit (kind_of o.kind) (way_sizes o.groups o.types (sizes o.marks)) → fit ≡ true
      → first_met (drop 1 (way_rows o)) ≡ first_met (drop 2 (way_rows o))
  past_2 test fits = row_passed _ 12 _ (ap not (sym test ∙ fits))

  module _ {counts : List ℕ} {kind : Kind} {seen : Survey} (given : MarksPassed o counts) (same : kind ≡ kind_of o.kind) (survey : seen ≡ survey_of (way_sizes o.groups o.types counts)) where
    looked : LookedAt o kind seen
    looked = record { kind = same; survey = survey ∙ ap (λ (l : List ℕ). survey_of (way_sizes o.groups o.types l)) given.same }

    sizes_test : {fit : Bool} → ((l : List ℕ) → seen ≡ survey_of l → fit ≡ sizes_fit kind l)
        → fit ≡ sizes_fit (kind_of o.kind) (way_sizes o.groups o.types (sizes o.marks))
    sizes_test test =
        test (way_sizes o.groups o.types (sizes o.marks)) looked.survey
        ∙ ap (λ k. sizes_fit k (way_sizes o.groups o.types (sizes o.marks))) same

    lone_test : {lone : Bool} → lone ≡ (is_special_one kind && eqb seen.count 1) → lone ≡ (is_special_one (kind_of o.kind) && eqb (way_count o) 1)
    lone_test test =
        test
        ∙ ap₂ (λ k n. is_special_one k && eqb n 1) same
        (ap (λ (v : Survey). v.count) looked.survey ∙ surveyed_count o.groups o.types (sizes o.marks))

pub returns-then-not-types_fit : goal.returns-then-not-types_fit
returns-then-not-types_fit c = λ marks given kind.
    record {
      code = sym (row_met _ 11 _ (not-false _ (sym c.types_fit.ensures ∙ c.if-not-types_fit.true)));
      passed = tt;
    }

pub returns-then-not-suits : goal.returns-then-not-suits
returns-then-not-suits c = λ marks given kind.
    let o = operands_of c.args.sale marks in
    record {
      code =
          sym (past_1 o c.types_fit.ensures c.if-not-types_fit.false
          ∙ row_met _ 12 _ (ap not (sym (sizes_test o given kind c.survey_ways-survey.ensures c.suits.ensures) ∙ c.if-not-suits.true)));
      passed = tt;
    }

pub returns-then-is_single_special : goal.returns-then-is_single_special
returns-then-is_single_special c = λ marks given kind.
    let o = operands_of c.args.sale marks in
    record {
      code =
          sym (past_1 o c.types_fit.ensures c.if-not-types_fit.false
          ∙ past_2 o (sizes_test o given kind c.survey_ways-survey.ensures c.suits.ensures) c.if-not-suits.false
          ∙ row_met _ 13 _ (sym (lone_test o given kind c.survey_ways-survey.ensures c.is_single_special.ensures) ∙ c.if-is_single_special.true));
      passed = tt;
    }

pub returns : goal.returns
unfolding first_met
returns c = λ marks given kind.
    let o = operands_of c.args.sale marks in
    record {
      code =
          sym (past_1 o c.types_fit.ensures c.if-not-types_fit.false
          ∙ past_2 o (sizes_test o given kind c.survey_ways-survey.ensures c.suits.ensures) c.if-not-suits.false
          ∙ row_passed _ 13 [] (sym (lone_test o given kind c.survey_ways-survey.ensures c.is_single_special.ensures) ∙ c.if-is_single_special.false));
      passed = looked o given kind c.survey_ways-survey.ensures;
    }
