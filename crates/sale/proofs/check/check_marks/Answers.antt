-- Each return is at the row that the tests before it lead to.
use mathlib.Core.Path.{◌≡◌, sym, ap, ◌∙◌}
use mathlib.Core.Bool.{true, not, ◌&&◌}
use mathlib.Core.List.{[]}
use Prim.Native.Nat.{ℕ, ◌≤◌}
use native.Mathlib.Omega.{arith}
use lib.Dec.{leb}
use lib.ListN.{drop}
use borrow.Author.Tests.{lt-leb, le-leb}
use Rattle.sale.specs.Checks.{Operands, operands_of, first_met, mark_rows}
use Rattle.sale.proofs.CheckLaws.{row_passed, row_met, within_le, marks_few, marks_by_groups}
use Rattle.sale.proofs.MarkLaws.{figure_le}
use Rattle.sale.proofs.check.check_marks.Goals as goal

-- the rows from the k-th on decide
module _ (o : Operands) where
  abbrev Past : ℕ → Type 0
  Past k = first_met (mark_rows o) ≡ first_met (drop k (mark_rows o))

  past_1 : o.kind ≤ 3 → Past 1
  past_1 kind = row_passed _ 7 _ (ap not (le-leb _ _ kind))

  past_2 : o.kind ≤ 3 → (leb 1 o.games && leb o.games 100) ≡ true → Past 2
  past_2 kind games = past_1 kind ∙ row_passed _ 8 _ (ap not games)

  past_3 : o.kind ≤ 3 → (leb 1 o.games && leb o.games 100) ≡ true → (leb 1 o.groups && leb o.groups 8) ≡ true → Past 3
  past_3 kind games groups = past_2 kind games ∙ row_passed _ 9 _ (ap not groups)

pub returns-then-sale-gt3 : goal.returns-then-sale-gt3
returns-then-sale-gt3 c =
    record { code = sym (row_met _ 7 _ (ap not (lt-leb _ _ c.if-sale-gt3.true))); passed = tt }

pub returns-then-not-is_within : goal.returns-then-not-is_within
returns-then-not-is_within c =
    let o = operands_of c.args.sale c.args.marks.now in
    record {
      code = sym (past_1 o c.if-sale-gt3.false ∙ row_met _ 8 _ (ap not (sym c.is_within.ensures ∙ c.if-not-is_within.true)));
      passed = tt;
    }

pub returns-then-not-is_within-2 : goal.returns-then-not-is_within-2
returns-then-not-is_within-2 c =
    let o = operands_of c.args.sale c.args.marks.now in
    record {
      code =
          sym (past_2 o c.if-sale-gt3.false (sym c.is_within.ensures ∙ c.if-not-is_within.false)
          ∙ row_met _ 9 _ (ap not (sym c.is_within-2.ensures ∙ c.if-not-is_within-2.true)));
      passed = tt;
    }

pub returns-then-marks-ne80 : goal.returns-then-marks-ne80
returns-then-marks-ne80 c =
    let o = operands_of c.args.sale c.args.marks.now in
    record {
      code =
          sym (past_3 o c.if-sale-gt3.false (sym c.is_within.ensures ∙ c.if-not-is_within.false) (sym c.is_within-2.ensures ∙ c.if-not-is_within-2.false)
          ∙ row_met _ 10 _ (ap not (marks_few o.groups o.marks c.if-marks-ne80.true)));
      passed = tt;
    }

pub groups_fit-requires : goal.groups_fit-requires
groups_fit-requires c = record { few = within_le 1 c.args.sale.groups 8 (sym c.is_within-2.ensures ∙ c.if-not-is_within-2.false) }

pub returns-then-not-groups_fit : goal.returns-then-not-groups_fit
returns-then-not-groups_fit c =
    let o = operands_of c.args.sale c.args.marks.now in
    record {
      code =
          sym (past_3 o c.if-sale-gt3.false (sym c.is_within.ensures ∙ c.if-not-is_within.false) (sym c.is_within-2.ensures ∙ c.if-not-is_within-2.false)
          ∙ row_met _ 10 _
          (ap not
          (sym (c.groups_fit.ensures ∙ marks_by_groups o.groups o.marks c.if-marks-ne80.false c.group_sizes-sizes.ensures) ∙ c.if-not-groups_fit.true)));
      passed = tt;
    }

pub returns : goal.returns
unfolding first_met
returns c =
    let o = operands_of c.args.sale c.args.marks.now in
    record {
      code =
          sym (past_3 o c.if-sale-gt3.false (sym c.is_within.ensures ∙ c.if-not-is_within.false) (sym c.is_within-2.ensures ∙ c.if-not-is_within-2.false)
          ∙ row_passed _ 10 []
          (ap not
          (sym (c.groups_fit.ensures ∙ marks_by_groups o.groups o.marks c.if-marks-ne80.false c.group_sizes-sizes.ensures) ∙ c.if-not-groups_fit.false)));
      passed =
          record {
            same = c.group_sizes-sizes.ensures;
            groups = record { few = within_le 1 c.args.sale.groups 8 (sym c.is_within-2.ensures ∙ c.if-not-is_within-2.false) };
            bytes =
                record { small = λ k. rw c.group_sizes-sizes.ensures (omega (arith, figure_le c.args.marks.now k, c.if-marks-ne80.false)) };
          };
    }
