-- `sale::survey::Survey::jackpot` meets its contract: each return is the definition at the tests that led there.
use mathlib.Core.Path.{sym, ap, ◌∙◌}
use Rattle.sale.specs.Kinds.{is_jackpot, jackpot_by, jackpot_named}
use Rattle.sale.proofs.survey.Survey.jackpot.Goals as goal

pub returns-then-not-is_jackpot : goal.returns-then-not-is_jackpot
unfolding jackpot_by jackpot_named
returns-then-not-is_jackpot c = λ t sizes same surveyed.
    simp (ap is_jackpot same ∙ sym c.is_jackpot.ensures ∙ c.if-not-is_jackpot.true)

pub returns-then-all_between : goal.returns-then-all_between
unfolding jackpot_by jackpot_named
returns-then-all_between c = λ t sizes same surveyed.
    simp (
      ap is_jackpot same ∙ sym c.is_jackpot.ensures ∙ c.if-not-is_jackpot.false,
      sym (c.all_between.ensures _ surveyed) ∙ c.if-all_between.true,
    )

pub returns-then-all_between-2 : goal.returns-then-all_between-2
unfolding jackpot_by jackpot_named
returns-then-all_between-2 c = λ t sizes same surveyed.
    simp (
      ap is_jackpot same ∙ sym c.is_jackpot.ensures ∙ c.if-not-is_jackpot.false,
      sym (c.all_between.ensures _ surveyed) ∙ c.if-all_between.false,
      sym (c.all_between-2.ensures _ surveyed) ∙ c.if-all_between-2.true,
    )

pub returns : goal.returns
unfolding jackpot_by jackpot_named
returns c = λ t sizes same surveyed.
    simp (
      ap is_jackpot same ∙ sym c.is_jackpot.ensures ∙ c.if-not-is_jackpot.false,
      sym (c.all_between.ensures _ surveyed) ∙ c.if-all_between.false,
      sym (c.all_between-2.ensures _ surveyed) ∙ c.if-all_between-2.false,
    )
