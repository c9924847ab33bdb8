-- The smallest size and the largest answer for all of them.
use mathlib.Core.Path.{sym, ap, ◌∙◌}
use mathlib.Core.Bool.{◌&&◌}
use Prim.Native.Nat.{◌≤◌}
use native.Mathlib.Omega.{arith}
use lib.Dec.{leb}
use borrow.Author.Tests.{le-leb, lt-leb}
use Rattle.sale.proofs.SurveyLaws.{within_survey}
use Rattle.sale.proofs.survey.Survey.all_between.Goals as goal

pub returns-then-lo-self : goal.returns-then-lo-self
returns-then-lo-self c = λ sizes surveyed.
    let a = c.args in
    let byte : a.lo ≤ 255 = omega arith in
    sym (within_survey a.lo a.hi byte sizes ∙ ap (λ s. leb a.lo s.least && leb s.most a.hi) (sym surveyed)
    ∙ ap (λ b. b && leb a.self.most a.hi) (le-leb _ _ c.if-lo-self.true))

pub returns-else-lo-self : goal.returns-else-lo-self
returns-else-lo-self c = λ sizes surveyed.
    let a = c.args in
    let byte : a.lo ≤ 255 = omega arith in
    lt-leb _ _ c.if-lo-self.false
    ∙ sym (within_survey a.lo a.hi byte sizes ∙ ap (λ s. leb a.lo s.least && leb s.most a.hi) (sym surveyed)
    ∙ ap (λ b. b && leb a.self.most a.hi) (lt-leb _ _ c.if-lo-self.false))
