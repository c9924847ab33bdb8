-- A mark from 1 to 8 adds one in its group's place, any other changes no group's figure.
use mathlib.Core.Path.{◌∙◌}
use native.Mathlib.Omega.{arith}
use Rattle.sale.proofs.MarkLaws.{mark_counted, mark_passed}
use Rattle.sale.proofs.marks.count_mark.Goals as goal

pub returns-then-mark-lt1 : goal.returns-then-mark-lt1
returns-then-mark-lt1 c = λ xs same. same ∙ mark_passed xs _ (λ i h e. omega arith)

pub returns-in-1-to-8 : goal.returns-in-1-to-8
returns-in-1-to-8 c = λ xs same. rw same (mark_counted xs _ _ (omega arith) (omega arith))

pub returns-else-mark-lt9 : goal.returns-else-mark-lt9
returns-else-mark-lt9 c = λ xs same. same ∙ mark_passed xs _ (λ i h e. omega arith)
