-- The definition is the same two tests.
use mathlib.Core.Path.{ap, ◌∙◌, sym}
use mathlib.Core.Bool.{not, ◌&&◌}
use lib.Count.{ones}
use borrow.Author.Tests.{lt-leb, le-leb}
use Rattle.sale.specs.Passes.{nominable, ends_here}
use Rattle.sale.proofs.ways.ends_here.Goals as goal

pub returns-then-left-ge3 : goal.returns-then-left-ge3
unfolding ends_here
returns-then-left-ge3 c =
    let a = c.args in
    ap not c.can_nominate.ensures
    ∙ sym (ap (λ b. b && not (nominable a.types (ones a.mask) a.left)) (le-leb 3 a.left c.if-left-ge3.true))

pub returns-else-left-ge3 : goal.returns-else-left-ge3
unfolding ends_here
returns-else-left-ge3 c = rw (lt-leb 3 c.args.left c.if-left-ge3.false)
