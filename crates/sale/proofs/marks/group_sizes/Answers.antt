-- The counts are the groups' sizes among the marks passed, no more than there are marks.
use mathlib.Core.Path.{sym}
use native.Mathlib.Omega.{arith}
use native.Mathlib.Numerals.{add-one}
use lib.ListN.{take, length-take}
use lib.Seq.{take-suc, take_all}
use Rattle.sale.proofs.MarkLaws.{none_counted, figure_le}
use Rattle.sale.proofs.marks.group_sizes.Goals as goal

pub count_mark-requires : goal.count_mark-requires
count_mark-requires c =
    let passed = take c.loop-mark.mark-index c.args.marks.now in
    record { room = λ k. rw c.loop-mark.invariant (omega (arith, figure_le passed k, length-take c.loop-mark.mark-index c.args.marks.now)) }

pub loop-mark-init : goal.loop-mark-init
loop-mark-init c = sym none_counted

pub loop-mark-preserved : goal.loop-mark-preserved
loop-mark-preserved c =
    rw (add-one, take-suc c.args.marks.now c.loop-mark.mark-index 0 c.loop-mark-test.true)
    (c.count_mark.ensures (take c.loop-mark.mark-index c.args.marks.now) c.loop-mark.invariant)

pub returns : goal.returns
returns c = rw (take_all _ _ c.loop-mark-test.false) at c.loop-mark.invariant
