-- `majors::cut_below` meets its contract: the figures so far are those of the prizes passed.
use mathlib.Core.Path.{refl, sym, ap, ◌∙◌}
use Prim.Native.Nat.{◌+◌}
use native.Mathlib.Omega.{arith}
use lib.ListN.{take, get_or, length-take}
use Rattle.sale.specs.Lists.{sum, keep}
use Rattle.prizes.proofs.MajorLaws.{floored_more, shared_more, count_le, base_le, part_small}
use Rattle.prizes.proofs.majors.cut_below.Goals as goal
use Rattle.prizes.proofs.majors.cut_below.Goals.{then-prize-below, else-prize-below}

pub loop-prize-init : goal.loop-prize-init
unfolding keep sum
loop-prize-init c = record { floored = refl; shared = refl }

pub overflow_add-count : goal.overflow_add-count
overflow_add-count c =
    let ps = c.args.prizes.now in
    let turn = c.loop-prize in
    omega (arith, turn.invariant.floored, count_le c.args.below (take turn.prize-index ps), length-take turn.prize-index ps, c.requires.few)

pub overflow_add-base : goal.overflow_add-base
overflow_add-base c =
    let ps = c.args.prizes.now in
    let i = c.loop-prize.prize-index in
    omega (
      arith,
      c.loop-prize.invariant.shared,
      (shared_more c.args.below ps i c.loop-prize-test.true c.if-prize-below.false).1,
      base_le c.args.below (take (i + 1) ps),
      part_small ps c.requires (i + 1),
    )

pub loop-prize-preserved : goal.loop-prize-preserved
loop-prize-preserved c =
    let ps = c.args.prizes.now in
    let turn = c.loop-prize in
    elim c.if-prize-below.branch [
      | then-prize-below w ↦
          let more = floored_more c.args.below ps turn.prize-index c.loop-prize-test.true w.if-prize-below.true in
          record {
            floored = w.count-is ∙ ap (λ n. n + 1) turn.invariant.floored ∙ sym more.0;
            shared = w.base-is ∙ turn.invariant.shared ∙ sym more.1;
          }
      | else-prize-below w ↦
          let more = shared_more c.args.below ps turn.prize-index c.loop-prize-test.true w.if-prize-below.false in
          record {
            floored = w.count-is ∙ turn.invariant.floored ∙ sym more.0;
            shared = w.base-is ∙ ap (λ n. n + get_or ps turn.prize-index 0) turn.invariant.shared ∙ sym more.1;
          }
    ]
