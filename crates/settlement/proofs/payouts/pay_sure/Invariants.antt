-- `settlement::payouts::pay_sure` meets its contract: each turn pays one ticket.
use mathlib.Core.Path.{◌≡◌}
use mathlib.Core.List.{map}
use lib.ListN.{take}
use Rattle.settlement.proofs.payouts.pay_sure.Given as goal

abbrev pub invariant-loop-i : goal.invariant-loop-i
invariant-loop-i l = take l.i l.paid ≡ map (λ w. w.found.sure) (take l.i l.ways)
