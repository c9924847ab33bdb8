-- `settlement::payouts::pay_raised` meets its contract: each turn pays one ticket, whose major prizes stand in the table behind those of the tickets
-- before it.
use mathlib.Core.List.{List}
use Prim.Native.Nat.{ℕ}
use Rattle.settlement.specs.Passing.{Cutting}
use Rattle.settlement.proofs.PassSteps.{Raising}
use Rattle.settlement.proofs.payouts.pay_raised.Given as goal

abbrev pub invariant-loop-i : goal.invariant-loop-i
invariant-loop-i l = (pss : List (List ℕ)) → (k : Cutting pss l.ways l.majors.prizes l.cut) → Raising pss l.ways l.majors.prizes l.cut k l.i l.paid l.from
