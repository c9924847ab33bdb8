-- `settlement::payouts::find_all` meets its contract: each turn fills one ticket's place in the table and adds its major prizes to the list.
use Rattle.settlement.proofs.PassSteps.{Finding}
use Rattle.settlement.proofs.payouts.find_all.Given as goal

abbrev pub invariant-loop-i : goal.invariant-loop-i
invariant-loop-i l = Finding l.game l.initial.majors.prizes l.i l.ways l.majors
