-- `settlement::payouts::find_all` meets its contract: each turn fills one ticket's place in the table and adds its major prizes to the list.
use native.Mathlib.Omega.{arith}
use borrow.Author.Rules.{rules}
use Rattle.settlement.proofs.PassSteps.{finding_none, finding_more, finding_all}
use Rattle.settlement.proofs.payouts.find_all.Goals as goal

pub loop-i-init : goal.loop-i-init
loop-i-init c = finding_none c.args.game.now c.args.majors.now c.requires.places c.requires.none

pub loop-i-preserved : goal.loop-i-preserved
loop-i-preserved c =
    finding_more c.args.game.now c.loop-i.invariant (omega (arith, c.requires.places, c.loop-i-test.true)) c.find_ticket-found.result c.find_ticket-found.new.majors c.find_ticket-found.ensures

pub returns : goal.returns
returns c = finding_all c.args.game.now c.loop-i.invariant (omega (arith, c.requires.places, c.loop-i-test.false)) (search rules)
