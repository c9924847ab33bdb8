-- `settlement::payouts::find_payouts` meets its contract: 250 major prizes or more are paid what is sure; fewer stand in the table, whose cut pays what the
-- rule pays, and are raised to that. Without live tickets there is nothing to pay.
use Rattle.settlement.proofs.PassSteps.{nothing_paid, sure_paid, found_listed, found_cut, raised_paid}
use Rattle.settlement.proofs.payouts.find_payouts.Goals as goal

pub returns-then-is_empty : goal.returns-then-is_empty
returns-then-is_empty c =
    nothing_paid c.args.game.now c.args.ways.now c.args.paid.now (c.is_empty.ensures.0 c.if-is_empty.true) c.requires.ways c.requires.paid

pub returns-then-all_floored : goal.returns-then-all_floored
returns-then-all_floored c = sure_paid c.args.game.now c.find_all.ensures c.if-all_floored.true c.pay_sure.ensures

pub cut-cut-requires-clause-listed : goal.cut-cut-requires-clause-listed
cut-cut-requires-clause-listed c = found_listed c.args.game.now c.find_all.ensures c.if-all_floored.false

pub pay_raised-requires-clause-cut : goal.pay_raised-requires-clause-cut
pay_raised-requires-clause-cut c = found_cut c.args.game.now c.find_all.ensures c.if-all_floored.false c.cut-cut.ensures

pub returns-else-all_floored : goal.returns-else-all_floored
returns-else-all_floored c =
    raised_paid c.args.game.now c.find_all.ensures c.if-all_floored.false c.cut-cut.ensures c.pay_raised.ensures
