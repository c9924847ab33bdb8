-- `settlement::settle::settle` meets its contract: the game's tickets are those of the house's view.
use mathlib.Core.Path.{ap, ◌∙◌}
use lib.ListN.{take}
use Rattle.house.specs.View.{view}
use Rattle.house.proofs.ReachedHouses.{reached_sure}
use Rattle.house.proofs.ViewLaws.{live_count}
use Rattle.settlement.proofs.PassSteps.{reached_sold}
use Rattle.settlement.proofs.settle.settle.Goals as goal

pub invariant_of-game : goal.invariant_of-game
invariant_of-game c = record { sold = reached_sold c.args.house c.args.rows.now c.args.marks.now c.requires.reached }

pub settle_drawn-requires : goal.settle_drawn-requires
unfolding view
settle_drawn-requires c =
    let fit = (reached_sure (view c.args.house c.args.rows.now c.args.marks.now) c.requires.reached).fit in
    record {
      six = record { primary = fit.six.primary; secondary = fit.six.secondary; reimbursement = fit.six.reimbursement; debt = fit.six.debt };
      eight = record { primary = fit.eight.primary; secondary = fit.eight.secondary; reimbursement = fit.eight.reimbursement; debt = fit.eight.debt };
      room = c.requires.room;
    }

pub returns : goal.returns
unfolding view
returns c =
    let settled = c.settle_drawn.ensures in
    record {
      awards = ap (λ n. take n c.settle_drawn.new.awards) (live_count c.args.house c.args.rows.now c.args.marks.now) ∙ settled.awards;
      prizes = settled.prizes;
      stakes = settled.stakes;
      shares = settled.shares;
      contributions = settled.contributions;
      seeds = settled.seeds;
      repaid = settled.repaid;
      six = settled.six;
      eight = settled.eight;
    }
