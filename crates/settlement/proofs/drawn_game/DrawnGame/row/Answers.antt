-- `settlement::drawn_game::DrawnGame::row` meets its contract: the row that was read is the ticket's.
use mathlib.Core.Path.{sym, subst}
use Rattle.house.specs.View.{marks_at, ticket_from}
use Rattle.house.specs.declared.rows.Row.{Row}
use Rattle.settlement.specs.Passing.{Sold}
use Rattle.settlement.proofs.drawn_game.DrawnGame.row.Goals as goal

pub returns-clause-sold : goal.returns-clause-sold
returns-clause-sold c =
    let game = c.args.self.now in
    subst (λ (w : Row). Sold (ticket_from w (marks_at game.marks.now c.args.i))) (sym c.read_row.ensures) (game.sold.each c.args.i c.requires)
