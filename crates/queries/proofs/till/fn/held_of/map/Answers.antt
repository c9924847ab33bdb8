-- What is held for the ticket of a row is told of the row that stands at the place.
use Rattle.std.proofs.Common.{[], ap, ◌∙◌}
use Rattle.house.specs.Tickets.{held_for}
use Rattle.house.specs.View.{ticket_from, marks_at}
use Rattle.house.specs.declared.rows.Row.{Row}
use Rattle.queries.proofs.till.fn.held_of.map.Goals as goal

pub returns : goal.returns
returns c =
    let own = marks_at [] c.args.i in
    c.held_for.ensures own ∙ ap (λ (w : Row). held_for c.captures.game (ticket_from w own)) c.read_row.ensures
