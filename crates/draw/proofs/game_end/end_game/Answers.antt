-- `draw::game_end::end_game` meets its contract: the tickets that stay are those of the next game, which has no balls.
use Prim.Native.Nat.{◌+◌}
use native.Mathlib.Omega.{arith}
use mathlib.Core.Path.{ap, ◌∙◌}
use mathlib.Core.List.{List}
use Rattle.sale.specs.Lists.{below}
use Rattle.house.specs.Tickets.{Ticket}
use Rattle.house.specs.Model.{with_tickets}
use Rattle.house.specs.View.{view}
use Rattle.house.specs.declared.state.House.{House}
use Rattle.house.proofs.ViewLaws.{view_live}
use Rattle.draw.proofs.game_end.end_game.Goals as goal

pub returns : goal.returns
unfolding view below
returns c = λ figures held.
    let closed = c.close_tickets-left in
    let house = c.args.house in
    let after : House = record { day = house.day; game = house.game + 1; balls = house.balls; drawn = 0; issued = house.issued; live = closed.result; six = house.six; eight = house.eight; counters = house.counters } in
    let rows = closed.new.rows in
    let marks = closed.new.marks in
    ap (λ (ts : List Ticket). with_tickets (view after rows marks) ts (view after rows marks).counters)
    (view_live after rows marks (omega (arith, closed.ensures.count, c.requires.few)) ∙ closed.ensures.stay figures held)
