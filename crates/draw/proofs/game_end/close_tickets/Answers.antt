-- `draw::game_end::close_tickets` meets its contract: the first places hold those that stay of the tickets passed, and the rest are untouched.
use Prim.Native.Nat.{◌+◌}
use native.Mathlib.Omega.{arith}
use mathlib.Core.Path.{◌≡◌, refl, ap, ap₂, ◌∙◌}
use mathlib.Core.List.{List, [], ◌∷◌, ◌++◌}
use lib.ListN.{get_or}
use Rattle.house.specs.Tickets.{Ticket}
use Rattle.house.specs.Commands.{still_live}
use Rattle.draw.specs.Closing.{paid_ticket}
use Rattle.house.specs.View.{view}
use Rattle.draw.proofs.ClosingLaws.{ticket_untouched, rest_untouched, closed_up, closed_none, closed_more, closed_all}
use Rattle.draw.proofs.game_end.close_tickets.Goals as goal

pub loop-i-init : goal.loop-i-init
loop-i-init c =
    let args = c.args in
    record { behind = omega arith; stay = closed_none args.house.now.day (args.house.now.game + 1) args.rows.now args.marks.now args.awards.now; rest = refl }

pub close_ticket-left-requires : goal.close_ticket-left-requires
close_ticket-left-requires c =
    let turn = c.loop-i in
    let here = ticket_untouched c.args.rows.now c.args.marks.now turn.rows turn.marks turn.i turn.invariant.rest (omega arith) in
    (turn.invariant.behind, omega arith, omega (arith, c.requires.room turn.i (omega arith), ap (λ (t : Ticket). t.due) here))

pub loop-i-preserved : goal.loop-i-preserved
loop-i-preserved c =
    let turn = c.loop-i in
    let args = c.args in
    let game = args.house.now.game + 1 in
    let cents = get_or args.awards.now turn.i 0 in
    let here = ticket_untouched args.rows.now args.marks.now turn.rows turn.marks turn.i turn.invariant.rest (omega arith) in
    record {
      behind = omega (arith, c.close_ticket-left.ensures.count);
      stay =
          c.close_ticket-left.ensures.stay
          ∙ ap₂ (λ (ts : List Ticket) (t : Ticket). ts ++ still_live game (paid_ticket args.house.now.day game cents t ∷ [])) turn.invariant.stay here
          ∙ closed_more args.house.now.day game args.rows.now args.marks.now args.awards.now turn.i;
      rest =
          c.close_ticket-left.ensures.rest
          ∙ rest_untouched args.rows.now args.marks.now turn.rows turn.marks turn.i turn.invariant.rest;
    }

pub returns-clause-stay : goal.returns-clause-stay
unfolding view
returns-clause-stay c figures held =
    let args = c.args in
    let house = args.house.now in
    let done : c.loop-i.i ≡ house.live = omega arith in
    c.loop-i.invariant.stay
    ∙ ap (closed_up house.day (house.game + 1) args.rows.now args.marks.now args.awards.now) done
    ∙ closed_all house.day house.game args.rows.now args.marks.now args.awards.now figures house.live held
