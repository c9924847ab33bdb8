-- `tickets::cancel::replace_ticket` meets its contract: a closed row is removed, and another stored in its place.
use mathlib.Core.Path.{◌≡◌, sym, ap, ◌∙◌}
use mathlib.Core.Bool.{true}
use lib.ListN.{take}
use borrow.Author.Tests.{not-false}
use Rattle.house.specs.Tickets.{is_live}
use Rattle.house.specs.View.{marks_at, ticket_from, tickets_of}
use Rattle.house.proofs.RowLaws.{take_set}
use Rattle.tickets.proofs.cancel.replace_ticket.Goals as goal

pub returns-clause-tickets : goal.returns-clause-tickets
returns-clause-tickets c =
    let args = c.args in
    let marks = args.marks.now in
    let ticket = ticket_from args.row (marks_at marks args.place) in
    let stays : is_live args.house.now.game ticket ≡ true = not-false _ (sym (c.is_closed.ensures (marks_at marks args.place)) ∙ c.if-is_closed.false) in
    rw stays (ap (take args.house.now.live) (c.change_ticket.ensures marks) ∙ take_set args.house.now.live (tickets_of args.rows.now marks) args.place ticket c.requires.within)
