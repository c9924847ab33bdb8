-- `draw::game_end::close_ticket` meets its contract: a ticket that stays is stored at its new place, with the marks that it had.
use Prim.Native.Nat.{ℕ, ◌+◌, ◌≤◌, ◌<◌}
use native.Mathlib.Omega.{arith}
use mathlib.Core.Path.{◌≡◌, sym, ap, ◌∙◌}
use mathlib.Core.Bool.{Bool, true, false, not}
use mathlib.Core.List.{List, [], ◌∷◌, ◌++◌}
use lib.ListN.{length, take, drop, set, get_or}
use lib.Seq.{set-set}
use Rattle.house.specs.Tickets.{Ticket, is_live}
use Rattle.house.specs.Commands.{blank_ticket, still_live}
use Rattle.draw.specs.Closing.{paid_ticket}
use Rattle.house.specs.View.{row_at, marks_at, ticket_from, ticket_in, tickets_of}
use Rattle.house.specs.declared.rows.Row.{Row}
use Rattle.house.proofs.RowLaws.{tickets_at, tickets_length}
use Rattle.draw.proofs.ClosingLaws.{closed_stays, live_stays, rest_stays, moved_ticket}
use borrow.Author.Tests.{not-true, not-false}
use Rattle.draw.proofs.game_end.close_ticket.Goals as goal

-- the ticket at hand is at place `i` of the tickets as they were
module _ (words marks : List ℕ) (i left : ℕ) (behind : left ≤ i) (within : i < 200) where
  abbrev before : List Ticket
  before = tickets_of words marks

  long : i < length before
  long = omega (arith, tickets_length words marks)

  -- the row that is read at the new place is the ticket's, before it is paid
  moved_here : (words' marks' : List ℕ) (row : Row)
      → tickets_of words' marks' ≡ set before left (get_or before i blank_ticket)
      → row ≡ row_at words' left
      → ticket_from row (marks_at marks' left) ≡ ticket_in words marks i
  moved_here words' marks' row moved e =
      ap (λ (r : Row). ticket_from r (marks_at marks' left)) e ∙ moved_ticket words marks words' marks' i left within (omega arith) moved

  -- the tickets with the row that is stored there
  stored : (words' marks' words'' : List ℕ) (row : Row) (t : Ticket)
      → tickets_of words' marks' ≡ set before left (get_or before i blank_ticket)
      → tickets_of words'' marks' ≡ set (tickets_of words' marks') left (ticket_from row (marks_at marks' left))
      → ticket_from row (marks_at marks' left) ≡ t
      → tickets_of words'' marks' ≡ set before left t
  stored words' marks' words'' row t moved changed e =
      changed
      ∙ ap (λ (ts : List Ticket). set ts left (ticket_from row (marks_at marks' left))) moved
      ∙ set-set before left _ _
      ∙ ap (set before left) e

  module _ (day game cents : ℕ) where
    abbrev paid : Ticket
    paid = paid_ticket day game cents (ticket_in words marks i)

    -- a ticket that is the same once it is paid need not be stored again
    same_stays : (words' marks' : List ℕ) (t : Ticket)
        → tickets_of words' marks' ≡ set before left (get_or before i blank_ticket)
        → t ≡ ticket_in words marks i
        → paid_ticket day game cents t ≡ t
        → tickets_of words' marks' ≡ set before left paid
    same_stays words' marks' t moved here same =
        moved ∙ ap (set before left) (tickets_at words marks i within ∙ sym here ∙ sym same ∙ ap (paid_ticket day game cents) here)

    -- what is found of the row that was read says whether the ticket closes
    module _ (row : Row) (found : Bool) (read : row ≡ row_at words i)
        (answered : (m : List ℕ) → found ≡ not (is_live game (paid_ticket day game cents (ticket_from row m)))) where
      found_here : not (is_live game paid) ≡ found
      found_here =
          ap (λ (r : Row). not (is_live game (paid_ticket day game cents (ticket_from r (marks_at marks i))))) (sym read)
          ∙ sym (answered (marks_at marks i))

      closes : found ≡ true → take left before ≡ take left before ++ still_live game (paid ∷ [])
      closes e = closed_stays before left i behind long game paid (not-true _ (found_here ∙ e))

      stays : found ≡ false → take (left + 1) (set before left paid) ≡ take left before ++ still_live game (paid ∷ [])
      stays e = live_stays before left i behind long game paid (not-false _ (found_here ∙ e))

pub returns-then-closes-clause-stay : goal.returns-then-closes-clause-stay
returns-then-closes-clause-stay c =
    let args = c.args in
    closes args.rows.now args.marks.now args.i args.left c.requires.0 c.requires.1 args.payment.day args.payment.game args.payment.cents
    c.read_row-row.result c.closes.result c.read_row-row.ensures c.closes.ensures c.if-closes.true

pub returns-then-changes_nothing-clause-stay : goal.returns-then-changes_nothing-clause-stay
returns-then-changes_nothing-clause-stay c =
    let args = c.args in
    let words = c.move_ticket.new.rows in
    let marks = c.move_ticket.new.marks in
    let own = marks_at marks args.left in
    let here =
    moved_here args.rows.now args.marks.now args.i args.left c.requires.0 c.requires.1 words marks c.read_row-moved.result
    c.move_ticket.ensures c.read_row-moved.ensures in
    ap (take (args.left + 1))
    (same_stays args.rows.now args.marks.now args.i args.left c.requires.0 c.requires.1 args.payment.day args.payment.game args.payment.cents words marks
    (ticket_from c.read_row-moved.result own) c.move_ticket.ensures here (c.changes_nothing.ensures c.if-changes_nothing.true own))
    ∙ stays args.rows.now args.marks.now args.i args.left c.requires.0 c.requires.1 args.payment.day args.payment.game args.payment.cents
    c.read_row-row.result c.closes.result c.read_row-row.ensures c.closes.ensures c.if-closes.false

pub paid-requires : goal.paid-requires
paid-requires c =
    let args = c.args in
    let here =
    moved_here args.rows.now args.marks.now args.i args.left c.requires.0 c.requires.1 c.move_ticket.new.rows c.move_ticket.new.marks
    c.read_row-moved.result c.move_ticket.ensures c.read_row-moved.ensures in
    omega (arith, c.requires, ap (λ (t : Ticket). t.due) here)

-- the tickets at the end: the paid one stands at its new place
at_end : (c : goal.After-change_ticket) →
    let args = c.args in
    tickets_of c.change_ticket.new.rows c.move_ticket.new.marks
    ≡ set (tickets_of args.rows.now args.marks.now) args.left
    (paid_ticket args.payment.day args.payment.game args.payment.cents (ticket_in args.rows.now args.marks.now args.i))
at_end c =
    let args = c.args in
    let words = c.move_ticket.new.rows in
    let marks = c.move_ticket.new.marks in
    let here =
    moved_here args.rows.now args.marks.now args.i args.left c.requires.0 c.requires.1 words marks c.read_row-moved.result
    c.move_ticket.ensures c.read_row-moved.ensures in
    stored args.rows.now args.marks.now args.i args.left c.requires.0 c.requires.1 words marks c.change_ticket.new.rows c.paid.result
    _ c.move_ticket.ensures (c.change_ticket.ensures marks)
    (c.paid.ensures (marks_at marks args.left) ∙ ap (paid_ticket args.payment.day args.payment.game args.payment.cents) here)

pub returns-clause-stay : goal.returns-clause-stay
returns-clause-stay c =
    let args = c.args in
    ap (take (args.left + 1)) (at_end c)
    ∙ stays args.rows.now args.marks.now args.i args.left c.requires.0 c.requires.1 args.payment.day args.payment.game args.payment.cents
    c.read_row-row.result c.closes.result c.read_row-row.ensures c.closes.ensures c.if-closes.false

pub returns-clause-rest : goal.returns-clause-rest
returns-clause-rest c =
    let args = c.args in
    ap (drop (args.i + 1)) (at_end c)
    ∙ rest_stays (tickets_of args.rows.now args.marks.now) args.left args.i c.requires.0
    (long args.rows.now args.marks.now args.i args.left c.requires.0 c.requires.1) args.payment.game _
