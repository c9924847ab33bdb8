-- `tickets::expire::drop_expired` meets its contract: the tickets passed so far are those that stay, and the rest are as they were.
use Prim.Native.Nat.{ℕ, ◌<◌, ◌^◌}
use mathlib.Core.Path.{◌≡◌, sym, ap, ◌∙◌, subst, subst⁻¹}
use mathlib.Core.Bool.{Bool}
use mathlib.Core.List.{List, map}
use native.Mathlib.Omega.{arith}
use lib.ListN.{length, get_or, take}
use Rattle.sale.specs.Lists.{sum}
use Rattle.house.specs.Tickets.{Ticket}
use Rattle.house.specs.Commands.{blank_ticket, is_expired}
use Rattle.house.specs.View.{marks_at, ticket_from, tickets_of, view, DayTells}
use Rattle.house.specs.declared.rows.Row.{Row}
use Rattle.house.proofs.RowLaws.{tickets_length, tickets_at}
use Rattle.house.proofs.ViewLaws.{view_live}
use Rattle.tickets.proofs.ExpireLaws.{Passed, passed_none, passed_gone, passed_stays, passed_fits, next_same, passed_swept}
use Rattle.tickets.proofs.expire.drop_expired.Goals as goal
use Rattle.tickets.proofs.expire.drop_expired.Goals.{After-is_expired, then-is_expired, else-is_expired}

-- ---- a turn of the loop

abbrev expires : After-is_expired → Ticket → Bool
expires c = is_expired (view c.args.house.now c.args.rows.now c.args.marks.now)

abbrev entry : After-is_expired → List Ticket
entry c = tickets_of c.args.rows.now c.args.marks.now

-- the ticket of the turn
abbrev next : After-is_expired → Ticket
next c = get_or (entry c) c.loop-i.i blank_ticket

inside : (c : After-is_expired) → c.loop-i.i < length (entry c)
inside c = omega (arith, c.loop-i-test.true, c.requires.live_bound.0, tickets_length c.args.rows.now c.args.marks.now)

-- its row and its marks are as they were, and the test is of it
as_it_was : (c : After-is_expired) → ticket_from c.read_row-row.result (marks_at c.loop-i.marks c.loop-i.i) ≡ next c
as_it_was c =
    ap (λ (w : Row). ticket_from w (marks_at c.loop-i.marks c.loop-i.i)) c.read_row-row.ensures
    ∙ sym (tickets_at c.loop-i.rows c.loop-i.marks c.loop-i.i (omega (arith, c.loop-i-test.true, c.requires.live_bound.0)))
    ∙ next_same (expires c) (entry c) (tickets_of c.loop-i.rows c.loop-i.marks) c.loop-i.i c.loop-i.left c.loop-i.cents c.loop-i.invariant (inside c)

tested : (c : After-is_expired) → c.is_expired.result ≡ expires c (next c)
unfolding view
tested c =
    let args = c.args in
    let i = c.loop-i.i in
    let own : List ℕ = marks_at c.loop-i.marks i in
    let tells : DayTells args.house.now.game (ticket_from c.read_row-row.result own) =
    subst⁻¹ (DayTells args.house.now.game) (as_it_was c ∙ tickets_at args.rows.now args.marks.now i (omega (arith, c.loop-i-test.true, c.requires.live_bound.0))) (c.requires.days i c.loop-i-test.true) in
    c.is_expired.ensures (view args.house.now args.rows.now args.marks.now) own tells c.expiry_bound-bound.ensures ∙ ap (expires c) (as_it_was c)

due_read : (c : After-is_expired) → c.read_row-row.result.due ≡ (next c).due
due_read c = ap (λ (t : Ticket). t.due) (as_it_was c)

-- what the tickets' dues come to at entry
dues_within : (c : After-is_expired) → sum (map (λ t. t.due) (take c.args.house.now.live (entry c))) < 2 ^ 62
dues_within c =
    subst (λ (ts : List Ticket). sum (map (λ t. t.due) ts) < 2 ^ 62) (view_live c.args.house.now c.args.rows.now c.args.marks.now c.requires.live_bound.0) c.requires.live_bound.1

-- ---- at the places of the code

pub loop-i-init : goal.loop-i-init
loop-i-init c = passed_none _ _

pub overflow_add-cents : goal.overflow_add-cents
overflow_add-cents c =
    let at = (goal.at.overflow_add-cents c).After-is_expired in
    let l = c.loop-i in
    omega (
      arith,
      due_read at,
      passed_fits (expires at) (entry at) (tickets_of l.rows l.marks) l.i l.left l.cents l.invariant (inside at) c.args.house.now.live (sym (tested at) ∙ c.if-is_expired.true) c.loop-i-test.true,
      dues_within at,
    )

pub loop-i-preserved : goal.loop-i-preserved
loop-i-preserved c =
    let at = (goal.at.loop-i-preserved c).After-is_expired in
    let l = c.loop-i in
    let now = tickets_of l.rows l.marks in
    elim c.if-is_expired.branch [
      | then-is_expired w ↦ rw (w.rows-is, w.marks-is, w.left-is, w.cents-is, due_read at)
          (passed_gone (expires at) (entry at) now l.i l.left l.cents l.invariant (inside at) (sym (tested at) ∙ w.if-is_expired.true))
      | else-is_expired w ↦ rw (w.rows-is, w.marks-is, w.left-is, w.cents-is)
          (passed_stays (expires at) (entry at) now l.i l.left l.cents l.invariant (inside at) (tickets_of w.move_ticket.new.rows w.move_ticket.new.marks)
          (sym (tested at) ∙ w.if-is_expired.false)
          (omega (arith, l.invariant.behind, c.loop-i-test.true, c.requires.live_bound.0, tickets_length l.rows l.marks))
          w.move_ticket.ensures)
    ]

pub returns : goal.returns
returns c =
    let args = c.args in
    let l = c.loop-i in
    let done : l.i ≡ args.house.now.live = omega (arith, l.auto.i-end, c.loop-i-test.false) in
    passed_swept args.house.now args.rows.now args.marks.now l.rows l.marks l.left l.cents c.requires.live_bound.0
    (subst (λ i. Passed (is_expired (view args.house.now args.rows.now args.marks.now)) (tickets_of args.rows.now args.marks.now) (tickets_of l.rows l.marks) i l.left l.cents) done l.invariant)
