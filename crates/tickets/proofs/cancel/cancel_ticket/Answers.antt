-- `tickets::cancel::cancel_ticket` meets its contract: the refusals are the table's rows in their order, and a cancelled ticket is the found one
-- with its games cut off, whose refund a reached house has room for.
use Prim.Native.Nat.{ℕ, ◌+◌, ◌^◌, ◌≤◌, ◌<◌, min, max}
use native.Mathlib.Omega.{arith}
use mathlib.Core.Path.{◌≡◌, sym, ap, ap₂, ◌∙◌, subst, subst⁻¹}
use mathlib.Core.Bool.{not}
use mathlib.Core.List.{List}
use lib.Dec.{eqb}
use lib.ListN.{take}
use Rattle.sale.specs.Price.{charge_limit}
use Rattle.sale.specs.Checks.{first_met}
use Rattle.house.specs.Tickets.{Ticket, paid_stakes, with_stop}
use Rattle.house.specs.Model.{with_refunded}
use Rattle.house.specs.Commands.{changed, still_live, finished_on, cancel_stop, cancelled_ticket, cancel, rows_of, code_of, refund_of, cancelled, act, reply}
use Rattle.house.specs.Till.{till_of}
use Rattle.house.specs.View.{marks_at, ticket_from, tickets_of, PaidWithin, view}
use Rattle.tickets.specs.Steps.{cancel_rows, replaced}
use Rattle.tickets.specs.declared.lookup.Found.{Found}
use Rattle.house.specs.declared.state.House.{House}
use Rattle.house.proofs.Ledger.{Kept, with_live}
use Rattle.house.proofs.Refusals.{cancel_accepted}
use Rattle.house.proofs.Bounded.{span_paid_within}
use Rattle.house.proofs.ReachedHouses.{reached_sure}
use Rattle.house.proofs.ViewLaws.{refused_as, carried_done, view_drawing, view_by}
use Rattle.tickets.proofs.FoundTickets.{FoundTicket, found_in, look_up_refused, found_few, found_rest, found_within, found_ticket, found_holds, found_changed}
use Rattle.tickets.proofs.cancel.cancel_ticket.Goals as goal
use Rattle.tickets.proofs.cancel.cancel_ticket.Goals.{After-max-stop}

-- ---- a cancellation in the model
-- the house after it
abbrev paid_back : House → ℕ → ℕ → House
paid_back h live cents =
    record {
      day = h.day;
      game = h.game;
      balls = h.balls;
      drawn = h.drawn;
      issued = h.issued;
      live = live;
      six = h.six;
      eight = h.eight;
      counters = with_refunded cents h.counters;
    }

-- a ticket that was found, and where Cancel cuts off its games
record Stopped (h : House) (words marks : List ℕ) (n : ℕ) (found : Found) (stop : ℕ) : Type 0 where
  here : FoundTicket h words marks n found
  stopped : stop ≡ cancel_stop (view h words marks) (found_in found marks)

module _ {h : House} {words marks : List ℕ} {n : ℕ} {found : Found} {stop : ℕ} (at : Stopped h words marks n found stop) where
  -- the table's other rows are those of the row that was found, with any marks
  cancel_code :
      (code : ℕ)
      → ((ms : List ℕ) → code ≡ first_met (cancel_rows h.day h.game (not (eqb h.drawn 0)) stop (ticket_from found.row ms)))
      → code_of (view h words marks) (cancel n) ≡ code
  unfolding code_of rows_of view
  cancel_code code told =
      found_rest at.here _
      ∙ ap₂ (λ drawing t. first_met (cancel_rows h.day h.game drawing (cancel_stop (view h words marks) t) t)) (view_drawing h words marks) (found_ticket at.here)
      ∙ ap (λ stop. first_met (cancel_rows h.day h.game (not (eqb h.drawn 0)) stop (found_in found marks))) (sym at.stopped)
      ∙ sym (told (marks_at marks found.place))

  module _ (passed : code_of (view h words marks) (cancel n) ≡ 0) where
    some : stop < found.row.stop
    some =
        subst⁻¹ (λ stop. stop < found.row.stop) at.stopped
        (subst (λ t. cancel_stop (view h words marks) t < t.stop) (found_ticket at.here) (cancel_accepted (view h words marks) n passed).some)

    refund_within : paid_stakes stop found.row.stop (found_in found marks) ≤ charge_limit
    unfolding view
    refund_within =
        span_paid_within h.game stop found.row.stop (found_in found marks) (found_holds at.here (Kept h.game) at.here.sure.kept) (omega (arith, some, at.stopped))

    refund_fits : PaidWithin stop found.row.stop found.row
    unfolding paid_stakes
    refund_fits = record { within = refund_within }

    room : (cents : ℕ) → ((ms : List ℕ) → cents ≡ paid_stakes stop found.row.stop (ticket_from found.row ms)) → h.counters.refunded + cents < 2 ^ 63
    unfolding till_of view
    room cents told =
        let refunded : h.counters.refunded < 2 ^ 62 = at.here.sure.fit.figures.refunded in
        omega (arith, refund_within, told (marks_at marks found.place))

    -- what is paid back, and the ticket as Cancel leaves it
    refunded : refund_of n (view h words marks) ≡ paid_stakes stop found.row.stop (found_in found marks)
    unfolding refund_of
    refunded =
        ap (λ t. paid_stakes (cancel_stop (view h words marks) t) t.stop t) (found_ticket at.here)
        ∙ ap (λ stop. paid_stakes stop found.row.stop (found_in found marks)) (sym at.stopped)

    cut_off : cancelled_ticket (view h words marks) (found_in found marks) ≡ finished_on h.day h.game (with_stop (found_in found marks) stop)
    unfolding view
    cut_off =
        ap (λ stop. finished_on h.day h.game (with_stop (found_in found marks) (min found.row.stop stop))) (sym at.stopped)
        ∙ ap (λ stop. finished_on h.day h.game (with_stop (found_in found marks) stop)) (omega (arith, some))

    model_cancelled :
        (live : ℕ) (words' marks' : List ℕ)
        → live ≤ h.live
        → take live (tickets_of words' marks') ≡ replaced h.game found.place (finished_on h.day h.game (with_stop (found_in found marks) stop)) (take h.live (tickets_of words marks))
        → view (paid_back h live (paid_stakes stop found.row.stop (found_in found marks))) words' marks' ≡ act (view h words marks) (cancel n)
    unfolding act cancelled view
    model_cancelled live words' marks' fewer made =
        let tickets : List Ticket = still_live h.game (changed n (cancelled_ticket (view h words marks)) (view h words marks).live) in
        let cents : ℕ = paid_stakes stop found.row.stop (found_in found marks) in
        view_by (paid_back h live cents) words' marks' tickets
        (found_changed at.here (cancelled_ticket (view h words marks)) (paid_back h live cents) words' marks' fewer
        (made ∙ ap (λ t. replaced h.game found.place t (take h.live (tickets_of words marks))) (sym cut_off)))
        ∙ ap (λ cents. with_live (view (paid_back h live cents) words' marks') tickets) (sym refunded)

-- ---- at the places of the code

-- the ticket is found, and where its games are cut off
stopped : (c : After-max-stop) → Stopped c.args.house.now c.args.rows.now c.args.marks.now c.args.ticket c.in_ok-found.found c.max-stop.result
stopped c =
    let marks = c.args.marks.now in
    let told = c.in_ok-found.ensures in
    record {
      here = record { sure = reached_sure _ c.requires; passed = sym (told.code marks); placed = told.place marks; ticket = told.row marks };
      stopped = c.max-stop.ensures ∙ ap (max c.in_ok-found.found.row.first) (c.first_game.ensures c.args.rows.now marks);
    }

pub returns-in_err-found : goal.returns-in_err-found
unfolding code_of rows_of
returns-in_err-found c =
    let args = c.args in
    refused_as args.house.now args.rows.now args.marks.now (cancel args.ticket) _ _ c.from_residual.ensures.1
    (sym (look_up_refused args.house.now args.rows.now args.marks.now args.ticket _ (c.in_err-found.ensures.code args.marks.now) _))

pub first_game-requires : goal.first_game-requires
unfolding view
first_game-requires c = record { within = (reached_sure _ c.requires).game }

pub returns-in_err-check_cancel : goal.returns-in_err-check_cancel
returns-in_err-check_cancel c =
    let args = c.args in
    refused_as args.house.now args.rows.now args.marks.now (cancel args.ticket) _ _ c.from_residual-in_err-check_cancel.ensures.1
    (sym (cancel_code (stopped (goal.at.returns-in_err-check_cancel c).After-max-stop) _ c.in_err-check_cancel.ensures))

pub paid_stakes-cents-requires : goal.paid_stakes-cents-requires
paid_stakes-cents-requires c =
    let at = stopped (goal.at.paid_stakes-cents-requires c).After-max-stop in
    refund_fits at (cancel_code at _ c.in_ok-check_cancel.ensures)

pub replace_ticket-house-requires : goal.replace_ticket-house-requires
replace_ticket-house-requires c =
    let found = (stopped (goal.at.replace_ticket-house-requires c).After-max-stop).here in
    record { within = found_within found; few = found_few found }

pub overflow_add-house : goal.overflow_add-house
overflow_add-house c =
    let at = stopped (goal.at.overflow_add-house c).After-max-stop in
    omega (arith, room at (cancel_code at _ c.in_ok-check_cancel.ensures) _ c.paid_stakes-cents.ensures)

pub returns : goal.returns
unfolding reply
returns c =
    let args = c.args in
    let marks = args.marks.now in
    let found = c.in_ok-found.found in
    let after = c.replace_ticket-house in
    let at = stopped (goal.at.returns c).After-max-stop in
    let passed = cancel_code at _ c.in_ok-check_cancel.ensures in
    let paid = c.paid_stakes-cents.ensures (marks_at marks found.place) in
    carried_done args.house.now args.rows.now marks (cancel args.ticket) _ _ _ _ passed
    (ap (λ cents. view (paid_back args.house.now after.result cents) after.new.rows after.new.marks) paid
    ∙ model_cancelled at passed after.result after.new.rows after.new.marks after.ensures.fewer
    (after.ensures.tickets
    ∙ ap (λ t. replaced args.house.now.game found.place t (take args.house.now.live (tickets_of args.rows.now marks))) (c.cancelled_row-cancelled.ensures (marks_at marks found.place))))
    (ap (λ cents. record { code = 0; number = args.ticket; cents = cents }) (paid ∙ sym (refunded at passed)))
