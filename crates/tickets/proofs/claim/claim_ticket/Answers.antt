-- `tickets::claim::claim_ticket` meets its contract: the refusals are the table's rows in their order, and a claim removes the ticket, which with
-- nothing due is finished and so closed.
use Prim.Native.Nat.{ℕ, ◌-◌}
use native.Mathlib.Omega.{arith}
use mathlib.Core.Path.{◌≡◌, sym, ap, ◌∙◌}
use mathlib.Core.Bool.{true, false}
use mathlib.Core.List.{List}
use lib.ListN.{take}
use Rattle.sale.specs.Checks.{first_met}
use Rattle.house.specs.Tickets.{Ticket, games_left, is_finished, is_live, with_due}
use Rattle.house.specs.Model.{with_paid}
use Rattle.house.specs.Commands.{ticket_at, changed, still_live, claim, rows_of, code_of, claimed, act, reply}
use Rattle.house.specs.View.{marks_at, ticket_from, tickets_of, without, view}
use Rattle.tickets.specs.Steps.{claim_rows}
use Rattle.tickets.specs.declared.lookup.Found.{Found}
use Rattle.house.specs.declared.state.House.{House}
use Rattle.house.proofs.Ledger.{with_live}
use Rattle.house.proofs.Refusals.{claim_accepted}
use Rattle.house.proofs.ReachedHouses.{reached_sure}
use Rattle.house.proofs.ViewLaws.{refused_as, carried_done, view_by}
use Rattle.tickets.proofs.FoundTickets.{FoundTicket, found_in, look_up_refused, found_few, found_rest, found_within, found_ticket, found_payable, found_changed}
use Rattle.tickets.proofs.claim.claim_ticket.Goals as goal
use Rattle.tickets.proofs.claim.claim_ticket.Goals.{In_ok-found}

-- ---- a claim in the model
-- a finished ticket with nothing due is closed
paid_closed : (game : ℕ) (t : Ticket) → is_finished game t ≡ true → is_live game (with_due t 0) ≡ false
unfolding games_left
paid_closed game t finished = rw finished

-- the house after a claim
abbrev paid_out : House → ℕ → House
paid_out h due =
    record {
      day = h.day;
      game = h.game;
      balls = h.balls;
      drawn = h.drawn;
      issued = h.issued;
      live = h.live - 1;
      six = h.six;
      eight = h.eight;
      counters = with_paid due h.counters;
    }

module _ {h : House} {words marks : List ℕ} {n : ℕ} {found : Found} (here : FoundTicket h words marks n found) where
  -- the table's other rows are those of the row that was found, with any marks
  claim_code :
      (code : ℕ)
      → ((ms : List ℕ) → code ≡ first_met (claim_rows h.game (ticket_from found.row ms)))
      → code_of (view h words marks) (claim n) ≡ code
  unfolding code_of rows_of view
  claim_code code told =
      found_rest here (claim_rows h.game (ticket_at n (view h words marks).live))
      ∙ ap (λ t. first_met (claim_rows h.game t)) (found_ticket here)
      ∙ sym (told (marks_at marks found.place))

  model_claimed :
      (words' marks' : List ℕ)
      → code_of (view h words marks) (claim n) ≡ 0
      → take (h.live - 1) (tickets_of words' marks') ≡ without found.place (take h.live (tickets_of words marks))
      → view (paid_out h (found_in found marks).due) words' marks' ≡ act (view h words marks) (claim n)
  unfolding act claimed view
  model_claimed words' marks' passed moved =
      let finished : is_finished h.game (found_in found marks) ≡ true =
      ap (is_finished h.game) (sym (found_ticket here)) ∙ (claim_accepted (view h words marks) n passed).finished in
      let live : List Ticket = still_live h.game (changed n (λ t. with_due t 0) (view h words marks).live) in
      view_by (paid_out h (found_in found marks).due) words' marks' live
      (found_changed here (λ t. with_due t 0) (paid_out h (found_in found marks).due) words' marks' (omega arith)
      (rw (paid_closed h.game (found_in found marks) finished) moved))
      ∙ ap (λ t. with_live (view (paid_out h t.due) words' marks') live) (sym (found_ticket here))

-- ---- at the places of the code

-- the ticket is found
here : (c : In_ok-found) → FoundTicket c.args.house.now c.args.rows.now c.args.marks.now c.args.ticket c.in_ok-found.found
here c =
    let marks = c.args.marks.now in
    let told = c.in_ok-found.ensures in
    record { sure = reached_sure _ c.requires; passed = sym (told.code marks); placed = told.place marks; ticket = told.row marks }

pub returns-in_err-found : goal.returns-in_err-found
unfolding code_of rows_of
returns-in_err-found c =
    let args = c.args in
    refused_as args.house.now args.rows.now args.marks.now (claim args.ticket) _ _ c.from_residual.ensures.1
    (sym (look_up_refused args.house.now args.rows.now args.marks.now args.ticket _ (c.in_err-found.ensures.code args.marks.now) _))

pub returns-in_err-check_claim : goal.returns-in_err-check_claim
returns-in_err-check_claim c =
    let args = c.args in
    refused_as args.house.now args.rows.now args.marks.now (claim args.ticket) _ _ c.from_residual-in_err-check_claim.ensures.1
    (sym (claim_code (here (goal.at.returns-in_err-check_claim c).In_ok-found) _ c.in_err-check_claim.ensures))

pub remove_ticket-requires : goal.remove_ticket-requires
remove_ticket-requires c =
    let found = here (goal.at.remove_ticket-requires c).In_ok-found in
    record { within = found_within found; few = found_few found }

pub overflow_sub-house : goal.overflow_sub-house
overflow_sub-house c = omega (arith, found_within (here (goal.at.overflow_sub-house c).In_ok-found))

pub overflow_add-house : goal.overflow_add-house
overflow_add-house c = omega (arith, found_payable (here (goal.at.overflow_add-house c).In_ok-found))

pub returns : goal.returns
unfolding reply
returns c =
    let args = c.args in
    let found = here (goal.at.returns c).In_ok-found in
    let passed = claim_code found _ c.in_ok-check_claim.ensures in
    carried_done args.house.now args.rows.now args.marks.now (claim args.ticket) _ _ _ _ passed
    (model_claimed found _ _ passed c.remove_ticket.ensures)
    (ap (λ t. record { code = 0; number = args.ticket; cents = t.due }) (sym (found_ticket found)))
