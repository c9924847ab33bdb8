-- `tickets::collect::collect_ticket` meets its contract: the refusals are the table's rows in their order; a collected ticket closes in its place, and
-- the same row with another number and nothing due stands behind the others.
use Prim.Native.Nat.{ℕ, ◌+◌}
use native.Mathlib.Omega.{arith}
use mathlib.Core.Path.{◌≡◌, sym, ap, ap₂, ◌∙◌}
use mathlib.Core.Bool.{false}
use mathlib.Core.List.{List, [], ◌∷◌, ◌++◌}
use lib.ListN.{take}
use Rattle.sale.specs.Checks.{first_met}
use Rattle.house.specs.Tickets.{Ticket, is_live}
use Rattle.house.specs.Model.{Model, with_paid}
use Rattle.house.specs.Commands.{ticket_at, changed, still_live, collect, collected_ticket, reissued_ticket, collected, rows_of, code_of, act, reply, answer_of, replies}
use Rattle.house.specs.View.{marks_at, ticket_from, tickets_of, without, view}
use Rattle.tickets.specs.Steps.{collect_rows}
use Rattle.tickets.specs.declared.lookup.Found.{Found}
use Rattle.house.specs.declared.state.House.{House}
use Rattle.house.proofs.Ledger.{with_live}
use Rattle.house.proofs.LiveTickets.{not_live, collected_closed}
use Rattle.house.proofs.ReachedHouses.{reached_sure}
use Rattle.house.proofs.ViewLaws.{refused_as, carried_done, view_live, view_by}
use Rattle.tickets.proofs.FoundTickets.{FoundTicket, found_in, look_up_refused, found_few, found_rest, found_within, found_ticket, found_payable, found_closes}
use Rattle.tickets.proofs.collect.collect_ticket.Goals as goal
use Rattle.tickets.proofs.collect.collect_ticket.Goals.{In_ok-found}

-- ---- a collection in the model

-- the struct after it: as many tickets are live as before
abbrev paid_on : House → ℕ → House
paid_on h due =
    record { day = h.day; game = h.game; balls = h.balls; drawn = h.drawn; issued = h.issued + 1; live = h.live; six = h.six; eight = h.eight; counters = with_paid due h.counters }

module _ {h : House} {words marks : List ℕ} {n : ℕ} {found : Found} (here : FoundTicket h words marks n found) where
  abbrev before : Model
  before = view h words marks

  -- the table's other rows are those of the row that was found, with any marks
  collect_code :
      (code : ℕ)
      → ((ms : List ℕ) → code ≡ first_met (collect_rows h.game h.issued (ticket_from found.row ms)))
      → code_of before (collect n) ≡ code
  unfolding code_of rows_of view
  collect_code code told =
      found_rest here (collect_rows h.game h.issued (ticket_at n before.live))
      ∙ ap (λ t. first_met (collect_rows h.game h.issued t)) (found_ticket here)
      ∙ sym (told (marks_at marks found.place))

  model_collected :
      (words' marks' : List ℕ)
      → take h.live (tickets_of words' marks')
      ≡ without found.place (take h.live (tickets_of words marks)) ++ (reissued_ticket before (found_in found marks) ∷ [])
      → view (paid_on h (found_in found marks).due) words' marks' ≡ act before (collect n)
  unfolding act collected view
  model_collected words' marks' moved =
      let old : Ticket = found_in found marks in
      let closes : is_live h.game (collected_ticket before old) ≡ false = not_live h.game (collected_ticket before old) (collected_closed before old) in
      let live : List Ticket = still_live h.game (changed n (collected_ticket before) before.live) ++ (reissued_ticket before (ticket_at n before.live) ∷ []) in
      view_by (paid_on h old.due) words' marks' live
      (view_live (paid_on h old.due) words' marks' (found_few here)
      ∙ moved
      ∙ ap₂ (λ ts t. ts ++ (reissued_ticket before t ∷ [])) (sym (found_closes here (collected_ticket before) closes)) (sym (found_ticket here)))
      ∙ ap (λ t. with_live (view (paid_on h t.due) words' marks') live) (sym (found_ticket here))

-- ---- at the places of the code

-- the ticket is found
here : (c : In_ok-found) → FoundTicket c.args.house.now c.args.rows.now c.args.marks.now c.args.ticket c.in_ok-found.found
here c =
    let marks = c.args.marks.now in
    let told = c.in_ok-found.ensures in
    record { sure = reached_sure _ c.requires; passed = sym (told.code marks); placed = told.place marks; ticket = told.row marks }

pub returns-in_err-found : goal.returns-in_err-found
unfolding code_of rows_of
returns-in_err-found c =
    let args = c.args in
    refused_as args.house.now args.rows.now args.marks.now (collect args.ticket) _ _ c.from_residual.ensures.1
    (sym (look_up_refused args.house.now args.rows.now args.marks.now args.ticket _ (c.in_err-found.ensures.code args.marks.now) _))

pub returns-in_err-check_collect : goal.returns-in_err-check_collect
returns-in_err-check_collect c =
    let args = c.args in
    refused_as args.house.now args.rows.now args.marks.now (collect args.ticket) _ _ c.from_residual-in_err-check_collect.ensures.1
    (sym (collect_code (here (goal.at.returns-in_err-check_collect c).In_ok-found) _ c.in_err-check_collect.ensures))

pub overflow_add-number : goal.overflow_add-number
unfolding view
overflow_add-number c = omega (arith, (reached_sure _ c.requires).issued)

pub reissue_ticket-requires : goal.reissue_ticket-requires
reissue_ticket-requires c =
    let found = here (goal.at.reissue_ticket-requires c).In_ok-found in
    record { within = found_within found; few = found_few found }

pub overflow_add-house : goal.overflow_add-house
overflow_add-house c = omega (arith, found_payable (here (goal.at.overflow_add-house c).In_ok-found))

pub overflow_cast-result : goal.overflow_cast-result
unfolding view
overflow_cast-result c = omega (arith, (reached_sure _ c.requires).issued)

pub returns : goal.returns
unfolding reply view
returns c =
    let args = c.args in
    let found = here (goal.at.returns c).In_ok-found in
    carried_done args.house.now args.rows.now args.marks.now (collect args.ticket) _ _ _ _
    (collect_code found _ c.in_ok-check_collect.ensures)
    (model_collected found _ _ c.reissue_ticket.ensures)
    (ap (λ t. answer_of (replies (args.house.now.issued + 1) t.due)) (sym (found_ticket found)))
