-- The ticket that Cancel, Claim and Collect find: what the table's first rows say of its number, its place among the live ones and its row, what the rest
-- of the command's table then says, and the live tickets once it is changed or closed.
use Prim.Native.Nat.{ℕ, ◌+◌, ◌^◌, ◌≤◌, ◌<◌}
use native.Mathlib.Omega.{arith}
use mathlib.Core.Path.{◌≡◌, refl, sym, ap, ◌∙◌, ap₂, subst, subst⁻¹}
use mathlib.Core.Bool.{Bool, true, false, cond, not, ◌||◌}
use mathlib.Core.List.{List, ◌++◌}
use lib.Dec.{eqb, ltb}
use lib.ListN.{length, take, set}
use borrow.Author.Tests.{ltb-true, not-false, eq-eqb, ne_eqb, lt-ltb, le-ltb}
use Rattle.refusals.specs.Refusal.{refusal_number}
use Rattle.refusals.specs.declared.refusal.Refusal.{Refusal}
use Rattle.sale.specs.Lists.{every}
use Rattle.sale.specs.Checks.{first_met}
use Rattle.sale.proofs.CheckLaws.{stage_err, stage_ok}
use Rattle.house.specs.Tickets.{Ticket, is_live}
use Rattle.house.specs.Commands.{blank_ticket, ticket_at, has_ticket, changed, still_live, lookup_rows}
use Rattle.house.specs.Till.{till_of}
use Rattle.house.specs.View.{row_at, marks_at, ticket_from, ticket_in, tickets_of, place_of, RisingRows, without, view}
use Rattle.house.specs.Parts.{ComesWith}
use Rattle.tickets.specs.Steps.{replaced}
use Rattle.tickets.specs.declared.lookup.Found.{Found}
use Rattle.house.specs.declared.state.House.{House}
use Rattle.house.specs.declared.rows.Row.{Row}
use Rattle.house.proofs.Ledger.{All}
use Rattle.house.proofs.Refusals.{all_passed}
use Rattle.house.proofs.RowLaws.{place_ticket}
use Rattle.house.proofs.RisingNumbers.{all_at, changed_stays, changed_closes}
use Rattle.house.proofs.ReachedHouses.{Sure, reached_sure}
use Rattle.house.proofs.ViewLaws.{live_count, view_few, view_live, view_has, view_rising, view_ticket}

-- ---- the table's first rows, by the number's place among the rows

-- a house that comes from a fresh one by commands has its rows in the order of their numbers
pub rising_rows : (h : House) (words : List ℕ) → ComesWith h words → RisingRows words h.live
rising_rows h words comes = view_rising h words comes.marks (reached_sure _ comes.reached)

-- the rows by their tests
abbrev tested : Bool → Bool → Bool → ℕ
tested closed unknown gone = cond closed 4 (cond unknown 18 (cond gone 19 0))

module _ (h : House) (words marks : List ℕ) (n : ℕ) where
  by_tests :
      (closed unknown gone : Bool)
      → eqb h.day 0 ≡ closed
      → (eqb n 0 || ltb h.issued n) ≡ unknown
      → not (has_ticket n (view h words marks).live) ≡ gone
      → tested closed unknown gone ≡ first_met (lookup_rows n (view h words marks))
  unfolding first_met view
  by_tests closed unknown gone p q r = rw (← p, ← q, ← r)

  -- the place among the live tickets is that among the first rows of the buffer
  pub row_place : ComesWith h words → place_of n (view h words marks).live ≡ place_of n (take h.live (tickets_of words marks))
  row_place comes = ap (place_of n) (view_live h words marks (rising_rows h words comes).few)

  pub look_up_closed : h.day ≡ 0 → 4 ≡ first_met (lookup_rows n (view h words marks))
  look_up_closed none = by_tests true _ _ (eq-eqb h.day 0 none) refl refl

  module _ (opened : h.day ≡ 0 → ⊥) where
    pub look_up_zero : n ≡ 0 → 18 ≡ first_met (lookup_rows n (view h words marks))
    look_up_zero none = by_tests false true _ (ne_eqb h.day 0 opened) (rw (eq-eqb n 0 none)) refl

    module _ (some : n ≡ 0 → ⊥) where
      pub look_up_unissued : h.issued < n → 18 ≡ first_met (lookup_rows n (view h words marks))
      look_up_unissued past = by_tests false true _ (ne_eqb h.day 0 opened) (rw (ne_eqb n 0 some) (lt-ltb h.issued n past)) refl

      module _ (comes : ComesWith h words) (issued : n ≤ h.issued) where
        by_place :
            (here : Bool)
            → ltb (place_of n (take h.live (tickets_of words marks))) h.live ≡ here
            → tested false false (not here) ≡ first_met (lookup_rows n (view h words marks))
        by_place here e =
            by_tests false false (not here) (ne_eqb h.day 0 opened) (rw (ne_eqb n 0 some) (le-ltb h.issued n issued))
            (ap not (view_has h words marks n ∙ ap (λ p. ltb p h.live) (row_place comes) ∙ e))

        pub look_up_gone : h.live ≤ place_of n (take h.live (tickets_of words marks)) → 19 ≡ first_met (lookup_rows n (view h words marks))
        look_up_gone past = by_place false (le-ltb _ _ past)

        pub look_up_live : place_of n (take h.live (tickets_of words marks)) < h.live → 0 ≡ first_met (lookup_rows n (view h words marks))
        look_up_live within = by_place true (lt-ltb _ _ within)

-- ---- the ticket

-- what was found, with the marks that stand beside it
abbrev pub found_in : Found → List ℕ → Ticket
found_in found marks = ticket_from found.row (marks_at marks found.place)

-- the row read at a live number's place is its ticket's
pub live_ticket :
    (h : House) (words marks : List ℕ) (n p : ℕ) (w : Row)
    → ComesWith h words
    → p ≡ place_of n (take h.live (tickets_of words marks))
    → p < h.live
    → w ≡ row_at words p
    → ticket_from w (marks_at marks p) ≡ ticket_at n (view h words marks).live
live_ticket h words marks n p w comes here within read =
    let placed : p ≡ place_of n (view h words marks).live = here ∙ sym (row_place h words marks n comes) in
    ap (λ w. ticket_from w (marks_at marks p)) read
    ∙ ap (ticket_in words marks) placed
    ∙ sym (view_ticket h words marks n (subst (λ i. i < h.live) placed within))

-- a ticket's number that passed the table's first rows, and what was found of it
pub record FoundTicket (h : House) (words marks : List ℕ) (n : ℕ) (found : Found) : Type 0 where
  pub sure : Sure (view h words marks)
  pub passed : first_met (lookup_rows n (view h words marks)) ≡ 0
  pub placed : found.place ≡ place_of n (view h words marks).live
  pub ticket : found_in found marks ≡ ticket_at n (view h words marks).live

-- a look-up's refusal is the command's, whatever rows are below
pub look_up_refused :
    (h : House) (words marks : List ℕ) (n : ℕ) (refusal : Refusal)
    → refusal_number refusal ≡ first_met (lookup_rows n (view h words marks))
    → (more : List (Bool × ℕ))
    → first_met (lookup_rows n (view h words marks) ++ more) ≡ refusal_number refusal
unfolding every
look_up_refused h words marks n refusal told more = stage_err (lookup_rows n (view h words marks)) more refl refusal told

module _ {h : House} {words marks : List ℕ} {n : ℕ} {found : Found} (here : FoundTicket h words marks n found) where
  pub found_few : h.live ≤ 200
  found_few = view_few h words marks here.sure

  -- what the rest of the command's table says
  pub found_rest : (more : List (Bool × ℕ)) → first_met (lookup_rows n (view h words marks) ++ more) ≡ first_met more
  unfolding every
  found_rest more = stage_ok (lookup_rows n (view h words marks)) more refl (sym here.passed)

  place_within : place_of n (view h words marks).live < h.live
  place_within =
      ltb-true _ _ (sym (view_has h words marks n) ∙ not-false _ (all_passed (lookup_rows n (view h words marks)) (omega arith) here.passed).1.1.0)

  pub found_within : found.place < h.live
  found_within = subst⁻¹ (λ i. i < h.live) here.placed place_within

  pub found_ticket : ticket_at n (view h words marks).live ≡ found_in found marks
  found_ticket = sym here.ticket

  among : place_of n (view h words marks).live < length (view h words marks).live
  among = omega (arith, live_count h words marks, place_within)

  -- what holds of every live ticket holds of it
  pub found_holds : (P : Ticket → Type 0) → All P (view h words marks).live → P (found_in found marks)
  found_holds P all =
      subst P (sym (place_ticket n (view h words marks).live) ∙ found_ticket)
      (all_at P (view h words marks).live all (place_of n (view h words marks).live) blank_ticket among)

  -- what is paid fits with what it is due
  pub found_payable : h.counters.paid + (found_in found marks).due < 2 ^ 63
  unfolding till_of view
  found_payable =
      let due : (found_in found marks).due < 2 ^ 62 = found_holds (λ t. t.due < 2 ^ 62) here.sure.dues in
      let paid : h.counters.paid < 2 ^ 62 = here.sure.fit.figures.paid in
      omega arith

  -- ---- the live tickets after a change to it
  module _ (f : Ticket → Ticket) where
    change_by :
        (live : Bool)
        → is_live h.game (f (found_in found marks)) ≡ live
        → still_live h.game (changed n f (view h words marks).live)
        ≡ cond live (set (view h words marks).live found.place (f (found_in found marks))) (without found.place (view h words marks).live)
    unfolding view
    change_by true stays =
        changed_stays h.game n f (view h words marks).live here.sure.alive here.sure.rising among
        (ap (λ t. is_live h.game (f t)) found_ticket ∙ stays)
        ∙ ap₂ (λ i t. set (view h words marks).live i (f t)) (sym here.placed) found_ticket
    change_by false closes =
        changed_closes h.game n f (view h words marks).live here.sure.alive here.sure.rising among
        (ap (λ t. is_live h.game (f t)) found_ticket ∙ closes)
        ∙ ap (λ i. without i (view h words marks).live) (sym here.placed)

    -- of which the first rows of other buffers are made
    pub found_changed :
        (after : House) (words' marks' : List ℕ)
        → after.live ≤ h.live
        → take after.live (tickets_of words' marks')
        ≡ replaced h.game found.place (f (found_in found marks)) (take h.live (tickets_of words marks))
        → (view after words' marks').live ≡ still_live h.game (changed n f (view h words marks).live)
    found_changed after words' marks' fewer made =
        view_live after words' marks' (omega (arith, found_few))
        ∙ made
        ∙ ap (replaced h.game found.place (f (found_in found marks))) (sym (view_live h words marks found_few))
        ∙ sym (change_by (is_live h.game (f (found_in found marks))) refl)

    -- or are left once it is closed
    pub found_closes :
        is_live h.game (f (found_in found marks)) ≡ false
        → still_live h.game (changed n f (view h words marks).live) ≡ without found.place (take h.live (tickets_of words marks))
    found_closes closes = change_by false closes ∙ ap (without found.place) (view_live h words marks found_few)
