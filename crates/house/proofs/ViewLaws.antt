-- Laws of the view: how a command is shown to be carried out, and what the view's balls and live tickets are in the struct and the rows.
use Prim.Native.Nat.{ℕ, ◌+◌, ◌*◌, ◌≤◌, ◌<◌}
use native.Mathlib.Omega.{arith}
use mathlib.Core.Path.{◌≡◌, refl, sym, ap, subst, ◌∙◌}
use mathlib.Core.Bool.{false, cond, not}
use mathlib.Core.List.{List, map}
use Rattle.std.specs.Prelude.{Result, Ok, Err}
use Rattle.std.specs.Result.{IsErrAnd}
use lib.Dec.{eqb, ltb}
use lib.ListN.{length, get_or, take}
use lib.Seq.{ext_get_or}
use borrow.Author.Tests.{eq-eqb, ne_eqb}
use Rattle.sale.specs.Lists.{below}
use Rattle.house.specs.Tickets.{Ticket}
use Rattle.house.specs.Model.{Model, is_drawing, next_game}
use Rattle.calendar.specs.Bounds.{ExpiryBound}
use Rattle.house.specs.Commands.{Command, Answer, is_expired, blank_ticket, ticket_at, has_ticket, code_of, act, reply, answer_of}
use Rattle.house.specs.View.{DayTells, ticket_from, ticket_in, tickets_of, place_of, RisingRows, view}
use Rattle.house.specs.declared.rows.Row.{Row}
use Rattle.refusals.specs.Refusal.{refusal_number}
use Rattle.refusals.specs.declared.refusal.Refusal.{Refusal}
use Rattle.refusals.proofs.Refusals.{refusal_some}
use Rattle.house.specs.Parts.{Carried}
use Rattle.house.specs.Parts as Parts
use Rattle.house.specs.declared.answer.Receipt.{Receipt}
use Rattle.house.specs.declared.state.House.{House}
use Rattle.house.proofs.Ledger.{All, with_live}
use Rattle.house.proofs.OneCommand.{refused_unchanged, accepted_done}
use Rattle.house.proofs.ReachedHouses.{Sure}
use Rattle.house.proofs.RisingNumbers.{all_at, rising_at}
use Rattle.house.proofs.RowLists.{length_table, get_or_table}
use Rattle.house.proofs.RowLaws.{place_has, place_ticket, live_at, live_length}

-- ---- a command carried out

module _ (h : House) (words marks : List ℕ) (c : Command) where
  -- a refusal by the table's number
  pub carried_refused :
      (code : ℕ) (after : House) (a : Answer)
      → code_of (view h words marks) c ≡ code
      → (code ≡ 0 → ⊥)
      → after ≡ h
      → a ≡ record { code = code; number = 0; cents = 0 }
      → Carried h words marks c after words marks a
  carried_refused code after a coded some same answered =
      let unchanged = refused_unchanged (view h words marks) c (λ none. some (sym coded ∙ none)) in
      record {
        house = ap (λ h. view h words marks) same ∙ sym unchanged.0;
        answer = answered ∙ ap (λ code. record { code = code; number = 0; cents = 0 }) (sym coded) ∙ sym unchanged.1;
        refused = λ _. (same, refl, refl);
      }

  -- the same as a `?` passes it on
  pub refused_as :
      (ended : Result Receipt Refusal) (refusal : Refusal)
      → IsErrAnd ended (λ e. e ≡ refusal)
      → refusal_number refusal ≡ code_of (view h words marks) c
      → Carried h words marks c h words marks (Parts.host_answer ended)
  refused_as (Ok done) refusal never coded = absurd never
  refused_as (Err e) refusal same coded =
      carried_refused (refusal_number e) h _ (sym coded ∙ ap refusal_number (sym same)) (refusal_some e) refl refl

  -- and the command done, where no row of the table is met
  pub carried_done :
      (after : House) (words' marks' : List ℕ) (a : Answer)
      → code_of (view h words marks) c ≡ 0
      → view after words' marks' ≡ act (view h words marks) c
      → a ≡ answer_of (reply (view h words marks) c)
      → Carried h words marks c after words' marks' a
  carried_done after words' marks' a coded house answer =
      let done = accepted_done (view h words marks) c coded in
      record {
        house = house ∙ sym done.0;
        answer = answer ∙ sym done.1;
        refused = λ some. absurd (some (ap (λ a. a.code) answer));
      }

-- ---- the lists of a view

module _ (h : House) (words marks : List ℕ) where
  pub balls_count : length (view h words marks).balls ≡ h.drawn
  unfolding view
  balls_count = length_table (λ i. get_or h.balls i 0) h.drawn

  pub view_drawing : is_drawing (view h words marks) ≡ not (eqb h.drawn 0)
  view_drawing = ap (λ n. not (eqb n 0)) balls_count

  pub next_waiting : h.drawn ≡ 0 → next_game (view h words marks) ≡ h.game
  unfolding view
  next_waiting e =
      ap (λ b. cond b (h.game + 1) h.game) (view_drawing ∙ ap not (eq-eqb h.drawn 0 e))

  pub next_drawing : (h.drawn ≡ 0 → ⊥) → next_game (view h words marks) ≡ h.game + 1
  unfolding view
  next_drawing e =
      ap (λ b. cond b (h.game + 1) h.game) (view_drawing ∙ ap not (ne_eqb h.drawn 0 e))

  pub live_count : length (view h words marks).live ≡ h.live
  unfolding view
  live_count = length_table (ticket_in words marks) h.live

  pub view_few : Sure (view h words marks) → h.live ≤ 200
  view_few sure = omega (arith, live_count, sure.few)

  -- the live tickets are the first of the rows
  pub view_live : h.live ≤ 200 → (view h words marks).live ≡ take h.live (tickets_of words marks)
  unfolding view
  view_live few =
      ext_get_or blank_ticket (map (ticket_in words marks) (below h.live)) (take h.live (tickets_of words marks))
      (live_count ∙ sym (live_length words marks h.live few))
      (λ i b.
      let small : i < h.live = omega (arith, live_count) in
      get_or_table (ticket_in words marks) h.live i blank_ticket small
      ∙ sym (live_at words marks h.live few i small))

  -- their numbers rise, row after row
  number_at : (i : ℕ) → i < h.live → (get_or (view h words marks).live i blank_ticket).number ≡ get_or words (i * 16) 0
  unfolding view
  number_at i b = ap (λ t. t.number) (get_or_table (ticket_in words marks) h.live i blank_ticket b)

  pub view_rising : Sure (view h words marks) → RisingRows words h.live
  view_rising sure =
      record {
        few = view_few sure;
        rising = λ j k l b.
            omega (arith, number_at j (omega arith), number_at k b, rising_at (view h words marks).live sure.rising j k l (omega (arith, live_count)));
      }

  -- what holds of every live ticket holds of the one at a place
  pub each_live : (P : Ticket → Type 0) → All P (view h words marks).live → (i : ℕ) → i < h.live → P (ticket_in words marks i)
  unfolding view
  each_live P all i b =
      subst P (get_or_table (ticket_in words marks) h.live i blank_ticket b)
      (all_at P (view h words marks).live all i blank_ticket (omega (arith, live_count)))

  -- a view by its live tickets
  pub view_by : (ts : List Ticket) → (view h words marks).live ≡ ts → view h words marks ≡ with_live (view h words marks) ts
  view_by ts e = ap (with_live (view h words marks)) e

  -- ---- a ticket by its number

  module _ (n : ℕ) where
    pub view_has : has_ticket n (view h words marks).live ≡ ltb (place_of n (view h words marks).live) h.live
    view_has = place_has n (view h words marks).live ∙ ap (ltb (place_of n (view h words marks).live)) live_count

    pub view_ticket : place_of n (view h words marks).live < h.live
        → ticket_at n (view h words marks).live ≡ ticket_in words marks (place_of n (view h words marks).live)
    unfolding view
    view_ticket b =
        place_ticket n (view h words marks).live
        ∙ get_or_table (ticket_in words marks) h.live (place_of n (view h words marks).live) blank_ticket b

-- ---- a ticket that expires

-- without a finishing day a ticket is not finished
pub stands_unfinished : (w : Row) (marks : List ℕ) (m : Model) → DayTells m.game (ticket_from w marks) → w.finished ≡ 0 → false ≡ is_expired m (ticket_from w marks)
unfolding is_expired
stands_unfinished w marks m tells none = rw (tells.tells, eq-eqb w.finished 0 none)

-- with one the day's bound tells
pub expires_by_bound :
    (w : Row) (marks : List ℕ) (bound : ℕ) (m : Model) → DayTells m.game (ticket_from w marks) → ExpiryBound m.day bound → (w.finished ≡ 0 → ⊥) →
    ltb w.finished bound ≡ is_expired m (ticket_from w marks)
unfolding is_expired
expires_by_bound w marks bound m tells bounded some = rw (tells.tells, ne_eqb w.finished 0 some) (sym (bounded.before w.finished))
