-- What a guest who collects part way is given, over every list of commands: what the games drawn by then won and those called off gave back, once, and a ticket
-- for the games left under the next number, which alone has them. Read off the ledger and the log that stand behind a run.
use Prim.Native.Nat.{ℕ, ◌+◌, ◌≤◌, min}
use native.Mathlib.Omega.{arith}
use mathlib.Core.Path.{◌≡◌, refl, sym, ap, ap₂, subst⁻¹, ◌∙◌}
use mathlib.Core.Bool.{Bool, true, false, cond, not, ◌&&◌}
use mathlib.Core.List.{List, [], ◌∷◌, ◌++◌}
use lib.Dec.{ltb, leb, eqb}
use borrow.Author.Tests.{le-leb, lt-ltb, leb-true, eq-eqb}
use Rattle.sale.specs.Lists.{keep, member}
use Rattle.house.specs.Tickets.{Ticket, keno_to_go_begun}
use Rattle.house.specs.Model.{Model, fresh, is_drawing}
use Rattle.house.specs.Commands.{Command, collect, replies, ticket_at, reissued_ticket, collected, code_of, act, reply, answer_of, step}
use Rattle.house.specs.Till.{Figures, till_of}
use Rattle.house.specs.Claims.{Log, Span, games_of, span_of, won_by, given_back, payments}
use Rattle.house.specs.Balance.{State, run, answer_after}
use Rattle.house.proofs.Ledger.{Orderly, house_of, collected_ledger}
use Rattle.house.proofs.OneCommand.{accepted_done, accepted_code}
use Rattle.house.proofs.Refusals.{CollectAccepted}
use Rattle.house.proofs.LiveTickets.{collected_house, collected_live}
use Rattle.house.proofs.SheetFigures.{till_of_house, collect_owed, collect_held}
use Rattle.house.proofs.LogLaws.{logged, span_has, games_cut, number_collected}
use Rattle.house.proofs.Won.{Told, DueTold, collects, accepted, collect_due, old_span, new_span, others_same}
use Rattle.house.proofs.Theorem.{booked, run_more, next_accepted}

-- whether a number has a game, told from the commands and their codes
abbrev pub has_game : ℕ → ℕ → State → Bool
has_game g n s = member g (games_of (span_of n s.log))

-- what a number is paid when it is collected: everything that its games drawn by then won, and what it paid for those called off by then
abbrev pub pays_out : ℕ → State → ℕ
pays_out n s = won_by n s.log + given_back n s.log

-- the ticket of a number before it is collected, and the one that is issued for it
abbrev pub old_ticket : ℕ → State → Ticket
old_ticket n s = ticket_at n s.house.live

abbrev pub new_ticket : ℕ → State → Ticket
new_ticket n s = reissued_ticket s.house (old_ticket n s)

-- an accepted Collect of ticket number n: the list of commands before it, and with it
pub record CollectedPartWay (n : ℕ) (before after : State) : Type 0 where
  -- "It answers the new number and the cents"
  pub answers : (step before.house (collect n)).answer ≡ answer_of (replies (before.house.issued + 1) (pays_out n before))
  -- for which the old number is paid now, and was not before
  pub unpaid : payments n before.log ≡ 0
  pub once : payments n after.log ≡ 1
  -- "Taken, refunded and held don't move; paid includes collections, owed loses them"
  pub taken : (till_of after.house).taken ≡ (till_of before.house).taken
  pub refunded : (till_of after.house).refunded ≡ (till_of before.house).refunded
  pub held : (till_of after.house).held ≡ (till_of before.house).held
  pub paid : (till_of after.house).paid ≡ (till_of before.house).paid + pays_out n before
  pub owed : (till_of before.house).owed ≡ (till_of after.house).owed + pays_out n before
  -- "the reissued games are the new number's only": of the old number's games it keeps those before the current one, and the new number has the others
  pub kept : (g : ℕ) → has_game g n after ≡ (ltb g before.house.game && has_game g n before)
  pub reissued : (g : ℕ) → has_game g (before.house.issued + 1) after ≡ (leb before.house.game g && has_game g n before)
  pub others : (k g : ℕ) → (k ≡ n → ⊥) → (k ≡ before.house.issued + 1 → ⊥) → has_game g k after ≡ has_game g k before
  -- the old number closes; the new ticket, which is the old one with another number and nothing due, stands last, and the others are as they were
  pub live :
      after.house.live ≡ keep (λ t. not (eqb t.number n)) before.house.live ++ (new_ticket n before ∷ [])
  -- "the games left, paid and free ones as before, [..] with the old sale day"
  pub operands : (new_ticket n before).operands ≡ (old_ticket n before).operands
  pub free : (new_ticket n before).free ≡ (old_ticket n before).free
  pub sold_day : (new_ticket n before).sold_day ≡ (old_ticket n before).sold_day
  -- "A reissued Keno To Go ticket counts as begun, however few games are left."
  pub begun :
      50 ≤ (new_ticket n before).operands.games
      → keno_to_go_begun before.house.game (is_drawing before.house) (new_ticket n before) ≡ true

-- ---- from the ledger

module _ (m : Model) (log : Log) (n : ℕ) (orderly : Orderly m) (told : Told m log) (accept : code_of (house_of m) (collect n) ≡ 0) where
  facts : CollectAccepted (house_of m) n
  facts = accepted m log n orderly told accept

  due : DueTold m.game log n (ticket_at n (house_of m).live)
  due = collect_due m log n orderly told accept

  abbrev then : Log
  then = logged (collect n) 0 ∷ log

  -- the tills of the house and of the ledger behind it
  till_then : till_of (collected n (house_of m)) ≡ till_of (collected_ledger n m)
  till_then = ap till_of (collected_house m n facts.running) ∙ till_of_house (collected_ledger n m)

  held_then : (till_of (collected n (house_of m))).held ≡ (till_of (house_of m)).held
  unfolding till_of collected
  held_then =
      ap (λ (f : Figures). f.held) till_then ∙ collect_held m n orderly facts.here ∙ sym (ap (λ (f : Figures). f.held) (till_of_house m))

  owed_then : (till_of (house_of m)).owed ≡ (till_of (collected n (house_of m))).owed + (won_by n log + given_back n log)
  unfolding till_of
  owed_then =
      ap (λ (f : Figures). f.owed) (till_of_house m)
      ∙ collect_owed m n orderly facts.here
      ∙ ap₂ ◌+◌ (sym (ap (λ (f : Figures). f.owed) till_then)) due.won

  -- the games of the two numbers
  kept_games : (g : ℕ) → member g (games_of (span_of n then)) ≡ (ltb g m.game && member g (games_of (span_of n log)))
  kept_games g =
      let s : Span = span_of n log in
      ap (λ (s : Span). member g (games_of s)) (old_span m log n orderly told accept)
      ∙ span_has g (record { first = s.first; stop = min s.stop m.game })
      ∙ games_cut s.first s.stop m.game m.game g (λ low under. under) (λ low under. under)
      ∙ ap (λ b. ltb g m.game && b) (sym (span_has g s))

  reissued_games : (g : ℕ) → member g (games_of (span_of (m.issued + 1) then)) ≡ (leb m.game g && member g (games_of (span_of n log)))
  reissued_games g =
      let s : Span = span_of n log in
      ap (λ (s : Span). member g (games_of s)) (new_span m log n orderly told accept)
      ∙ span_has g (record { first = m.game; stop = s.stop })
      ∙ go (leb m.game g) refl
      ∙ ap (λ b. leb m.game g && b) (sym (span_has g s))
    where
      go : (later : Bool)
          → leb m.game g ≡ later
          → (later && ltb g (span_of n log).stop) ≡ (later && (leb (span_of n log).first g && ltb g (span_of n log).stop))
      go true e =
          let from : m.game ≤ g = leb-true m.game g e in
          ap (λ b. b && ltb g (span_of n log).stop) (sym (le-leb (span_of n log).first g (omega (arith, due.span_begun))))
      go false e = refl

  collected_there : CollectedPartWay n (record { house = house_of m; log = log }) (record { house = collected n (house_of m); log = then })
  unfolding till_of collected reply keno_to_go_begun
  collected_there =
      record {
        answers =
            (accepted_done (house_of m) (collect n) accept).1
            ∙ ap (λ cents. answer_of (replies (m.issued + 1) cents)) due.won;
        unpaid = due.unpaid;
        once =
            number_collected (logged (collect n) 0) log n (collects m log n orderly told accept) n
            ∙ ap₂ (λ here k. cond here (k + 1) k) (eq-eqb n n refl) due.unpaid;
        taken = refl;
        refunded = refl;
        held = held_then;
        paid = ap (λ cents. m.counters.paid + cents) due.won;
        owed = owed_then;
        kept = kept_games;
        reissued = reissued_games;
        others = λ k g old new. ap (λ s. member g (games_of s)) (others_same m log n orderly told accept k old new).span;
        live = collected_live m n;
        operands = refl;
        free = refl;
        sold_day = refl;
        begun = λ long. rw (le-leb 50 _ long, lt-ltb _ m.game due.begun);
      }

pub part_way : (cs : List Command) (n : ℕ) → (answer_after cs (collect n)).code ≡ 0 → CollectedPartWay n (run cs) (run (cs ++ (collect n ∷ [])))
unfolding act
part_way cs n accepted =
    let b = booked cs in
    let there : code_of (house_of b.ledger) (collect n) ≡ 0 = sym (ap (λ h. code_of h (collect n)) b.house) ∙ accepted_code (run cs).house (collect n) accepted in
    subst⁻¹ (CollectedPartWay n (run cs)) (run_more cs (record { house = fresh; log = [] }) (collect n) ∙ next_accepted (run cs) (collect n) accepted)
    (subst⁻¹ (λ (h : Model). CollectedPartWay n (record { house = h; log = (run cs).log }) (record { house = collected n h; log = logged (collect n) 0 ∷ (run cs).log }))
    b.house
    (collected_there b.ledger (run cs).log n b.orderly b.told there))
