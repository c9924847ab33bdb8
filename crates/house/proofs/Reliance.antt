-- What the lounge's people rely on: a theorem for each, over every list of commands from a fresh house.
use Prim.Native.Nat.{ℕ, ◌+◌, ◌≤◌, ◌<◌, min, max}
use native.Mathlib.Omega.{arith}
use mathlib.Core.Path.{◌≡◌, refl, sym, ap, subst, subst⁻¹, ◌∙◌}
use mathlib.Core.Bool.{false}
use mathlib.Core.List.{List, [], ◌∷◌, ◌++◌, map}
use lib.ListN.{length, length-append}
use Rattle.sale.specs.Lists.{member}
use Rattle.sale.specs.Checks.{Operands, charge_of}
use Rattle.prizes.specs.Jackpots.{guarantee_of_six, guarantee_of_eight}
use Rattle.house.specs.Tickets.{Ticket, is_live, paid_stakes, held_for, with_stop}
use Rattle.house.specs.Model.{Model, next_game}
use Rattle.house.specs.Commands.{Command, sell, cancel, ball, claim, replies, ticket_at, still_live, running_in, cancel_stop, cancelled_ticket, code_of, refund_of, sold, cancelled, game_settled, ball_entered, claimed, act, reply, answer_of, step}
use Rattle.house.specs.Till.{till_of}
use Rattle.house.specs.Claims.{sheet_of, game_of, games_of, span_of, won_by, given_back, payments}
use Rattle.house.specs.Balance.{run, answer_after, Reached, Balanced}
use Rattle.house.proofs.Ledger.{house_of}
use Rattle.house.proofs.Refusals.{cancel_accepted}
use Rattle.house.proofs.SpanLaws.{stakes_split}
use Rattle.house.proofs.LiveTickets.{finished_on_keeps, next_game_least}
use Rattle.house.proofs.SheetFigures.{finished_held}
use Rattle.house.proofs.Numbered.{found}
use Rattle.house.proofs.Won.{RunsBy, TicketTold, claim_due}
use Rattle.house.proofs.Theorem.{Booked, booked, reached_booked, till_balances}
-- the laws of one command, which other crates cite from here
pub use Rattle.house.proofs.OneCommand.{refused_unchanged, accepted_done, accepted_code, twentieth_settles, earlier_waits}

-- ---- "Writers sell straight, way and jackpot tickets, and rely on the charge."

-- an accepted sale answers the next number and the charge, which is what is taken
pub writers :
    (cs : List Command) (o : Operands)
    → (answer_after cs (sell o)).code ≡ 0
    → (answer_after cs (sell o) ≡ answer_of (replies ((run cs).house.issued + 1) (charge_of o)))
    × ((step (run cs).house (sell o)).house.counters.taken ≡ (run cs).house.counters.taken + charge_of o)
unfolding act reply sold
writers cs o ok =
    let done = accepted_done (run cs).house (sell o) (accepted_code (run cs).house (sell o) ok) in
    (done.1, ap (λ h. h.counters.taken) done.0)

-- ---- "Runners bring cancellations, and rely on a refund of the unplayed games and no more."

-- what an accepted Cancel of ticket number n, which is t, pays back after some commands
pub record Refunded (cs : List Command) (m : Model) (n : ℕ) (t : Ticket) : Type 0 where
  -- the games that the ticket has from the current one on, told from the commands and their codes
  pub games : RunsBy m.game (span_of n (run cs).log) t.first t.stop
  -- Cancel takes off every game of these that is neither drawn nor being drawn, and there are such games
  pub undrawn : cancel_stop m t ≡ max t.first (next_game m)
  pub some : cancel_stop m t < t.stop
  pub stops : (cancelled_ticket m t).stop ≡ cancel_stop m t
  -- it answers the paid stakes of what it takes off
  pub answers : (step m (cancel n)).answer ≡ answer_of (replies n (paid_stakes (cancel_stop m t) t.stop t))
  pub refunded : (step m (cancel n)).house.counters.refunded ≡ m.counters.refunded + paid_stakes (cancel_stop m t) t.stop t
  -- and no more than it takes from what is held for the ticket
  pub held : held_for m.game t ≡ held_for m.game (cancelled_ticket m t) + paid_stakes (cancel_stop m t) t.stop t

-- what is left of a ticket once its games from cancel_stop on are taken off
module _ (m : Model) (t : Ticket) (some : cancel_stop m t < t.stop) where
  cut_off : min t.stop (cancel_stop m t) ≡ cancel_stop m t
  cut_off = omega arith

  stops_there : (cancelled_ticket m t).stop ≡ cancel_stop m t
  stops_there = finished_on_keeps (λ u. u.stop) (λ u d. refl) m.day m.game (with_stop t (min t.stop (cancel_stop m t))) ∙ cut_off

  held_left : held_for m.game (cancelled_ticket m t) ≡ paid_stakes (max t.first m.game) (cancel_stop m t) t
  unfolding paid_stakes
  held_left =
      finished_held m.day m.game m.game (with_stop t (min t.stop (cancel_stop m t)))
      ∙ ap (λ stop. paid_stakes (max t.first m.game) stop t) cut_off

  held_parted : held_for m.game t ≡ held_for m.game (cancelled_ticket m t) + paid_stakes (cancel_stop m t) t.stop t
  held_parted =
      stakes_split (max t.first m.game) (cancel_stop m t) t.stop t (omega (arith, next_game_least m))
      ∙ ap (λ k. k + paid_stakes (cancel_stop m t) t.stop t) (ap (λ stop. paid_stakes (max t.first m.game) stop t) cut_off ∙ sym held_left)

-- the games of a live ticket are told by the log
told_games : (m : Model) (cs : List Command) (n : ℕ) → Booked m (run cs).log → code_of m (cancel n) ≡ 0
    → RunsBy m.game (span_of n (run cs).log) (ticket_at n m.live).first (ticket_at n m.live).stop
unfolding still_live
told_games m cs n b e =
    let ledger = b.ledger in
    let here = (cancel_accepted (house_of ledger) n (sym (ap (λ h. code_of h (cancel n)) b.house) ∙ e)).here in
    let told = found n (TicketTold ledger.game (run cs).log) (is_live ledger.game) ledger.live b.told.tickets here in
    subst⁻¹ (λ (h : Model). RunsBy h.game (span_of n (run cs).log) (ticket_at n h.live).first (ticket_at n h.live).stop) b.house
    (subst
    (λ (k : ℕ). RunsBy ledger.game (span_of k (run cs).log) (ticket_at n (house_of ledger).live).first (ticket_at n (house_of ledger).live).stop)
    told.1 told.0.runs)

pub runners :
    (cs : List Command) (n : ℕ)
    → (answer_after cs (cancel n)).code ≡ 0
    → Refunded cs (run cs).house n (ticket_at n (run cs).house.live)
unfolding act reply cancelled refund_of
runners cs n ok =
    let m = (run cs).house in
    let e = accepted_code m (cancel n) ok in
    let some = (cancel_accepted m n e).some in
    let done = accepted_done m (cancel n) e in
    record {
      games = told_games m cs n (booked cs) e;
      undrawn = refl;
      some = some;
      stops = stops_there m (ticket_at n m.live) some;
      answers = done.1;
      refunded = ap (λ h. h.counters.refunded) done.0;
      held = held_parted m (ticket_at n m.live) some;
    }

-- ---- "The draw hand enters each ball, and relies on the twentieth settling that game."

-- an accepted ball after some commands: the answer counts the balls in
pub record Entered (m : Model) (b : ℕ) : Type 0 where
  pub counted : (step m (ball b)).answer.number ≡ length m.balls + 1
  -- the twentieth settles the game: the next is current, with no balls
  pub settled :
      (step m (ball b)).answer.number ≡ 20
      → ((step m (ball b)).house ≡ game_settled b m) × ((step m (ball b)).house.game ≡ m.game + 1) × ((step m (ball b)).house.balls ≡ [])
  -- any other is added to the balls of the game, and that is all
  pub waits : ((step m (ball b)).answer.number ≡ 20 → ⊥) → (step m (ball b)).house ≡ ball_entered b m

pub draw_hand : (cs : List Command) (b : ℕ) → (answer_after cs (ball b)).code ≡ 0 → Entered (run cs).house b
unfolding reply
draw_hand cs b ok =
    let m = (run cs).house in
    let e = accepted_code m (ball b) ok in
    let counted : (step m (ball b)).answer.number ≡ length m.balls + 1 =
    ap (λ a. a.number) (accepted_done m (ball b) e).1 ∙ length-append m.balls (b ∷ []) in
    record {
      counted = counted;
      settled = λ last. twentieth_settles m b e (omega arith);
      waits = λ early. earlier_waits m b e (λ nineteen. early (omega arith));
    }

-- ---- "Cashiers pay what a claim says, and rely on it being everything that ticket won."

-- an accepted claim answers everything that the ticket's drawn games won, with what it paid for those that were called off, and the ticket was not paid before
pub cashiers :
    (cs : List Command) (n : ℕ)
    → (answer_after cs (claim n)).code ≡ 0
    → (answer_after cs (claim n) ≡ answer_of (replies n (won_by n (run cs).log + given_back n (run cs).log)))
    × ((step (run cs).house (claim n)).house.counters.paid ≡ (run cs).house.counters.paid + (won_by n (run cs).log + given_back n (run cs).log))
    × (payments n (run cs).log ≡ 0)
unfolding act reply claimed
cashiers cs n ok =
    let m = (run cs).house in
    let b = booked cs in
    let e = accepted_code m (claim n) ok in
    let done = accepted_done m (claim n) e in
    let due = claim_due b.ledger (run cs).log n b.orderly b.told (sym (ap (λ h. code_of h (claim n)) b.house) ∙ e) in
    let won : (ticket_at n m.live).due ≡ won_by n (run cs).log + given_back n (run cs).log = ap (λ (h : Model). (ticket_at n h.live).due) b.house ∙ due.0 in (
      done.1 ∙ ap (λ cents. answer_of (replies n cents)) won,
      ap (λ h. h.counters.paid) done.0 ∙ ap (λ k. m.counters.paid + k) won,
      due.1,
    )

-- ---- "The jackpot board shows the pools, and relies on the seed standing under them."

-- a primary never stands below its guarantee
pub jackpot_board : (m : Model) → Reached m → (guarantee_of_six ≤ m.six.primary) × (guarantee_of_eight ≤ m.eight.primary)
jackpot_board m r =
    let b = (reached_booked m r).1 in
    subst⁻¹ (λ (h : Model). (guarantee_of_six ≤ h.six.primary) × (guarantee_of_eight ≤ h.eight.primary)) b.house
    (b.bounded.six_guarantee, b.bounded.eight_guarantee)

-- ---- "The count room reads the till."

-- it balances, and each figure is the count sheet's
pub count_room : (cs : List Command) → Balanced (till_of (run cs).house) × (till_of (run cs).house ≡ (sheet_of (run cs).log).figures)
count_room cs = ((till_balances cs).balance, (till_balances cs).figures)

-- ---- "What they fear: a ticket for games 93 to 97 that is settled through 98 takes a prize it never bought [..]"

-- a number whose games, told from the commands and their codes, do not have the current one is not among those that its twentieth ball settles
pub never_bought :
    (cs : List Command) (b n : ℕ)
    → (answer_after cs (ball b)).code ≡ 0
    → (answer_after cs (ball b)).number ≡ 20
    → member (game_of (run cs).log) (games_of (span_of n (run cs).log)) ≡ false
    → member n (map (λ t. t.number) (running_in (run cs).house)) ≡ false
never_bought cs b n ok last out = ((till_balances (cs ++ (ball b ∷ []))).plays cs [] b refl ok last).0.exactly n ∙ out
