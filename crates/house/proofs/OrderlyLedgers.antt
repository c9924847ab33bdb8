-- Every ledger that accepted commands make is orderly: tickets are numbered from 1 in the order of their sale, each keeps the terms that it was
-- sold on, its finishing day is set just where no game is left, and the balls in are different numbers, since no other is let in.
use Prim.Native.Nat.{ℕ, zero, suc, ◌+◌, ◌≤◌, min}
use native.Mathlib.Omega.{arith}
use native.Mathlib.Numerals.{add-one}
use native.Mathlib.Nat.{add-zero}
use mathlib.Core.Path.{◌≡◌, refl, sym, ap, ap₂, ◌∙◌}
use mathlib.Core.Bool.{Bool, true, false, cond, ◌&&◌}
use mathlib.Core.List.{List, [], ◌∷◌, ◌++◌, map, map-append}
use lib.Dec.{leb, eqb}
use lib.ListN.{length, length-map, length-append}
use borrow.Author.Tests.{le-leb, ne_eqb, eqb-true, eqb-false}
use Rattle.sale.specs.Lists.{every, any, member}
use Rattle.sale.specs.Checks.{Operands}
use Rattle.sale.specs.Bounds.{Playable}
use Rattle.prizes.specs.declared.jackpot.Jackpot.{Jackpot}
use Rattle.house.specs.Tickets.{Ticket, runs_in, games_left, is_finished, is_live, with_due, with_stop, with_finished_day}
use Rattle.house.specs.Model.{Model, Counters, fresh, game_limit, next_game}
use Rattle.house.specs.Commands.{ball, code_of, sold, sold_ticket, cancel_stop, cancelled_ticket, ticket_at, changed, still_live, collected_ticket, reissued_ticket, collected, balls_with, settles, settlement, stakes_paid, awarded, finished_on, game_settled, game_called_off, ball_entered}
use Rattle.house.specs.Draws.{Different, DifferentBalls}
use Rattle.house.specs.Sheet.{games_from}
use Rattle.house.proofs.Ledger.{All, Fixed, fixed_part, Kept, BallsIn, Orderly, house_of, ended_tickets, collected_ledger, settled_ledger, called_off_ledger}
use Rattle.house.proofs.ListLaws.{cond_either, All-append, All-map, map_unseen}
use Rattle.house.proofs.LiveTickets.{finished_on_keeps, award_to, awarded_keeps, all_awarded, next_game_least}
use Rattle.house.proofs.Refusals.{or_false, and_true, SellAccepted, CollectAccepted, ball_accepted}
use Rattle.house.proofs.CheckedOperands.{playable}
use Rattle.house.proofs.Numbered.{found}

-- ---- the balls

-- one number more
member_more : (n b : ℕ) (ns : List ℕ) → (n ≡ b → ⊥) → member n ns ≡ false → member n (ns ++ (b ∷ [])) ≡ false
unfolding member any
member_more n b [] other e = rw (ne_eqb n b other)
member_more n b (m ∷ ns) other e =
    let p = or_false (eqb n m) (any (eqb n) ns) e in
    rw p.0 (member_more n b ns other p.1)

different_more : (b : ℕ) (ns : List ℕ) → member b ns ≡ false → Different ns → Different (ns ++ (b ∷ []))
unfolding member any
different_more b [] new different = (refl, tt)
different_more b (n ∷ ns) new (first, rest) =
    let p = or_false (eqb b n) (any (eqb b) ns) new in
    (member_more n b ns (λ e. eqb-false b n p.0 (sym e)) first, different_more b ns p.1 rest)

numbers_more : (f : ℕ → Bool) (b : ℕ) (ns : List ℕ) → f b ≡ true → every f ns ≡ true → every f (ns ++ (b ∷ [])) ≡ true
unfolding every
numbers_more f b [] e all = rw e
numbers_more f b (n ∷ ns) e all =
    let p = and_true (f n) (every f ns) all in
    ap₂ ◌&&◌ p.0 (numbers_more f b ns e p.1)

-- a ball that is let in
pub ball_differs : (m : Model) (b : ℕ) → code_of m (ball b) ≡ 0 → DifferentBalls m.balls → DifferentBalls (balls_with b m)
ball_differs m b e before =
    let h = ball_accepted m b e in
    record {
      numbers = numbers_more (λ n. leb 1 n && leb n 80) b m.balls (ap₂ ◌&&◌ (le-leb 1 b h.least) (le-leb b 80 h.most)) before.numbers;
      different = different_more b m.balls h.new before.different;
    }

none_differ : DifferentBalls []
unfolding every
none_differ = record { numbers = refl; different = tt }

pub no_balls : BallsIn []
no_balls = record { few = omega arith; differ = none_differ }

-- one that does not complete the draw
ball_in_lem : (m : Model) (b : ℕ) → code_of m (ball b) ≡ 0 → settles b m ≡ false → BallsIn m.balls → BallsIn (balls_with b m)
ball_in_lem m b accepted early before =
    record {
      few = omega (arith, length-append m.balls (b ∷ []), eqb-false (length (balls_with b m)) 20 early, before.few);
      differ = ball_differs m b accepted before.differ;
    }

pub orderly_fresh : Orderly fresh
unfolding games_from
orderly_fresh = record { issued = refl; numbers = refl; tickets = tt; balls = no_balls; games = omega arith }

-- ---- numbers

pub games_from_more : (first n : ℕ) → games_from first (suc n) ≡ games_from first n ++ ((first + n) ∷ [])
unfolding games_from
games_from_more first zero = rw (add-zero first)
games_from_more first (suc n) =
    let e : first + 1 + n ≡ first + suc n = omega arith in
    ap (◌∷◌ first) (rw (← e) (games_from_more (first + 1) n))

abbrev numbers_of : List Ticket → List ℕ
numbers_of ts = map (λ t. t.number) ts

same_length : (ts us : List Ticket) → numbers_of us ≡ numbers_of ts → length us ≡ length ts
same_length ts us e = sym (length-map us (λ t. t.number)) ∙ ap length e ∙ length-map ts (λ t. t.number)

-- ---- one ticket

-- with the day of its last game set, where it is not set yet
finished_on_kept :
    (day game : ℕ) (t : Ticket)
    → (day ≡ 0 → ⊥)
    → Fixed (fixed_part t)
    → t.stop ≤ game_limit + 1
    → ((games_left game t ≡ 0 → ⊥) → t.finished_day ≡ 0)
    → Kept game (finished_on day game t)
unfolding games_left
finished_on_kept day game t opened fixed ends running = go (is_finished game t) (eqb t.finished_day 0) refl refl
  where
    go : (a b : Bool) → is_finished game t ≡ a → eqb t.finished_day 0 ≡ b → Kept game (cond (a && b) (with_finished_day t day) t)
    go true true e f =
        record { fixed = fixed; ends = ends; running = λ left. absurd (left (eqb-true _ _ e)); finished = λ none. opened }
    go true false e f = record { fixed = fixed; ends = ends; running = running; finished = λ none. eqb-false _ _ f }
    go false b e f = record { fixed = fixed; ends = ends; running = running; finished = λ none. absurd (eqb-false _ _ e none) }

pub cancelled_kept :
    (m : Model) (t : Ticket) → (m.day ≡ 0 → ⊥) → Kept m.game t → Kept m.game (cancelled_ticket m t)
unfolding games_left
cancelled_kept m t opened h =
    finished_on_kept m.day m.game
    (with_stop t (min t.stop (cancel_stop m t)))
    opened
    h.fixed
    (omega (arith, h.ends))
    (λ left. h.running (λ none. left (omega (arith, none))))

pub paid_kept : (game cents : ℕ) (t : Ticket) → Kept game t → Kept game (with_due t cents)
unfolding games_left
paid_kept game cents t h = record { fixed = h.fixed; ends = h.ends; running = h.running; finished = h.finished }

-- the two tickets that a collection makes of one
collected_kept : (m : Model) (t : Ticket) → (m.day ≡ 0 → ⊥) → m.game ≤ game_limit + 1 → Kept m.game t → Kept m.game (collected_ticket m t)
unfolding games_left
collected_kept m t opened within h =
    finished_on_kept m.day m.game (with_stop (with_due t 0) m.game) opened h.fixed within (λ left. absurd (left (omega arith)))

reissued_kept : (m : Model) (t : Ticket) → is_finished m.game t ≡ false → Kept m.game t → Kept m.game (reissued_ticket m t)
unfolding games_left
reissued_kept m t running h =
    record {
      fixed = record { playable = h.fixed.playable; counted = h.fixed.counted; playing = h.fixed.playing; sized = h.fixed.sized; free_from = h.fixed.free_from };
      ends = h.ends;
      running = h.running;
      finished = λ none. absurd (eqb-false _ _ running none);
    }

-- the next game is the current one
later_kept : (day game : ℕ) (t : Ticket) → (day ≡ 0 → ⊥) → Kept game t → Kept (game + 1) (finished_on day (game + 1) t)
unfolding games_left
later_kept day game t opened h =
    finished_on_kept day (game + 1) t opened h.fixed h.ends (λ left. h.running (λ none. left (omega (arith, none))))

award_kept : (game : ℕ) (t : Ticket) (awards : List ℕ) → Kept game t → Kept game (award_to game awards t)
award_kept game t [] h = h
award_kept game t (a ∷ awards) h = cond_either (Kept game) (runs_in game t) (paid_kept game (t.due + a) t h) h

sold_kept : (m : Model) (o : Operands) → Playable o → next_game m + o.games ≤ game_limit + 1 → Kept m.game (sold_ticket m o)
unfolding games_left
sold_kept m o p ends =
    record {
      fixed = record { playable = p; counted = refl; playing = refl; sized = refl; free_from = refl };
      ends = ends;
      running = λ left. refl;
      finished = λ none day. omega (arith, none, next_game_least m, p.some_games);
    }

-- ---- the ledger

-- a ledger with the same numbers
pub orderly_with :
    (m after : Model)
    → Orderly m
    → after.issued ≡ m.issued
    → numbers_of after.live ≡ numbers_of m.live
    → All (Kept after.game) after.live
    → BallsIn after.balls
    → 1 ≤ after.game
    → Orderly after
orderly_with m after ok issued numbers tickets balls games =
    let same = same_length m.live after.live numbers in
    record {
      issued = issued ∙ ok.issued ∙ sym same;
      numbers = numbers ∙ ok.numbers ∙ ap (games_from 1) (sym same);
      tickets = tickets;
      balls = balls;
      games = games;
    }

-- some tickets are changed, and their numbers are not
pub orderly_changed :
    (m : Model) (counters : Counters) (test : Ticket → Bool) (f : Ticket → Ticket)
    → Orderly m
    → ((t : Ticket) → (f t).number ≡ t.number)
    → ((t : Ticket) → Kept m.game t → Kept m.game (f t))
    → Orderly
    (record { day = m.day; game = m.game; balls = m.balls; issued = m.issued; live = map (λ t. cond (test t) (f t) t) m.live; six = m.six; eight = m.eight; counters = counters })
orderly_changed m counters test f ok same kept =
    orderly_with m _ ok refl
    (map_unseen (λ t. t.number) (λ t. cond (test t) (f t) t)
    (λ t. cond_either (λ (u : Ticket). u.number ≡ t.number) (test t) (same t) refl)
    m.live)
    (All-map (Kept m.game) (Kept m.game) (λ t. cond (test t) (f t) t)
    (λ t h. cond_either (Kept m.game) (test t) (kept t h) h)
    m.live
    ok.tickets)
    ok.balls
    ok.games

-- one ticket more, under the next number
orderly_more :
    (m : Model) (t : Ticket) (counters : Counters)
    → Orderly m
    → t.number ≡ m.issued + 1
    → Kept m.game t
    → Orderly
    (record { day = m.day; game = m.game; balls = m.balls; issued = m.issued + 1; live = m.live ++ (t ∷ []); six = m.six; eight = m.eight; counters = counters })
orderly_more m t counters ok next kept =
    let number : t.number ≡ 1 + length m.live = omega (arith, ok.issued) in
    let longer : length (m.live ++ (t ∷ [])) ≡ suc (length m.live) = rw (length-append m.live (t ∷ [])) (add-one (length m.live)) in
    record {
      issued = omega (arith, longer, ok.issued);
      numbers = rw (longer, games_from_more 1 (length m.live), map-append (λ (u : Ticket). u.number) m.live (t ∷ []), ok.numbers, number);
      tickets = All-append (Kept m.game) m.live (t ∷ []) ok.tickets (kept, tt);
      balls = ok.balls;
      games = ok.games;
    }

pub orderly_sold : (m : Model) (o : Operands) → Orderly m → SellAccepted (house_of m) o → Orderly (sold o m)
unfolding sold
orderly_sold m o ok h = orderly_more m (sold_ticket m o) _ ok refl (sold_kept m o (playable o h.checked) h.ends)

-- a collection changes one ticket and issues another
pub orderly_collected : (m : Model) (n : ℕ) → Orderly m → m.game ≤ game_limit + 1 → CollectAccepted (house_of m) n → Orderly (collected_ledger n m)
unfolding collected changed still_live
orderly_collected m n ok within h =
    let old : Ticket = ticket_at n (house_of m).live in
    let kept : Kept m.game old = (found n (Kept m.game) (is_live m.game) m.live ok.tickets h.here).0 in
    orderly_more _ (reissued_ticket m old) _
    (orderly_changed m m.counters (λ t. eqb t.number n) (collected_ticket m) ok
    (λ t. finished_on_keeps (λ u. u.number) (λ u d. refl) m.day m.game (with_stop (with_due t 0) m.game))
    (λ t. collected_kept m t h.opened within))
    refl
    (reissued_kept m old h.running kept)

-- the end of a game, whatever its awards and what pools and counters do
orderly_ended :
    (m : Model) (awards : List ℕ) (six eight : Jackpot) (counters : Counters)
    → Orderly m
    → (m.day ≡ 0 → ⊥)
    → Orderly
    (record { day = m.day; game = m.game + 1; balls = []; issued = m.issued; live = ended_tickets awards m; six = six; eight = eight; counters = counters })
orderly_ended m awards six eight counters ok opened =
    orderly_with m _ ok refl
    (map_unseen (λ t. t.number) (finished_on m.day (m.game + 1))
    (finished_on_keeps (λ t. t.number) (λ t d. refl) m.day (m.game + 1))
    (awarded m.game awards m.live)
    ∙ awarded_keeps (λ t. t.number) (λ t d. refl) m.game awards m.live)
    (All-map (Kept m.game) (Kept (m.game + 1)) (finished_on m.day (m.game + 1))
    (λ t. later_kept m.day m.game t opened)
    (awarded m.game awards m.live)
    (all_awarded (Kept m.game) (Kept m.game) m.game (award_kept m.game) awards m.live ok.tickets))
    no_balls
    (omega arith)

-- by the twentieth ball
pub orderly_settled :
    (m : Model) (b : ℕ) → Orderly m → (m.day ≡ 0 → ⊥)
    → Orderly (settled_ledger b m)
unfolding game_settled
orderly_settled m b ok opened = orderly_ended m (settlement b (house_of m)).awards _ _ _ ok opened

-- or by a call-off
pub orderly_called_off : (m : Model) → Orderly m → (m.day ≡ 0 → ⊥) → Orderly (called_off_ledger m)
unfolding game_called_off
orderly_called_off m ok opened = orderly_ended m (stakes_paid (house_of m)) _ _ _ ok opened

-- a ball before the twentieth
pub orderly_entered :
    (m : Model) (b : ℕ) → Orderly m → code_of (house_of m) (ball b) ≡ 0 → settles b m ≡ false
    → Orderly (ball_entered b m)
unfolding ball_entered
orderly_entered m b ok e early =
    orderly_with m _ ok refl refl ok.tickets (ball_in_lem (house_of m) b e early ok.balls) ok.games
