-- The ten commands: "Checked in this order [..] Top to bottom; the first met is given, and only then. A refusal answers its number, 0, 0 and
-- changes no house". Each command has its rows of the refusal table, what it does and what it answers; `step` puts them together.
use Rattle.std.specs.Prelude.{ℕ, ◌+◌, min, max, Bool, cond, not, ◌&&◌, ◌||◌, List, [], ◌∷◌, ◌++◌, map, ltb, leb, eqb, length}
use Rattle.sale.specs.Lists.{sum, keep, any, member}
use Rattle.sale.specs.Checks.{Operands, operand_rows, first_met, way_count, charge_of}
use Rattle.sale.specs.Price.{paid_games}
use Rattle.sale.specs.Ways.{sizes, size_word}
use Rattle.prizes.specs.Hits.{draw_of}
use Rattle.prizes.specs.Settle.{Settled, settle}
use Rattle.prizes.specs.declared.draw.Draw.{Draw}
use Rattle.sale.specs.Kinds.{jackpot_by}
use Rattle.std.specs.Prelude.{None}
use Rattle.calendar.specs.Calendar.{has_expired}
use Rattle.prizes.specs.declared.jackpot.Jackpot.{Jackpot}
pub use Rattle.house.specs.declared.answer.Answer.{Answer}
pub use Rattle.house.specs.Command.{Command, open', sell, cancel, ball, claim, expire, transfer, collect, call_off, Reply, replies}
use Rattle.house.specs.Tickets.{Ticket, terms_of, runs_in, is_finished, is_live, paid_stakes, entry_of, keno_to_go_begun, with_number, with_due, with_stop, with_finished_day}
use Rattle.house.specs.Model.{Model, Counters, ticket_limit, game_limit, live_limit, is_drawing, next_game, with_tickets, with_money, with_taken, with_seeds, with_paid, with_refunded, with_unclaimed, with_transferred, with_gained, with_lost}

-- ---- tickets by number

abbrev pub blank_ticket : Ticket
blank_ticket =
    record { number = 0; operands = record { kind = 0; games = 0; stake = 0; groups = 0; types = 0; feature = None; marks = [] }; ways = 0; jackpot = 0; sizes = 0; sold_day = 0; first = 0; stop = 0; free = 0; due = 0; finished_day = 0 }

-- the live ticket of a number, or the blank one
unfoldable pub ticket_at : ℕ → List Ticket → Ticket
ticket_at n [] = blank_ticket
ticket_at n (t ∷ ts) = cond (eqb t.number n) t (ticket_at n ts)

abbrev pub has_ticket : ℕ → List Ticket → Bool
has_ticket n ts = any (λ t. eqb t.number n) ts

-- the live tickets with a change made to one of them
unfoldable pub changed : ℕ → (Ticket → Ticket) → List Ticket → List Ticket
changed n f ts = map (λ t. cond (eqb t.number n) (f t) t) ts

-- those that are still live where the given game is the current one
unfoldable pub still_live : ℕ → List Ticket → List Ticket
still_live game ts = keep (is_live game) ts

-- a ticket that is now finished gets its finishing day
abbrev pub finished_on : ℕ → ℕ → Ticket → Ticket
finished_on day game t = cond (is_finished game t && eqb t.finished_day 0) (with_finished_day t day) t

-- ---- the refusal table

abbrev pub day_row : Model → Bool × ℕ
day_row m = (eqb m.day 0, 4)

-- Cancel, Claim and Collect begin with the ticket's number
abbrev pub lookup_rows : ℕ → Model → List (Bool × ℕ)
lookup_rows n m = day_row m ∷ (eqb n 0 || ltb m.issued n, 18) ∷ (not (has_ticket n m.live), 19) ∷ []

-- where Cancel cuts a ticket's games off
abbrev pub cancel_stop : Model → Ticket → ℕ
cancel_stop m t = max t.first (next_game m)

unfoldable pub rows_of : Model → Command → List (Bool × ℕ)
rows_of m (open' d) = (leb d m.day, 5) ∷ (is_drawing m, 6) ∷ []
rows_of m (sell o) =
    day_row m
    ∷ (operand_rows o
    ++ ((leb live_limit (length m.live), 16)
    ∷ (leb ticket_limit m.issued || ltb (game_limit + 1) (next_game m + o.games), 17)
    ∷ []))
rows_of m (cancel n) =
    lookup_rows n m
    ++ ((ltb (ticket_at n m.live).sold_day m.day, 20)
    ∷ (keno_to_go_begun m.game (is_drawing m) (ticket_at n m.live), 21)
    ∷ (leb (ticket_at n m.live).stop (cancel_stop m (ticket_at n m.live)), 22)
    ∷ [])
rows_of m (ball b) =
    day_row m
    ∷ (not (leb 1 b && leb b 80), 25)
    ∷ (ltb game_limit m.game, 26)
    ∷ (member b m.balls, 27)
    ∷ []
-- nothing asks whether something is due: a live ticket that is finished always is (finished_are_due in proofs/FinishedDue.antt)
rows_of m (claim n) = lookup_rows n m ++ ((not (is_finished m.game (ticket_at n m.live)), 23) ∷ [])
rows_of m expire = day_row m ∷ []
rows_of m (transfer j cents) =
    day_row m
    ∷ (not (eqb j 6 || eqb j 8), 28)
    ∷ (is_drawing m, 6)
    ∷ (eqb cents 0 || ltb m.counters.unclaimed cents, 29)
    ∷ []
rows_of m (collect n) =
    lookup_rows n m
    ++ ((is_finished m.game (ticket_at n m.live), 33)
    ∷ (eqb (ticket_at n m.live).due 0, 34)
    ∷ (leb ticket_limit m.issued, 35)
    ∷ [])
rows_of m call_off = day_row m ∷ (ltb game_limit m.game, 26) ∷ []

unfoldable pub code_of : Model → Command → ℕ
code_of m c = first_met (rows_of m c)

-- ---- what an accepted command does

-- Open: the day begins
unfoldable pub opened : ℕ → Model → Model
opened d m =
    record { day = d; game = m.game; balls = m.balls; issued = m.issued; live = m.live; six = m.six; eight = m.eight; counters = m.counters }

-- Sell: one ticket more, for its first game and those after it
abbrev pub sold_ticket : Model → Operands → Ticket
sold_ticket m o =
    record {
      number = m.issued + 1;
      operands = o;
      ways = way_count o;
      jackpot = jackpot_by (terms_of o) (sizes o.marks);
      sizes = size_word (sizes o.marks);
      sold_day = m.day;
      first = next_game m;
      stop = next_game m + o.games;
      free = next_game m + paid_games o.games;
      due = 0;
      finished_day = 0;
    }

unfoldable pub sold : Operands → Model → Model
sold o m =
    record {
      day = m.day;
      game = m.game;
      balls = m.balls;
      issued = m.issued + 1;
      live = m.live ++ (sold_ticket m o ∷ []);
      six = m.six;
      eight = m.eight;
      counters = with_taken (charge_of o) m.counters;
    }

-- Cancel: every undrawn game but the one being drawn is taken off, and its paid stakes go back
unfoldable pub refund_of : ℕ → Model → ℕ
refund_of n m =
    let t = ticket_at n m.live in
    paid_stakes (cancel_stop m t) t.stop t

abbrev pub cancelled_ticket : Model → Ticket → Ticket
cancelled_ticket m t = finished_on m.day m.game (with_stop t (min t.stop (cancel_stop m t)))

unfoldable pub cancelled : ℕ → Model → Model
cancelled n m =
    with_tickets m
    (still_live m.game (changed n (cancelled_ticket m) m.live))
    (with_refunded (refund_of n m) m.counters)

-- The end of a game, over any list of awards to the tickets that run in it, in their order: each ticket that runs in the game is due its award
-- beside what it was due,
unfoldable pub awarded : ℕ → List ℕ → List Ticket → List Ticket
awarded game awards [] = []
awarded game [] (t ∷ ts) = t ∷ awarded game [] ts
awarded game (a ∷ awards) (t ∷ ts) =
    cond (runs_in game t) (with_due t (t.due + a) ∷ awarded game awards ts) (t ∷ awarded game (a ∷ awards) ts)

-- one with no game left gets the day as its finishing day, and one with nothing due then closes;
abbrev pub tickets_after_game : ℕ → ℕ → List ℕ → List Ticket → List Ticket
tickets_after_game day game awards ts = still_live (game + 1) (map (finished_on day (game + 1)) (awarded game awards ts))

-- the next game is current and has no balls. What the pools and the counters do is for the command to say.
abbrev pub game_ended : List ℕ → Model → Model
game_ended awards m =
    record {
      day = m.day;
      game = m.game + 1;
      balls = [];
      issued = m.issued;
      live = tickets_after_game m.day m.game awards m.live;
      six = m.six;
      eight = m.eight;
      counters = m.counters;
    }

-- Ball: one number more; the twentieth settles the game
abbrev pub balls_with : ℕ → Model → List ℕ
balls_with b m = m.balls ++ (b ∷ [])

abbrev pub settles : ℕ → Model → Bool
settles b m = eqb (length (balls_with b m)) 20

abbrev pub running_in : Model → List Ticket
running_in m = keep (runs_in m.game) m.live

-- the settlement of the current game by a draw
abbrev pub settled_by : Draw → Model → Settled
settled_by draw m = settle draw m.six m.eight (map (entry_of m.game) (running_in m))

unfoldable pub settlement : ℕ → Model → Settled
settlement b m = settled_by (draw_of (balls_with b m)) m

-- what each ticket that runs in the current game paid for it, its ways and its feature together: nothing in a free game
abbrev pub stakes_paid : Model → List ℕ
stakes_paid m = map (paid_stakes m.game (m.game + 1)) (running_in m)

-- the paid stakes of the game that is drawn
abbrev pub stakes_drawn : Model → ℕ
stakes_drawn m = sum (stakes_paid m)

-- seeds, and what the house gains and loses by a drawn game
abbrev pub after_game : ℕ → Settled → Counters → Counters
after_game stakes s c =
    with_seeds s.seeds (with_gained s.repaid (with_gained stakes (with_lost s.prizes (with_lost s.contributions c))))

unfoldable pub game_settled : ℕ → Model → Model
game_settled b m =
    let s = settlement b m in
    with_money (game_ended s.awards m) s.six s.eight (after_game (stakes_drawn m) s m.counters)

unfoldable pub ball_entered : ℕ → Model → Model
ball_entered b m =
    record { day = m.day; game = m.game; balls = balls_with b m; issued = m.issued; live = m.live; six = m.six; eight = m.eight; counters = m.counters }

-- Claim: everything the ticket won and is given back is paid, and it closes
unfoldable pub claimed : ℕ → Model → Model
claimed n m =
    with_tickets m
    (still_live m.game (changed n (λ t. with_due t 0) m.live))
    (with_paid (ticket_at n m.live).due m.counters)

-- Expire: live finished tickets, once "today is later than [the] finishing date a year on", into the unclaimed fund
unfoldable pub is_expired : Model → Ticket → Bool
is_expired m t = is_finished m.game t && has_expired m.day t.finished_day

abbrev pub expiring : Model → List Ticket
expiring m = keep (is_expired m) m.live

unfoldable pub expired : Model → Model
expired m =
    with_tickets m
    (still_live m.game (map (λ t. cond (is_expired m t) (with_due t 0) t) m.live))
    (with_unclaimed (sum (map (λ t. t.due) (expiring m))) m.counters)

-- Transfer: unclaimed money into a primary
abbrev pub with_primary : Jackpot → ℕ → Jackpot
with_primary j cents = record { primary = cents; secondary = j.secondary; reimbursement = j.reimbursement; debt = j.debt }

abbrev pub jackpot_for : ℕ → Model → Jackpot
jackpot_for j m = cond (eqb j 6) m.six m.eight

unfoldable pub transferred : ℕ → ℕ → Model → Model
transferred j cents m =
    with_money m
    (cond (eqb j 6) (with_primary m.six (m.six.primary + cents)) m.six)
    (cond (eqb j 6) m.eight (with_primary m.eight (m.eight.primary + cents)))
    (with_transferred cents m.counters)

-- Collect: "pays what is due, closes that number and reissues the games left, paid and free ones as before, under the next ticket number with the old sale
-- day". The old number's games end at the current one, and with nothing due it closes;
abbrev pub collected_ticket : Model → Ticket → Ticket
collected_ticket m t = finished_on m.day m.game (with_stop (with_due t 0) m.game)

-- the new one is the same ticket with nothing due. It is begun, so that of its games those from the current one on are left, being drawn or not.
abbrev pub reissued_ticket : Model → Ticket → Ticket
reissued_ticket m t = with_number (with_due t 0) (m.issued + 1)

unfoldable pub collected : ℕ → Model → Model
collected n m =
    let t = ticket_at n m.live in
    record {
      day = m.day;
      game = m.game;
      balls = m.balls;
      issued = m.issued + 1;
      live = still_live m.game (changed n (collected_ticket m) m.live) ++ (reissued_ticket m t ∷ []);
      six = m.six;
      eight = m.eight;
      counters = with_paid t.due m.counters;
    }

-- Call off: "drops the current game, its balls with it. Each live ticket that runs in it is due its paid stake for it, all its ways and any feature stake
-- together; a free game gives nothing." So the game ends, and its awards are the stakes; pools and counters stand.
unfoldable pub game_called_off : Model → Model
game_called_off m = game_ended (stakes_paid m) m

-- ---- each command: what it does, and the number and cents of its answer

unfoldable pub act : Model → Command → Model
act m (open' d) = opened d m
act m (sell o) = sold o m
act m (cancel n) = cancelled n m
act m (ball b) = cond (settles b m) (game_settled b m) (ball_entered b m)
act m (claim n) = claimed n m
act m expire = expired m
act m (transfer j cents) = transferred j cents m
act m (collect n) = collected n m
act m call_off = game_called_off m

unfoldable pub reply : Model → Command → Reply
reply m (open' d) = replies d 0
reply m (sell o) = replies (m.issued + 1) (charge_of o)
reply m (cancel n) = replies n (refund_of n m)
reply m (ball b) =
    replies (length (balls_with b m)) (cond (settles b m) ((settlement b m).prizes + (settlement b m).shares) 0)
reply m (claim n) = replies n (ticket_at n m.live).due
reply m expire = replies (length (expiring m)) (sum (map (λ t. t.due) (expiring m)))
reply m (transfer j cents) = replies j ((jackpot_for j m).primary + cents)
reply m (collect n) = replies (m.issued + 1) (ticket_at n m.live).due
reply m call_off = replies m.game (sum (stakes_paid m))

-- ---- one command

-- an accepted command answers 0 and its reply
abbrev pub answer_of : Reply → Answer
answer_of r = record { code = 0; number = r.number; cents = r.cents }

pub record Outcome : Type 0 where
  pub house : Model
  pub answer : Answer

unfoldable pub step : Model → Command → Outcome
step m c =
    let code = code_of m c in
    cond (eqb code 0)
    (record { house = act m c; answer = answer_of (reply m c) })
    (record { house = m; answer = record { code = code; number = 0; cents = 0 } })
