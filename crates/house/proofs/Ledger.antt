-- The ledger: a model in which no ticket is ever dropped. The house is the ledger's live tickets, and the count sheet is what the ledger's
-- tickets read as lines; so each command is followed once from the ledger to the house and once from the ledger to the sheet.
use Prim.Native.Nat.{ℕ, ◌+◌, ◌≤◌, max}
use mathlib.Core.Path.{◌≡◌}
use mathlib.Core.Bool.{cond}
use mathlib.Core.List.{List, [], ◌∷◌, ◌++◌, map}
use lib.ListN.{length}
use Rattle.sale.specs.Checks.{way_count}
use Rattle.sale.specs.Price.{paid_games}
use Rattle.sale.specs.Ways.{sizes, size_word}
use Rattle.sale.specs.Kinds.{jackpot_by}
use Rattle.sale.specs.Bounds.{Playable}
use Rattle.house.specs.Tickets.{Ticket, terms_of, games_left, with_due, with_stop, with_finished_day}
use Rattle.house.specs.Model.{Model, game_limit}
use Rattle.house.specs.Commands.{still_live, changed, cancelled_ticket, cancelled, settlement, stakes_paid, awarded, finished_on, game_settled, game_called_off, claimed, is_expired, expired, ticket_at, collected_ticket, reissued_ticket, collected}
use Rattle.house.specs.Till.{till_of}
use Rattle.house.specs.Draws.{DifferentBalls}
use Rattle.house.specs.Sheet.{Sheet, Line, games_from}

abbrev pub with_live : Model → List Ticket → Model
with_live m ts =
    record { day = m.day; game = m.game; balls = m.balls; issued = m.issued; live = ts; six = m.six; eight = m.eight; counters = m.counters }

-- the house of a ledger
abbrev pub house_of : Model → Model
house_of m = with_live m (still_live m.game m.live)

-- the ledger's tickets after the current game, by its awards
abbrev pub ended_tickets : List ℕ → Model → List Ticket
ended_tickets awards m = map (finished_on m.day (m.game + 1)) (awarded m.game awards m.live)

-- The ledger after a command that may close tickets: as the house, and none is dropped. After the others it is what they make of the ledger.
abbrev pub cancelled_ledger : ℕ → Model → Model
cancelled_ledger n m = with_live (cancelled n (house_of m)) (changed n (cancelled_ticket m) m.live)

abbrev pub claimed_ledger : ℕ → Model → Model
claimed_ledger n m = with_live (claimed n (house_of m)) (changed n (λ t. with_due t 0) m.live)

abbrev pub expired_ledger : Model → Model
expired_ledger m = with_live (expired (house_of m)) (map (λ t. cond (is_expired m t) (with_due t 0) t) m.live)

abbrev pub collected_ledger : ℕ → Model → Model
collected_ledger n m =
    with_live (collected n (house_of m)) (changed n (collected_ticket m) m.live ++ (reissued_ticket m (ticket_at n (house_of m).live) ∷ []))

abbrev pub settled_ledger : ℕ → Model → Model
settled_ledger b m = with_live (game_settled b (house_of m)) (ended_tickets (settlement b (house_of m)).awards m)

abbrev pub called_off_ledger : Model → Model
called_off_ledger m = with_live (game_called_off (house_of m)) (ended_tickets (stakes_paid (house_of m)) m)

-- a ticket of the ledger as a line of the sheet
abbrev pub line_of : ℕ → Ticket → Line
line_of game t =
    record { number = t.number; operands = t.operands; first = t.first; left = games_from (max t.first game) (games_left game t); due = t.due; finishing_day = t.finished_day }

-- the sheet of a ledger; its figures are the till over all tickets, of which those that are closed add nothing
abbrev pub sheet_for : Model → Sheet
sheet_for m =
    record { today = m.day; game = m.game; balls = m.balls; six = m.six; eight = m.eight; lines = map (line_of m.game) m.live; figures = till_of m }

-- P of every element
abbrev pub All : {A : Type 0} → (A → Type 0) → List A → Type 0
All P [] = Unit {0}
All P (x ∷ xs) = P x × All P xs

-- what the sale of a ticket fixes
pub record Fixed (t : Ticket) : Type 0 where
  pub playable : Playable t.operands
  pub counted : t.ways ≡ way_count t.operands
  pub playing : t.jackpot ≡ jackpot_by (terms_of t.operands) (sizes t.operands.marks)
  pub sized : t.sizes ≡ size_word (sizes t.operands.marks)
  pub free_from : t.free ≡ t.first + paid_games t.operands.games

-- a ticket without what commands change of it: the end of its games, what it is due and its finishing day
abbrev pub fixed_part : Ticket → Ticket
fixed_part t = with_finished_day (with_due (with_stop t 0) 0) 0

-- what holds of every ticket where the given game is the current one
pub record Kept (game : ℕ) (t : Ticket) : Type 0 where
  pub fixed : Fixed (fixed_part t)
  pub ends : t.stop ≤ game_limit + 1
  -- the finishing day is set just where no game is left
  pub running : (games_left game t ≡ 0 → ⊥) → t.finished_day ≡ 0
  pub finished : games_left game t ≡ 0 → t.finished_day ≡ 0 → ⊥

-- what holds of the balls of a game that is not yet complete
pub record BallsIn (balls : List ℕ) : Type 0 where
  pub few : length balls ≤ 19
  pub differ : DifferentBalls balls

-- what holds of every ledger
pub record Orderly (m : Model) : Type 0 where
  pub issued : m.issued ≡ length m.live
  pub numbers : map (λ t. t.number) m.live ≡ games_from 1 (length m.live)
  pub tickets : All (Kept m.game) m.live
  pub balls : BallsIn m.balls
  pub games : 1 ≤ m.game
