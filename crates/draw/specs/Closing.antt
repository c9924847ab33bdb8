-- What the last steps of a game's code give each other: a ticket after the game, the house once it has taken in a settled game, and what the steps
-- ask of their callers.
use Rattle.std.specs.Prelude.{ℕ, ◌+◌, ◌≤◌, ◌<◌, ◌^◌, ◌≡◌, List, length, get_or}
use Rattle.prizes.specs.Hits.{draw_of}
use Rattle.prizes.specs.declared.draw.Draw.{Draw}
use Rattle.house.specs.Tickets.{Ticket, with_due}
use Rattle.house.specs.Model.{Model, with_seeds, with_gained, with_lost}
use Rattle.house.specs.Commands.{ball, code_of, balls_with, finished_on}
use Rattle.house.specs.Balance.{Reached}
use Rattle.house.specs.View.{row_at, Affordable}
use Rattle.house.specs.declared.state.House.{House}
use Rattle.house.specs.declared.state.Counters.{Counters}
use Rattle.settlement.specs.declared.settle.Settlement.{Settlement}

-- a ticket with what it is paid, and with the day as its finishing day where the given game is the current one and none of its games is left
abbrev pub paid_ticket : ℕ → ℕ → ℕ → Ticket → Ticket
paid_ticket day game cents t = finished_on day game (with_due t (t.due + cents))

-- the counters once a settled game is taken in
abbrev pub counters_settled : Counters → Settlement → Counters
counters_settled c s =
    with_seeds (s.six.seed + s.eight.seed)
    (with_gained (s.six.repaid + s.eight.repaid)
    (with_gained s.stakes (with_lost s.prizes (with_lost (s.six.contributions + s.eight.contributions) c))))

-- the house with its pools and its counters
abbrev pub house_settled : House → Settlement → House
house_settled h s =
    record {
      day = h.day;
      game = h.game;
      balls = h.balls;
      drawn = h.drawn;
      issued = h.issued;
      live = h.live;
      six = s.six.after;
      eight = s.eight.after;
      counters = counters_settled h.counters s;
    }

-- counters that a settled game leaves within 64 bits
pub record RoomyCounters (c : Counters) : Type 0 where
  pub seeds : c.seeds < 2 ^ 62
  pub gained : c.gained < 2 ^ 62
  pub lost : c.lost < 2 ^ 62

-- a house whose game can end: room for the next game's number, and in each live ticket's due for what a table awards it
pub record Endable (h : House) (words awards : List ℕ) : Type 0 where
  pub few : h.live ≤ 200
  pub game : h.game < 2 ^ 62
  pub room : (i : ℕ) → i < h.live → (row_at words i).due + get_or awards i 0 < 2 ^ 64

-- live rows whose price of a game is within the most that a ticket can cost
pub record PricedRows (h : House) (words : List ℕ) : Type 0 where
  pub few : h.live ≤ 200
  pub within : (i : ℕ) → i < h.live → Affordable (row_at words i)

-- the draw that an accepted ball completes, its game's twentieth
pub record CompletesDraw (m : Model) (number : ℕ) (draw : Draw) : Type 0 where
  pub accepted : code_of m (ball number) ≡ 0
  pub last : length m.balls ≡ 19
  pub draw' : draw ≡ draw_of (balls_with number m)

-- the same of a reached house, whichever the ball
pub record CompletedDraw (m : Model) (draw : Draw) : Type 0 where
  pub reached : Reached m
  pub number : ℕ
  pub drawn : CompletesDraw m number draw
