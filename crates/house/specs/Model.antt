-- "Fresh: day 0, game 1, no balls, no tickets, primaries at their guarantees, debts the same, seeds 1,350,000. Drawing means 1 to 19 balls
-- are in." The house as the commands change it. What is owed, held and pooled stands in the tickets and the pools: see Till.
use Rattle.std.specs.Prelude.{ℕ, ◌+◌, ◌-◌, Bool, not, cond, List, [], eqb, length}
use Rattle.prizes.specs.Jackpots.{guarantee_of_six, guarantee_of_eight, fresh_seeds, fresh_jackpot}
use Rattle.prizes.specs.declared.jackpot.Jackpot.{Jackpot}
pub use Rattle.house.specs.declared.state.Counters.{Counters}
use Rattle.house.specs.Tickets.{Ticket}

pub record Model : Type 0 where
  pub day : ℕ
  pub game : ℕ
  -- of the current game, in the order of the draw
  pub balls : List ℕ
  pub issued : ℕ
  -- in rising number
  pub live : List Ticket
  pub six : Jackpot
  pub eight : Jackpot
  -- the figures of the till that no ticket or pool tells; retained is gained less lost
  pub counters : Counters

abbrev pub ticket_limit : ℕ
ticket_limit = 9999999

abbrev pub game_limit : ℕ
game_limit = 9999999

abbrev pub live_limit : ℕ
live_limit = 200

abbrev pub fresh : Model
fresh =
    record {
      day = 0;
      game = 1;
      balls = [];
      issued = 0;
      live = [];
      six = fresh_jackpot guarantee_of_six;
      eight = fresh_jackpot guarantee_of_eight;
      counters = record { taken = 0; seeds = fresh_seeds; paid = 0; refunded = 0; unclaimed = 0; gained = 0; lost = 0 };
    }

abbrev pub is_drawing : Model → Bool
is_drawing m = not (eqb (length m.balls) 0)

-- the first game that is not being drawn: where a new ticket begins, and what Cancel can still take off
abbrev pub next_game : Model → ℕ
next_game m = cond (is_drawing m) (m.game + 1) m.game

-- the same house with other live tickets and counters
abbrev pub with_tickets : Model → List Ticket → Counters → Model
with_tickets m ts c =
    record { day = m.day; game = m.game; balls = m.balls; issued = m.issued; live = ts; six = m.six; eight = m.eight; counters = c }

-- the same house with other pools and counters
abbrev pub with_money : Model → Jackpot → Jackpot → Counters → Model
with_money m six eight c =
    record { day = m.day; game = m.game; balls = m.balls; issued = m.issued; live = m.live; six = six; eight = eight; counters = c }

-- one counter moved by so many cents
module _ (cents : ℕ) (c : Counters) where
  abbrev pub with_taken : Counters
  with_taken =
      record { taken = c.taken + cents; seeds = c.seeds; paid = c.paid; refunded = c.refunded; unclaimed = c.unclaimed; gained = c.gained; lost = c.lost }

  abbrev pub with_seeds : Counters
  with_seeds =
      record { taken = c.taken; seeds = c.seeds + cents; paid = c.paid; refunded = c.refunded; unclaimed = c.unclaimed; gained = c.gained; lost = c.lost }

  abbrev pub with_paid : Counters
  with_paid =
      record { taken = c.taken; seeds = c.seeds; paid = c.paid + cents; refunded = c.refunded; unclaimed = c.unclaimed; gained = c.gained; lost = c.lost }

  abbrev pub with_refunded : Counters
  with_refunded =
      record { taken = c.taken; seeds = c.seeds; paid = c.paid; refunded = c.refunded + cents; unclaimed = c.unclaimed; gained = c.gained; lost = c.lost }

  abbrev pub with_unclaimed : Counters
  with_unclaimed =
      record { taken = c.taken; seeds = c.seeds; paid = c.paid; refunded = c.refunded; unclaimed = c.unclaimed + cents; gained = c.gained; lost = c.lost }

  abbrev pub with_transferred : Counters
  with_transferred =
      record { taken = c.taken; seeds = c.seeds; paid = c.paid; refunded = c.refunded; unclaimed = c.unclaimed - cents; gained = c.gained; lost = c.lost }

  abbrev pub with_gained : Counters
  with_gained =
      record { taken = c.taken; seeds = c.seeds; paid = c.paid; refunded = c.refunded; unclaimed = c.unclaimed; gained = c.gained + cents; lost = c.lost }

  abbrev pub with_lost : Counters
  with_lost =
      record { taken = c.taken; seeds = c.seeds; paid = c.paid; refunded = c.refunded; unclaimed = c.unclaimed; gained = c.gained; lost = c.lost + cents }
