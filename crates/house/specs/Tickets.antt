-- "A ticket runs 1 to 100 games in a row. [..] the last ones are free but play for prizes at full stake. [..] A Keno To Go ticket (50 games
-- or more) cancels only before the first ball of its first game (rule 8.3). A ticket is finished when none of its games is left to draw; that
-- day is its finishing day. A finished ticket closes when nothing is due, when claimed, or when expired; until then a ticket is live."
use Rattle.std.specs.Prelude.{ℕ, ◌+◌, ◌-◌, min, max, Bool, not, ◌&&◌, ◌||◌, ltb, leb, eqb}
use Rattle.sale.specs.Kinds.{kind_of}
use Rattle.sale.specs.Price.{game_price, charge}
use Rattle.sale.specs.Checks.{Operands, feature_stake}
use Rattle.prizes.specs.Settle.{Entry}
use Rattle.sale.specs.declared.terms.Terms.{Terms}

pub record Ticket : Type 0 where
  pub number : ℕ
  pub operands : Operands
  -- how many ways the operands make, the jackpot that they play for: 6, 8, or 0 for none, and the sizes of the groups in one word
  pub ways : ℕ
  pub jackpot : ℕ
  pub sizes : ℕ
  pub sold_day : ℕ
  -- the first game, the one after the last that is not cancelled, and the first that is free
  pub first : ℕ
  pub stop : ℕ
  pub free : ℕ
  pub due : ℕ
  -- the finishing day, and 0 before it
  pub finished_day : ℕ

abbrev pub terms_of : Operands → Terms
terms_of o =
    record { kind = kind_of o.kind; games = o.games; stake = o.stake; groups = o.groups; types = o.types }

unfoldable pub runs_in : ℕ → Ticket → Bool
runs_in game t = leb t.first game && ltb game t.stop

-- how many games are left to draw where the given game is the current one
unfoldable pub games_left : ℕ → Ticket → ℕ
games_left game t = t.stop - max t.first game

abbrev pub is_finished : ℕ → Ticket → Bool
is_finished game t = eqb (games_left game t) 0

abbrev pub is_live : ℕ → Ticket → Bool
is_live game t = not (is_finished game t && eqb t.due 0)

-- what it pays for a game, its ways and its feature together
abbrev pub ticket_price : Ticket → ℕ
ticket_price t = game_price t.operands.stake t.ways (feature_stake t.operands.feature)

-- the paid stakes of the games from one up to another: those from the first free game on are not paid
unfoldable pub paid_stakes : ℕ → ℕ → Ticket → ℕ
paid_stakes from upto t = charge (ticket_price t) (min upto t.free - min from t.free)

-- of the games that are left
abbrev pub held_for : ℕ → Ticket → ℕ
held_for game t = paid_stakes (max t.first game) t.stop t

-- the ticket as an entry of a game that it runs in; it plays for its feature in free games too
abbrev pub entry_of : ℕ → Ticket → Entry
entry_of game t =
    record {
      terms = terms_of t.operands;
      marks = t.operands.marks;
      paid = paid_stakes game (game + 1) t;
      feature = feature_stake t.operands.feature;
    }

-- "Keno To Go begun": 50 games or more as sold, and the first of them has a ball in, or is past
unfoldable pub keno_to_go_begun : ℕ → Bool → Ticket → Bool
keno_to_go_begun game drawing t = leb 50 t.operands.games && (ltb t.first game || (eqb t.first game && drawing))

module _ (t : Ticket) where
  abbrev pub with_number : ℕ → Ticket
  with_number n =
      record { number = n; operands = t.operands; ways = t.ways; jackpot = t.jackpot; sizes = t.sizes; sold_day = t.sold_day; first = t.first; stop = t.stop; free = t.free; due = t.due; finished_day = t.finished_day }

  abbrev pub with_due : ℕ → Ticket
  with_due cents =
      record { number = t.number; operands = t.operands; ways = t.ways; jackpot = t.jackpot; sizes = t.sizes; sold_day = t.sold_day; first = t.first; stop = t.stop; free = t.free; due = cents; finished_day = t.finished_day }

  abbrev pub with_stop : ℕ → Ticket
  with_stop game =
      record { number = t.number; operands = t.operands; ways = t.ways; jackpot = t.jackpot; sizes = t.sizes; sold_day = t.sold_day; first = t.first; stop = game; free = t.free; due = t.due; finished_day = t.finished_day }

  abbrev pub with_finished_day : ℕ → Ticket
  with_finished_day day =
      record { number = t.number; operands = t.operands; ways = t.ways; jackpot = t.jackpot; sizes = t.sizes; sold_day = t.sold_day; first = t.first; stop = t.stop; free = t.free; due = t.due; finished_day = day }
