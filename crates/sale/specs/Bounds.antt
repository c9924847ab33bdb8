-- The bounds that some parts of a sale, and of the walk over ways, ask of their callers, so that no sum or product passes 64 bits. Every sale gives
-- them (`Playable`).
use Rattle.std.specs.Prelude.{ℕ, ◌-◌, ◌≤◌, ◌<◌, ◌^◌, ◌≡◌, List, length, get_or}
use Rattle.sale.specs.Price.{charge_limit}
use Rattle.sale.specs.Checks.{Operands, price_of, charge_of}
use Rattle.sale.specs.declared.terms.Terms.{Terms}

-- what every sale gives of a ticket's terms
pub record Sound (t : Terms) : Type 0 where
  pub groups : t.groups ≤ 8
  pub stake : t.stake ≤ charge_limit

-- a place in the walk over a ticket's ways: so many of at most 8 groups are left to take or to leave, and the mask has the choice of the others
pub record Place (left mask : ℕ) : Type 0 where
  pub groups : left ≤ 8
  pub chosen : mask < 2 ^ (8 - left)

-- as many groups as a ticket can have
pub record Grouped (groups : ℕ) : Type 0 where
  pub few : groups ≤ 8

-- as many ways as eight groups can make
pub record Counted (ways : ℕ) : Type 0 where
  pub few : ways ≤ 255

-- no more marks than a ticket has
pub record Marked (marks : List ℕ) : Type 0 where
  pub few : length marks ≤ 80

-- counts of the groups' marks, each with room for one more
pub record Countable (counts : List ℕ) : Type 0 where
  pub room : (k : ℕ) → get_or counts k 0 < 255

-- a table of bytes: that a lent one has no more in a place is for its lender to say
pub record Bytes (table : List ℕ) : Type 0 where
  pub small : (k : ℕ) → get_or table k 0 ≤ 255

-- marks that name one of the eight groups, or none
pub record Grouping (marks : List ℕ) : Type 0 where
  pub few : (n : ℕ) → get_or marks n 0 ≤ 8

-- The operands of a ticket, with the bounds that every sale gives, whichever checks it makes. That there are at most 255 ways follows from the
-- groups.
pub record Playable (o : Operands) : Type 0 where
  pub kind : o.kind ≤ 3
  pub some_games : 1 ≤ o.games
  pub few_games : o.games ≤ 100
  pub groups : o.groups ≤ 8
  pub types : o.types < 2 ^ 8
  pub eighty : length o.marks ≡ 80
  pub marks : Grouping o.marks
  pub stake : o.stake ≤ charge_limit
  pub one_game : price_of o ≤ charge_limit
  pub charge : charge_of o ≤ charge_limit
