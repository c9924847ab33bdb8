-- The parts of a game's settlement as the code goes through them, ticket by ticket over the live ones. Each figure of a settled game (the rule book's
-- `settle`) is a list over the entries, which are the tickets that run in the game; here it is spread over all live tickets, 0 for the others.
use Rattle.std.specs.Prelude.{ℕ, ◌+◌, ◌<◌, ◌^◌, ◌≡◌, cond, length, take, eqb}
use mathlib.Core.List.{List, [], ◌∷◌, map}
use Rattle.sale.specs.Lists.{keep}
use Rattle.sale.specs.Checks.{feature_stake}
use Rattle.prizes.specs.LuckyLast.{lucky_last_prize}
use Rattle.prizes.specs.Settle.{Entry, JackpotResult, way_prizes, majors_of, prizes_of, all_prizes_of, full_matches, settle_jackpot}
use Rattle.prizes.specs.Jackpots.{guarantee_of_six, guarantee_of_eight}
use Rattle.prizes.specs.declared.draw.Draw.{Draw}
use Rattle.house.specs.Tickets.{Ticket, runs_in, entry_of}
use Rattle.house.specs.Model.{Model}
use Rattle.house.specs.Commands.{settled_by, stakes_drawn}
use Rattle.house.specs.Balance.{Reached}
use Rattle.settlement.specs.declared.settle.Settlement.{Settlement}
use Rattle.prizes.specs.declared.jackpot.Jackpot.{Jackpot}

abbrev pub entries_of : ℕ → List Ticket → List Entry
entries_of game ts = map (entry_of game) (keep (runs_in game) ts)

-- a figure of each entry at the ticket's place, and 0 at the places of tickets that do not run
unfoldable pub spread : ℕ → List ℕ → List Ticket → List ℕ
spread game figures [] = []
spread game [] (t ∷ ts) = 0 ∷ spread game [] ts
spread game (x ∷ figures) (t ∷ ts) =
    cond (runs_in game t) (x ∷ spread game figures ts) (0 ∷ spread game (x ∷ figures) ts)

-- the prizes of a ticket's ways before any cut, and none for one that does not run
unfoldable pub prizes_at : ℕ → Draw → Ticket → List ℕ
prizes_at game draw t = cond (runs_in game t) (way_prizes draw (entry_of game t)) []

-- the ways of a ticket that match all their numbers, none for one that does not run
unfoldable pub matches_at : ℕ → Draw → Ticket → ℕ
matches_at game draw t = cond (runs_in game t) (full_matches draw (entry_of game t)) 0

-- the prizes of each entry's ways, as cut
unfoldable pub payouts_in : ℕ → Draw → List Ticket → List ℕ
payouts_in game draw ts = map (prizes_of (majors_of draw (entries_of game ts)) draw) (entries_of game ts)

-- the feature prize of a ticket, none for one that does not run
unfoldable pub feature_at : ℕ → Draw → Ticket → ℕ
feature_at game draw t = cond (runs_in game t) (lucky_last_prize draw t.operands.marks (feature_stake t.operands.feature)) 0

-- all prizes of each entry
unfoldable pub prizes_in : ℕ → Draw → List Ticket → List ℕ
prizes_in game draw ts = map (all_prizes_of (majors_of draw (entries_of game ts)) draw) (entries_of game ts)

-- the full matches of each entry
unfoldable pub full_in : ℕ → Draw → List Ticket → List ℕ
full_in game draw ts = map (full_matches draw) (entries_of game ts)

-- the guarantee of a jackpot
abbrev pub guarantee_of : ℕ → ℕ
guarantee_of j = cond (eqb j 6) guarantee_of_six guarantee_of_eight

-- one jackpot's part in the game of some live tickets, by its number
abbrev pub jackpot_part : ℕ → ℕ → Draw → Jackpot → List Ticket → JackpotResult
jackpot_part j game draw before ts = settle_jackpot j (guarantee_of j) draw before (entries_of game ts)

-- a reached house, and a draw that awards no more than fits beside what is owed
pub record Settleable (m : Model) (draw : Draw) : Type 0 where
  pub reached : Reached m
  pub room : (settled_by draw m).prizes + (settled_by draw m).shares < 2 ^ 62

-- A game settled as the rule book has it: the awards, one at the place of each live ticket, the totals, and the two jackpots after it.
pub record SettledAs (m : Model) (draw : Draw) (table : List ℕ) (r : Settlement) : Type 0 where
  pub awards : take (length m.live) table ≡ spread m.game (settled_by draw m).awards m.live
  pub prizes : r.prizes ≡ (settled_by draw m).prizes
  pub stakes : r.stakes ≡ stakes_drawn m
  pub shares : r.six.shares + r.eight.shares ≡ (settled_by draw m).shares
  pub contributions : r.six.contributions + r.eight.contributions ≡ (settled_by draw m).contributions
  pub seeds : r.six.seed + r.eight.seed ≡ (settled_by draw m).seeds
  pub repaid : r.six.repaid + r.eight.repaid ≡ (settled_by draw m).repaid
  pub six : r.six.after ≡ (settled_by draw m).six
  pub eight : r.eight.after ≡ (settled_by draw m).eight
