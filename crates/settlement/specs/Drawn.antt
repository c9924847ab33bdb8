-- What the private parts that settle a drawn game hand on to one another.
use Rattle.std.specs.Prelude.{ℕ, ◌+◌, ◌<◌, ◌^◌, ◌≡◌, length, take}
use mathlib.Core.List.{List, map, zip_with}
use Rattle.std.proofs.lemmas.List.Edits.{sets}
use Rattle.sale.specs.Lists.{sum, below, keep}
use Rattle.prizes.specs.declared.jackpot.Jackpot.{Jackpot}
use Rattle.prizes.specs.declared.majors.Majors.{Majors}
use Rattle.prizes.specs.Settle.{Settled, settle}
use Rattle.house.specs.Tickets.{Ticket, runs_in, paid_stakes}
use Rattle.house.specs.View.{ticket_in}
use Rattle.settlement.specs.Settling.{spread, entries_of, prizes_at, matches_at, payouts_in, prizes_in, full_in, jackpot_part}
use Rattle.settlement.specs.Passing.{live_in, prizes_below, sure_cents, all_majors, full_of}
use Rattle.settlement.specs.declared.drawn_game.DrawnGame.{DrawnGame}
use Rattle.settlement.specs.declared.ways.TicketWays.{TicketWays}
use Rattle.settlement.specs.declared.shares.Part.{Part}
use Rattle.settlement.specs.declared.settle.Settlement.{Settlement}

abbrev pub drawn_tickets : DrawnGame → List Ticket
drawn_tickets g = live_in g.rows.now g.marks.now g.live

-- what the ways of the ticket at a place win
abbrev pub ways_at : DrawnGame → ℕ → TicketWays
ways_at g i =
    record {
      found =
          record {
            sure = sure_cents (prizes_at g.game g.draw (ticket_in g.rows.now g.marks.now i));
            full = matches_at g.game g.draw (ticket_in g.rows.now g.marks.now i);
          };
      majors = length (all_majors (prizes_below g.rows.now g.marks.now g.game g.draw (i + 1)));
    }

-- the pass over all tickets: what the ways of each win, and the major prizes, of which a table of 250 places has the first
pub record FoundAll (g : DrawnGame) (ways : List TicketWays) (before : List ℕ) (majors : Majors) : Type 0 where
  pub found : ways ≡ map (ways_at g) (below g.live)
  pub listed : majors.prizes ≡ sets before 0 (all_majors (prizes_below g.rows.now g.marks.now g.game g.draw g.live))
  pub together : majors.count ≡ length (all_majors (prizes_below g.rows.now g.marks.now g.game g.draw g.live))
  pub places : length before ≡ 250

-- the full matches at the places of the tickets that run
abbrev pub Matched : DrawnGame → List TicketWays → Type 0
Matched g ways = full_of ways ≡ spread g.game (full_in g.game g.draw (drawn_tickets g)) (drawn_tickets g)

-- the same with what the ways are paid
pub record PaidOut (g : DrawnGame) (ways : List TicketWays) (paid : List ℕ) : Type 0 where
  pub payouts : paid ≡ spread g.game (payouts_in g.game g.draw (drawn_tickets g)) (drawn_tickets g)
  pub matches : Matched g ways

-- the same once the feature prizes are joined to it
pub record Prized (g : DrawnGame) (ways : List TicketWays) (paid : List ℕ) : Type 0 where
  pub prizes : paid ≡ spread g.game (prizes_in g.game g.draw (drawn_tickets g)) (drawn_tickets g)
  pub matches : Matched g ways

-- pools with room for what a game adds to them
pub record PoolsFit (p : Jackpot) : Type 0 where
  pub primary : p.primary < 2 ^ 62
  pub secondary : p.secondary < 2 ^ 62
  pub reimbursement : p.reimbursement < 2 ^ 62
  pub debt : p.debt < 2 ^ 62

-- a jackpot shared: its part of the game, and its shares joined to what each ticket is paid
pub record SharedOut (g : DrawnGame) (j : ℕ) (before : Jackpot) (paid paid' : List ℕ) (r : Part) : Type 0 where
  pub after : r.after ≡ (jackpot_part j g.game g.draw before (drawn_tickets g)).after
  pub shares : r.shares ≡ sum (jackpot_part j g.game g.draw before (drawn_tickets g)).shares
  pub contributions : r.contributions ≡ (jackpot_part j g.game g.draw before (drawn_tickets g)).contributions
  pub seed : r.seed ≡ (jackpot_part j g.game g.draw before (drawn_tickets g)).seed
  pub repaid : r.repaid ≡ (jackpot_part j g.game g.draw before (drawn_tickets g)).repaid
  pub joined :
      (figures : List ℕ) → length figures ≡ length (entries_of g.game (drawn_tickets g))
      → paid ≡ spread g.game figures (drawn_tickets g)
      → paid' ≡ spread g.game (zip_with ◌+◌ figures (jackpot_part j g.game g.draw before (drawn_tickets g)).shares) (drawn_tickets g)

-- the game's settlement by the rule book, from the jackpots before it
abbrev pub settled_game : DrawnGame → Jackpot → Jackpot → Settled
settled_game g six eight = settle g.draw six eight (entries_of g.game (drawn_tickets g))

-- the game settled so: the awards, one at the place of each ticket, the totals, and the two jackpots after it
pub record SettledGame (g : DrawnGame) (before_six before_eight : Jackpot) (table : List ℕ) (r : Settlement) : Type 0 where
  pub awards : take g.live table ≡ spread g.game (settled_game g before_six before_eight).awards (drawn_tickets g)
  pub prizes : r.prizes ≡ (settled_game g before_six before_eight).prizes
  pub stakes : r.stakes ≡ sum (map (paid_stakes g.game (g.game + 1)) (keep (runs_in g.game) (drawn_tickets g)))
  pub shares : r.six.shares + r.eight.shares ≡ (settled_game g before_six before_eight).shares
  pub contributions : r.six.contributions + r.eight.contributions ≡ (settled_game g before_six before_eight).contributions
  pub seeds : r.six.seed + r.eight.seed ≡ (settled_game g before_six before_eight).seeds
  pub repaid : r.six.repaid + r.eight.repaid ≡ (settled_game g before_six before_eight).repaid
  pub six : r.six.after ≡ (settled_game g before_six before_eight).six
  pub eight : r.eight.after ≡ (settled_game g before_six before_eight).eight
