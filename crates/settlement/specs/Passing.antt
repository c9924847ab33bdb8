-- What the private parts that find a game's prizes rely on and hand on to one another.
use Rattle.std.specs.Prelude.{ℕ, ◌+◌, ◌≤◌, ◌<◌, ◌^◌, ◌≡◌, length, take, get_or}
use mathlib.Core.List.{List, [], ◌∷◌, ◌++◌, map, Memᴰ}
use Rattle.sale.specs.Lists.{sum, below, keep}
use Rattle.sale.specs.Ways.{sizes, size_word}
use Rattle.prizes.specs.Prize.{is_major}
use Rattle.prizes.specs.Cut.{payout}
use Rattle.sale.specs.Bounds.{Playable}
use Rattle.prizes.specs.Found.{sure_of, Behind}
use Rattle.prizes.specs.Rounds.{Pays}
use Rattle.prizes.specs.declared.draw.Draw.{Draw}
use Rattle.prizes.specs.declared.cut.Cut.{Cut}
use Rattle.prizes.specs.declared.found.Found.{Found}
use Rattle.prizes.specs.declared.majors.Majors.{Majors}
use Rattle.sale.specs.Kinds.{jackpot_by}
use Rattle.sale.specs.Checks.{way_count}
use Rattle.house.specs.Tickets.{Ticket, terms_of}
use Rattle.house.specs.View.{ticket_in}
use Rattle.settlement.specs.Settling.{prizes_at, matches_at}
use Rattle.house.specs.declared.rows.Row.{Row}
use Rattle.settlement.specs.declared.ways.TicketWays.{TicketWays}

-- the first tickets of the lent buffers
abbrev pub live_in : List ℕ → List ℕ → ℕ → List Ticket
live_in words marks live = map (ticket_in words marks) (below live)

-- the prizes of each of them, before any cut
abbrev pub prizes_below : List ℕ → List ℕ → ℕ → Draw → ℕ → List (List ℕ)
prizes_below words marks game draw live = map (λ k. prizes_at game draw (ticket_in words marks k)) (below live)

-- what prizes are paid in any case
abbrev pub sure_cents : List ℕ → ℕ
sure_cents ps = sum (map sure_of ps)

-- the major prizes of all tickets, from the prizes of each
unfoldable pub all_majors : List (List ℕ) → List ℕ
all_majors [] = []
all_majors (ps ∷ pss) = keep is_major ps ++ all_majors pss

-- what the sale fixes of a ticket: the bounds that every sale gives, and the words of its ways, its jackpot and the sizes of its groups
pub record Sold (t : Ticket) : Type 0 where
  pub playable : Playable t.operands
  pub counted : t.ways ≡ way_count t.operands
  pub playing : t.jackpot ≡ jackpot_by (terms_of t.operands) (sizes t.operands.marks)
  pub sized : t.sizes ≡ size_word (sizes t.operands.marks)

-- such tickets, no more than the buffers hold
pub record SoldAll (words marks : List ℕ) (live : ℕ) : Type 0 where
  pub few : live ≤ 200
  pub each : (i : ℕ) → i < live → Sold (ticket_in words marks i)

-- a row whose words fit the fields of a ticket's terms
pub record Narrow (w : Row) : Type 0 where
  pub kind : w.kind < 2 ^ 8
  pub games : w.games < 2 ^ 8
  pub stake : w.stake < 2 ^ 32
  pub groups : w.groups < 2 ^ 8
  pub types : w.types < 2 ^ 8

-- the pass over the ways of a ticket, and the major prizes before it and after it
pub record FoundAt (game : ℕ) (draw : Draw) (t : Ticket) (majors : Majors) (r : Found) (majors' : Majors) : Type 0 where
  pub sure : r.sure ≡ sure_cents (prizes_at game draw t)
  pub full : r.full ≡ matches_at game draw t
  pub behind : Behind (keep is_major (prizes_at game draw t)) majors majors'

-- the full matches in a table
abbrev pub full_of : List TicketWays → List ℕ
full_of ways = map (λ w. w.found.full) ways

abbrev pub no_ways : TicketWays
no_ways = record { found = record { sure = 0; full = 0 }; majors = 0 }

-- Of the tickets whose prizes these are: what each is paid in any case, and how many major prizes those up to it have.
pub record Tables (pss : List (List ℕ)) (ways : List TicketWays) : Type 0 where
  pub cents : map (λ w. w.found.sure) ways ≡ map sure_cents pss
  pub up_to : (i : ℕ) → i < length pss → (get_or ways i no_ways).majors ≡ length (all_majors (take (i + 1) pss))

-- the same table of at most 200 tickets, all their major prizes in another, and the state of the cut under which they are paid by the rule
pub record Cutting (pss : List (List ℕ)) (ways : List TicketWays) (majors : List ℕ) (c : Cut) : Type 0 where
  pub few : length pss ≤ 200
  pub prizes : (i : ℕ) → length (get_or pss i []) ≤ 255
  pub tables : Tables pss ways
  pub long : length majors ≡ 250
  pub rest : List ℕ
  pub whole : majors ≡ all_majors pss ++ rest
  pub small : (p : ℕ) → Memᴰ p (all_majors pss) → p < 2 ^ 40
  pub pays : Pays c (all_majors pss)

-- the same, whichever the prizes are
pub record CutOf (ways : List TicketWays) (majors : List ℕ) (c : Cut) : Type 0 where
  pub prizes : List (List ℕ)
  pub cutting : Cutting prizes ways majors c

-- what each ticket is paid
abbrev pub Raised : List (List ℕ) → List ℕ → Type 0
Raised pss paid = paid ≡ map (λ ps. sum (map (payout (all_majors pss)) ps)) pss
