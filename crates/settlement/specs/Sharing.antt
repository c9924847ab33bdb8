-- The live rows as the code walks over them to find a game's stakes and to share its jackpots: what each row of words says of its ticket, in the
-- order of the rows. A ticket that does not run in the game has no full match, so that its row has a place here and wins nothing.
use Rattle.std.specs.Prelude.{ℕ, ◌+◌, ◌≤◌, ◌<◌, ◌^◌, ◌≡◌, cond, List, [], map, eqb, length, get_or}
use Rattle.sale.specs.Lists.{sum, below, keep}
use Rattle.sale.specs.Price.{charge_limit}
use Rattle.prizes.specs.Jackpots.{Winner, winning_stakes, each_way, ranks_before}
use Rattle.house.specs.Tickets.{runs_in, paid_stakes}
use Rattle.house.specs.View.{row_at, ticket_in, Affordable}
use Rattle.house.specs.declared.rows.Row.{Row}
use Rattle.sale.specs.Kinds.{number_of}
use Rattle.sale.specs.declared.terms.JackpotKind.{JackpotKind}
use Rattle.sale.specs.declared.terms.JackpotKind.TheVariants.{Six, Eight}
use Rattle.settlement.specs.declared.figures.Stakes.{Stakes}
use Rattle.settlement.specs.declared.figures.GameFigures.{GameFigures}

-- what a row's ticket paid for the game, where it runs in it; no mark is read
unfoldable pub paid_at : List ℕ → ℕ → ℕ → ℕ
paid_at words game i =
    let t = ticket_in words [] i in
    cond (runs_in game t) (paid_stakes game (game + 1) t) 0

unfoldable pub paid_in : List ℕ → ℕ → ℕ → ℕ
paid_in words game live = sum (map (paid_at words game) (below live))

-- the same, where the ticket plays for the jackpot
unfoldable pub stakes_at : List ℕ → ℕ → ℕ → ℕ → ℕ
stakes_at words game j i = cond (eqb (row_at words i).jackpot j) (paid_at words game i) 0

unfoldable pub stakes_in : List ℕ → ℕ → ℕ → ℕ → ℕ
stakes_in words game j live = sum (map (stakes_at words game j) (below live))

-- the winning ways of a row's ticket: its full matches, where it plays for the jackpot
abbrev pub winner_from : Row → ℕ → ℕ → Winner
winner_from w matches j = record { count = cond (eqb w.jackpot j) matches 0; stake = w.stake }

unfoldable pub winner_at : List ℕ → List ℕ → ℕ → ℕ → Winner
winner_at words full j i = winner_from (row_at words i) (get_or full i 0) j

unfoldable pub winners_in : List ℕ → List ℕ → ℕ → ℕ → List Winner
winners_in words full j live = map (winner_at words full j) (below live)

-- how many winning ways rank before those of the ticket at a place, which have such a stake
abbrev pub ways_ahead : List Winner → ℕ → ℕ → ℕ
ways_ahead ws place stake = length (keep (λ v. ranks_before v (record { place = place; stake = stake })) (each_way 0 ws))

-- a jackpot's stakes among the first rows
abbrev pub stakes_of : List ℕ → List ℕ → ℕ → JackpotKind → ℕ → Stakes
stakes_of words full game j live =
    record { jackpot = j; paid = stakes_in words game (number_of j) live; winning = winning_stakes (winners_in words full (number_of j) live) }

-- what they tell of a game, with their prizes and full matches in two tables
abbrev pub figures_of : List ℕ → List ℕ → List ℕ → ℕ → ℕ → GameFigures
figures_of words paid full game live =
    record { prizes = sum paid; stakes = paid_in words game live; six = stakes_of words full game Six live; eight = stakes_of words full game Eight live }

-- rows whose price of a game is within the most that a ticket can cost, with at most 255 full matches each
pub record Entered (words full : List ℕ) (live : ℕ) : Type 0 where
  pub few : live ≤ 200
  pub within : (i : ℕ) → i < live → Affordable (row_at words i)
  pub stakes : (i : ℕ) → i < live → (row_at words i).stake ≤ charge_limit
  pub ways : (i : ℕ) → i < live → get_or full i 0 ≤ 255

-- what they share by their stakes, with room for the odd cents beside it
pub record Shareable (words full : List ℕ) (j live primary stakes : ℕ) : Type 0 where
  pub entered : Entered words full live
  pub total : stakes ≡ winning_stakes (winners_in words full j live)
  pub pool : primary + 255 < 2 ^ 63
