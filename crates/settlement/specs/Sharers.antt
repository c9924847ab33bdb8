-- The live tickets that share a primary.
use Rattle.std.specs.Prelude.{ℕ, ◌+◌, ◌-◌, ◌*◌, min, length}
use mathlib.Core.List.{List}
use Rattle.sale.specs.Kinds.{number_of}
use Rattle.prizes.specs.Jackpots.{Winner, WinningWay, share_of}
use Rattle.settlement.specs.Passing.{full_of}
use Rattle.settlement.specs.Sharing.{winner_at, winners_in, ways_ahead}
use Rattle.settlement.specs.declared.primary.Primary.{Primary}

-- the winning ways of the one at a place
abbrev pub sharer_at : Primary → ℕ → Winner
sharer_at p i = winner_at p.rows.now (full_of p.ways.now) (number_of p.jackpot) i

-- one of them by itself, as they are ranked
abbrev pub way_at : Primary → ℕ → WinningWay
way_at p i = record { place = i; stake = (sharer_at p i).stake }

-- and of all
abbrev pub sharers : Primary → List Winner
sharers p = winners_in p.rows.now (full_of p.ways.now) (number_of p.jackpot) (length p.ways.now)

-- what the one at a place is given where so many cents are odd: its ways' shares, and one cent a way of what those that rank before them leave
abbrev pub share_given : Primary → ℕ → ℕ → ℕ
share_given p odd i =
    let w = sharer_at p i in
    w.count * share_of p.cents p.stakes w.stake + min (odd - ways_ahead (sharers p) i w.stake) w.count
