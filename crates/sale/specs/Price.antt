-- "Stake is per way and game. 1 to 3 ways, or kind 1: a multiple of 100, at least 100. Other kinds: at least 50 for 4 to 19 ways, 20 for
-- 20 to 49, 10 for 50 or more; multiples of 10 up to 100, of 100 above (rules 6.2, 7.1). [..] Paid games: all below 50 games, one fewer
-- for 50 to 99, two fewer for 100 [..]. Charge = stake × ways × paid games, at most 999,900." And of Lucky Last: "Charge, refund, held and retained
-- take in the feature stake over the same paid games."
use Rattle.std.specs.Prelude.{ℕ, ◌+◌, ◌*◌, ◌-◌, ◌%◌, Bool, cond, ◌&&◌, ◌||◌, ltb, leb, eqb}
use Rattle.sale.specs.Kinds.{is_jackpot}
use Rattle.sale.specs.declared.terms.Kind.{Kind}

abbrev pub charge_limit : ℕ
charge_limit = 999900

unfoldable pub paid_games : ℕ → ℕ
paid_games games = cond (ltb games 50) games (cond (ltb games 100) (games - 1) (games - 2))

-- the least stake of a ticket that is neither a jackpot ticket nor one of 1 to 3 ways is below 100
unfoldable pub minimum_stake : Kind → ℕ → ℕ
minimum_stake kind count =
    cond (is_jackpot kind || ltb count 4) 100
    (cond (ltb count 20) 50 (cond (ltb count 50) 20 10))

unfoldable pub stake_fits : Kind → ℕ → ℕ → Bool
stake_fits kind count stake =
    cond (is_jackpot kind || ltb count 4)
    (leb 100 stake && eqb (stake % 100) 0)
    (leb (minimum_stake kind count) stake && cond (leb stake 100) (eqb (stake % 10) 0) (eqb (stake % 100) 0))

-- what a ticket pays for a game: the stakes of its ways and its feature stake together
unfoldable pub game_price : ℕ → ℕ → ℕ → ℕ
game_price stake count feature = stake * count + feature

-- the price of so many paid games: a charge for all that a ticket pays for, a refund for those that are taken off
unfoldable pub charge : ℕ → ℕ → ℕ
charge price paid = price * paid
