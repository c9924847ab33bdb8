-- The settled examples of document 01 (its rows marked ●) and of the requests that changed it, all of them in one theorem, computed from the
-- definitions: charges, prizes won, jackpots and expiries by real commands on a fresh house, cuts by the rule.
use mathlib.Core.Path.{◌≡◌, refl}
use mathlib.Core.List.{List, [], ◌∷◌, ◌++◌, map, zip_with}
use Prim.Native.Nat.{ℕ, ◌+◌, ◌-◌}
use lib.ListN.{length, replicate}
use lib.Count.{ones, ones_in}
use Rattle.sale.specs.Lists.{sum, below, keep, every, any, member}
use Rattle.sale.specs.Kinds.{kind_of, within}
use Rattle.sale.specs.Ways.{mark_of, size_of, by_group, nominated, ways, mask_sum, way_sizes}
use Rattle.prizes.specs.Hits.{last_of, hits_of}
use Rattle.sale.specs.Price.{paid_games, minimum_stake, stake_fits, game_price, charge}
use Rattle.sale.specs.Checks.{first_met, marks_fit, operand_rows}
use Rattle.std.specs.Prelude.{Option, None, Some}
use Rattle.prizes.specs.Schedules.{standard_rows, cell}
use Rattle.prizes.specs.Prize.{dollars, prize}
use Rattle.prizes.specs.Cut.{floor_count, cut_base, joins, round_of, rounds, floored_of, cut_prize, payout}
use Rattle.prizes.specs.Jackpots.{contribution, contributed, winning_stakes, share_of, odd_cents, each_way, rank_among, ranked, odd_cents_at, shares_with, shares_from, jackpot_won, jackpot_shares, seed_of, reseeded, repaid}
use Rattle.prizes.specs.Settle.{prizes_by, full_by, winner_of, paid_for, majors_of, prizes_of, all_prizes_of, settle_jackpot, settle}
use Rattle.prizes.specs.LuckyLast.{lucky_last_row, lucky_last_cents, numbers_marked, lucky_last_prize}
use Rattle.sale.specs.Kinds.{jackpot_by}
use Rattle.calendar.specs.Calendar.{is_leap_year, month_length, next_day, date_of, month_days, year_days, day_of, a_year_on, is_later, has_expired}
use Rattle.house.specs.Tickets.{runs_in, games_left, paid_stakes, keno_to_go_begun}
use Rattle.house.specs.Commands.{changed, Command, open', sell, cancel, ball, claim, expire, collect, call_off, ticket_at, still_live, rows_of, code_of, opened, sold, settlement, awarded, game_settled, game_called_off, ball_entered, refund_of, cancelled, claimed, is_expired, expired, collected, act, reply, step}
use Rattle.house.specs.Balance.{run, answer_after, next, run_from}

-- a ticket of one way on the first numbers, with a feature or without one
abbrev entered : Option ℕ → ℕ → ℕ → ℕ → ℕ → Command
entered feature kind size games stake =
    sell (record { kind = kind; games = games; stake = stake; groups = 1; types = 1; feature = feature; marks = replicate size 1 ++ replicate (80 - size) 0 })

abbrev first : ℕ → ℕ → ℕ → ℕ → Command
first = entered None

-- the first game, on the given day, with some tickets, and the numbers from the given one on drawn
abbrev game_on : ℕ → ℕ → List Command → List Command
game_on day from tickets = open' day ∷ tickets ++ map (λ n. ball (n + from)) (below 20)

abbrev game : ℕ → List Command → List Command
game = game_on 1

abbrev charge_of_games : ℕ → ℕ → ℕ
charge_of_games stake games = (answer_after (open' 1 ∷ []) (first 0 1 games stake)).cents

-- Lucky Last on number 1 at $1, with $1 on the feature, and a game in which number 1 comes last or nineteenth
abbrev lucky : ℕ → Command
lucky games = entered (Some 100) 0 1 games 100

abbrev lucky_charge : ℕ → ℕ
lucky_charge games = (answer_after (open' 1 ∷ []) (lucky games)).cents

abbrev lucky_game : List ℕ → List Command
lucky_game balls = open' 1 ∷ lucky 1 ∷ map ball balls

abbrev one_last : List ℕ
one_last = map (λ n. n + 2) (below 19) ++ (1 ∷ [])

abbrev one_nineteenth : List ℕ
one_nineteenth = map (λ n. n + 2) (below 18) ++ (1 ∷ 20 ∷ [])

abbrev cut : List ℕ → List ℕ
cut majors = map (payout majors) majors

abbrev pays_claim : ℕ → List Command → ℕ
pays_claim n commands = (answer_after commands (claim n)).cents

-- what tickets on the same six numbers are paid, with the given stakes, once a game has all six
abbrev claims_of_sixes : List ℕ → List ℕ
claims_of_sixes stakes = map (λ n. pays_claim (n + 1) (game 1 (map (first 1 6 1) stakes))) (below (length stakes))

abbrev date : ℕ → ℕ → ℕ → ℕ
date day month year = day_of (record { year = year; month = month; day = day })

-- a ticket finishes on one day with $3 due, and a later day is opened
abbrev finished : ℕ → ℕ → List Command
finished day today = game_on day 1 (first 0 1 1 100 ∷ []) ++ (open' today ∷ [])

abbrev expired_on : ℕ → ℕ → ℕ
expired_on day today = (answer_after (finished day today) expire).cents

-- A ticket for three games on numbers 1 to 3 that wins in the first, with all three drawn, is collected, and wins in the last, with two: balls from the given
-- number on.
abbrev drawn_from : ℕ → List Command
drawn_from number = map (λ n. ball (n + number)) (below 20)

abbrev won_first : List Command
won_first = game 1 (first 0 3 3 100 ∷ [])

abbrev won_again : List Command
won_again = won_first ++ (collect 1 ∷ []) ++ drawn_from 41 ++ drawn_from 2

-- Games that are called off: the first with ten balls in, of a ticket for it alone; the first of two, where the second is drawn with the ticket's numbers 1 to 3; and
-- each of 50, of which the last is free.
abbrev off_with_ten : List Command
off_with_ten = open' 1 ∷ first 0 3 1 100 ∷ map (λ n. ball (n + 1)) (below 10)

abbrev off_then_drawn : List Command
off_then_drawn = open' 1 ∷ first 0 3 2 100 ∷ call_off ∷ drawn_from 1

abbrev off : ℕ → ℕ → List Command
off dropped games = open' 1 ∷ first 0 3 games 100 ∷ replicate dropped call_off

abbrev all_off : ℕ → List Command
all_off games = off games games

-- Tickets that finish with nothing due: in a drawn game that has none of the numbers, by a cancellation, and in a call-off of a free game, which a collection of what was
-- given back for the 49 paid ones reissued.
abbrev lost : List Command
lost = game 41 (first 0 3 1 100 ∷ [])

abbrev taken_off : List Command
taken_off = open' 1 ∷ first 0 3 1 100 ∷ cancel 1 ∷ []

abbrev free_game_off : List Command
free_game_off = off 49 50 ++ (collect 1 ∷ call_off ∷ [])

-- an answer's code, number and cents
abbrev answered : List Command → Command → List ℕ
answered commands c = let a = answer_after commands c in a.code ∷ a.number ∷ a.cents ∷ []

pub settled_examples :
    (charge_of_games 200 5 ≡ 1000)
    × (map (charge_of_games 100) (49 ∷ 50 ∷ 99 ∷ 100 ∷ []) ≡ 4900 ∷ 4900 ∷ 9800 ∷ 9800 ∷ [])
    × (pays_claim 1 (game 2 (first 0 8 1 200 ∷ [])) ≡ 111000)
    × (cut (5000000 ∷ 5000000 ∷ 30000 ∷ []) ≡ 2490000 ∷ 2490000 ∷ 20000 ∷ [])
    × (cut (5000000 ∷ 5000000 ∷ 5000000 ∷ []) ≡ 1666666 ∷ 1666666 ∷ 1666666 ∷ [])
    × (cut (2500000 ∷ 2480000 ∷ 20000 ∷ []) ≡ 2500000 ∷ 2480000 ∷ 20000 ∷ [])
    × (pays_claim 1 (game 1 (first 1 6 1 100 ∷ [])) ≡ 100015)
    × ((run (game 1 (first 1 6 1 100 ∷ []))).house.counters.seeds ≡ 1350000 + 99995)
    × ((run (game 1 (first 1 6 1 100 ∷ []))).house.six.debt ≡ 199990)
    × (claims_of_sixes (100 ∷ 200 ∷ []) ≡ 33348 ∷ 66697 ∷ [])
    × (claims_of_sixes (100 ∷ 300 ∷ 200 ∷ []) ≡ 16681 ∷ 50046 ∷ 33363 ∷ [])
    × (map (expired_on (date 1 3 1999)) (date 1 3 2000 ∷ date 2 3 2000 ∷ []) ≡ 0 ∷ 300 ∷ [])
    × (pays_claim 1 (finished (date 1 3 1999) (date 1 3 2000) ++ (expire ∷ [])) ≡ 300)
    × (map (expired_on (date 28 2 2000)) (date 28 2 2001 ∷ date 1 3 2001 ∷ []) ≡ 0 ∷ 300 ∷ [])
    × (map (expired_on (date 29 2 2000)) (date 28 2 2001 ∷ date 1 3 2001 ∷ []) ≡ 0 ∷ 300 ∷ [])
    × (map lucky_charge (49 ∷ 50 ∷ 99 ∷ 100 ∷ []) ≡ 9800 ∷ 9800 ∷ 19600 ∷ 19600 ∷ [])
    × (map (λ balls. pays_claim 1 (lucky_game balls)) (one_last ∷ one_nineteenth ∷ []) ≡ 6300 ∷ 300 ∷ [])
    × (answered won_first (collect 1) ≡ 0 ∷ 2 ∷ 3600 ∷ [])
    × (answered won_again (claim 2) ≡ 0 ∷ 2 ∷ 200 ∷ [])
    × (answered won_again (claim 1) ≡ 19 ∷ 0 ∷ 0 ∷ [])
    × (answered off_with_ten call_off ≡ 0 ∷ 1 ∷ 100 ∷ [])
    × (answered (off_with_ten ++ (call_off ∷ [])) (claim 1) ≡ 0 ∷ 1 ∷ 100 ∷ [])
    × (answered off_then_drawn (claim 1) ≡ 0 ∷ 1 ∷ 3700 ∷ [])
    × (pays_claim 1 (all_off 50) ≡ 4900)
    × (answered lost (claim 1) ≡ 19 ∷ 0 ∷ 0 ∷ [])
    × (answered taken_off (claim 1) ≡ 19 ∷ 0 ∷ 0 ∷ [])
    × (answered free_game_off (claim 2) ≡ 19 ∷ 0 ∷ 0 ∷ [])
unfolding sum below keep every any member kind_of within mark_of size_of last_of hits_of by_group nominated ways mask_sum way_sizes paid_games minimum_stake stake_fits game_price charge first_met marks_fit operand_rows standard_rows cell dollars prize floor_count cut_base joins round_of rounds floored_of cut_prize payout contribution contributed winning_stakes share_of odd_cents each_way rank_among ranked odd_cents_at shares_with shares_from jackpot_won jackpot_shares seed_of reseeded repaid prizes_by full_by jackpot_by winner_of paid_for majors_of prizes_of lucky_last_row lucky_last_cents numbers_marked lucky_last_prize all_prizes_of settle_jackpot settle is_leap_year month_length next_day date_of month_days year_days day_of a_year_on is_later has_expired runs_in games_left paid_stakes keno_to_go_begun ticket_at still_live rows_of code_of opened sold settlement awarded game_settled game_called_off ball_entered cancelled refund_of claimed is_expired expired collected act reply step next run_from changed ones ones_in zip_with
settled_examples = (refl, refl, refl, refl, refl, refl, refl, refl, refl, refl, refl, refl, refl, refl, refl, refl, refl, refl, refl, refl, refl, refl, refl, refl, refl, refl, refl)
