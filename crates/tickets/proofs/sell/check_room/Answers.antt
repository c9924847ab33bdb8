-- `tickets::sell::check_room` meets its contract: each return is at the row of Sell's table that the tests before it lead to, by the laws of Sell
-- that stand at the function. Its first game is the current one or the next, so that the sum with the games fits.
use native.Mathlib.Omega.{arith}
use mathlib.Core.List.{[]}
use Rattle.house.specs.View.{view}
use Rattle.tickets.proofs.SellLaws.{next_within}
use Rattle.tickets.proofs.sell.check_room.Goals as goal

pub overflow_add-end : goal.overflow_add-end
unfolding view
overflow_add-end c = omega (arith, c.first_game.ensures [] [], next_within (view c.args.house.now [] []), c.requires.within)
