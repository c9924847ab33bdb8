-- `house::rows::Row::paid_stakes` meets its contract: so many games at the ticket's price, which the requirement bounds.
use mathlib.Core.Path.{sym}
use mathlib.Core.List.{[]}
use native.Mathlib.Omega.{arith}
use Rattle.house.specs.View.{ticket_from}
use Rattle.house.proofs.SpanLaws.{stakes_priced}
use Rattle.house.proofs.rows.Row.paid_stakes.Goals as goal

pub overflow_mul-result : goal.overflow_mul-result
overflow_mul-result c =
    omega (arith, c.requires.within, stakes_priced c.args.from c.args.upto c.game_price.result c.saturating_sub-games.result (ticket_from c.args.self []) (c.game_price.ensures []) (omega arith))

pub returns : goal.returns
returns c = λ marks. sym (stakes_priced c.args.from c.args.upto c.game_price.result c.saturating_sub-games.result (ticket_from c.args.self marks) (c.game_price.ensures marks) (omega arith))
