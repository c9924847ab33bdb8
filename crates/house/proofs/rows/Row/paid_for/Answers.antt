-- `house::rows::Row::paid_for` meets its contract: a game that is played and not free is one game at the ticket's price.
use Prim.Native.Nat.{◌+◌}
use mathlib.Core.Path.{sym, ◌∙◌}
use native.Mathlib.Nat.{mul-one}
use native.Mathlib.Omega.{arith}
use Rattle.house.specs.View.{ticket_from}
use Rattle.house.proofs.SpanLaws.{stakes_priced}
use Rattle.house.proofs.rows.Row.paid_for.Goals as goal

pub returns-then-runs_in : goal.returns-then-runs_in
returns-then-runs_in c = λ marks.
    let args = c.args in
    rw (sym (c.runs_in.ensures marks) ∙ c.if-runs_in.true)
    (sym (mul-one c.game_price.result) ∙ sym (stakes_priced args.game (args.game + 1) _ 1 (ticket_from args.self marks) (c.game_price.ensures marks) (omega arith)))
