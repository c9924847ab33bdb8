-- `roll::decode::lucky_last_at` meets its contract: the last four of its bytes are the feature stake.
use mathlib.Core.Path.{sym, ap, ◌∙◌}
use native.Mathlib.Omega.{arith}
use lib.ListN.{take}
use Rattle.numbers.specs.Bytes.{number_of}
use Rattle.numbers.proofs.ByteLaws.{past_first}
use Rattle.std.specs.Prelude.{Some}
use Rattle.roll.specs.Decode.{sale_in}
use Rattle.roll.proofs.decode.lucky_last_at.Goals as goal

pub returns : goal.returns
returns c =
    let l = c.args.operands.now in
    let stake = c.read_number-stake.ensures.number ∙ ap number_of (sym (past_first 88 92 l)) in
    c.sale_at.ensures 92 (omega arith) ∙ ap (λ n. sale_in (Some n) (take 92 l)) stake
