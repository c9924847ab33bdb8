-- `text::lines::put_answer_line` meets its contract: the line is four figures and a line's end.
use mathlib.Core.Path.{sym, ap}
use native.Mathlib.Omega.{arith}
use lib.ListN.{length}
use Rattle.text.proofs.PlaceLaws.{wrote_as}
use Rattle.text.proofs.LineLaws.{answer_as}
use Rattle.text.proofs.lines.put_answer_line.Goals as goal

pub put_four-requires : goal.put_four-requires
put_four-requires c =
    let a = c.args in
    omega (arith, c.requires, ap length (answer_as a.byte a.code a.number a.cents))

pub returns : goal.returns
returns c =
    let a = c.args in
    wrote_as (sym (answer_as a.byte a.code a.number a.cents)) c.put_four.ensures
