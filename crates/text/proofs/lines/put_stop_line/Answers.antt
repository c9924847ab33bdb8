-- `text::lines::put_stop_line` meets its contract: the word, a space, the code and the line's end.
use mathlib.Core.Path.{sym, ap}
use native.Mathlib.Omega.{arith}
use lib.ListN.{length}
use Rattle.text.proofs.PlaceLaws.{wrote_more, wrote_as}
use Rattle.text.proofs.LineLaws.{stop_as}
use Rattle.text.proofs.lines.put_stop_line.Goals as goal

pub put_word-next-requires : goal.put_word-next-requires
put_word-next-requires c = omega (arith, ap length (stop_as c.args.code))

pub put_figure-requires : goal.put_figure-requires
put_figure-requires c = omega (arith, ap length (stop_as c.args.code))

pub returns : goal.returns
returns c = wrote_as (sym (stop_as c.args.code)) (wrote_more (omega (arith, ap length (stop_as c.args.code))) c.put_word-next.ensures c.put_figure.ensures)
