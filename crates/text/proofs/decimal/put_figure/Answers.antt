-- `text::decimal::put_figure` meets its contract: the digits, and a byte behind them.
use native.Mathlib.Omega.{arith}
use Rattle.text.specs.Lines.{figure}
use Rattle.text.proofs.DecimalLaws.{figure_long}
use Rattle.text.proofs.PlaceLaws.{wrote_more}
use Rattle.text.proofs.decimal.put_figure.Goals as goal

pub put_decimal-next-requires : goal.put_decimal-next-requires
put_decimal-next-requires c = omega (arith, figure_long c.args.n c.args.end)

pub put_byte-requires : goal.put_byte-requires
put_byte-requires c = omega (arith, figure_long c.args.n c.args.end)

pub returns : goal.returns
unfolding figure
returns c = wrote_more (omega (arith, figure_long c.args.n c.args.end)) c.put_decimal-next.ensures c.put_byte.ensures
