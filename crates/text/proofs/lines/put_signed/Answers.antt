-- `text::lines::put_signed` meets its contract: the sign where there is one, the digits and the line's end.
use mathlib.Core.Path.{sym, ap}
use native.Mathlib.Omega.{arith}
use lib.ListN.{length}
use Rattle.text.proofs.PlaceLaws.{wrote_more, wrote_as}
use Rattle.text.proofs.LineLaws.{signed_negative, signed_plain}
use Rattle.text.proofs.lines.put_signed.Goals as goal

pub put_byte-next-requires : goal.put_byte-next-requires
put_byte-next-requires c = omega (arith, ap length (signed_negative c.args.negative c.args.size c.if-negative.true))

pub put_figure-requires : goal.put_figure-requires
put_figure-requires c = omega (arith, ap length (signed_negative c.args.negative c.args.size c.if-negative.true))

pub returns-then-negative : goal.returns-then-negative
returns-then-negative c =
    let same = signed_negative c.args.negative c.args.size c.if-negative.true in
    wrote_as (sym same) (wrote_more (omega (arith, ap length same)) c.put_byte-next.ensures c.put_figure.ensures)

pub put_figure-requires-2 : goal.put_figure-requires-2
put_figure-requires-2 c = omega (arith, ap length (signed_plain c.args.negative c.args.size c.if-negative.false))

pub returns : goal.returns
returns c = wrote_as (sym (signed_plain c.args.negative c.args.size c.if-negative.false)) c.put_figure-2.ensures
