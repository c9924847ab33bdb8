-- `text::decimal::put_four` meets its contract: four figures, one behind another.
use native.Mathlib.Omega.{arith}
use Rattle.text.specs.Lines.{four_figures}
use Rattle.text.proofs.DecimalLaws.{four_long}
use Rattle.text.proofs.PlaceLaws.{wrote_more}
use Rattle.text.proofs.decimal.put_four.Goals as goal

-- the four fit behind one another
pub put_figure-second-requires : goal.put_figure-second-requires
put_figure-second-requires c = omega (arith, four_long c.args.a c.args.b c.args.c c.args.d c.args.end)

pub put_figure-third-requires : goal.put_figure-third-requires
put_figure-third-requires c = omega (arith, four_long c.args.a c.args.b c.args.c c.args.d c.args.end)

pub put_figure-fourth-requires : goal.put_figure-fourth-requires
put_figure-fourth-requires c = omega (arith, four_long c.args.a c.args.b c.args.c c.args.d c.args.end)

pub put_figure-requires : goal.put_figure-requires
put_figure-requires c = omega (arith, four_long c.args.a c.args.b c.args.c c.args.d c.args.end)

pub returns : goal.returns
unfolding four_figures
returns c =
    let long = four_long c.args.a c.args.b c.args.c c.args.d c.args.end in
    wrote_more (omega arith) c.put_figure-second.ensures
    (wrote_more (omega arith) c.put_figure-third.ensures (wrote_more (omega arith) c.put_figure-fourth.ensures c.put_figure.ensures))
