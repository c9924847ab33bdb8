-- `house::rows::write_row` meets its contract: all sixteen words are stored, in the order of the definition.
use Prim.Native.Nat.{◌*◌}
use mathlib.Core.Path.{ap, ◌∙◌}
use lib.Seq.{sets, take_all}
use native.Mathlib.Omega.{arith}
use Rattle.house.specs.View.{put_row}
use Rattle.house.proofs.rows.write_row.Goals as goal

pub returns : goal.returns
unfolding put_row
returns c =
    c.loop-k.invariant
    ∙ ap (sets c.args.rows.now (c.args.i * 16)) (take_all c.loop-k.k c.into-words.result (omega arith) ∙ c.into-words.ensures)
