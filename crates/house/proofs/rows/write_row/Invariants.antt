-- `house::rows::write_row` meets its contract: each turn is one store more of the row's words.
use mathlib.Core.Path.{◌≡◌}
use lib.ListN.{take}
use lib.Seq.{sets}
use Rattle.house.proofs.rows.write_row.Given as goal

abbrev pub invariant-loop-k : goal.invariant-loop-k
invariant-loop-k l = l.rows ≡ sets l.initial.rows l.at (take l.k l.word-items)
