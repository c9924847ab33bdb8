-- The loop's invariant: the groups passed stand at their places.
use Rattle.std.specs.Prelude.{◌≡◌, take}
use Rattle.sale.proofs.survey.size_table.Given as goal

abbrev pub invariant-loop-k : goal.invariant-loop-k
invariant-loop-k l = take l.k l.figure-items ≡ take l.k l.sizes
