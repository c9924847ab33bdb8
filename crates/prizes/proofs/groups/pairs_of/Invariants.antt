-- The loop's invariant: the groups passed stand at their places.
use Rattle.std.specs.Prelude.{◌≡◌, take, drop}
use Rattle.prizes.specs.Found.{group_table}
use Rattle.prizes.proofs.groups.pairs_of.Given as goal

abbrev pub invariant-loop-k : goal.invariant-loop-k
invariant-loop-k l = take l.k l.pair-items ≡ take l.k (drop 1 (group_table l.sizes l.hits))
