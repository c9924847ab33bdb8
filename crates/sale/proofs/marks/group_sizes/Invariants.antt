-- The counts are the groups' sizes among the marks passed.
use mathlib.Core.Path.{◌≡◌}
use lib.ListN.{take}
use Rattle.sale.specs.Ways.{size_of, by_group}
use Rattle.sale.proofs.marks.group_sizes.Given as goal

abbrev pub invariant-loop-mark : goal.invariant-loop-mark
invariant-loop-mark l = l.counts ≡ by_group (size_of (take l.mark-index l.marks))
