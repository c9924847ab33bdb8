-- So many items are those further on, and the others as they were.
use Rattle.std.proofs.Common.{◌≡◌, length}
use Rattle.std.specs.List.{CopiedTo, SameFrom}
use Rattle.house.proofs.rows.shift_down.Given as goal

abbrev pub invariant-loop-k : goal.invariant-loop-k
invariant-loop-k g l =
    record {
      long : length l.items ≡ length l.initial.items;
      moved : CopiedTo l.initial.items l.items g.row.STEP 0 l.k;
      kept : SameFrom l.initial.items l.items l.k;
    }
