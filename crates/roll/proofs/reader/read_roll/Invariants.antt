-- The loop's invariant: the house is reached, and the reading of the whole roll is what was answered so far and the reading of what is left; if no
-- command of the roll is accepted, then struct and buffers are as they were. The measure is what is left of the roll.
use Prim.Native.Nat.{◌-◌}
use mathlib.Core.Path.{◌≡◌}
use lib.ListN.{length}
use Rattle.house.specs.Balance.{Reached}
use Rattle.house.specs.View.{view}
use Rattle.roll.specs.Orders.{reading_of}
use Rattle.roll.proofs.ReadingLaws.{Ahead, Quiet}
use Rattle.roll.proofs.reader.read_roll.Given as goal

abbrev pub invariant-loop-order : goal.invariant-loop-order
invariant-loop-order l =
    let old = l.initial in
    let quiet = Quiet old.here old.rows old.marks l.roll old.book in
    record {
      reached : Reached (view l.here l.rows l.marks);
      ahead : Ahead quiet (reading_of old.here old.rows old.marks l.roll old.book) (view l.here l.rows l.marks) l.roll l.book l.read l.answers;
      long : length l.book ≡ length old.book;
      same : quiet → (l.here ≡ old.here) × (l.rows ≡ old.rows) × (l.marks ≡ old.marks);
    }

abbrev pub decreases-loop-order : goal.decreases-loop-order
decreases-loop-order l = length l.roll - l.read
