-- `ledger::read_full` is within the buffer and ends: each turn reads at least one byte more.
use Rattle.std.proofs.Common.{length, ◌-◌, ◌≤◌}
use Rattle.ledger.proofs.read_full.Given as goal

abbrev pub invariant-loop-size : goal.invariant-loop-size
invariant-loop-size g l = l.size ≤ length l.roll

abbrev pub decreases-loop-size : goal.decreases-loop-size
decreases-loop-size g l = length l.initial.roll - l.size
