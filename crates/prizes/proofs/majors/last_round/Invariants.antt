-- `majors::last_round` meets its contract: each turn is a round of the rule, on a state that the rule comes to, and floors more or is the
-- last. The measure is the number of prizes that are not floored.
use Prim.Native.Nat.{◌-◌}
use lib.ListN.{length}
use Rattle.prizes.specs.Bounds.{Cuttable}
use Rattle.prizes.specs.Rounds.{Listed}
use Rattle.prizes.proofs.MajorLaws.{Follows}
use Rattle.prizes.proofs.majors.last_round.Given as goal

abbrev pub invariant-loop-cut : goal.invariant-loop-cut
invariant-loop-cut l = (k : Listed l.prizes) → Follows l.prizes k l.cut × Cuttable l.cut

abbrev pub decreases-loop-cut : goal.decreases-loop-cut
decreases-loop-cut l = length l.prizes - l.cut.count
