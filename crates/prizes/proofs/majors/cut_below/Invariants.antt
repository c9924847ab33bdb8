-- `majors::cut_below` meets its contract: the figures so far are those of the prizes passed.
use lib.ListN.{take}
use mathlib.Core.Path.{◌≡◌}
use Rattle.prizes.specs.Rounds.{cut_below}
use Rattle.prizes.proofs.majors.cut_below.Given as goal

abbrev pub invariant-loop-prize : goal.invariant-loop-prize
invariant-loop-prize l =
    record {
      floored : l.count ≡ (cut_below l.below (take l.prize-index l.prizes)).count;
      shared : l.base ≡ (cut_below l.below (take l.prize-index l.prizes)).base;
    }
