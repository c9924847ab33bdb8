-- `PrizeTable::of_the_rules` keeps the schedules: the test of all rows of theirs, computed.
use Rattle.prizes.specs.Schedules.{standard_rows, special_one_rows, special_two_rows, cell}
use Rattle.prizes.proofs.KeptLaws.{all_kept_lem}
use Rattle.prizes.proofs.schedule.PrizeTable.of_the_rules.Goals as goal

pub invariant_of-result : goal.invariant_of-result
unfolding standard_rows special_one_rows special_two_rows cell
invariant_of-result c = record { kept = all_kept_lem _ tt }
