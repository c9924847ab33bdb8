-- `special_two` meets its contract: the table keeps the rows of 3 to 6 numbers, and there are no others.
use mathlib.Core.Path.{refl}
use native.Mathlib.Omega.{arith}
use Rattle.prizes.specs.Schedules.{special_two_rows}
use Rattle.prizes.proofs.KeptLaws.{no_row_below, no_row_above}
use Rattle.prizes.proofs.schedule.PrizeTable.special_two.Goals as goal

pub returns-in_default : goal.returns-in_default
unfolding special_two_rows
returns-in_default c = no_row_below special_two_rows c.args.selection c.args.matched 3 refl (omega arith)

pub returns-in_default-2 : goal.returns-in_default-2
unfolding special_two_rows
returns-in_default-2 c = no_row_above special_two_rows c.args.selection c.args.matched (omega arith)
