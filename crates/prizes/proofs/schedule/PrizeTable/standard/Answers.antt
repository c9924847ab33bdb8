-- `standard` meets its contract: the table keeps the rows of 1 to 15 numbers, and there are no others.
use mathlib.Core.Path.{refl}
use native.Mathlib.Omega.{arith}
use Rattle.prizes.specs.Schedules.{standard_rows}
use Rattle.prizes.proofs.KeptLaws.{no_row_below, no_row_above}
use Rattle.prizes.proofs.schedule.PrizeTable.standard.Goals as goal

pub returns-in_default : goal.returns-in_default
unfolding standard_rows
returns-in_default c = no_row_below standard_rows c.args.selection c.args.matched 1 refl (omega arith)

pub returns-in_default-2 : goal.returns-in_default-2
unfolding standard_rows
returns-in_default-2 c = no_row_above standard_rows c.args.selection c.args.matched (omega arith)
