-- `calendar::expiry::year_before` meets its contract: each way out is one of the places that `year_before` tells apart.
use Prim.Native.Nat.{ℕ, ◌+◌, ◌%◌}
use mathlib.Core.Path.{◌≡◌, sym}
use native.Mathlib.Nat.{mod-add-mod}
use Rattle.calendar.specs.Bounds.{cycle_day, year_before}
use Rattle.calendar.proofs.LeapDays.{long_first, long_later, short_first, short_later}
use Rattle.calendar.proofs.expiry.year_before.Goals as goal

-- no day is too large to be added to once it is taken within its cycle
in_cycle : (day : ℕ) → (day % 146097 + 145306) % 146097 ≡ cycle_day day
in_cycle day = mod-add-mod day 146097 145306

pub returns-then-in_cycle-lt-YEAR : goal.returns-then-in_cycle-lt-YEAR
unfolding year_before
returns-then-in_cycle-lt-YEAR c =
    let day = c.args.day in
    sym (rw (← (in_cycle day)) (long_first ((day % 146097 + 145306) % 146097) c.if-in_cycle-lt-YEAR.true))

pub returns-then-in_century-lt-FOUR_YEARS : goal.returns-then-in_century-lt-FOUR_YEARS
unfolding year_before
returns-then-in_century-lt-FOUR_YEARS c =
    let day = c.args.day in
    sym (rw (← (in_cycle day)) (short_first ((day % 146097 + 145306) % 146097) c.if-in_cycle-lt-YEAR.false c.if-in_century-lt-FOUR_YEARS.true))

pub returns-then-in_century-lt-YEAR : goal.returns-then-in_century-lt-YEAR
unfolding year_before
returns-then-in_century-lt-YEAR c =
    let day = c.args.day in
    sym (rw (← (in_cycle day)) (long_later ((day % 146097 + 145306) % 146097) c.if-in_century-lt-FOUR_YEARS.false c.if-in_century-lt-YEAR.true))

pub returns : goal.returns
unfolding year_before
returns c =
    let day = c.args.day in
    sym (rw (← (in_cycle day)) (short_later ((day % 146097 + 145306) % 146097) c.if-in_cycle-lt-YEAR.false c.if-in_century-lt-YEAR.false))
