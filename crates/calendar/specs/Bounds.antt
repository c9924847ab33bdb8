-- What the contracts of expiry speak of: the bound of a day that expiries are told by, which Expire's parts hand on, and the arithmetic of it.
use Rattle.std.specs.Prelude.{ℕ, ◌+◌, ◌%◌, ◌≡◌, Bool, cond, ◌&&◌, ◌||◌, ltb, leb}
use Rattle.calendar.specs.Calendar.{has_expired}

-- a day with which every finishing day is compared today: exactly the tickets that finished before it have expired
pub record ExpiryBound (today bound : ℕ) : Type 0 where
  pub before : (finishing_day : ℕ) → has_expired today finishing_day ≡ ltb finishing_day bound

-- The calendar repeats after a cycle of 400 years, which has 146,097 days. How far into its cycle a day is, where cycles begin on 1 March of the years
-- that 400 divides: day 0 is 145,306 days after 1 March 1600.
abbrev pub cycle_day : ℕ → ℕ
cycle_day day = (day + 145306) % 146097

-- Whether a 29 February is among the 365 days before a day. From the start of a cycle on, a leap day ends every four years of 1,461 days, but not those that
-- end a century of 36,524 days, unless they end the cycle.
abbrev pub passed_leap_day : ℕ → Bool
passed_leap_day day =
    ltb (cycle_day day) 365 || (leb 1461 (cycle_day day % 36524) && ltb (cycle_day day % 36524 % 1461) 365)

-- how many days before a day its date was a year before
unfoldable pub year_before : ℕ → ℕ
year_before day = cond (passed_leap_day day) 366 365
