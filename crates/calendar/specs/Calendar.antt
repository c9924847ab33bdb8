-- "Day 1 is 1 January 1998, Gregorian calendar. A ticket expires once today is later than its finishing date a year on; a finishing date of
-- 29 February counts as 28 February."
use Rattle.std.specs.Prelude.{ℕ, zero, suc, ◌+◌, ◌-◌, ◌%◌, ◌≤◌, Bool, cond, not, ◌&&◌, ◌||◌, List, [], ◌∷◌, ltb, eqb, get_or}

-- months are counted from 1, January, to 12, and days from 1 in each month
pub record Date : Type 0 where
  pub year : ℕ
  pub month : ℕ
  pub day : ℕ

-- every fourth year is a leap year, but of the years that end a century only every fourth
unfoldable pub is_leap_year : ℕ → Bool
is_leap_year year = eqb (year % 4) 0 && (not (eqb (year % 100) 0) || eqb (year % 400) 0)

-- from January to December, in a year that is no leap year
abbrev pub month_lengths : List ℕ
month_lengths = 31 ∷ 28 ∷ 31 ∷ 30 ∷ 31 ∷ 30 ∷ 31 ∷ 31 ∷ 30 ∷ 31 ∷ 30 ∷ 31 ∷ []

-- February of a leap year has 29 days
unfoldable pub month_length : ℕ → ℕ → ℕ
month_length year month = cond (eqb month 2 && is_leap_year year) 29 (get_or month_lengths (month - 1) 0)

-- ---- from a day's number to its date

unfoldable pub next_day : Date → Date
next_day x =
    cond (ltb x.day (month_length x.year x.month)) (record { year = x.year; month = x.month; day = x.day + 1 })
    (cond (ltb x.month 12) (record { year = x.year; month = x.month + 1; day = 1 })
    (record { year = x.year + 1; month = 1; day = 1 }))

-- "Day 1 is 1 January 1998", so day 0, when no house has been opened, is the day before
unfoldable pub date_of : ℕ → Date
date_of zero = record { year = 1997; month = 12; day = 31 }
date_of (suc n) = next_day (date_of n)

-- ---- a year on

abbrev pub is_leap_day : Date → Bool
is_leap_day x = eqb x.month 2 && eqb x.day 29

-- the same date of the next year: "29 February counts as 28 February"
unfoldable pub a_year_on : Date → Date
a_year_on x = record { year = x.year + 1; month = x.month; day = cond (is_leap_day x) 28 x.day }

-- "later": by the year, in the same year by the month, and in the same month by the day
unfoldable pub is_later : Date → Date → Bool
is_later x z =
    ltb z.year x.year
    || (eqb z.year x.year && (ltb z.month x.month || (eqb z.month x.month && ltb z.day x.day)))

-- "A ticket expires once today is later than its finishing date a year on": whether it has expired by today, where it finished on the given day
unfoldable pub has_expired : ℕ → ℕ → Bool
has_expired today finishing_day = is_later (date_of today) (a_year_on (date_of finishing_day))

-- ---- back from a date to its day's number, in which the laws speak

-- the days of so many months of a year, from January on
unfoldable pub month_days : ℕ → ℕ → ℕ
month_days year zero = 0
month_days year (suc months) = month_days year months + month_length year (suc months)

-- the days of so many years, from 1998 on
unfoldable pub year_days : ℕ → ℕ
year_days zero = 0
year_days (suc years) = year_days years + month_days (1998 + years) 12

unfoldable pub day_of : Date → ℕ
day_of x = year_days (x.year - 1998) + month_days x.year (x.month - 1) + x.day

-- the dates from day 1 on
pub record IsDate (x : Date) : Type 0 where
  pub year : 1998 ≤ x.year
  pub month : 1 ≤ x.month
  pub in_year : x.month ≤ 12
  pub day : 1 ≤ x.day
  pub in_month : x.day ≤ month_length x.year x.month

-- the number of the day that has a day's date a year on
abbrev pub day_a_year_on : ℕ → ℕ
day_a_year_on n = day_of (a_year_on (date_of n))
