-- Days that anybody can look up, computed from the definitions: leap years, dates of days, days of dates, a year on, and the request's own example.
use Prim.Native.Nat.{ℕ}
use mathlib.Core.Path.{◌≡◌, refl}
use mathlib.Core.Bool.{true, false}
use mathlib.Core.List.{[], ◌∷◌, map}
use Rattle.calendar.specs.Calendar.{Date, is_leap_year, month_length, next_day, date_of, month_days, year_days, day_of, a_year_on, is_later, has_expired, day_a_year_on}

abbrev pub date : ℕ → ℕ → ℕ → Date
date day month year = record { year = year; month = month; day = day }

-- "Day 1 is 1 January 1998"
pub day_one : (date_of 1 ≡ date 1 1 1998) × (day_of (date 1 1 1998) ≡ 1)
unfolding is_leap_year month_length next_day date_of month_days year_days day_of
day_one = (refl, refl)

pub known_days :
    (map is_leap_year (1999 ∷ 2000 ∷ 2004 ∷ 2100 ∷ []) ≡ false ∷ true ∷ true ∷ false ∷ [])
    × (map date_of (425 ∷ 790 ∷ 791 ∷ []) ≡ date 1 3 1999 ∷ date 29 2 2000 ∷ date 1 3 2000 ∷ [])
    × (map day_of (date 1 3 2000 ∷ date 28 2 2100 ∷ date 1 3 2100 ∷ date 5 6 2177 ∷ []) ≡ 791 ∷ 37314 ∷ 37315 ∷ 65535 ∷ [])
    × (map day_a_year_on (425 ∷ 789 ∷ 790 ∷ 791 ∷ []) ≡ 791 ∷ 1155 ∷ 1155 ∷ 1156 ∷ [])
    × (map (λ today. has_expired today 425) (791 ∷ 792 ∷ []) ≡ false ∷ true ∷ [])
unfolding is_leap_year month_length next_day date_of month_days year_days day_of a_year_on is_later has_expired
known_days = (refl, refl, refl, refl, refl)
