-- How many days later a year on is: the months of two years differ in February alone, so it is a matter of which year's leap day lies between, and
-- that is what `year_before` tells of the day 366 days later.
use Prim.Native.Nat.{ℕ, zero, suc, ◌+◌, ◌-◌, ◌≤◌}
use native.Mathlib.Omega.{arith}
use mathlib.Core.Path.{◌≡◌, refl, sym, ap, ◌∙◌, subst}
use mathlib.Core.Bool.{Bool, true, false, cond, ◌&&◌, and-false}
use mathlib.Core.Logic.{◌⊎◌, inl, inr}
use lib.Dec.{leb, eqb}
use borrow.Author.Tests.{eqb-true, eqb-false, leb-true, leb-false, eq-eqb, ne_eqb}
use Rattle.calendar.specs.Calendar.{Date, is_leap_year, month_length, month_days, year_days, date_of, day_of, IsDate, is_leap_day, a_year_on, day_a_year_on}
use Rattle.calendar.specs.Bounds.{passed_leap_day, year_before}
use Rattle.calendar.proofs.KnownDays.{date}
use Rattle.calendar.proofs.DateLaws.{month_more, year_more, no_months, Numbered, dates_numbered}
use Rattle.calendar.proofs.DateOrder.{months_rise}
use Rattle.calendar.proofs.LeapDays.{leap, leap_le, year_length, common_year, march_year, next_common}

-- ---- months of two years

-- only February differs
same_month : (y y' m : ℕ) → (m ≡ 2 → ⊥) → month_length y m ≡ month_length y' m
unfolding month_length
same_month y y' m other = rw (ne_eqb m 2 other)

january : (y : ℕ) → month_days y 1 ≡ 31
unfolding month_days month_length
january y = refl

january_length : (y : ℕ) → month_length y 1 ≡ 31
unfolding month_length
january_length y = refl

february : (y : ℕ) → month_length y 2 ≡ 28 + leap y
unfolding month_length
february y = go (is_leap_year y) refl
  where
    go : (b : Bool) → is_leap_year y ≡ b → cond b 29 28 ≡ 28 + cond b 1 0
    go true e = refl
    go false e = refl

two_months : (y : ℕ) → month_days y 2 ≡ 59 + leap y
unfolding month_days
two_months y = omega (arith, january y, february y)

-- so that from March on a leap day has passed
from_march : (y y' i : ℕ) → month_days y' (suc (suc i)) + leap y ≡ month_days y (suc (suc i)) + leap y'
unfolding month_days
from_march y y' zero = omega (arith, january y, january y', february y, february y')
from_march y y' (suc i) = omega (arith, from_march y y' i, same_month y y' (suc (suc (suc i))) (λ e. omega arith))

-- ---- a year on, in days

module _ (x : Date) (d : IsDate x) where
  abbrev y : ℕ
  y = x.year

  years : year_days (y + 1 - 1998) ≡ year_days (y - 1998) + (365 + leap y)
  years = year_more y d.year ∙ ap (λ n. year_days (y - 1998) + n) (year_length y)

  -- finished from March on, it is the next year's leap day that counts
  on_from_march : 3 ≤ x.month → day_of (a_year_on x) ≡ day_of x + year_before (day_of x + 366)
  unfolding day_of a_year_on
  on_from_march m =
      let same : suc (suc (x.month - 3)) ≡ x.month - 1 = omega arith in
      let months : month_days (y + 1) (x.month - 1) + leap y ≡ month_days y (x.month - 1) + leap (y + 1) =
      subst (λ i. month_days (y + 1) i + leap y ≡ month_days y i + leap (y + 1)) same (from_march y (y + 1) (x.month - 3)) in
      let low : 59 + leap y ≤ month_days y (x.month - 1) =
      omega (arith, two_months y, months_rise y 2 (x.month - 1) (omega arith)) in
      let high : month_days y (x.month - 1) + x.day ≤ 365 + leap y =
      omega (arith, month_more y x.month d.month, months_rise y x.month 12 d.in_year, year_length y, d.in_month) in
      let j : ℕ = month_days y (x.month - 1) + x.day - (59 + leap y + leap (y + 1)) in
      let before : year_before (day_of x + 366) ≡ 365 + leap (y + 1) =
      march_year (y + 1) j (day_of x + 366)
      (record { from = omega (arith, d.year); day = omega (arith, years, low, high, d.day, leap_le (y + 1)) })
      (omega (arith, high)) in
      rw (ne_eqb x.month 2 (λ e. omega arith))
      (omega (arith, before, years, months))

  -- before March it is this year's, but a leap day is behind itself
  module _ (m : x.month ≤ 2) where
    same_months : month_days (y + 1) (x.month - 1) ≡ month_days y (x.month - 1)
    same_months = go (x.month - 1) (omega arith)
      where
        go : (i : ℕ) → i ≤ 1 → month_days (y + 1) i ≡ month_days y i
        go zero h = no_months (y + 1) ∙ sym (no_months y)
        go (suc i) h =
            let none : suc i ≡ 1 = omega arith in
            ap (month_days (y + 1)) none ∙ january (y + 1) ∙ sym (january y) ∙ ap (month_days y) (sym none)

    on_before_march : is_leap_day x ≡ false → month_days y (x.month - 1) + x.day ≤ 59 → day_of (a_year_on x) ≡ day_of x + year_before (day_of x + 366)
    unfolding day_of a_year_on
    on_before_march e high = rw e (omega (arith, before (is_leap_year y) refl, years, same_months))
      where
        before : (b : Bool) → is_leap_year y ≡ b → year_before (day_of x + 366) ≡ 365 + leap y
        before true l =
            let one : leap y ≡ 1 = ap (λ b. cond b 1 0) l in
            march_year y (month_days y (x.month - 1) + x.day + 305) (day_of x + 366) (record { from = d.year; day = omega arith }) (omega arith)
        before false l =
            let none : leap y ≡ 0 = ap (λ b. cond b 1 0) l in
            common_year y (month_days y (x.month - 1) + x.day + 306) (day_of x + 366) (record { from = d.year; day = omega arith }) (omega arith) l
            ∙ omega arith

  on_leap_day : x.month ≡ 2 → x.day ≡ 29 → day_of (a_year_on x) ≡ day_of x + year_before (day_of x + 366)
  unfolding day_of a_year_on
  on_leap_day m day =
      let length : 29 ≤ 28 + leap y = omega (arith, d.in_month, ap (month_length y) m, february y) in
      let next : leap (y + 1) ≡ 0 = ap (λ b. cond b 1 0) (next_common y (is_leap (is_leap_year y) refl length)) in
      let months : month_days y (x.month - 1) ≡ 31 = ap (λ n. month_days y (n - 1)) m ∙ january y in
      let months' : month_days (y + 1) (x.month - 1) ≡ 31 = ap (λ n. month_days (y + 1) (n - 1)) m ∙ january (y + 1) in
      let before : year_before (day_of x + 366) ≡ 365 + leap (y + 1) =
      march_year (y + 1) 0 (day_of x + 366) (record { from = omega (arith, d.year); day = omega (arith, years, leap_le y) }) (omega arith) in
      rw (eq-eqb x.month 2 m, eq-eqb x.day 29 day) (omega (arith, years, leap_le y))
    where
      is_leap : (b : Bool) → is_leap_year y ≡ b → 29 ≤ 28 + cond b 1 0 → is_leap_year y ≡ true
      is_leap true e h = e
      is_leap false e h = absurd (omega arith)

  on_january : x.month ≡ 1 → day_of (a_year_on x) ≡ day_of x + year_before (day_of x + 366)
  on_january m =
      let none : month_days y (x.month - 1) ≡ 0 = ap (λ n. month_days y (n - 1)) m ∙ no_months y in
      on_before_march (omega arith) (rw (ne_eqb x.month 2 (λ e. omega arith)))
      (omega (arith, d.in_month, ap (month_length y) m, january_length y))

  on_february : x.month ≡ 2 → eqb x.day 29 ≡ false → day_of (a_year_on x) ≡ day_of x + year_before (day_of x + 366)
  on_february m e =
      let months : month_days y (x.month - 1) ≡ 31 = ap (λ n. month_days y (n - 1)) m ∙ january y in
      on_before_march (omega arith) (rw e (and-false (eqb x.month 2)))
      (omega (arith, d.in_month, ap (month_length y) m, february y, leap_le y, eqb-false x.day 29 e))

  -- how many days later it is: as many as `year_before` tells 366 days later
  on_days : day_of (a_year_on x) ≡ day_of x + year_before (day_of x + 366)
  on_days = go (leb 3 x.month) (leb 2 x.month) (eqb x.day 29) refl refl refl
    where
      go : (march february last : Bool) → leb 3 x.month ≡ march → leb 2 x.month ≡ february → eqb x.day 29 ≡ last
          → day_of (a_year_on x) ≡ day_of x + year_before (day_of x + 366)
      go true february last p q r = on_from_march (leb-true 3 x.month p)
      go false false last p q r = on_january (omega (arith, d.month, leb-false))
      go false true true p q r = on_leap_day (omega (arith, leb-true, leb-false)) (eqb-true x.day 29 r)
      go false true false p q r = on_february (omega (arith, leb-true, leb-false)) r

  -- and it is a date
  on_is_date : IsDate (a_year_on x)
  unfolding a_year_on
  on_is_date = go (eqb x.month 2) (eqb x.day 29) refl refl
    where
      from : 1998 ≤ y + 1
      from = omega (arith, d.year)

      go : (february last : Bool) → eqb x.month 2 ≡ february → eqb x.day 29 ≡ last → IsDate (date (cond (february && last) 28 x.day) x.month (y + 1))
      go true true p q =
          let length : month_length (y + 1) x.month ≡ 28 + leap (y + 1) = ap (month_length (y + 1)) (eqb-true x.month 2 p) ∙ february (y + 1) in
          record { year = from; month = d.month; in_year = d.in_year; day = omega arith; in_month = omega arith }
      go true false p q =
          let month : x.month ≡ 2 = eqb-true x.month 2 p in
          let length : month_length (y + 1) x.month ≡ 28 + leap (y + 1) = ap (month_length (y + 1)) month ∙ february (y + 1) in
          let before : month_length y x.month ≡ 28 + leap y = ap (month_length y) month ∙ february y in
          record { year = from; month = d.month; in_year = d.in_year; day = d.day; in_month = omega (arith, d.in_month, leap_le y, eqb-false x.day 29 q) }
      go false last p q =
          let same : month_length y x.month ≡ month_length (y + 1) x.month = same_month y (y + 1) x.month (eqb-false x.month 2 p) in
          record { year = from; month = d.month; in_year = d.in_year; day = d.day; in_month = omega (arith, d.in_month) }

pub two_lengths : (n : ℕ) → (year_before n ≡ 365) ⊎ (year_before n ≡ 366)
unfolding year_before
two_lengths n = go (passed_leap_day n)
  where
    go : (b : Bool) → ◌≡◌ {A = ℕ} (cond b 366 365) 365 ⊎ ◌≡◌ {A = ℕ} (cond b 366 365) 366
    go true = inr refl
    go false = inl refl

on_day_zero : day_a_year_on 0 ≡ year_before 366
unfolding year_before day_of a_year_on date_of month_length is_leap_year year_days month_days
on_day_zero = refl

-- and so from every day
pub on_day_lem : (n : ℕ) → day_a_year_on n ≡ n + year_before (n + 366)
on_day_lem zero = on_day_zero ∙ omega arith
on_day_lem (suc n) =
    let this : Numbered (date_of (suc n)) (suc n) = dates_numbered n in
    on_days (date_of (suc n)) this.date ∙ ap (λ k. k + year_before (k + 366)) this.number

on_date_zero : IsDate (a_year_on (date_of 0))
unfolding a_year_on date_of month_length is_leap_year
on_date_zero = record { year = omega arith; month = omega arith; in_year = omega arith; day = omega arith; in_month = omega arith }

pub on_date : (n : ℕ) → IsDate (a_year_on (date_of n))
on_date zero = on_date_zero
on_date (suc n) = on_is_date (date_of (suc n)) (dates_numbered n).date
