-- The laws of the calendar, for every day: dates and day numbers are each other's inverse, a year on is 365 or 366 days later, and a year on never goes
-- back as days go on. Last, what Expire's bound rests on: one number of days, worked out today, decides for every ticket.
use Prim.Native.Nat.{ℕ, zero, suc, ◌+◌, ◌≤◌, ◌<◌}
use native.Mathlib.Nat.{not-suc-le-zero}
use native.Mathlib.Omega.{arith}
use mathlib.Core.Path.{◌≡◌, refl, sym, ap, ◌∙◌}
use mathlib.Core.Bool.{Bool, true, false}
use mathlib.Core.Logic.{◌⊎◌, inl, inr, ⊎_elim}
use lib.Dec.{ltb, eqb}
use borrow.Author.Tests.{eqb-true, eqb-false, ltb-true, ltb-false, lt-ltb, le-ltb, ne_eqb}
use Rattle.calendar.specs.Calendar.{Date, date_of, day_of, IsDate, a_year_on, is_later, has_expired, day_a_year_on}
use Rattle.calendar.specs.Bounds.{year_before}
use Rattle.calendar.proofs.DateLaws.{dates_numbered}
use Rattle.calendar.proofs.DateOrder.{number_positive, later_by_number, same_number}
use Rattle.calendar.proofs.YearOn.{two_lengths, on_day_lem, on_date}

numbered_date : (n : ℕ) → 0 < n → IsDate (date_of n) × (day_of (date_of n) ≡ n)
numbered_date zero h = absurd (not-suc-le-zero h)
numbered_date (suc n) h = ((dates_numbered n).date, (dates_numbered n).number)

dated_number : (x : Date) → IsDate x → (0 < day_of x) × (date_of (day_of x) ≡ x)
dated_number x d =
    let positive : 0 < day_of x = number_positive x d in
    let here = numbered_date (day_of x) positive in
    (positive, same_number x (date_of (day_of x)) d here.0 here.1)

-- each day from 1 on has a date, whose number it is, and each date has a number from 1 on, whose date it is
pub each_others_inverse :
    ((n : ℕ) → 0 < n → IsDate (date_of n) × (day_of (date_of n) ≡ n))
    × ((x : Date) → IsDate x → (0 < day_of x) × (date_of (day_of x) ≡ x))
each_others_inverse = (numbered_date, dated_number)

-- a year on is 365 or 366 days later
pub a_year_later : (n : ℕ) → (day_a_year_on n ≡ n + 365) ⊎ (day_a_year_on n ≡ n + 366)
a_year_later n =
    ⊎_elim (λ e. inl (on_day_lem n ∙ ap (λ days. n + days) e)) (λ e. inr (on_day_lem n ∙ ap (λ days. n + days) e)) (two_lengths (n + 366))

-- as days go on, a year on never goes back
pub never_back : (m n : ℕ) → m ≤ n → day_a_year_on m ≤ day_a_year_on n
never_back m n h = go (eqb m n) refl
  where
    go : (same : Bool) → eqb m n ≡ same → day_a_year_on m ≤ day_a_year_on n
    go true e = omega (arith, ap day_a_year_on (eqb-true m n e))
    go false e = ⊎_elim (λ a. less (omega arith)) (λ a. less (omega arith)) (a_year_later m)
      where
        less : day_a_year_on m ≤ m + 366 → day_a_year_on m ≤ day_a_year_on n
        less most = ⊎_elim (λ b. omega (arith, eqb-false m n e)) (λ b. omega (arith, eqb-false m n e)) (a_year_later n)

-- two days of which either is 365 or 366 days after one, compared with a day that is not 366 days after it
compared_alike :
    (from day day' today : ℕ)
    → (day ≡ from + 365) ⊎ (day ≡ from + 366)
    → (day' ≡ from + 365) ⊎ (day' ≡ from + 366)
    → (today ≡ from + 366 → ⊥)
    → ltb day today ≡ ltb day' today
compared_alike from day day' today p q other = go (ltb day' today) refl (within p) (within q)
  where
    within : {d : ℕ} → (d ≡ from + 365) ⊎ (d ≡ from + 366) → (from + 365 ≤ d) × (d ≤ from + 366)
    within p = ⊎_elim (λ e. (omega arith, omega arith)) (λ e. (omega arith, omega arith)) p

    go : (before : Bool) → ltb day' today ≡ before → (from + 365 ≤ day) × (day ≤ from + 366) → (from + 365 ≤ day') × (day' ≤ from + 366) → ltb day today ≡ before
    go true e u v = lt-ltb day today (omega (arith, ltb-true, other))
    go false e u v = le-ltb day today (omega (arith, ltb-false, other))

-- no date is before day 0
none_earlier : (z : Date) → IsDate z → is_later (date_of 0) z ≡ false
unfolding is_later date_of
none_earlier z d = rw (le-ltb z.year 1997 (omega (arith, d.year)), ne_eqb z.year 1997 (λ e. omega (arith, d.year)))

-- today's date is later than a finishing date a year on exactly if its number is larger
expired_by_number : (today finished : ℕ) → has_expired today finished ≡ ltb (day_a_year_on finished) today
unfolding has_expired
expired_by_number zero finished = none_earlier (a_year_on (date_of finished)) (on_date finished) ∙ sym (le-ltb (day_a_year_on finished) 0 (omega arith))
expired_by_number (suc n) finished =
    later_by_number (date_of (suc n)) (a_year_on (date_of finished)) (dates_numbered n).date (on_date finished)
    ∙ ap (λ number. ltb (day_a_year_on finished) number) (dates_numbered n).number

-- so one number of days, worked out today, tells of every finishing day whether it has expired: which of the two it is matters only for the day
-- that is 366 days back, and a year on from there is as long as a year back from here
pub expired_by_days : (today finished : ℕ) → has_expired today finished ≡ ltb (finished + year_before today) today
expired_by_days today finished = expired_by_number today finished ∙ go (eqb today (finished + 366)) refl
  where
    go : (same : Bool) → eqb today (finished + 366) ≡ same → ltb (day_a_year_on finished) today ≡ ltb (finished + year_before today) today
    go true e =
        ap (λ day. ltb day today) (on_day_lem finished ∙ ap (λ day. finished + year_before day) (sym (eqb-true today (finished + 366) e)))
    go false e =
        compared_alike finished (day_a_year_on finished) (finished + year_before today) today
        (a_year_later finished)
        (⊎_elim (λ d. inl (ap (λ days. finished + days) d)) (λ d. inr (ap (λ days. finished + days) d)) (two_lengths today))
        (eqb-false today (finished + 366) e)
