-- Every day from 1 on has a date, whose number it is: the next day has the next number, within a month, to the next month and to the next year.
use Prim.Native.Nat.{ℕ, zero, suc, ◌+◌, ◌-◌, ◌≤◌, ◌<◌}
use native.Mathlib.Nat.{le_of_suc-le-suc, not-suc-le-zero}
use native.Mathlib.Omega.{arith}
use mathlib.Core.Path.{◌≡◌, refl, sym, ap, ◌∙◌, subst⁻¹}
use mathlib.Core.Bool.{Bool, true, false, cond, ◌&&◌}
use mathlib.Core.List.{List, [], ◌∷◌}
use lib.Dec.{ltb, eqb}
use lib.ListN.{length, get_or}
use borrow.Author.Tests.{ltb-true, ltb-false, lt-ltb, le-ltb}
use Rattle.calendar.specs.Calendar.{Date, is_leap_year, month_lengths, month_length, next_day, date_of, month_days, year_days, day_of, IsDate}
use Rattle.calendar.proofs.KnownDays.{date, day_one}

-- ---- no month is empty

all_positive : (l : List ℕ) → Bool
all_positive [] = true
all_positive (x ∷ xs) = ltb 0 x && all_positive xs

and_true : (a b : Bool) → a && b ≡ true → (a ≡ true) × (b ≡ true)
and_true true b e = (refl, e)
and_true false true e = (e, refl)
and_true false false e = (e, e)

positive_at : (l : List ℕ) (i : ℕ) → all_positive l ≡ true → i < length l → 1 ≤ get_or l i 0
unfolding all_positive
positive_at [] i t h = absurd (not-suc-le-zero h)
positive_at (x ∷ xs) zero t h = ltb-true 0 x (and_true (ltb 0 x) (all_positive xs) t).0
positive_at (x ∷ xs) (suc i) t h = positive_at xs i (and_true (ltb 0 x) (all_positive xs) t).1 (le_of_suc-le-suc h)

month_positive : (y m : ℕ) → 1 ≤ m → m ≤ 12 → 1 ≤ month_length y m
unfolding month_length all_positive
month_positive y m low high = go (eqb m 2 && is_leap_year y)
  where
    go : (b : Bool) → 1 ≤ cond b 29 (get_or month_lengths (m - 1) 0)
    go true = omega arith
    go false = positive_at month_lengths (m - 1) refl (omega arith)

-- ---- the next day

module _ (x : Date) where
  abbrev later : Date
  later = date (x.day + 1) x.month x.year

  abbrev next_month : Date
  next_month = date 1 (x.month + 1) x.year

  abbrev next_year : Date
  next_year = date 1 1 (x.year + 1)

  next_in_month : x.day < month_length x.year x.month → next_day x ≡ later
  unfolding next_day
  next_in_month h = rw (lt-ltb x.day (month_length x.year x.month) h)

  next_in_year : month_length x.year x.month ≤ x.day → x.month < 12 → next_day x ≡ next_month
  unfolding next_day
  next_in_year h m = rw (le-ltb x.day (month_length x.year x.month) h, lt-ltb x.month 12 m)

  next_after : month_length x.year x.month ≤ x.day → 12 ≤ x.month → next_day x ≡ next_year
  unfolding next_day
  next_after h m = rw (le-ltb x.day (month_length x.year x.month) h, le-ltb x.month 12 m)

pub no_months : (y : ℕ) → month_days y 0 ≡ 0
unfolding month_days
no_months y = refl

-- the days of the months up to a month, with that month's
pub month_more : (y m : ℕ) → 1 ≤ m → month_days y m ≡ month_days y (m - 1) + month_length y m
unfolding month_days
month_more y zero h = absurd (not-suc-le-zero h)
month_more y (suc m) h =
    let same : m ≡ suc m - 1 = omega arith in
    ap (λ n. month_days y n + month_length y (suc m)) same

-- the days of the years up to a year, with that year's
pub year_more : (y : ℕ) → 1998 ≤ y → year_days (y + 1 - 1998) ≡ year_days (y - 1998) + month_days y 12
unfolding year_days
year_more y h =
    let next : y + 1 - 1998 ≡ suc (y - 1998) = omega arith in
    let same : 1998 + (y - 1998) ≡ y = omega arith in
    ap year_days next ∙ ap (λ n. year_days (y - 1998) + month_days n 12) same

-- a date with the number of its day
pub record Numbered (x : Date) (n : ℕ) : Type 0 where
  pub date : IsDate x
  pub number : day_of x ≡ n

module _ (x : Date) (n : ℕ) (h : Numbered x n) where
  later_numbered : x.day < month_length x.year x.month → Numbered (later x) (suc n)
  unfolding day_of
  later_numbered d =
      record {
        date = record { year = h.date.year; month = h.date.month; in_year = h.date.in_year; day = omega arith; in_month = omega arith };
        number = omega (arith, h.number);
      }

  month_numbered : month_length x.year x.month ≤ x.day → x.month < 12 → Numbered (next_month x) (suc n)
  unfolding day_of
  month_numbered d m =
      let same : x.month + 1 - 1 ≡ x.month = omega arith in
      let months : month_days x.year (x.month + 1 - 1) ≡ month_days x.year (x.month - 1) + month_length x.year x.month =
      ap (month_days x.year) same ∙ month_more x.year x.month h.date.month in
      record {
        date =
            record {
              year = h.date.year;
              month = omega arith;
              in_year = omega arith;
              day = omega arith;
              in_month = month_positive x.year (x.month + 1) (omega arith) (omega arith);
            };
        number = omega (arith, h.number, h.date.in_month, months);
      }

  year_numbered : month_length x.year x.month ≤ x.day → 12 ≤ x.month → Numbered (next_year x) (suc n)
  unfolding day_of
  year_numbered d m =
      let last : x.month ≡ 12 = omega (arith, h.date.in_year) in
      let months : month_days x.year 12 ≡ month_days x.year (x.month - 1) + month_length x.year x.month =
      ap (month_days x.year) (sym last) ∙ month_more x.year x.month h.date.month in
      let none : month_days (x.year + 1) 0 ≡ 0 = no_months (x.year + 1) in
      record {
        date =
            record {
              year = omega (arith, h.date.year);
              month = omega arith;
              in_year = omega arith;
              day = omega arith;
              in_month = month_positive (x.year + 1) 1 (omega arith) (omega arith);
            };
        number = omega (arith, h.number, h.date.in_month, months, none, year_more x.year h.date.year);
      }

  -- the next day has the next number
  next_numbered : Numbered (next_day x) (suc n)
  next_numbered = go (ltb x.day (month_length x.year x.month)) (ltb x.month 12) refl refl
    where
      go : (in_month_lem in_year_lem : Bool) → ltb x.day (month_length x.year x.month) ≡ in_month_lem → ltb x.month 12 ≡ in_year_lem → Numbered (next_day x) (suc n)
      go true in_year_lem d m =
          let less = ltb-true x.day (month_length x.year x.month) d in
          subst⁻¹ (λ z. Numbered z (suc n)) (next_in_month x less) (later_numbered less)
      go false true d m =
          let full = ltb-false x.day (month_length x.year x.month) d in
          let less = ltb-true x.month 12 m in
          subst⁻¹ (λ z. Numbered z (suc n)) (next_in_year x full less) (month_numbered full less)
      go false false d m =
          let full = ltb-false x.day (month_length x.year x.month) d in
          let last = ltb-false x.month 12 m in
          subst⁻¹ (λ z. Numbered z (suc n)) (next_after x full last) (year_numbered full last)

-- every day from 1 on has a date, with its number
pub dates_numbered : (n : ℕ) → Numbered (date_of (suc n)) (suc n)
unfolding date_of
dates_numbered zero =
    subst⁻¹ (λ x. Numbered x 1) day_one.0
    (record {
      date = record { year = omega arith; month = omega arith; in_year = omega arith; day = omega arith; in_month = month_positive 1998 1 (omega arith) (omega arith) };
      number = day_one.1;
    })
dates_numbered (suc n) = next_numbered (date_of (suc n)) (suc n) (dates_numbered n)
