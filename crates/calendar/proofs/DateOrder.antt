-- A date is later than another exactly if its day has the larger number: all days of a month or year before have smaller ones. So no two dates have the same
-- number.
use Prim.Native.Nat.{ℕ, zero, suc, ◌+◌, ◌-◌, ◌≤◌, ◌<◌}
use native.Mathlib.Omega.{arith}
use mathlib.Core.Path.{◌≡◌, refl, sym, ap, ap₂, ◌∙◌}
use mathlib.Core.Bool.{Bool, true, false, ◌&&◌, ◌||◌}
use mathlib.Core.Logic.{◌⊎◌, inl, inr}
use lib.Dec.{ltb, leb, eqb}
use borrow.Author.Tests.{ltb-true, ltb-false, eqb-true, eqb-false, leb-true, leb-false, lt-ltb, le-ltb, eq-eqb, ne_eqb}
use Rattle.calendar.specs.Calendar.{Date, month_days, year_days, day_of, IsDate, is_later}
use Rattle.calendar.proofs.KnownDays.{date}
use Rattle.calendar.proofs.DateLaws.{month_more, year_more}

-- ---- sums of months and of years rise

rises : (f : ℕ → ℕ) → ((n : ℕ) → f n ≤ f (suc n)) → (a b : ℕ) → a ≤ b → f a ≤ f b
rises f step a zero h =
    let none : a ≡ 0 = omega arith in
    omega (arith, ap f none)
rises f step a (suc b) h = go (leb a b) refl (rises f step a b)
  where
    go : (before : Bool) → leb a b ≡ before → (a ≤ b → f a ≤ f b) → f a ≤ f (suc b)
    go true e rise = omega (arith, rise (leb-true a b e), step b)
    go false e rise =
        let same : a ≡ suc b = omega (arith, leb-false) in
        omega (arith, ap f same)

pub months_rise : (y a b : ℕ) → a ≤ b → month_days y a ≤ month_days y b
unfolding month_days
months_rise y = rises (month_days y) (λ n. omega arith)

years_rise : (a b : ℕ) → a ≤ b → year_days a ≤ year_days b
unfolding year_days
years_rise = rises year_days (λ n. omega arith)

-- ---- an earlier date has a smaller number

within_month : (x : Date) → IsDate x → month_days x.year (x.month - 1) + x.day ≤ month_days x.year x.month
within_month x d = omega (arith, month_more x.year x.month d.month, d.in_month)

module _ (x z : Date) (d : IsDate x) (e : IsDate z) where
  earlier_year : z.year < x.year → day_of z < day_of x
  unfolding day_of
  earlier_year h =
      omega (
        arith,
        within_month z e,
        months_rise z.year z.month 12 e.in_year,
        year_more z.year e.year,
        years_rise (z.year + 1 - 1998) (x.year - 1998) (omega arith),
        d.day,
      )

  earlier_month : z.year ≡ x.year → z.month < x.month → day_of z < day_of x
  unfolding day_of
  earlier_month y h =
      omega (
        arith,
        within_month z e,
        months_rise z.year z.month (x.month - 1) (omega arith),
        ap (λ n. year_days (n - 1998)) y,
        ap (λ n. month_days n (x.month - 1)) y,
        d.day,
      )

  earlier_day : z.year ≡ x.year → z.month ≡ x.month → z.day < x.day → day_of z < day_of x
  unfolding day_of
  earlier_day y m h = omega (arith, ap (λ n. year_days (n - 1998)) y, ap₂ (λ n i. month_days n (i - 1)) y m)

pub number_positive : (x : Date) → IsDate x → 0 < day_of x
unfolding day_of
number_positive x d = omega (arith, d.day)

-- two numbers are in one of three orders
abbrev Order : ℕ → ℕ → Type 0
Order a b = (a < b) ⊎ ((a ≡ b) ⊎ (b < a))

ordered : (a b : ℕ) → Order a b
ordered a b = go (ltb a b) (eqb a b) refl refl
  where
    go : (less same : Bool) → ltb a b ≡ less → eqb a b ≡ same → Order a b
    go true same p q = inl (ltb-true a b p)
    go false true p q = inr (inl (eqb-true a b q))
    go false false p q = inr (inr (omega (arith, ltb-false, eqb-false)))

-- a date, compared with another
abbrev Compared : Date → Date → Type 0
Compared x z =
    ((is_later x z ≡ true) × (day_of z < day_of x)) ⊎ ((z ≡ x) ⊎ ((is_later x z ≡ false) × (day_of x < day_of z)))

module _ (x z : Date) (d : IsDate x) (e : IsDate z) where
  later_in_year : z.year ≡ x.year → is_later x z ≡ ltb z.month x.month || (eqb z.month x.month && ltb z.day x.day)
  unfolding is_later
  later_in_year y = rw (le-ltb z.year x.year (omega arith), eq-eqb z.year x.year y)

  later_in_month : z.year ≡ x.year → z.month ≡ x.month → is_later x z ≡ ltb z.day x.day
  later_in_month y m = later_in_year y ∙ rw (le-ltb z.month x.month (omega arith), eq-eqb z.month x.month m)

  by_day : z.year ≡ x.year → z.month ≡ x.month → Order z.day x.day → Compared x z
  by_day y m (inl h) = inl (later_in_month y m ∙ lt-ltb z.day x.day h, earlier_day x z d e y m h)
  by_day y m (inr (inl h)) = inr (inl (ap (λ k. date z.day z.month k) y ∙ ap₂ (λ i k. date k i x.year) m h))
  by_day y m (inr (inr h)) =
      inr (inr (later_in_month y m ∙ le-ltb z.day x.day (omega arith), earlier_day z x e d (sym y) (sym m) h))

  by_month : z.year ≡ x.year → Order z.month x.month → Compared x z
  by_month y (inl h) = inl (later_in_year y ∙ rw (lt-ltb z.month x.month h), earlier_month x z d e y h)
  by_month y (inr (inl m)) = by_day y m (ordered z.day x.day)
  by_month y (inr (inr h)) =
      inr
      (inr (
        later_in_year y ∙ rw (le-ltb z.month x.month (omega arith), ne_eqb z.month x.month (λ m. omega arith)),
        earlier_month z x e d (sym y) h,
      ))

  by_year : Order z.year x.year → Compared x z
  unfolding is_later
  by_year (inl h) = inl (rw (lt-ltb z.year x.year h), earlier_year x z d e h)
  by_year (inr (inl y)) = by_month y (ordered z.month x.month)
  by_year (inr (inr h)) =
      inr (inr (rw (le-ltb z.year x.year (omega arith), ne_eqb z.year x.year (λ y. omega arith)), earlier_year z x e d h))

  compared : Compared x z
  compared = by_year (ordered z.year x.year)

not_later : (x : Date) → IsDate x → is_later x x ≡ false
not_later x d = later_in_month x x d d refl refl ∙ le-ltb x.day x.day (omega arith)

module _ (x z : Date) (d : IsDate x) (e : IsDate z) where
  pub later_by_number : is_later x z ≡ ltb (day_of z) (day_of x)
  later_by_number = go (compared x z d e)
    where
      go : Compared x z → is_later x z ≡ ltb (day_of z) (day_of x)
      go (inl h) = h.0 ∙ sym (lt-ltb (day_of z) (day_of x) h.1)
      go (inr (inl same)) = ap (is_later x) same ∙ not_later x d ∙ sym (le-ltb (day_of z) (day_of x) (omega (arith, ap day_of same)))
      go (inr (inr h)) = h.0 ∙ sym (le-ltb (day_of z) (day_of x) (omega (arith, h.1)))

  -- dates with the same number are the same
  pub same_number : day_of z ≡ day_of x → z ≡ x
  same_number n = go (compared x z d e)
    where
      go : Compared x z → z ≡ x
      go (inl h) = absurd (omega (arith, h.1))
      go (inr (inl same)) = same
      go (inr (inr h)) = absurd (omega (arith, h.1))
