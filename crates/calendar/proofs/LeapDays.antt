-- Where a leap day has passed within a year: counted from a 1 March, leap days come at fixed places of the calendar's cycle of 400 years, and these are the places
-- that `year_before` tells.
use Prim.Native.Nat.{ℕ, zero, suc, ◌+◌, ◌-◌, ◌*◌, ◌/◌, ◌%◌, ◌≤◌, ◌<◌}
use native.Mathlib.Nat.{mod-eq_of_lt, mul-add-mod_self_left}
use native.Mathlib.Omega.{arith}
use mathlib.Core.Path.{◌≡◌, refl, sym, ap, ◌∙◌, subst⁻¹}
use mathlib.Core.Bool.{Bool, true, false, false≢true, true≢false, cond, not, ◌&&◌, ◌||◌, or-true, and-false}
use mathlib.Core.Logic.{◌⊎◌, inl, inr, ⊎_elim}
use lib.Dec.{ltb, leb, eqb}
use borrow.Author.Tests.{eqb-true, eqb-false, ltb-true, ltb-false, lt-ltb, le-ltb, le-leb, lt-leb, ne_eqb}
use Rattle.calendar.specs.Calendar.{is_leap_year, month_length, month_days, year_days}
use Rattle.calendar.specs.Bounds.{cycle_day, year_before}

-- ---- leap years

-- how many leap days a year has
abbrev pub leap : ℕ → ℕ
leap y = cond (is_leap_year y) 1 0

pub leap_le : (y : ℕ) → leap y ≤ 1
leap_le y = go (is_leap_year y)
  where
    go : (b : Bool) → cond b 1 0 ≤ 1
    go true = omega arith
    go false = omega arith

-- the leap days of the years up to one are a quarter of these, less a hundredth, and a four hundredth
leaps_more : (y : ℕ) → suc y / 4 + suc y / 400 + y / 100 ≡ y / 4 + y / 400 + suc y / 100 + leap (suc y)
unfolding is_leap_year
leaps_more y = go (eqb (suc y % 4) 0) (eqb (suc y % 100) 0) (eqb (suc y % 400) 0) refl refl refl
  where
    go :
        (fourth hundredth four_hundredth : Bool)
        → eqb (suc y % 4) 0 ≡ fourth
        → eqb (suc y % 100) 0 ≡ hundredth
        → eqb (suc y % 400) 0 ≡ four_hundredth
        → suc y / 4 + suc y / 400 + y / 100
        ≡ y / 4 + y / 400 + suc y / 100 + cond (fourth && (not hundredth || four_hundredth)) 1 0
    go true true true a b c = omega (arith, eqb-true, eqb-false)
    go true true false a b c = omega (arith, eqb-true, eqb-false)
    go true false true a b c = omega (arith, eqb-true, eqb-false)
    go true false false a b c = omega (arith, eqb-true, eqb-false)
    go false true true a b c = omega (arith, eqb-true, eqb-false)
    go false true false a b c = omega (arith, eqb-true, eqb-false)
    go false false true a b c = omega (arith, eqb-true, eqb-false)
    go false false false a b c = omega (arith, eqb-true, eqb-false)

-- ---- the days of a year

pub year_length : (y : ℕ) → month_days y 12 ≡ 365 + leap y
unfolding month_days month_length
year_length y = go (is_leap_year y) refl
  where
    go : (b : Bool) → is_leap_year y ≡ b → month_days y 12 ≡ 365 + cond b 1 0
    go true e = rw e refl
    go false e = rw e refl

-- the days of so many years from 1998 on with the leap day of the next, in one formula
abbrev ToMarch : ℕ → ℕ → ℕ → Type 0
ToMarch days k y = days + 484 + y / 100 ≡ 365 * k + y / 4 + y / 400

one_year_more : (days k y : ℕ) → ToMarch days k y → ToMarch (days + 365 + leap (suc y)) (suc k) (suc y)
one_year_more days k y h =
    go (y / 4) (y / 100) (y / 400) (suc y / 4) (suc y / 100) (suc y / 400) (leap (suc y)) h (leaps_more y)
  where
    go :
        (a b c a' b' c' l : ℕ)
        → days + 484 + b ≡ 365 * k + a + c
        → a' + c' + b ≡ a + c + b' + l
        → days + 365 + l + 484 + b' ≡ 365 * suc k + a' + c'
    go a b c a' b' c' l before more = omega arith

first : ToMarch (leap 1998) 0 1998
unfolding is_leap_year
first = refl

to_march : (k : ℕ) → ToMarch (year_days k + leap (1998 + k)) k (1998 + k)
unfolding year_days
to_march zero = omega (arith, first)
to_march (suc k) =
    let next : 1998 + suc k ≡ suc (1998 + k) = omega arith in
    let days : year_days k + month_days (1998 + k) 12 + leap (1998 + suc k) ≡ year_days k + leap (1998 + k) + 365 + leap (suc (1998 + k)) =
    omega (arith, year_length (1998 + k), ap leap next) in
    subst⁻¹ (λ d. ToMarch d (suc k) (1998 + suc k)) days
    (subst⁻¹ (λ y. ToMarch (year_days k + leap (1998 + k) + 365 + leap (suc (1998 + k))) (suc k) y) next
    (one_year_more (year_days k + leap (1998 + k)) k (1998 + k) (to_march k)))

-- ---- the places of 400 years

-- a year's place: centuries in 400 years, four years in a century, years in four
record Places (y q c b a : ℕ) : Type 0 where
  year : y ≡ 400 * q + 100 * c + 4 * b + a
  centuries : c < 4
  fours : b < 25
  years : a < 4

places : (y : ℕ) → Places y (y / 400) (y % 400 / 100) (y % 100 / 4) (y % 4)
places y = record { year = omega arith; centuries = omega arith; fours = omega arith; years = omega arith }

-- ---- what `year_before` tells of a place in 400 years

abbrev by_cycle_day : ℕ → ℕ
by_cycle_day day = cond (ltb day 365 || (leb 1461 (day % 36524) && ltb (day % 36524 % 1461) 365)) 366 365

pub long_first : (day : ℕ) → day < 365 → by_cycle_day day ≡ 366
long_first day h = rw (lt-ltb day 365 h)

pub long_later : (day : ℕ) → 1461 ≤ day % 36524 → day % 36524 % 1461 < 365 → by_cycle_day day ≡ 366
long_later day four year = rw (le-leb 1461 (day % 36524) four, lt-ltb (day % 36524 % 1461) 365 year, or-true (ltb day 365))

pub short_first : (day : ℕ) → 365 ≤ day → day % 36524 < 1461 → by_cycle_day day ≡ 365
short_first day h four = rw (le-ltb day 365 h, lt-leb 1461 (day % 36524) four)

pub short_later : (day : ℕ) → 365 ≤ day → 365 ≤ day % 36524 % 1461 → by_cycle_day day ≡ 365
short_later day h year = rw (le-ltb day 365 h, le-ltb (day % 36524 % 1461) 365 year, and-false (leb 1461 (day % 36524)))

-- what is left over of whole parts
left_over : (n m part rest : ℕ) → n ≡ m * part + rest → rest < m → n % m ≡ rest
left_over n m part rest e h = ap (λ k. k % m) e ∙ mul-add-mod_self_left m part rest ∙ mod-eq_of_lt h

module _ (y q c b a : ℕ) (p : Places y q c b a) where
  leap_by_place : is_leap_year y ≡ eqb a 0 && (not (eqb (4 * b + a) 0) || eqb (100 * c + 4 * b + a) 0)
  unfolding is_leap_year
  leap_by_place =
      rw (
        left_over y 4 (100 * q + 25 * c + b) a (omega arith) p.years,
        left_over y 100 (4 * q + c) (4 * b + a) (omega arith) (omega arith),
        left_over y 400 q (100 * c + 4 * b + a) (omega arith) (omega arith),
      )

  -- a leap year begins four years, and those that begin a century only where that begins 400 years
  abbrev LeapPlace : Type 0
  LeapPlace = (a ≡ 0) × (b ≡ 0 → c ≡ 0)

  abbrev CommonPlace : Type 0
  CommonPlace = a ≡ 0 → (b ≡ 0) × (0 < c)

  either_place : ((is_leap_year y ≡ true) × LeapPlace) ⊎ ((is_leap_year y ≡ false) × CommonPlace)
  either_place = go (eqb a 0) (eqb (4 * b + a) 0) (eqb (100 * c + 4 * b + a) 0) refl refl refl leap_by_place
    where
      go :
          (fourth hundredth four_hundredth : Bool)
          → eqb a 0 ≡ fourth
          → eqb (4 * b + a) 0 ≡ hundredth
          → eqb (100 * c + 4 * b + a) 0 ≡ four_hundredth
          → is_leap_year y ≡ fourth && (not hundredth || four_hundredth)
          → ((is_leap_year y ≡ true) × LeapPlace) ⊎ ((is_leap_year y ≡ false) × CommonPlace)
      go true false z u v w t = inl (t, (eqb-true a 0 u, λ none. absurd (eqb-false (4 * b + a) 0 v (omega (arith, eqb-true)))))
      go true true true u v w t = inl (t, (eqb-true a 0 u, λ none. omega (arith, eqb-true)))
      go true true false u v w t = inr (t, λ none. (omega (arith, eqb-true), omega (arith, eqb-true, eqb-false)))
      go false x z u v w t = inr (t, λ none. absurd (eqb-false a 0 u none))

  leap_place : is_leap_year y ≡ true → LeapPlace
  leap_place e = ⊎_elim (λ p. p.1) (λ p. absurd (false≢true (sym p.0 ∙ e))) either_place

  common_place : is_leap_year y ≡ false → CommonPlace
  common_place e = ⊎_elim (λ p. absurd (true≢false (sym p.0 ∙ e))) (λ p. p.1) either_place

  -- a day of the year from 1 March on, and its place in 400 years that begin on one
  abbrev place : ℕ → ℕ
  place j = 36524 * c + 1461 * b + 365 * a + j

  module _ (k j : ℕ) (from : y ≡ 1998 + k) (within : j ≤ 365) where
    march : ToMarch (year_days k + leap y) k y
    march = subst⁻¹ (λ z. ToMarch (year_days k + leap z) k z) from (to_march k)

    quarter : y / 4 ≡ 100 * q + 25 * c + b
    quarter = omega (arith, p.year, p.years)

    hundredth : y / 100 ≡ 4 * q + c
    hundredth = omega (arith, p.year, p.years, p.fours)

    four_hundredth : y / 400 ≡ q
    four_hundredth = omega (arith, p.year, p.years, p.fours, p.centuries)

    march_place : cycle_day (year_days k + leap y + 60 + j) ≡ place j
    march_place =
        left_over (year_days k + leap y + 60 + j + 145306) 146097 (q - 4) (place j)
        (whole (year_days k + leap y) (y / 4) (y / 100) (y / 400) (q - 4) (omega arith) march quarter hundredth four_hundredth)
        (omega arith)
      where
        whole :
            (n u v w r : ℕ)
            → q ≡ r + 4
            → n + 484 + v ≡ 365 * k + u + w
            → u ≡ 100 * q + 25 * c + b
            → v ≡ 4 * q + c
            → w ≡ q
            → n + 60 + j + 145306 ≡ 146097 * r + place j
        whole n u v w r e f g h i = omega (arith, p.year, from)

    abbrev day : ℕ
    day = year_days k + leap y + 60 + j

    by_place : year_before day ≡ by_cycle_day (place j)
    unfolding year_before
    by_place = ap by_cycle_day march_place

    -- in a leap year a leap day is behind each of the 365 days from 1 March on
    after_leap : is_leap_year y ≡ true → j < 365 → year_before day ≡ 366
    after_leap e h = by_place ∙ go b refl
      where
        none : a ≡ 0
        none = (leap_place e).0

        go : (fours : ℕ) → b ≡ fours → by_cycle_day (place j) ≡ 366
        go zero f = long_first (place j) (omega (arith, none, (leap_place e).1 f))
        go (suc n) f =
            let century : place j % 36524 ≡ 1461 * b + j = left_over (place j) 36524 c (1461 * b + j) (omega (arith, none)) (omega (arith, p.fours)) in
            let year : place j % 36524 % 1461 ≡ j = left_over (place j % 36524) 1461 b j century (omega arith) in
            long_later (place j) (omega arith) (omega arith)

    -- in another year none is, and on the day after neither
    after_common : is_leap_year y ≡ false → year_before day ≡ 365
    after_common e = by_place ∙ go a refl
      where
        go : (years : ℕ) → a ≡ years → by_cycle_day (place j) ≡ 365
        go zero f =
            let century : place j % 36524 ≡ j = left_over (place j) 36524 c j (omega (arith, (common_place e f).0)) (omega arith) in
            short_first (place j) (omega (arith, (common_place e f).1)) (omega arith)
        go (suc n) f = rest (ltb (1461 * b + 365 * a + j) 36524) refl
          where
            rest : (within : Bool) → ltb (1461 * b + 365 * a + j) 36524 ≡ within → by_cycle_day (place j) ≡ 365
            rest true w =
                let century : place j % 36524 ≡ 1461 * b + (365 * a + j) =
                left_over (place j) 36524 c (1461 * b + (365 * a + j)) (omega arith) (omega (arith, ltb-true)) in
                let year : place j % 36524 % 1461 ≡ 365 * a + j = left_over (place j % 36524) 1461 b (365 * a + j) century (omega (arith, p.years)) in
                short_later (place j) (omega arith) (omega arith)
            rest false w =
                let century : place j % 36524 ≡ 0 = left_over (place j) 36524 (c + 1) 0 (omega (arith, ltb-false, p.years, p.fours)) (omega arith) in
                short_first (place j) (omega arith) (omega arith)

-- the day n is the j-th after the 1 March of a year
pub record MarchDay (y j n : ℕ) : Type 0 where
  pub from : 1998 ≤ y
  pub day : n ≡ year_days (y - 1998) + leap y + 60 + j

module _ (y j n : ℕ) (d : MarchDay y j n) where
  pub common_year : j ≤ 365 → is_leap_year y ≡ false → year_before n ≡ 365
  common_year within e =
      ap year_before d.day
      ∙ after_common y (y / 400) (y % 400 / 100) (y % 100 / 4) (y % 4) (places y) (y - 1998) j (omega (arith, d.from)) within e

  -- a year is a day longer than 365 behind each of the 365 days from the 1 March of a leap year on
  pub march_year : j < 365 → year_before n ≡ 365 + leap y
  march_year h = go (is_leap_year y) refl
    where
      go : (b : Bool) → is_leap_year y ≡ b → year_before n ≡ 365 + cond b 1 0
      go true e =
          ap year_before d.day
          ∙ after_leap y (y / 400) (y % 400 / 100) (y % 100 / 4) (y % 4) (places y) (y - 1998) j (omega (arith, d.from)) (omega arith) e h
      go false e = common_year (omega arith) e

-- after a leap year comes none
pub next_common : (y : ℕ) → is_leap_year y ≡ true → is_leap_year (y + 1) ≡ false
unfolding is_leap_year
next_common y e =
    let fourth : y % 4 ≡ 0 = (leap_place y (y / 400) (y % 400 / 100) (y % 100 / 4) (y % 4) (places y) e).0 in
    rw (ne_eqb ((y + 1) % 4) 0 (λ next. omega arith))
