-- The days of the year before are taken from today where the law adds them to the finishing day.
use Prim.Native.Nat.{ℕ, ◌+◌, ◌-◌}
use native.Mathlib.Omega.{arith}
use mathlib.Core.Path.{◌≡◌, refl, sym, ap, ◌∙◌}
use mathlib.Core.Bool.{Bool, true, false}
use lib.Dec.{ltb}
use borrow.Author.Tests.{ltb-true, ltb-false, lt-ltb, le-ltb}
use Rattle.calendar.proofs.CalendarLaws.{expired_by_days}
use Rattle.calendar.proofs.expiry.expiry_bound.Goals as goal

-- where a year has not passed yet, no finishing day is early enough on either side
moved : (today finished days : ℕ) → ltb (finished + days) today ≡ ltb finished (today - days)
moved today finished days = go (ltb finished (today - days)) refl
  where
    go : (late : Bool) → ltb finished (today - days) ≡ late → ltb (finished + days) today ≡ late
    go true e = lt-ltb (finished + days) today (omega (arith, ltb-true))
    go false e = le-ltb (finished + days) today (omega (arith, ltb-false))

pub returns : goal.returns
returns c =
    let today = c.args.today in
    let days = c.year_before-year.result in
    record {
      before = λ finished.
          expired_by_days today finished
          ∙ ap (λ d. ltb (finished + d) today) (sym c.year_before-year.ensures)
          ∙ moved today finished days
          ∙ ap (ltb finished) (sym c.saturating_sub.ensures);
    }
