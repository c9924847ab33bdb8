-- Bounds on a way's prize, for every kind, selection and match: a computed test over each table bounds its cells, and so every prize.
use mathlib.Core.Bool.{Bool, true, false, cond}
use Prim.Native.Nat.{ℕ, ◌*◌, ◌≤◌, ◌<◌, ◌^◌}
use native.Mathlib.Nat.{mul-le-mul, min-le_left}
use native.Mathlib.Omega.{arith}
use lib.Dec.{leb, eqb, leb→le}
use Rattle.sale.specs.Lists.{every}
use Rattle.sale.specs.Price.{charge_limit}
use Rattle.prizes.specs.Schedules.{standard_rows, special_one_rows, special_two_rows}
use Rattle.prizes.specs.Prize.{prize_limit, dollars, capped, prize}
use Rattle.sale.specs.declared.terms.Kind.{Kind}
use Rattle.sale.specs.declared.terms.Kind.TheVariants.{Standard, Jackpot, Special}
use Rattle.sale.specs.declared.terms.Schedule.TheVariants.{One, Two}
use Rattle.prizes.proofs.TableLaws.{every_cell}

-- the most that any cell pays
abbrev pub most_dollars : ℕ
most_dollars = 50000

abbrev small : ℕ → Bool
small p = leb p most_dollars

or_nothing : (b : Bool) (p : ℕ) → p ≤ most_dollars → cond b 0 p ≤ most_dollars
or_nothing true p h = omega arith
or_nothing false p h = h

pub dollars_bound : (kind : Kind) (n h : ℕ) → dollars kind n h ≤ most_dollars
unfolding dollars every standard_rows special_one_rows special_two_rows
dollars_bound Standard n h = leb→le _ _ (every_cell standard_rows small tt tt n h)
dollars_bound Jackpot n h = or_nothing (eqb h n) _ (leb→le _ _ (every_cell standard_rows small tt tt n h))
dollars_bound (Special One) n h = leb→le _ _ (every_cell special_one_rows small tt tt n h)
dollars_bound (Special Two) n h = leb→le _ _ (every_cell special_two_rows small tt tt n h)

capped_le : (kind : Kind) (cents : ℕ) → capped kind cents ≤ cents
capped_le Standard cents = min-le_left cents prize_limit
capped_le Jackpot cents = omega arith
capped_le (Special s) cents = min-le_left cents prize_limit

pub prize_bound : (kind : Kind) (stake n h : ℕ) → stake ≤ charge_limit → prize kind stake n h < 2 ^ 40
unfolding prize
prize_bound kind stake n h s =
    omega (arith, capped_le kind (dollars kind n h * stake), mul-le-mul (dollars_bound kind n h) s)
