-- `rounded_up` computes 20,000 × base / part in two parts, neither of which overflows: the whole part is at most base, since part is 20,000
-- or more, and the broken part at most 20,000. std rounds up by the remainder, the definition by a sum.
use mathlib.Core.Path.{◌≡◌, sym, ap, ◌∙◌}
use Prim.Native.Nat.{ℕ, ◌+◌, ◌*◌, ◌-◌, ◌/◌, ◌%◌, ◌≤◌, ◌<◌}
use native.Mathlib.Nat.{mul_comm, mul-le-mul_right, div-mul-le_self, div-lt_iff_lt-mul, div-eq_of_lt-le, mod-lt, le_trans}
use native.Mathlib.Omega.{arith}
use Rattle.std.specs.Int.{div_ceil}
use Rattle.std.proofs.lemmas.Grind.{div_ceil_times}
use Rattle.prizes.proofs.cut.rounded_up.Goals as goal

whole_le : (base part : ℕ) → 20000 ≤ part → 20000 * (base / part) ≤ base
whole_le base part h =
    le_trans (mul-le-mul_right (base / part) h) (omega (arith, div-mul-le_self base part, mul_comm part (base / part)))

up_by_sum : (x y : ℕ) → 0 < y → div_ceil x y ≡ (x + (y - 1)) / y
up_by_sum x y h =
    let times = div_ceil_times x y h in
    sym (div-eq_of_lt-le y (omega (arith, times.1)) (omega (arith, times.0)))

broken_lt : (base part : ℕ) → 0 < part → (20000 * (base % part) + (part - 1)) / part < 20001
broken_lt base part h = (div-lt_iff_lt-mul h).1 (omega (arith, mod-lt base h))

pub overflow_mul-result : goal.overflow_mul-result
overflow_mul-result c = omega (arith, whole_le c.args.base c.args.part c.requires.least)

pub overflow_mul-base : goal.overflow_mul-base
overflow_mul-base c = omega (arith, mod-lt c.args.base {m = c.args.part} (omega arith))

pub overflow_add-result : goal.overflow_add-result
overflow_add-result c =
    omega (
      arith,
      whole_le c.args.base c.args.part c.requires.least,
      c.div_ceil.ensures ∙ up_by_sum (20000 * (c.args.base % c.args.part)) c.args.part (omega arith),
      broken_lt c.args.base c.args.part (omega arith),
    )

pub returns : goal.returns
returns c =
    let a = c.args in
    ap (λ n. 20000 * (a.base / a.part) + n) (c.div_ceil.ensures ∙ up_by_sum (20000 * (a.base % a.part)) a.part (omega arith))
