-- `text::decimal::put_decimal`, which calls itself, meets its contract: a number's last digit stands behind those of its tenth.
use Prim.Native.Nat.{ℕ, ◌+◌, ◌/◌, ◌%◌, ◌≤◌}
use native.Mathlib.Omega.{arith}
use mathlib.Core.Path.{◌≡◌, sym, ap, ◌∙◌}
use mathlib.Core.List.{◌∷◌, []}
use lib.ListN.{length, length-append}
use Rattle.text.specs.Lines.{decimal}
use Rattle.text.proofs.DecimalLaws.{decimal_small, decimal_large}
use Rattle.text.proofs.PlaceLaws.{wrote_more, wrote_as}
use Rattle.text.proofs.decimal.+put_decimal.Goals as goal

-- a larger number has one digit more than its tenth
one_longer : (n : ℕ) → 10 ≤ n → length (decimal n) ≡ length (decimal (n / 10)) + 1
one_longer n large = ap length (decimal_large n large) ∙ length-append (decimal (n / 10)) ((48 + n % 10) ∷ [])

pub put_byte-requires : goal.put_byte-requires
put_byte-requires t c = omega (arith, ap length (decimal_small c.args.n c.if-n-lt10.true))

pub returns-then-n-lt10 : goal.returns-then-n-lt10
returns-then-n-lt10 t c = wrote_as (sym (decimal_small c.args.n c.if-n-lt10.true)) c.put_byte.ensures

pub put_decimal-last-requires : goal.put_decimal-last-requires
put_decimal-last-requires t c = (omega arith, omega (arith, one_longer c.args.n c.if-n-lt10.false))

pub put_byte-requires-2 : goal.put_byte-requires-2
put_byte-requires-2 t c = omega (arith, one_longer c.args.n c.if-n-lt10.false)

pub returns : goal.returns
returns t c =
    let large = c.if-n-lt10.false in
    wrote_as (sym (decimal_large c.args.n large))
    (wrote_more (omega (arith, one_longer c.args.n large)) c.put_decimal-last.ensures c.put_byte-2.ensures)
