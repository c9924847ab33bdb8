-- Nothing is left above bit g - 1 where the byte is below 2^g.
use Prim.Native.Nat.{◌^◌}
use lib.Pow.{pow_pos}
use borrow.Author.Tests.{ne_eqb}
use Rattle.sale.proofs.CheckLaws.{small_quotient}
use Rattle.sale.proofs.check.types_fit.Goals as goal

pub returns-then-types-ne0 : goal.returns-then-types-ne0
returns-then-types-ne0 c =
    simp (ne_eqb _ _ c.if-types-ne0.true) (small_quotient c.args.types (2 ^ c.args.groups) (pow_pos c.args.groups))
