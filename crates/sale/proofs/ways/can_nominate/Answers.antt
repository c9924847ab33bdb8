-- `sale::ways::can_nominate` meets its contract: the doubled byte, moved down by the ones of the mask, has a digit among those that are asked.
use mathlib.Core.Path.{ap}
use mathlib.Core.Bool.{not}
use Prim.Native.Nat.{◌*◌, ◌/◌, ◌%◌, ◌^◌}
use native.Mathlib.Omega.{arith}
use lib.Dec.{eqb}
use lib.Count.{ones, ones-le}
use Rattle.sale.specs.Passes.{nominable}
use Rattle.sale.proofs.WayLaws.{mask_lt}
use Rattle.sale.proofs.WalkLaws.{span}
use Rattle.sale.proofs.ways.can_nominate.Goals as goal

pub overflow_shr-counts : goal.overflow_shr-counts
overflow_shr-counts c = omega (arith, ones-le 8 _ (mask_lt c.requires))

pub returns : goal.returns
unfolding nominable
returns c = ap (λ n. not (eqb (c.args.types * 2 / 2 ^ ones c.args.mask % n) 0)) (span c.args.left c.requires.groups)
