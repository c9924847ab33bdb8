-- `settlement::primary::Primary::odd_cents` meets its contract: each row adds its rounded shares, which are together within what there is.
use Prim.Native.Nat.{◌-◌, ◌^◌}
use mathlib.Core.Path.{ap, ◌∙◌}
use native.Mathlib.Omega.{arith}
use lib.ListN.{length}
use Rattle.std.proofs.Common.{rules}
use Rattle.std.proofs.lemmas.Iterator.{YieldsList-from_range, YieldsList-from_map}
use Rattle.std.proofs.lemmas.Iterator.Consumers.{sum_from_yields_List, fits_from_yields_list}
use Rattle.prizes.specs.Jackpots.{odd_cents}
use Rattle.settlement.proofs.PrimaryLaws.{share_rounded, rounded_together, rounded_within}
use Rattle.settlement.proofs.primary.Primary.odd_cents.Goals as goal

pub sum-shared-requires-clause-fits : goal.sum-shared-requires-clause-fits
sum-shared-requires-clause-fits c =
    let primary = c.args.self.now in
    fits_from_yields_list c.map.result (2 ^ 64)
    (YieldsList-from_map _ (share_rounded primary)
    (YieldsList-from_range 0 (length primary.ways.now) (length primary.ways.now) (search rules) (omega arith))
    c.map.ensures.closure (λ x r q k. search rules)) (omega (arith, rounded_within primary c.requires.won, primary.shared.pool))

pub overflow_sub-result : goal.overflow_sub-result
overflow_sub-result c =
    let primary = c.args.self.now in
    let total = sum_from_yields_List c.map.result _ c.sum-shared.ensures.ran
    (YieldsList-from_map _ (share_rounded primary)
    (YieldsList-from_range 0 (length primary.ways.now) (length primary.ways.now) (search rules) (omega arith))
    c.map.ensures.closure (λ x r q k. search rules)) in
    omega (arith, total, rounded_within primary c.requires.won)

pub returns : goal.returns
unfolding odd_cents
returns c =
    let primary = c.args.self.now in
    let total = sum_from_yields_List c.map.result _ c.sum-shared.ensures.ran
    (YieldsList-from_map _ (share_rounded primary)
    (YieldsList-from_range 0 (length primary.ways.now) (length primary.ways.now) (search rules) (omega arith))
    c.map.ensures.closure (λ x r q k. search rules)) in
    ap (λ n. primary.cents - n) (total ∙ rounded_together primary c.requires.won)
