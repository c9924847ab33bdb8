-- `settlement::primary::Primary::ways_ahead` meets its contract: each row adds its winning ways where they rank before, and no row has more than 255.
use Prim.Native.Nat.{◌^◌}
use mathlib.Core.Path.{◌∙◌}
use native.Mathlib.Omega.{arith}
use lib.ListN.{length}
use Rattle.std.proofs.Common.{rules}
use Rattle.std.proofs.lemmas.Iterator.{YieldsList-from_range, YieldsList-from_map}
use Rattle.std.proofs.lemmas.Iterator.Consumers.{sum_from_yields_List, fits_from_yields_list}
use Rattle.settlement.proofs.PrimaryLaws.{ahead_at, ahead_together, ahead_fits}
use Rattle.settlement.proofs.primary.Primary.ways_ahead.Goals as goal

pub sum-requires-clause-fits : goal.sum-requires-clause-fits
sum-requires-clause-fits c =
    let primary = c.args.self.now in
    fits_from_yields_list c.map.result (2 ^ 64)
    (YieldsList-from_map _ (ahead_at primary c.args.place c.args.stake)
    (YieldsList-from_range 0 (length primary.ways.now) (length primary.ways.now) (search rules) (omega arith))
    c.map.ensures.closure (λ x r q k. search rules)) (omega (arith, ahead_together primary c.args.place c.args.stake, ahead_fits primary c.args.place c.args.stake))

pub returns : goal.returns
returns c =
    let primary = c.args.self.now in
    sum_from_yields_List c.map.result _ c.sum.ensures.ran
    (YieldsList-from_map _ (ahead_at primary c.args.place c.args.stake)
    (YieldsList-from_range 0 (length primary.ways.now) (length primary.ways.now) (search rules) (omega arith))
    c.map.ensures.closure (λ x r q k. search rules))
    ∙ ahead_together primary c.args.place c.args.stake
