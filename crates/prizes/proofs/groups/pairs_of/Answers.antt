-- `pairs_of` meets its contract: the bytes of both words stand at their places.
use mathlib.Core.Path.{ap, ◌∙◌}
use mathlib.Core.List.{List, ◌∷◌}
use Prim.Native.Nat.{ℕ}
use Rattle.std.proofs.lemmas.List.{append-nil}
use Rattle.prizes.proofs.HitLaws.{pairs_more, pairs_all}
use Rattle.prizes.proofs.groups.pairs_of.Goals as goal

pub loop-k-preserved : goal.loop-k-preserved
loop-k-preserved c =
    let turn = c.loop-k in
    pairs_more c.args.sizes c.args.hits turn.pair-items turn.k c.to_le_bytes-size.ensures c.to_le_bytes-hit.ensures turn.auto.pair-items c.loop-k-test.true
    turn.invariant c.pair_of.ensures

pub returns : goal.returns
returns c =
    let turn = c.loop-k in
    ap (λ (l : List ℕ). 0 ∷ l) (append-nil turn.pair-items)
    ∙ pairs_all c.args.sizes c.args.hits turn.pair-items turn.k turn.auto.pair-items c.loop-k-test.false turn.invariant
