-- `majors::last_round` meets its contract: each turn is a round of the rule, on a state that the rule comes to, and floors more or is the
-- last. The measure is the number of prizes that are not floored.
use mathlib.Core.List.{List}
use mathlib.Core.Path.{◌≡◌, sym, ap, subst, ◌∙◌}
use Prim.Native.Nat.{ℕ, ◌<◌}
use native.Mathlib.Omega.{arith}
use Rattle.prizes.specs.Cut.{majors_limit}
use Rattle.prizes.specs.Bounds.{Cuttable}
use Rattle.prizes.specs.Rounds.{next_below, cut_below}
use Rattle.prizes.specs.declared.cut.Cut.{Cut}
use Rattle.prizes.proofs.MajorLaws.{Follows, first_follows, round_follows, round_grows, last_pays, rest_small, total_small}
use Rattle.prizes.proofs.majors.last_round.Goals as goal

pub loop-cut-init : goal.loop-cut-init
loop-cut-init c l =
    let args = c.args in
    subst (λ (x : Cut). Follows args.prizes.now l x × Cuttable x) (sym c.first-cut.ensures) (
      first_follows args.prizes.now l args.total c.requires.1.total,
      record { small = omega (arith, c.requires.1.total, total_small args.prizes.now l) },
    )

pub next_below-requires : goal.next_below-requires
next_below-requires c = (c.loop-cut.invariant c.requires.0).1

pub cut_below-next-requires : goal.cut_below-next-requires
cut_below-next-requires c = c.requires.0

-- what was found is the next round's state
round : (ps : List ℕ) (cut next : Cut) {bound : ℕ} → next ≡ cut_below bound ps → bound ≡ next_below cut → next ≡ cut_below (next_below cut) ps
round ps cut next e b = e ∙ ap (λ n. cut_below n ps) b

pub returns-then-next-cut : goal.returns-then-next-cut
returns-then-next-cut c =
    let turn = c.loop-cut in
    let args = c.args in
    let same = round args.prizes.now turn.cut c.cut_below-next.result c.cut_below-next.ensures c.next_below.ensures in
    last_pays args.prizes.now c.requires.0 turn.cut (turn.invariant c.requires.0).0 c.cut_below-next.result same
    (subst (λ n. majors_limit < n) c.requires.1.total c.requires.1.past) c.if-next-cut.true

pub loop-cut-smaller : goal.loop-cut-smaller
loop-cut-smaller c =
    let turn = c.loop-cut in
    let args = c.args in
    let same = round args.prizes.now turn.cut c.cut_below-next.result c.cut_below-next.ensures c.next_below.ensures in
    let grows = round_grows args.prizes.now c.requires.0 turn.cut (turn.invariant c.requires.0).0 c.cut_below-next.result same c.if-next-cut.false in
    omega (arith, grows.0, grows.1)

pub loop-cut-preserved : goal.loop-cut-preserved
loop-cut-preserved c l =
    let turn = c.loop-cut in
    let args = c.args in
    let same = round args.prizes.now turn.cut c.cut_below-next.result c.cut_below-next.ensures c.next_below.ensures in (
      round_follows args.prizes.now l turn.cut (turn.invariant l).0 c.cut_below-next.result same,
      subst Cuttable (sym same)
          (record { small = omega (arith, rest_small args.prizes.now l (next_below turn.cut)) }),
    )
