-- `settlement::primary::Primary::add_shares` meets its contract: each turn joins one ticket's share to what it is paid.
use Prim.Native.Nat.{◌<◌}
use mathlib.Core.Path.{◌≡◌, ap, ◌∙◌}
use native.Mathlib.Omega.{arith}
use lib.ListN.{length, take}
use Rattle.settlement.proofs.JoinedTables.{joined_to}
use Rattle.settlement.proofs.PrimaryLaws.{shares_given, share_fits, shared_none, shared_next, shared_more, shared_all}
use Rattle.settlement.proofs.primary.Primary.add_shares.Goals as goal

pub loop-i-init : goal.loop-i-init
loop-i-init c = shared_none c.args.self.now c.args.odd c.args.paid.now

pub overflow_add-paid : goal.overflow_add-paid
overflow_add-paid c =
    let primary = c.args.self.now in
    let turn = c.loop-i in
    let inside : turn.i < length primary.ways.now = omega (arith, c.requires.places) in
    record {
      fits = omega (
        arith,
        c.share_at.ensures,
        shared_next primary c.args.odd c.args.paid.now turn.paid turn.i (omega arith) turn.invariant,
        share_fits primary c.requires.won turn.i c.args.odd _ inside (c.requires.room turn.i inside),
      );
    }

pub loop-i-preserved : goal.loop-i-preserved
loop-i-preserved c =
    let primary = c.args.self.now in
    let turn = c.loop-i in
    shared_more primary c.args.odd c.args.paid.now turn.paid turn.i c.share_at.result (omega (arith, c.requires.places)) turn.invariant c.share_at.ensures

pub returns : goal.returns
returns c =
    let primary = c.args.self.now in
    let turn = c.loop-i in
    let done : turn.i ≡ length primary.ways.now = omega (arith, c.requires.places, turn.auto.i-end, c.loop-i-test.false) in
    shared_all primary c.args.odd c.args.paid.now turn.paid
    (turn.invariant ∙ ap (λ n. joined_to c.args.paid.now (take n (shares_given primary c.args.odd))) done)
    c.requires.places
