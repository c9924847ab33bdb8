-- `settlement::features::add_features` meets its contract: each turn joins one ticket's feature prize to what it is paid.
use Prim.Native.Nat.{ℕ, ◌+◌, ◌<◌}
use mathlib.Core.Path.{◌≡◌, sym, ap, ◌∙◌}
use mathlib.Core.List.{[], ◌∷◌, ◌++◌, map-map, zip_with}
use native.Mathlib.Omega.{arith}
use lib.ListN.{length}
use Rattle.sale.specs.Lists.{below}
use Rattle.house.specs.View.{ticket_in}
use Rattle.house.proofs.RowLists.{length_table}
use Rattle.settlement.specs.Settling.{feature_at}
use Rattle.settlement.specs.declared.drawn_game.DrawnGame.{DrawnGame}
use Rattle.settlement.proofs.TablePlaces.{table_more}
use Rattle.settlement.proofs.JoinedTables.{joined_to, joined_none, joined_place, joined_step, joined_whole}
use Rattle.settlement.proofs.FeatureLaws.{feature_at_within}
use Rattle.settlement.proofs.features.add_features.Invariants.{feature, features}
use Rattle.settlement.proofs.features.add_features.Goals as goal

pub loop-i-init : goal.loop-i-init
unfolding below
loop-i-init c = sym (joined_none c.args.paid.now)

length_features : (g : DrawnGame) (i : ℕ) → length (features g i) ≡ i
length_features g i = length_table (feature g) i

pub loop-i-preserved : goal.loop-i-preserved
loop-i-preserved c =
    let paid = c.args.paid.now in
    let game = c.args.game.now in
    let turn = c.loop-i in
    joined_step paid (features game turn.i) turn.invariant (length_features game turn.i) c.feature_at.result
    ∙ ap (λ cents. joined_to paid (features game turn.i ++ (cents ∷ []))) c.feature_at.ensures
    ∙ ap (joined_to paid) (sym (table_more (feature game) turn.i))

-- the place still holds what it did, which leaves room for a feature prize
pub overflow_add-paid : goal.overflow_add-paid
overflow_add-paid c =
    let paid = c.args.paid.now in
    let game = c.args.game.now in
    let turn = c.loop-i in
    let inside : turn.i < game.live = omega (arith, c.requires.places) in
    record {
      fits = omega (
        arith,
        c.feature_at.ensures,
        feature_at_within game.game game.draw (ticket_in game.rows.now game.marks.now turn.i) (game.sold.each turn.i inside).playable,
        joined_place paid (features game turn.i) turn.invariant (length_features game turn.i),
        c.requires.room turn.i inside,
      );
    }

pub returns : goal.returns
returns c =
    let paid = c.args.paid.now in
    let game = c.args.game.now in
    let done : c.loop-i.i ≡ game.live = omega (arith, c.requires.places, c.loop-i.auto.i-end, c.loop-i-test.false) in
    joined_whole paid (features game game.live) (c.loop-i.invariant ∙ ap (λ n. joined_to paid (features game n)) done) (length_features game game.live) c.requires.places
    ∙ ap (zip_with ◌+◌ paid) (sym (map-map (feature_at game.game game.draw) (ticket_in game.rows.now game.marks.now) (below game.live)))
