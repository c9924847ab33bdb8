-- `settlement::features::add_features` meets its contract: each turn joins one ticket's feature prize to what it is paid.
use Prim.Native.Nat.{ℕ}
use mathlib.Core.Path.{◌≡◌}
use mathlib.Core.List.{List, map}
use Rattle.sale.specs.Lists.{below}
use Rattle.house.specs.View.{ticket_in}
use Rattle.settlement.specs.Settling.{feature_at}
use Rattle.settlement.specs.declared.drawn_game.DrawnGame.{DrawnGame}
use Rattle.settlement.proofs.JoinedTables.{joined_to}
use Rattle.settlement.proofs.features.add_features.Given as goal

-- the feature prizes of the first tickets
abbrev pub feature : DrawnGame → ℕ → ℕ
feature g k = feature_at g.game g.draw (ticket_in g.rows.now g.marks.now k)

abbrev pub features : DrawnGame → ℕ → List ℕ
features g i = map (feature g) (below i)

abbrev pub invariant-loop-i : goal.invariant-loop-i
invariant-loop-i l = l.paid ≡ joined_to l.initial.paid (features l.game l.i)
