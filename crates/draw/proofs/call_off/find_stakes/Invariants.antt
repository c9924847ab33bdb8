-- `draw::call_off::find_stakes` meets its contract: each turn adds what one row paid, which is no more than a ticket can cost.
use Prim.Native.Nat.{◌*◌, ◌≤◌}
use mathlib.Core.Path.{◌≡◌}
use mathlib.Core.List.{map}
use lib.ListN.{length, take}
use Rattle.sale.specs.Lists.{below}
use Rattle.sale.specs.Price.{charge_limit}
use Rattle.settlement.specs.Sharing.{paid_at, paid_in}
use Rattle.draw.proofs.call_off.find_stakes.Given as goal

abbrev pub invariant-loop-i : goal.invariant-loop-i
invariant-loop-i l = record {
  places : length l.stakes ≡ 200;
  each : take l.i l.stakes ≡ map (paid_at l.rows l.house.game) (below l.i);
  total : l.total ≡ paid_in l.rows l.house.game l.i;
  within : l.total ≤ l.i * charge_limit;
}
