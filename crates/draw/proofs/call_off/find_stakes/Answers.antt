-- `draw::call_off::find_stakes` meets its contract: each turn adds what one row paid, which is no more than a ticket can cost.
use Prim.Native.Nat.{◌≤◌, ◌<◌}
use mathlib.Core.Path.{◌≡◌, refl, sym, ap, ap₂, ◌∙◌, subst}
use mathlib.Core.List.{◌∷◌, [], ◌++◌, map}
use native.Mathlib.Numerals.{add-one}
use native.Mathlib.Omega.{arith}
use lib.ListN.{length, set, take, length-set}
use lib.Seq.{take-suc-set}
use Rattle.sale.specs.Lists.{below}
use Rattle.sale.specs.Price.{charge_limit}
use Rattle.settlement.specs.Sharing.{paid_at, paid_in}
use Rattle.settlement.proofs.SharingLaws.{paid_of_row, paid_none, paid_more, paid_at_within}
use Rattle.settlement.proofs.TablePlaces.{table_more}
use Rattle.draw.proofs.call_off.find_stakes.Goals as goal

pub loop-i-init : goal.loop-i-init
unfolding below
loop-i-init c =
    record {
      places = c.told-stakes;
      each = refl;
      total = sym (paid_none c.args.rows.now c.args.house.now.game);
      within = omega arith;
    }

-- what the row at the turn's place paid, and that it is no more than a ticket can cost
own : (c : goal.After-way_told-1) → c.paid_for-paid.result ≡ paid_at c.args.rows.now c.args.house.now.game c.loop-i.i
own c = paid_of_row c.args.rows.now c.args.house.now.game c.loop-i.i c.read_row.result c.read_row.ensures c.paid_for-paid.result c.paid_for-paid.ensures

most : (c : goal.After-way_told-1) → c.paid_for-paid.result ≤ charge_limit
most c = omega (arith, own c, paid_at_within c.args.rows.now c.args.house.now.game c.loop-i.i (c.requires.within c.loop-i.i c.loop-i-test.true))

pub overflow_add-total : goal.overflow_add-total
overflow_add-total c = record { fits = omega (arith, most c, c.loop-i.invariant.within, c.requires.few, c.loop-i-test.true) }

pub loop-i-preserved : goal.loop-i-preserved
loop-i-preserved c =
    let rows = c.args.rows.now in
    let game = c.args.house.now.game in
    let turn = c.loop-i in
    let inside : turn.i < length turn.stakes = omega (arith, turn.invariant.places, c.requires.few, c.loop-i-test.true) in
    record {
      places = length-set turn.stakes turn.i c.paid_for-paid.result ∙ turn.invariant.places;
      each =
          ap (λ n. take n (set turn.stakes turn.i c.paid_for-paid.result)) (add-one turn.i)
          ∙ take-suc-set turn.stakes turn.i c.paid_for-paid.result inside
          ∙ ap₂ (λ paid cents. paid ++ (cents ∷ [])) turn.invariant.each (own c)
          ∙ sym (table_more (paid_at rows game) turn.i);
      total = omega (arith, turn.invariant.total, own c, paid_more rows game turn.i);
      within = omega (arith, turn.invariant.within, most c);
    }

-- the turns have gone through all live rows
done : (c : goal.After-loop-i) → c.loop-i.i ≡ c.args.house.now.live
done c = omega (arith, c.loop-i.auto.i-end, c.loop-i-test.false)

pub returns-clause-each : goal.returns-clause-each
returns-clause-each c =
    subst (λ n. take n c.loop-i.stakes ≡ map (paid_at c.args.rows.now c.args.house.now.game) (below n)) (done c) c.loop-i.invariant.each

pub returns-clause-total : goal.returns-clause-total
returns-clause-total c = c.loop-i.invariant.total ∙ ap (paid_in c.args.rows.now c.args.house.now.game) (done c)
