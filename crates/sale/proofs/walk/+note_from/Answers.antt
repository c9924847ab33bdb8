-- `sale::walk::note_from`, which calls itself, meets its contract: its two calls note one after the other the ways that leave the next group and
-- those that take it, and it calls none where there is no such way. The measure is the number of groups left.
use Prim.Native.Nat.{◌+◌, ◌*◌, ◌-◌}
use mathlib.Core.Path.{sym, ◌∙◌, subst}
use mathlib.Core.List.{map}
use native.Mathlib.Omega.{arith}
use native.Mathlib.Nat.{pos_of_ne-zero}
use lib.ListN.{length, drop, length-map}
use Rattle.sale.specs.Ways.{mask_sum}
use Rattle.sale.specs.Passes.{ways_from, figures_from}
use Rattle.sale.specs.Noting.{AllNoted}
use Rattle.sale.proofs.WayLaws.{place_end, place_with, place_without, carried_with, carried_without}
use Rattle.sale.proofs.WalkLaws.{none_here}
use Rattle.sale.proofs.NotedLaws.{none_noted, both_noted, room_others, own, parts, count_own, count_parts}
use Rattle.sale.proofs.walk.+note_from.Goals as goal

pub note_mask-requires : goal.note_mask-requires
note_mask-requires g t c =
    let a = c.args in
    let walk = a.walk.now in (
      place_end c.if-left-eq0.true c.requires.0,
      subst (λ n. g.N.Noting.room a.noting.now n) (count_own walk.types walk.figures a.mask c.if-left-eq0.true c.requires.1) c.requires.2,
    )

pub returns-then-left-eq0 : goal.returns-then-left-eq0
returns-then-left-eq0 g t c =
    let a = c.args in
    let walk = a.walk.now in
    rw (own walk.types walk.figures a.mask c.if-left-eq0.true c.requires.1) c.note_mask.ensures

pub returns-then-ends_here : goal.returns-then-ends_here
returns-then-ends_here g t c =
    let a = c.args in
    let walk = a.walk.now in
    subst (λ l. AllNoted g.N.Noting.notes (map (λ m. mask_sum m (drop 1 walk.figures)) l) a.noting.now a.noting.now)
    (sym (none_here walk.types a.left a.mask (sym c.ends_here.ensures ∙ c.if-ends_here.true)))
    (none_noted g.N.Noting.notes a.noting.now)

pub note_from-requires : goal.note_from-requires
note_from-requires g t c κs within =
    let a = c.args in
    let walk = a.walk.now in
    let some = c.if-left-eq0.false in
    let count = count_parts walk.types walk.figures a.mask some in
    let length_first = length-map (ways_from walk.types (a.left - 1) (a.mask * 2)) (λ m. mask_sum m (drop 1 walk.figures)) in (
      omega (arith, pos_of_ne-zero some, c.decreases),
      (
        within,
        (
          place_without some c.requires.0,
          carried_without some c.requires.0.groups c.requires.1,
          g.met.N.Noting.laws.fewer a.noting.now _ _ (omega (arith, count, length_first)) c.requires.2,
        ),
      ),
    )

pub note_from-requires-2 : goal.note_from-requires-2
note_from-requires-2 g t c κs within =
    let a = c.args in
    let walk = a.walk.now in
    let some = c.if-left-eq0.false in (
      omega (arith, pos_of_ne-zero some, c.decreases),
      (
        within,
        (
          place_with some c.requires.0,
          carried_with some c.requires.0.groups walk.small c.requires.1,
          room_others g.N.Noting.notes g.met.N.Noting.laws (figures_from walk.types walk.figures (a.left - 1) (a.mask * 2)) (length (ways_from walk.types (a.left - 1) (a.mask * 2 + 1)))
              a.noting.now c.note_from.new.noting c.note_from.ensures
              (subst (λ n. g.N.Noting.room a.noting.now n) (count_parts walk.types walk.figures a.mask some) c.requires.2),
        ),
      ),
    )

pub returns : goal.returns
returns g t c =
    let a = c.args in
    let walk = a.walk.now in
    rw (parts walk.types walk.figures a.mask c.if-left-eq0.false)
    (both_noted g.N.Noting.notes (figures_from walk.types walk.figures (a.left - 1) (a.mask * 2))
    (figures_from walk.types walk.figures (a.left - 1) (a.mask * 2 + 1)) a.noting.now c.note_from.new.noting
    c.note_from-2.new.noting c.note_from.ensures c.note_from-2.ensures)
