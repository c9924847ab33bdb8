-- `queries::till::held_of` meets its contract: what is held for each row fits, and so does the whole.
use Rattle.std.proofs.Common.{rules, arith, refl, sym, ap, ◌∙◌, ℕ, ◌<◌, ◌^◌, map}
use Rattle.std.specs.declared.ops.Range.{Range}
use Rattle.std.specs.List.{range_with_len, sum}
use Rattle.std.proofs.lemmas.Iterator.{YieldsList-from_map, YieldsList-from_range, serves_from_Range}
use Rattle.std.proofs.lemmas.Iterator.Consumers.{YieldsList-at, fits_from_yields_list, sum_from_yields_List}
use Rattle.house.specs.View.{row_at}
use Rattle.queries.proofs.TillLaws.{held_at, held_rows, held_small, held_fits, range_total, rows_few}
use Rattle.queries.proofs.till.held_of.Goals as goal

pub sum-requires-clause-can : goal.sum-requires-clause-can
sum-requires-clause-can c =
    let house = c.args.house.now in
    let rows = c.args.rows.now in (
      search rules,
      serves_from_Range (λ x q called. search rules) (λ x low high.
          let inside : x < house.live = omega (arith, ap (λ (r : Range ℕ). r.end) c.map.ensures.source) in
          search (rules, rows_few house rows c.requires, held_small house rows c.requires x inside (row_at rows x) refl)),
    )

pub sum-requires-clause-fits : goal.sum-requires-clause-fits
sum-requires-clause-fits c =
    let house = c.args.house.now in
    let rows = c.args.rows.now in
    let held = held_at house.game rows in
    let fits : sum (map held (range_with_len 0 house.live)) < 2 ^ 64 = omega (arith, range_total held house.live, held_fits house rows c.requires house.live (omega arith)) in
    fits_from_yields_list c.map.result (2 ^ 64)
    (YieldsList-from_map _ held (YieldsList-at c.map.ensures.source (YieldsList-from_range 0 house.live house.live refl (omega arith))) c.map.ensures.closure (λ x r q k. search rules))
    fits

pub returns : goal.returns
returns c = λ marks.
    let house = c.args.house.now in
    let rows = c.args.rows.now in
    let held = held_at house.game rows in
    sum_from_yields_List c.map.result c.sum.result c.sum.ensures.ran
    (YieldsList-from_map _ held (YieldsList-at c.map.ensures.source (YieldsList-from_range 0 house.live house.live refl (omega arith))) c.map.ensures.closure (λ x r q k. search rules))
    ∙ range_total held house.live
    ∙ sym (held_rows house rows marks)
