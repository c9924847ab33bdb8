-- `queries::till::owed_of` meets its contract: the whole of what is due fits.
use Rattle.std.proofs.Common.{rules, arith, refl, sym, ◌∙◌, ◌<◌, ◌^◌, map}
use Rattle.std.specs.List.{range_with_len, sum}
use Rattle.std.proofs.lemmas.Iterator.{YieldsList-from_map, YieldsList-from_range, serves_from_Range}
use Rattle.std.proofs.lemmas.Iterator.Consumers.{YieldsList-at, fits_from_yields_list, sum_from_yields_List}
use Rattle.queries.proofs.TillLaws.{due_at, owed_rows, owed_fits, range_total, rows_few}
use Rattle.queries.proofs.till.owed_of.Goals as goal

pub sum-requires-clause-can : goal.sum-requires-clause-can
sum-requires-clause-can c =
    (search rules, serves_from_Range (λ x q called. search rules) (λ x low high. search (rules, rows_few c.args.house.now c.args.rows.now c.requires)))

pub sum-requires-clause-fits : goal.sum-requires-clause-fits
sum-requires-clause-fits c =
    let live = c.args.house.now.live in
    let due = due_at c.args.rows.now in
    let fits : sum (map due (range_with_len 0 live)) < 2 ^ 64 = omega (arith, range_total due live, owed_fits c.args.house.now c.args.rows.now c.requires live (omega arith)) in
    fits_from_yields_list c.map.result (2 ^ 64)
    (YieldsList-from_map _ due (YieldsList-at c.map.ensures.source (YieldsList-from_range 0 live live refl (omega arith))) c.map.ensures.closure (λ x r q k. search rules))
    fits

pub returns : goal.returns
returns c = λ marks.
    let live = c.args.house.now.live in
    let due = due_at c.args.rows.now in
    sum_from_yields_List c.map.result c.sum.result c.sum.ensures.ran
    (YieldsList-from_map _ due (YieldsList-at c.map.ensures.source (YieldsList-from_range 0 live live refl (omega arith))) c.map.ensures.closure (λ x r q k. search rules))
    ∙ range_total due live
    ∙ sym (owed_rows c.args.house.now c.args.rows.now marks)
