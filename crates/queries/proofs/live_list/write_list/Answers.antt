-- `queries::live_list::write_list` meets its contract: the numbers of the live rows are the live tickets', and they rise.
use native.Mathlib.Omega.{arith}
use Rattle.queries.proofs.TillLaws.{rows_few}
use Rattle.queries.proofs.ListingLaws.{number_small, listing_refused, listing_written}
use Rattle.queries.proofs.live_list.write_list.Goals as goal

pub overflow_mul-live : goal.overflow_mul-live
overflow_mul-live c = omega (arith, rows_few c.args.house.now c.args.rows.now c.requires)

pub returns-then-out-live : goal.returns-then-out-live
returns-then-out-live c = λ marks.
    let args = c.args in
    listing_refused args.house.now args.rows.now c.requires marks args.out.now c.if-out-live.true

pub write_numbers-requires : goal.write_numbers-requires
write_numbers-requires c =
    (rows_few c.args.house.now c.args.rows.now c.requires, omega arith, number_small c.args.house.now c.args.rows.now c.requires)

pub overflow_cast-result : goal.overflow_cast-result
overflow_cast-result c = omega (arith, rows_few c.args.house.now c.args.rows.now c.requires)

pub returns : goal.returns
returns c = λ marks.
    let args = c.args in
    listing_written args.house.now args.rows.now c.requires marks args.out.now (omega arith)
    c.write_numbers.new.out c.write_numbers.ensures
