-- `queries::till::till_of` meets its contract: the counters are the view's, and the sums over tickets and pools are those of the till.
use Rattle.std.proofs.Common.{arith}
use Rattle.queries.proofs.TillLaws.{pooled_fits, shown_till_lem}
use Rattle.queries.proofs.till.till_of.Goals as goal

pub pooled_in-requires : goal.pooled_in-requires
pooled_in-requires c = omega (arith, pooled_fits c.args.house c.args.rows.now c.requires)

pub pooled_in-requires-2 : goal.pooled_in-requires-2
pooled_in-requires-2 c = omega (arith, pooled_fits c.args.house c.args.rows.now c.requires)

pub overflow_add-result : goal.overflow_add-result
overflow_add-result c = omega (arith, pooled_fits c.args.house c.args.rows.now c.requires)

pub returns : goal.returns
returns c = λ marks.
    let args = c.args in
    shown_till_lem args.house args.rows.now marks
    c.owed_of.result c.held_of.result _ _
    (c.owed_of.ensures marks) (c.held_of.ensures marks) (omega arith) (omega arith)
