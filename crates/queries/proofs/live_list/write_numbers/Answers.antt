-- `queries::live_list::write_numbers` meets its contract: each turn writes one number more behind the others.
use Rattle.std.proofs.Common.{◌≡◌, ◌+◌, ◌*◌, ◌++◌, take, drop, ap, ◌∙◌, arith}
use Rattle.numbers.specs.Bytes.{bytes_of}
use Rattle.house.specs.declared.rows.Row.{Row}
use Rattle.queries.proofs.ListingLaws.{number_at, listed_to, listed_none, listed_more}
use Rattle.queries.proofs.live_list.write_numbers.Goals as goal

pub loop-i-init : goal.loop-i-init
loop-i-init c = listed_none (number_at c.args.rows.now) c.args.out.now

pub loop-i-preserved : goal.loop-i-preserved
loop-i-preserved c =
    let turn = c.loop-i in
    let number = number_at c.args.rows.now in
    c.write_number.ensures
    ∙ ap (λ (w : Row). take (turn.i * 4) turn.out ++ bytes_of 4 w.number ++ drop (turn.i * 4 + 4) turn.out) c.read_row-row.ensures
    ∙ ap (λ l. take (turn.i * 4) l ++ bytes_of 4 (number turn.i) ++ drop (turn.i * 4 + 4) l) turn.invariant
    ∙ listed_more number turn.i c.args.out.now

pub returns : goal.returns
unfolding listed_to
returns c =
    let turn = c.loop-i in
    let done : turn.i ≡ c.args.live = omega (arith, turn.auto.i-end, c.loop-i-test.false) in
    turn.invariant ∙ ap (λ n. listed_to (number_at c.args.rows.now) n c.args.out.now) done
