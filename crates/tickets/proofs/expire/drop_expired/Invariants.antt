-- `tickets::expire::drop_expired`: the tickets passed so far are those that stay, and the rest are as they were.
use Rattle.house.specs.Commands.{is_expired}
use Rattle.house.specs.View.{tickets_of, view}
use Rattle.tickets.proofs.ExpireLaws.{Passed}
use Rattle.tickets.proofs.expire.drop_expired.Given as goal

abbrev pub invariant-loop-i : goal.invariant-loop-i
invariant-loop-i l =
    let start = l.fn in
    Passed (is_expired (view start.house start.rows start.marks)) (tickets_of start.rows start.marks) (tickets_of l.rows l.marks) l.i l.left l.cents
