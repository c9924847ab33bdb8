-- `queries::live_list::write_numbers` meets its contract: each turn writes one number more behind the others.
use mathlib.Core.Path.{◌≡◌}
use Rattle.queries.proofs.ListingLaws.{number_at, listed_to}
use Rattle.queries.proofs.live_list.write_numbers.Given as goal

abbrev pub invariant-loop-i : goal.invariant-loop-i
invariant-loop-i l = l.out ≡ listed_to (number_at l.rows) l.i l.initial.out
