-- `settlement::primary::Primary::add_shares` meets its contract: each turn joins one ticket's share to what it is paid.
use mathlib.Core.Path.{◌≡◌}
use lib.ListN.{take}
use Rattle.settlement.proofs.JoinedTables.{joined_to}
use Rattle.settlement.proofs.PrimaryLaws.{shares_given}
use Rattle.settlement.proofs.primary.Primary.add_shares.Given as goal

abbrev pub invariant-loop-i : goal.invariant-loop-i
invariant-loop-i l = l.paid ≡ joined_to l.initial.paid (take l.i (shares_given l.self l.odd))
