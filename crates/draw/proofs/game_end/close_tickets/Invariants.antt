-- `draw::game_end::close_tickets` meets its contract: the first places hold those that stay of the tickets passed, and the rest are untouched.
use Prim.Native.Nat.{◌≤◌}
use mathlib.Core.Path.{◌≡◌}
use lib.ListN.{take, drop}
use Rattle.house.specs.View.{tickets_of}
use Rattle.draw.proofs.ClosingLaws.{closed_up}
use Rattle.draw.proofs.game_end.close_tickets.Given as goal

abbrev pub invariant-loop-i : goal.invariant-loop-i
invariant-loop-i l =
    record {
      behind : l.left ≤ l.i;
      stay : take l.left (tickets_of l.rows l.marks) ≡ closed_up l.day l.game l.initial.rows l.initial.marks l.awards l.i;
      rest : drop l.i (tickets_of l.rows l.marks) ≡ drop l.i (tickets_of l.initial.rows l.initial.marks);
    }
