-- `ledger::run_roll` prints the text of the whole roll, is safe and ends. The loop's invariant: the house comes from a fresh one, and what is
-- printed so far and what is to be printed of the rest are that text. The measure is the unread part of the roll, which is shorter after each full book.
use Rattle.std.proofs.Common.{ℕ, List, ◌≡◌, ◌<◌, ◌++◌, length}
use Rattle.std.specs.Io.KnownBytes.{Appends}
use Rattle.house.specs.Balance.{Reached}
use Rattle.house.specs.View.{view}
use Rattle.ledger.specs.Sittings.{sittings_text, printed}
use Rattle.ledger.proofs.run_roll.Given as goal

abbrev pub invariant-loop-house : goal.invariant-loop-house
invariant-loop-house g l =
    Reached (view l.house l.rows l.marks)
    × (text : List ℕ)
    × (books : ℕ)
    × Appends (g.W.Write.contents l.fn.output) (g.W.Write.contents l.output) text
    × (length l.rest < books)
    × (text ++ sittings_text books (view l.house l.rows l.marks) l.rest l.book ≡ printed l.fn.roll)

abbrev pub decreases-loop-house : goal.decreases-loop-house
decreases-loop-house g l = length l.rest
