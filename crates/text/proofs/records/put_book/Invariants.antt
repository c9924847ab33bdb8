-- `text::records::put_book` meets its contract. The loop's invariant: the lines of the records passed stand at the buffer's start, and take at
-- most 40 bytes each, all of them ASCII.
use Prim.Native.Nat.{◌*◌, ◌≤◌}
use mathlib.Core.Path.{◌≡◌}
use lib.ListN.{length}
use Rattle.std.specs.Str.{IsAscii}
use Rattle.text.specs.Lines.{Wrote, book_lines}
use Rattle.text.proofs.records.put_book.Given as goal

abbrev pub invariant-loop-i : goal.invariant-loop-i
invariant-loop-i l =
    Wrote l.initial.out 0 (book_lines l.i l.book) l.out l.at × (l.at ≤ l.i * 40) × (length l.out ≡ length l.initial.out) × IsAscii (book_lines l.i l.book)
