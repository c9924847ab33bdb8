-- The lines of a book are printed 64 answers at a time: after some parts, theirs are written.
use Rattle.std.proofs.Common.{◌*◌}
use Rattle.std.specs.Fmt.{HasWritten, IsPlainFormatter}
use Rattle.text.specs.Lines.{book_lines}
use Rattle.text.proofs.records.BookLinesDisplay.fmt.Given as goal

abbrev pub invariant-loop-part : goal.invariant-loop-part
invariant-loop-part g l =
    IsPlainFormatter l.initial.f → HasWritten g.W.Write.write_str_gives l.initial.f (book_lines (l.part-index * 64) l.initial.self.0.now) l.f
