-- What is printed of a book of at most 64 answers is its lines, which are put into a buffer first.
use Rattle.std.proofs.Common.{subst, sym, ◌∙◌, arith}
use Rattle.std.proofs.Output.{has_written_of_eq}
use lib.Seq.{length-take-le}
use Rattle.std.specs.Str.{IsAscii}
use Rattle.text.proofs.PlaceLaws.{wrote_within, written}
use Rattle.text.proofs.records.print_book.Goals as goal

pub slice_bounds-lines-end : goal.slice_bounds-lines-end
slice_bounds-lines-end g c = wrote_within (omega arith) c.put_book-size.ensures.wrote

pub slice_bounds-as_text-end : goal.slice_bounds-as_text-end
slice_bounds-as_text-end g c =
    let size = c.put_book-size in
    sym (length-take-le size.result size.new.out (wrote_within (omega arith) size.ensures.wrote))

pub as_text-requires : goal.as_text-requires
as_text-requires g c = subst IsAscii (sym (written c.put_book-size.ensures.wrote)) c.put_book-size.ensures.ascii

pub returns : goal.returns
returns g c = λ plain ok.
    has_written_of_eq _ _ _ _ _ (c.as_text.ensures ∙ written c.put_book-size.ensures.wrote) (c.write_str.ensures.writes plain ok)
