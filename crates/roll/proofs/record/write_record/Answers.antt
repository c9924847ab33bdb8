-- `roll::record::write_record` meets its contract: a number of eight bytes, one of four, and two bytes, each in its place, are the record.
use mathlib.Core.Path.{ap, ◌∙◌}
use mathlib.Core.List.{◌++◌}
use lib.ListN.{take, drop}
use Rattle.numbers.specs.Bytes.{bytes_of}
use Rattle.roll.proofs.RecordLaws.{record_written}
use Rattle.roll.proofs.record.write_record.Goals as goal

pub returns : goal.returns
returns c =
    let args = c.args in
    let after = c.write_number.new.buffer in
    record_written args.book.now args.byte args.answer after c.write_number-2.new.buffer
    c.requires c.write_number.ensures
    (c.write_number-2.ensures ∙ ap (λ n. take 2 after ++ bytes_of 4 n ++ drop 6 after) c.from.ensures)
