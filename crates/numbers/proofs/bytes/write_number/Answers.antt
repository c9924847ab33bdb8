-- The last bytes of std's eight are the bytes of the number.
use Rattle.std.proofs.Common.{◌-◌, take, drop, ◌∙◌, ap}
use Rattle.numbers.proofs.ByteLaws.{number_written}
use Rattle.numbers.proofs.bytes.write_number.Goals as goal

pub returns : goal.returns
returns g c =
    number_written c.args.buffer.now _ c.args.at g.row.N c.args.number c.requires.few
    (c.copy_from_slice.ensures.after ∙ ap (λ bytes. take (8 - (8 - g.row.N)) (drop (8 - g.row.N) bytes)) c.to_be_bytes-bytes.ensures)
