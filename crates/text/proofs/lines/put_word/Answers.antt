-- `text::lines::put_word` meets its contract: five bytes, one behind another.
use native.Mathlib.Omega.{arith}
use Rattle.text.proofs.PlaceLaws.{wrote_more}
use Rattle.text.proofs.lines.put_word.Goals as goal

pub returns : goal.returns
returns c =
    wrote_more (omega arith) c.put_byte-second.ensures
    (wrote_more (omega arith) c.put_byte-third.ensures
    (wrote_more (omega arith) c.put_byte-fourth.ensures (wrote_more (omega arith) c.put_byte-fifth.ensures c.put_byte.ensures)))
