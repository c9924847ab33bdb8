-- `text::decimal::put_byte` meets its contract: one store puts one byte at its place.
use Rattle.text.proofs.PlaceLaws.{wrote_one}
use Rattle.text.proofs.decimal.put_byte.Goals as goal

pub returns : goal.returns
returns c = wrote_one c.args.out.now c.args.at c.args.byte c.requires
