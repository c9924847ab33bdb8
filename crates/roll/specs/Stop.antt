-- "Stop 0: end of roll." The other stops: "1 unknown byte; 2 too few bytes left; 3 under 14 bytes free in the book".
use Rattle.std.specs.Prelude.{ℕ}
use Rattle.roll.specs.declared.stop.Stop.{Stop}
use Rattle.roll.specs.declared.stop.Stop.TheVariants.{RollEnded, UnknownByte, ShortCommand, BookFull}

abbrev pub stop_number : Stop → ℕ
stop_number RollEnded = 0
stop_number UnknownByte = 1
stop_number ShortCommand = 2
stop_number BookFull = 3
