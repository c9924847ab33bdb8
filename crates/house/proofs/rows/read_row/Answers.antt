-- `house::rows::read_row` meets its contract: the chunk at the place has the row's words.
use mathlib.Core.Path.{◌∙◌}
use Rattle.house.proofs.RowLaws.{row_read}
use Rattle.house.proofs.rows.read_row.Goals as goal

pub returns : goal.returns
returns c = c.from.ensures ∙ row_read c.args.rows.now c.told-rows _ c.as_chunks.ensures.front c.args.i c.requires.within
