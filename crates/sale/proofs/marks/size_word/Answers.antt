-- std's number of eight bytes, the lowest first, is the word of them.
use mathlib.Core.Path.{◌∙◌}
use borrow.Author.Rules.{rules}
use Rattle.sale.proofs.MarkLaws.{word_of_eight}
use Rattle.sale.proofs.marks.size_word.Goals as goal

pub returns : goal.returns
returns c = c.from_le_bytes.ensures ∙ word_of_eight c.args.sizes (search rules)
