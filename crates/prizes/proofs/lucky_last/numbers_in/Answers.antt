-- `numbers_in` meets its contract: std's bytes of the word are those that the sizes were put into.
use mathlib.Core.Path.{sym, ap, ◌∙◌}
use Rattle.std.proofs.Common.{rules}
use Rattle.std.specs.Prelude.{sum as total}
use Rattle.std.proofs.lemmas.Iterator.{YieldsList-from_slice, YieldsList-from_map}
use Rattle.std.proofs.lemmas.Iterator.Consumers.{sum_by_from_yields_List}
use Rattle.prizes.proofs.HitLaws.{word_bytes_std}
use Rattle.prizes.proofs.MajorLaws.{sum_std}
use Rattle.prizes.proofs.lucky_last.numbers_in.Goals as goal

pub returns : goal.returns
returns c =
    sum_by_from_yields_List (λ n. n) c.to_le_bytes.result _ _ c.sum.ensures.ran
    (YieldsList-from_map _ _ (YieldsList-from_slice c.to_le_bytes.result cc) c.map.ensures.closure (λ x r q k. search rules))
    ∙ ap total (c.to_le_bytes.ensures ∙ word_bytes_std c.args.word)
    ∙ sym (sum_std _)
