-- The lines of a book are printed 64 answers at a time.
use Rattle.std.proofs.Common.{◌≡◌, ◌*◌, ◌/◌, [], length, get_or, take, drop, arith, rules, sym, ap, ◌∙◌}
use Rattle.std.proofs.Output.{has_written_append, has_written_of_eq}
use Rattle.house.proofs.RowLists.{chunk_at}
use Rattle.text.specs.Lines.{book_lines}
use Rattle.text.proofs.LineLaws.{part_more, part_last}
use Rattle.text.proofs.records.BookLinesDisplay.fmt.Goals as goal

pub loop-part-init : goal.loop-part-init
unfolding book_lines
loop-part-init g c = λ plain. search rules

pub loop-part-preserved : goal.loop-part-preserved
loop-part-preserved g c = λ plain.
    let i = c.loop-part.part-index in
    let book = c.args.self.now.0.now in
    let part : get_or c.as_chunks.result.0.now i [] ≡ take 896 (drop (i * 896) book) =
    ap (λ parts. get_or parts i []) c.as_chunks.ensures.front ∙ chunk_at 896 (length book / 896) i book [] (omega arith) in
    has_written_of_eq _ _ _ _ _ (part_more i book)
    (has_written_append _ _ _ _ _ _ (c.loop-part.invariant plain) (has_written_of_eq _ _ _ _ _ (ap (book_lines 64) part) (search rules)))

pub returns-clause-writes : goal.returns-clause-writes
returns-clause-writes g c = λ plain ok.
    let turn = c.loop-part in
    let book = c.args.self.now.0.now in
    let rest = c.as_chunks.result.1.now in
    let parts : turn.part-index ≡ length book / 896 = omega arith in
    let last : rest ≡ drop (turn.part-index * 896) book = c.as_chunks.ensures.back ∙ ap (λ k. drop (k * 896) book) (sym parts) in
    has_written_of_eq _ _ _ _ _ (part_last turn.part-index book rest last (omega arith))
    (has_written_append _ _ _ _ _ _ (turn.invariant plain) (search rules))
