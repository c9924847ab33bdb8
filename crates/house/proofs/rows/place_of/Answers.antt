-- `house::rows::place_of` meets its contract: each chunk is a row, its first word is the ticket's number, and the numbers of the live ones rise.
use mathlib.Core.Path.{sym}
use borrow.Author.Rules.{rules}
use lib.ListN.{get_or}
use Rattle.std.proofs.lemmas.List.Sorted.{answers_always}
use Rattle.house.proofs.RowLaws.{rows_live, place_found, place_missed}
use Rattle.house.proofs.rows.place_of.Goals as goal

pub slice_bounds-binary_search_by_key-end : goal.slice_bounds-binary_search_by_key-end
slice_bounds-binary_search_by_key-end c =
    let args = c.args in
    sym (rows_live args.rows.now c.told-rows c.as_chunks.result.0.now c.as_chunks.ensures.front args.live args.number c.requires)

pub returns-clause-found : goal.returns-clause-found
returns-clause-found c = λ marks.
    let args = c.args in
    place_found args.rows.now c.told-rows c.as_chunks.result.0.now c.as_chunks.ensures.front args.live args.number c.requires marks
    c.binary_search_by_key.result c.ok.result c.ok.ensures.value c.binary_search_by_key.ensures.bound
    (c.binary_search_by_key.ensures.position (λ row. get_or row 0 0) (answers_always _ _ _ (λ f a r g called. search rules)))

pub returns-clause-missed : goal.returns-clause-missed
returns-clause-missed c = λ marks.
    let args = c.args in
    place_missed args.rows.now c.told-rows c.as_chunks.result.0.now c.as_chunks.ensures.front args.live args.number c.requires marks
    c.binary_search_by_key.result c.ok.result c.ok.ensures.value
    (c.binary_search_by_key.ensures.position (λ row. get_or row 0 0) (answers_always _ _ _ (λ f a r g called. search rules)))
