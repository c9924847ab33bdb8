-- `text::records::put_book` meets its contract. The loop's invariant: the lines of the records passed stand at the buffer's start, and take at
-- most 40 bytes each, all of them ASCII.
use mathlib.Core.Path.{◌≡◌, refl, sym, subst, ap, ◌∙◌}
use native.Mathlib.Omega.{arith}
use native.Mathlib.Numerals.{add-one}
use Rattle.std.specs.Str.{IsAscii}
use Rattle.std.proofs.lemmas.Str.{IsAscii-append}
use Rattle.std.proofs.lemmas.Str.Ascii.{IsAscii-nil}
use Rattle.text.specs.Lines.{book_lines}
use Rattle.text.proofs.PlaceLaws.{wrote_none, wrote_more, wrote_as}
use Rattle.text.proofs.LineLaws.{book_more}
use Rattle.text.proofs.records.put_book.Goals as goal

pub loop-i-init : goal.loop-i-init
unfolding book_lines
loop-i-init c = (wrote_none _, omega arith, refl, IsAscii-nil)

pub loop-i-preserved : goal.loop-i-preserved
loop-i-preserved c =
    let book = c.args.book.now in
    let i = c.loop-i.i in
    let inv = c.loop-i.invariant in
    let line = c.put_record_line-at in
    let more = sym (book_more i book) ∙ ap (λ k. book_lines k book) (sym (add-one i)) in (
      wrote_as more (wrote_more (omega (arith, c.loop-i-test.true, inv.0.ends, inv.1, c.requires.lines)) inv.0 line.ensures.wrote.0),
      omega (arith, inv.1, line.ensures.wrote.1),
      line.auto.out ∙ inv.2,
      subst IsAscii more (IsAscii-append _ _ inv.3 line.ensures.ascii),
    )

pub returns-clause-wrote : goal.returns-clause-wrote
returns-clause-wrote c =
    let turn = c.loop-i in
    let done : turn.i ≡ c.args.answers = omega (arith, turn.auto.i-end, c.loop-i-test.false) in
    wrote_as (ap (λ k. book_lines k c.args.book.now) done) turn.invariant.0

pub returns-clause-ascii : goal.returns-clause-ascii
returns-clause-ascii c =
    let turn = c.loop-i in
    let done : turn.i ≡ c.args.answers = omega (arith, turn.auto.i-end, c.loop-i-test.false) in
    subst IsAscii (ap (λ k. book_lines k c.args.book.now) done) turn.invariant.3
