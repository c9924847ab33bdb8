-- `ledger::run_roll` prints the text of the whole roll: a fresh house comes from itself by no command, and each book is what is printed next.
use Rattle.std.proofs.Common.{◌+◌, ◌-◌, ◌++◌, [], length, arith, sym, subst, ap, append_assoc, ◌∙◌, replicate}
use Rattle.std.specs.Io.KnownBytes.{Appends}
use Rattle.std.proofs.lemmas.Result.{on_ok_weaker}
use Rattle.std.proofs.KnownBytes.{Appends-nil, Appends-trans}
use Rattle.house.specs.Balance.{Reached}
use Rattle.text.specs.Lines.{book_lines, stop_line, till_line}
use Rattle.text.proofs.LineLaws.{book_part}
use Rattle.ledger.specs.Sittings.{sittings_text}
use Rattle.ledger.proofs.SittingLaws.{fresh_reached, text_on, text_end}
use Rattle.ledger.proofs.run_roll.Goals as goal

pub loop-house-init : goal.loop-house-init
loop-house-init g c =
    let roll = c.args.roll.now in (
      subst Reached (sym (c.fresh-house.ensures _ _)) fresh_reached,
      [],
      length roll + 1,
      Appends-nil _,
      omega arith,
      ap (λ m. sittings_text (length roll + 1) m roll (replicate 896 0)) (c.fresh-house.ensures _ _),
    )

pub loop-house-preserved : goal.loop-house-preserved
loop-house-preserved g c =
    let (reached, text, books, grew, more, whole) = c.loop-house.invariant in
    let l = c.loop-house in
    let read = c.read_on-report.ensures in
    let report = c.read_on-report.result in
    let after = c.read_on-report.new in
    let lines = book_lines report.answers after.book in
    let wrote = subst (Appends (g.W.Write.contents l.output) (g.W.Write.contents c.print.new.output)) (book_part report.answers after.book (omega arith)) c.in_ok-print.ensures in
    let full = c.if-not-is_full.false ∙ c.from.ensures in
    let next = text_on l.house l.rows l.marks l.rest.now l.book report after.rows after.marks after.book read.reported books (omega (arith, more)) full in (
      read.reads_on.reached,
      text ++ lines,
      books - 1,
      Appends-trans _ _ _ _ _ grew wrote,
      omega (arith, more, read.reads_on.shorter full, ap length c.unread-rest.ensures),
      rw c.unread-rest.ensures (append_assoc text lines _ ∙ ap (λ s. text ++ s) (sym next) ∙ whole),
    )

pub returns-then-not-is_full : goal.returns-then-not-is_full
returns-then-not-is_full g c =
    let (reached, text, books, grew, more, whole) = c.loop-house.invariant in
    let l = c.loop-house in
    let read = c.read_on-report.ensures in
    let report = c.read_on-report.result in
    let after = c.read_on-report.new in
    let lines = book_lines report.answers after.book in
    let wrote = subst (Appends (g.W.Write.contents l.output) (g.W.Write.contents c.print.new.output)) (book_part report.answers after.book (omega arith)) c.in_ok-print.ensures in
    let last = text_end l.house l.rows l.marks l.rest.now l.book report after.rows after.marks after.book read.reported books (omega (arith, more)) (λ full. c.if-not-is_full.true (full ∙ sym c.from.ensures)) in
    let all =
    append_assoc text lines _
    ∙ ap (λ t. text ++ (lines ++ (stop_line report.stop ++ till_line t))) (c.till_of.ensures after.marks)
    ∙ ap (λ s. text ++ s) (sym last)
    ∙ whole in
    on_ok_weaker _
    (λ ended. subst (Appends (g.W.Write.contents c.args.output.now) (g.W.Write.contents c.print-then-not-is_full.new.output)) all (Appends-trans _ _ _ _ _ (Appends-trans _ _ _ _ _ grew wrote) ended))
    c.print-then-not-is_full.ensures
