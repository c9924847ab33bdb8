-- `text::records::put_record_line` meets its contract: the numbers are read from the record, and their line has at most 40 bytes, each of them ASCII.
use Prim.Native.Nat.{◌+◌}
use mathlib.Core.Path.{sym, subst, ap₂, ◌∙◌}
use native.Mathlib.Omega.{arith}
use lib.ListN.{get_or}
use Rattle.std.specs.Str.{IsAscii}
use Rattle.text.specs.Lines.{answer_line}
use Rattle.text.proofs.PlaceLaws.{wrote_as}
use Rattle.text.proofs.LineLaws.{answer_long, answer_ascii, record_as}
use Rattle.text.proofs.records.put_record_line.Goals as goal

pub put_answer_line-requires : goal.put_answer_line-requires
put_answer_line-requires c =
    let from = c.args.from in
    let long = answer_long _ _ c.read_number-number.result c.read_number-cents.result (c.type_inv.book from).fits (c.type_inv.book (from + 1)).fits (omega arith) (omega arith) in
    record { ends = omega arith }

pub returns-clause-wrote : goal.returns-clause-wrote
returns-clause-wrote c =
    let book = c.args.book.now in
    let from = c.args.from in
    let long = answer_long _ _ c.read_number-number.result c.read_number-cents.result (c.type_inv.book from).fits (c.type_inv.book (from + 1)).fits (omega arith) (omega arith) in
    let same =
    ap₂ (λ number cents. answer_line (get_or book from 0) (get_or book (from + 1) 0) number cents) c.read_number-number.ensures.number c.read_number-cents.ensures.number
    ∙ sym (record_as book from) in
    (wrote_as same c.put_answer_line.ensures, omega arith)

pub returns-clause-ascii : goal.returns-clause-ascii
returns-clause-ascii c =
    let book = c.args.book.now in
    let from = c.args.from in
    let byte = (c.type_inv.book from).fits in
    let code = (c.type_inv.book (from + 1)).fits in
    let same =
    ap₂ (λ number cents. answer_line (get_or book from 0) (get_or book (from + 1) 0) number cents) c.read_number-number.ensures.number c.read_number-cents.ensures.number
    ∙ sym (record_as book from) in
    subst IsAscii same
    (answer_ascii _ _ c.read_number-number.result c.read_number-cents.result (omega (arith, byte)) (omega (arith, code)) (omega arith) (omega arith))
