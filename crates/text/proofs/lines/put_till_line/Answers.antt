-- `text::lines::put_till_line` meets its contract: the word, eight figures and the signed one, one behind another.
use mathlib.Core.Path.{sym}
use native.Mathlib.Omega.{arith}
use Rattle.text.proofs.PlaceLaws.{wrote_more, wrote_as}
use Rattle.text.proofs.LineLaws.{till_as, till_parts}
use Rattle.text.proofs.lines.put_till_line.Goals as goal

pub put_word-first-requires : goal.put_word-first-requires
put_word-first-requires c = omega (arith, till_parts c.args.till)

pub put_four-fifth-requires : goal.put_four-fifth-requires
put_four-fifth-requires c = omega (arith, till_parts c.args.till)

pub put_four-ninth-requires : goal.put_four-ninth-requires
put_four-ninth-requires c = omega (arith, till_parts c.args.till)

pub put_signed-requires : goal.put_signed-requires
put_signed-requires c = omega (arith, till_parts c.args.till)

pub returns : goal.returns
returns c =
    let parts = till_parts c.args.till in
    wrote_as (sym (till_as c.args.till))
    (wrote_more (omega arith) c.put_word-first.ensures
    (wrote_more (omega arith) c.put_four-fifth.ensures (wrote_more (omega arith) c.put_four-ninth.ensures c.put_signed.ensures)))
