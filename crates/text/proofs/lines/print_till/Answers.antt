-- What is printed of a till is its line, which is put into a buffer first: its nine figures are numbers of 64 bits.
use Rattle.std.proofs.Common.{subst, sym, ◌∙◌, arith, rules}
use Rattle.std.proofs.Output.{has_written_of_eq}
use lib.Seq.{length-take-le}
use Rattle.std.specs.Str.{IsAscii}
use Rattle.text.proofs.PlaceLaws.{wrote_within, written}
use Rattle.text.proofs.LineLaws.{till_long, till_ascii}
use Rattle.text.proofs.lines.print_till.Goals as goal

pub put_till_line-size-requires : goal.put_till_line-size-requires
put_till_line-size-requires g c =
    record { ends = omega (arith, till_long c.args.till (search rules)) }

pub slice_bounds-line-end : goal.slice_bounds-line-end
slice_bounds-line-end g c = wrote_within (omega arith) c.put_till_line-size.ensures

pub slice_bounds-as_text-end : goal.slice_bounds-as_text-end
slice_bounds-as_text-end g c =
    let size = c.put_till_line-size in
    sym (length-take-le size.result size.new.out (wrote_within (omega arith) size.ensures))

pub as_text-requires : goal.as_text-requires
as_text-requires g c =
    subst IsAscii (sym (written c.put_till_line-size.ensures)) (till_ascii c.args.till (search rules))

pub returns : goal.returns
returns g c = λ plain ok.
    has_written_of_eq _ _ _ _ _ (c.as_text.ensures ∙ written c.put_till_line-size.ensures) (c.write_str.ensures.writes plain ok)
