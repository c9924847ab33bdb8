-- What is printed of a stop code is its line, which is put into a buffer first.
use Rattle.std.proofs.Common.{subst, sym, ◌∙◌, arith}
use Rattle.std.proofs.Output.{has_written_of_eq}
use lib.Seq.{length-take-le}
use Rattle.std.specs.Str.{IsAscii}
use Rattle.text.proofs.PlaceLaws.{wrote_within, written}
use Rattle.text.proofs.LineLaws.{stop_long, stop_ascii}
use Rattle.text.proofs.lines.StopLineDisplay.fmt.Goals as goal

pub put_stop_line-size-requires : goal.put_stop_line-size-requires
put_stop_line-size-requires g c = record { ends = omega (arith, stop_long c.args.self.now.0 (omega arith)) }

pub slice_bounds-line-end : goal.slice_bounds-line-end
slice_bounds-line-end g c = wrote_within (omega arith) c.put_stop_line-size.ensures

pub slice_bounds-as_text-end : goal.slice_bounds-as_text-end
slice_bounds-as_text-end g c =
    let size = c.put_stop_line-size in
    sym (length-take-le size.result size.new.out (wrote_within (omega arith) size.ensures))

pub as_text-requires : goal.as_text-requires
as_text-requires g c = subst IsAscii (sym (written c.put_stop_line-size.ensures)) (stop_ascii c.args.self.now.0 (omega arith))

pub returns-clause-writes : goal.returns-clause-writes
returns-clause-writes g c = λ plain ok.
    has_written_of_eq _ _ _ _ _ (c.as_text.ensures ∙ written c.put_stop_line-size.ensures) (c.write_str.ensures.writes plain ok)
