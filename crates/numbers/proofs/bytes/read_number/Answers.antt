-- The bytes read stand at the end of eight, behind zeros: std's number of the eight is that of the bytes, and each byte is below 256.
use Rattle.std.proofs.Common.{◌∙◌, refl, arith}
use Rattle.numbers.proofs.ByteLaws.{number_read, number_fits}
use Rattle.numbers.proofs.bytes.read_number.Goals as goal

pub returns-clause-number : goal.returns-clause-number
returns-clause-number g c =
    c.from_be_bytes.ensures
    ∙ number_read c.args.buffer.now _ _ c.args.at g.row.N c.requires.few c.requires.within.ends c.copy_from_slice.ensures.after refl

pub returns-clause-fits : goal.returns-clause-fits
returns-clause-fits g c =
    rw (c.from_be_bytes.ensures ∙ number_read c.args.buffer.now _ _ c.args.at g.row.N c.requires.few c.requires.within.ends c.copy_from_slice.ensures.after refl)
    (number_fits c.args.buffer.now c.args.at g.row.N c.requires.within.ends (λ i. omega (arith, c.type_inv.buffer i)))
