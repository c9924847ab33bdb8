-- `Majors::cut` meets its contract: the prizes that are stored fit together.
use Prim.Native.Nat.{◌^◌}
use lib.ListN.{take}
use Rattle.std.proofs.lemmas.Iterator.{YieldsList-from_slice}
use Rattle.std.proofs.lemmas.Iterator.Consumers.{fits_from_yields_list}
use Rattle.prizes.proofs.MajorLaws.{total_fits}
use Rattle.prizes.proofs.majors.Majors.cut.Goals as goal

pub sum-total-requires-clause-fits : goal.sum-total-requires-clause-fits
sum-total-requires-clause-fits c =
    let prizes = take c.args.self.now.count c.args.self.now.prizes in
    fits_from_yields_list _ (2 ^ 64) (YieldsList-from_slice prizes cc) (total_fits prizes c.requires.listed)
