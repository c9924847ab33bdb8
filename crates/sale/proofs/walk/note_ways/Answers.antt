-- `sale::walk::note_ways` meets its contract: the walk starts with no group taken, and goes over all ways.
use mathlib.Core.Path.{sym, subst}
use mathlib.Core.List.{map}
use lib.ListN.{length, drop}
use Rattle.sale.specs.Ways.{mask_sum}
use Rattle.sale.specs.Noting.{AllNoted}
use Rattle.sale.proofs.WayLaws.{start_place, start_carried}
use Rattle.sale.proofs.WalkLaws.{ways_from_ways}
use Rattle.sale.proofs.walk.note_ways.Goals as goal

pub note_from-requires : goal.note_from-requires
note_from-requires g c =
    let a = c.args in
    let walk = a.walk.now in (
      start_place walk.few.few,
      start_carried walk.groups walk.figures,
      subst (λ l. g.N.Noting.room a.noting.now (length l)) (sym (ways_from_ways walk.groups walk.types)) c.requires,
    )

pub returns : goal.returns
returns g c =
    let a = c.args in
    let walk = a.walk.now in
    subst (λ l. AllNoted g.N.Noting.notes (map (λ m. mask_sum m (drop 1 walk.figures)) l) a.noting.now c.note_from.new.noting)
    (ways_from_ways walk.groups walk.types) c.note_from.ensures
