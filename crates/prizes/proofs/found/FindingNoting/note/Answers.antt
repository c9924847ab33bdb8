-- `note` of `Finding` meets its contract: of a way's prize what is below the floor is sure, and a major prize is stored.
use mathlib.Core.Path.{refl, sym, ap, ◌∙◌}
use Prim.Native.Nat.{min}
use Rattle.prizes.specs.Prize.{major_floor, is_major}
use Rattle.prizes.proofs.FoundLaws.{way_minor, way_major, way_added}
use Rattle.prizes.proofs.found.FindingNoting.note.Goals as goal

pub returns-then-is_major : goal.returns-then-is_major
returns-then-is_major c =
    let s = c.args.self.now in
    let t = s.terms in
    let e = c.prize_of-cents.ensures in
    record {
      terms = refl;
      same_majors = refl;
      joined =
          way_major t c.args.pair (way_added t c.args.pair s.found c.add.ensures (c.min.ensures ∙ ap (λ n. min n major_floor) e) c.full_match.ensures)
          (ap is_major (sym e) ∙ sym c.is_major.ensures ∙ c.if-is_major.true) c.push.ensures.count
          (rw (← e) c.push.ensures.stored);
    }

pub returns-else-is_major : goal.returns-else-is_major
returns-else-is_major c =
    let s = c.args.self.now in
    let t = s.terms in
    let e = c.prize_of-cents.ensures in
    record {
      terms = refl;
      same_majors = refl;
      joined =
          way_minor t c.args.pair (way_added t c.args.pair s.found c.add.ensures (c.min.ensures ∙ ap (λ n. min n major_floor) e) c.full_match.ensures)
          (ap is_major (sym e) ∙ sym c.is_major.ensures ∙ c.if-is_major.false);
    }
