-- What a walk over a ticket's ways notes of each in a drawn game.
use Rattle.std.specs.Prelude.{ℕ, ◌≡◌, eqb}
use mathlib.Core.List.{◌∷◌, []}
use Rattle.std.proofs.Common.{arith}
use Rattle.sale.specs.Lists.{sum}
use Rattle.sale.specs.Noting.{NotingLaws}
use Rattle.sale.proofs.KeepLaws.{length_keep_le}
use Rattle.prizes.specs.Prize.{is_major}
use Rattle.prizes.specs.Found.{size_in, hits_in, prize_in, Room, JoinedWays}
use Rattle.prizes.specs.declared.found.Finding.{Finding}

-- room for so many ways more
abbrev pub RoomIn : Finding → ℕ → Type 0
RoomIn s ways = Room ways s.found s.majors.now.count

-- the figures of a way added
pub record NotesWay (pair : ℕ) (s t : Finding) : Type 0 where
  pub terms : t.terms ≡ s.terms
  pub same_majors : t.majors.ghost_name ≡ s.majors.ghost_name
  pub joined : JoinedWays s.terms (pair ∷ []) s.found s.majors.now t.found t.majors.now

-- It is an instance of what a walk notes.
pub finding_laws : NotingLaws RoomIn NotesWay
unfolding sum
finding_laws =
    record {
      fewer = λ s n m le r. record { sure = omega (arith, r.sure); full = omega (arith, r.full); majors = omega (arith, r.majors) };
      others =
          λ s t pair n j r.
          let full_one = length_keep_le (λ x. eqb (hits_in x) (size_in x)) (pair ∷ []) in
          let major_one = length_keep_le is_major (prize_in s.terms.kind s.terms.stake pair ∷ []) in
          record {
            sure = omega (arith, r.sure, j.joined.sure);
            full = omega (arith, r.full, j.joined.full, full_one);
            majors = omega (arith, r.majors, j.joined.behind.count, major_one);
          };
    }
