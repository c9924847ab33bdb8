-- "Ball | 25 not 1 to 80; [..] 27 already in": the balls of a draw are different numbers from 1 to 80. So a group's hits, which count balls, are
-- how many of its numbers are drawn. The proofs are in proofs/DifferentBalls.antt.
use Rattle.std.specs.Prelude.{ℕ, suc, ◌≤◌, ◌≡◌, true, false, ◌&&◌, List, [], ◌∷◌, map, leb, eqb, length}
use Rattle.sale.specs.Lists.{below, keep, every, member}
use Rattle.sale.specs.Ways.{mark_of, size_of}
use Rattle.prizes.specs.Hits.{draw_of, hits_of}

-- no number stands twice
abbrev pub Different : List ℕ → Type 0
Different [] = Unit {0}
Different (n ∷ ns) = (member n ns ≡ false) × Different ns

pub record DifferentBalls (balls : List ℕ) : Type 0 where
  pub numbers : every (λ b. leb 1 b && leb b 80) balls ≡ true
  pub different : Different balls

-- the numbers that are marked for a group, and those of them that are drawn
unfoldable pub numbers_of : List ℕ → ℕ → List ℕ
numbers_of marks k = keep (λ n. eqb k (mark_of marks n)) (map suc (below 80))

abbrev pub drawn_of : List ℕ → List ℕ → ℕ → List ℕ
drawn_of balls marks k = keep (λ n. member n balls) (numbers_of marks k)

-- a group's hits and size, told by its numbers
pub record HitsDrawn (balls marks : List ℕ) (k : ℕ) : Type 0 where
  pub hits : hits_of (draw_of balls) marks k ≡ length (drawn_of balls marks k)
  pub size : size_of marks k ≡ length (numbers_of marks k)
  pub most : hits_of (draw_of balls) marks k ≤ size_of marks k
