-- "The twentieth ball settles each way [..]": the drawn numbers that each group of a ticket's marks has. "The settled draw must now say which ball came
-- last, and everything that counts matches takes that wider draw": it takes it from here.
use Rattle.std.specs.Prelude.{ℕ, List, [], ◌∷◌, map}
use Rattle.sale.specs.Ways.{mark_of, size_of, by_group}
use Rattle.prizes.specs.declared.draw.Draw.{Draw}

unfoldable pub last_of : List ℕ → ℕ
last_of [] = 0
last_of (b ∷ []) = b
last_of (b ∷ c ∷ balls) = last_of (c ∷ balls)

-- the draw of a game, from its balls in their order
abbrev pub draw_of : List ℕ → Draw
draw_of balls = record { balls = balls; last = last_of balls }

-- how many balls of the draw are numbers marked for the group
unfoldable pub hits_of : Draw → List ℕ → ℕ → ℕ
hits_of draw marks k = size_of (map (mark_of marks) draw.balls) k

abbrev pub hits : Draw → List ℕ → List ℕ
hits draw marks = by_group (hits_of draw marks)
