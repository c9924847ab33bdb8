-- Lucky Last: "It pays that rule's schedule, per dollar, when the last ball of a game is among the ticket's numbers." The rule is 21.1 of source document
-- 002: "amongst their selected numbers for a Main Keno Game, the last number confirmed in that game draw", paid by the "Number of Selections in a Game".
use Rattle.std.specs.Prelude.{ℕ, ◌*◌, ◌/◌, Bool, cond, not, List, [], ◌∷◌, eqb, length, get_or}
use Rattle.sale.specs.Lists.{keep}
use Rattle.sale.specs.Ways.{mark_of}
use Rattle.prizes.specs.declared.draw.Draw.{Draw}

-- cents for a feature stake of one dollar, from one number to fifteen
unfoldable pub lucky_last_row : List ℕ
lucky_last_row =
    6000 ∷ 3000 ∷ 2000 ∷ 1500 ∷ 1200 ∷ 1000 ∷ 850 ∷ 750 ∷ 650 ∷ 600 ∷ 550 ∷ 500 ∷ 450 ∷ 400 ∷ 400 ∷ []

-- the same by how many numbers there are
unfoldable pub lucky_last_cents : ℕ → ℕ
lucky_last_cents numbers = get_or (0 ∷ lucky_last_row) numbers 0

-- The ticket's numbers: it has one way, which takes all its groups, so that they are all that it marks.
unfoldable pub numbers_marked : List ℕ → ℕ
numbers_marked marks = length (keep (λ m. not (eqb m 0)) marks)

abbrev pub is_marked : List ℕ → ℕ → Bool
is_marked marks n = not (eqb (mark_of marks n) 0)

-- whether the last ball is among them
abbrev pub hits_last : Draw → List ℕ → Bool
hits_last draw marks = is_marked marks draw.last

-- the prize for a feature stake, which is a multiple of 100: so nothing is rounded. A stake of 0 is none, and wins nothing.
unfoldable pub lucky_last_prize : Draw → List ℕ → ℕ → ℕ
lucky_last_prize draw marks stake =
    cond (hits_last draw marks) (lucky_last_cents (numbers_marked marks) * (stake / 100)) 0
