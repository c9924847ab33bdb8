-- "If a game's major prizes (jackpot shares aside) exceed 5,000,000 together, they are cut (rules 12.3 to 12.5). Let F, the floored, be
-- empty. A = 5,000,000 - 20,000 × size of F; B = sum of major prizes not in F. Every p outside F with p × A < 20,000 × B joins F; repeat
-- until none does. A may go below zero. F gets 20,000 each, the others p × A / B rounded down [..]."
use Rattle.std.specs.Prelude.{ℕ, zero, suc, ◌+◌, ◌*◌, ◌-◌, ◌/◌, Bool, false, cond, not, ◌||◌, List, ltb, leb, length}
use Rattle.sale.specs.Lists.{sum, keep}
use Rattle.prizes.specs.Prize.{major_floor, is_major}

-- the most for the major prizes of a game together (rule 12.3)
abbrev pub majors_limit : ℕ
majors_limit = 5000000

-- F: a test on the amount, since the rule's rounds never tell equal prizes apart (the law `rounds_by_place`)
abbrev pub Floored : Type 0
Floored = ℕ → Bool

-- the size of F among the major prizes ps
unfoldable pub floor_count : Floored → List ℕ → ℕ
floor_count f ps = length (keep f ps)

-- B
unfoldable pub cut_base : Floored → List ℕ → ℕ
cut_base f ps = sum (keep (λ p. not (f p)) ps)

-- p × A < 20,000 × B, with the 20,000 × size of F that A lacks brought to the other side, so that no number is below zero
unfoldable pub joins : List ℕ → Floored → ℕ → Bool
joins ps f p = ltb (p * majors_limit) (major_floor * cut_base f ps + p * (major_floor * floor_count f ps))

-- one round: every p outside F that passes the test joins it
unfoldable pub round_of : List ℕ → Floored → Floored
round_of ps f p = f p || joins ps f p

-- F after n rounds. In each of them one prize at the least joins, or none ever does again.
unfoldable pub rounds : ℕ → List ℕ → Floored
rounds zero ps p = false
rounds (suc n) ps p = round_of ps (rounds n ps) p

-- F when none joins any more
unfoldable pub floored_of : List ℕ → Floored
floored_of ps = rounds (length ps) ps

-- a major prize once it is cut; A is above zero where a prize stands outside F
unfoldable pub cut_prize : List ℕ → ℕ → ℕ
cut_prize ps p =
    cond (floored_of ps p) major_floor
    (p * (majors_limit - major_floor * floor_count (floored_of ps) ps) / cut_base (floored_of ps) ps)

-- what a prize pays in a game whose major prizes are ps
unfoldable pub payout : List ℕ → ℕ → ℕ
payout ps p = cond (is_major p) (cond (leb (sum ps) majors_limit) p (cut_prize ps p)) p
