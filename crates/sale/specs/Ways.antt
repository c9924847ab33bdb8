-- "A ticket marks numbers 1 to 80 in 80 bytes: byte i holds 0 (unmarked) or the group, 1 to g, of number i. [..] The types byte
-- nominates group counts: bit k-1 (worth 2^(k-1)) means every combination of exactly k groups. Each combination is a way [..]."
use Rattle.std.specs.Prelude.{ℕ, zero, suc, ◌+◌, ◌*◌, ◌/◌, ◌%◌, ◌^◌, Bool, false, List, [], ◌∷◌, map, eqb, length, get_or}
use Rattle.std.specs.Int.Count.{ones}
use Rattle.sale.specs.Lists.{below, keep}

-- the mark of a number: byte i of the 80 is number i's, and there is no number 0
unfoldable pub mark_of : List ℕ → ℕ → ℕ
mark_of marks n = get_or (0 ∷ marks) n 0

-- how many marks name the group
unfoldable pub size_of : List ℕ → ℕ → ℕ
size_of marks k = length (keep (eqb k) marks)

-- the figure of each group, 1 to 8
unfoldable pub by_group : (ℕ → ℕ) → List ℕ
by_group f = f 1 ∷ f 2 ∷ f 3 ∷ f 4 ∷ f 5 ∷ f 6 ∷ f 7 ∷ f 8 ∷ []

abbrev pub sizes : List ℕ → List ℕ
sizes marks = by_group (size_of marks)

-- bytes in one number, the first of them lowest: so a ticket keeps the sizes of its groups
unfoldable pub size_word : List ℕ → ℕ
size_word [] = 0
size_word (x ∷ xs) = size_word xs * 256 + x

-- bit k-1 of the types byte
unfoldable pub nominated : ℕ → ℕ → Bool
nominated types zero = false
nominated types (suc k) = eqb (types / 2 ^ k % 2) 1

-- A way is a mask of groups: its bit i, worth 2^i, takes group i + 1. The ways of g groups are the masks whose count of ones is nominated.
unfoldable pub ways : ℕ → ℕ → List ℕ
ways g types = keep (λ m. nominated types (ones m)) (below (2 ^ g))

-- the figures of the groups that a way takes, added: its selection from the groups' sizes, its match from their hits
unfoldable pub mask_sum : ℕ → List ℕ → ℕ
mask_sum m [] = 0
mask_sum m (x ∷ xs) = m % 2 * x + mask_sum (m / 2) xs

-- the size of each way, from the sizes of the groups
unfoldable pub way_sizes : ℕ → ℕ → List ℕ → List ℕ
way_sizes g types sizes = map (λ m. mask_sum m sizes) (ways g types)
