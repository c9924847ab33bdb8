-- The rounds of the cut end: a prize that is floored stays floored, and a round that floors no more is followed by none that does. So each
-- round floors one more at the least or is the last, and there are no more than there are prizes. A member of ps is a `List.Memᴰ p ps`.
use mathlib.Core.Path.{◌≡◌, refl, sym, ap, ◌∙◌}
use mathlib.Core.Bool.{Bool, true, false, not, or-true}
use mathlib.Core.List.{List, Memᴰ}
use mathlib.Core.Logic.{◌⊎◌, inl, inr, ⊎_elim}
use Prim.Native.Nat.{ℕ, zero, suc, ◌+◌, ◌≤◌, ◌<◌, zero-le}
use native.Mathlib.Nat.{add-zero, add-suc, add_comm}
use native.Mathlib.Omega.{arith}
use lib.Dec.{leb}
use lib.ListN.{length}
use borrow.Author.Tests.{leb-true, leb-false}
use Rattle.sale.specs.Lists.{sum}
use Rattle.prizes.specs.Cut.{Floored, floor_count, cut_base, joins, round_of, rounds, floored_of}
use Rattle.sale.proofs.KeepLaws.{Agree, keep_agree, length_keep_le, keep_wider, keep_tight}

pub floor_count_agree : (ps : List ℕ) (f g : Floored) → Agree ps f g → floor_count f ps ≡ floor_count g ps
unfolding floor_count
floor_count_agree ps f g same = ap length (keep_agree f g ps same)

pub cut_base_agree : (ps : List ℕ) (f g : Floored) → Agree ps f g → cut_base f ps ≡ cut_base g ps
unfolding cut_base
cut_base_agree ps f g same = ap sum (keep_agree (λ p. not (f p)) (λ p. not (g p)) ps (λ p m. ap not (same p m)))

-- what joins depends on the members of F alone
pub joins_agree : (ps : List ℕ) (f g : Floored) → Agree ps f g → (p : ℕ) → joins ps f p ≡ joins ps g p
unfolding joins
joins_agree ps f g same p = rw (floor_count_agree ps f g same, cut_base_agree ps f g same)

round_agree : (ps : List ℕ) (f g : Floored) → Agree ps f g → Agree ps (round_of ps f) (round_of ps g)
unfolding round_of
round_agree ps f g same p m = rw (same p m, joins_agree ps f g same p)

-- once in F, in F
pub rounds_keep : (n : ℕ) (ps : List ℕ) (p : ℕ) → rounds n ps p ≡ true → rounds (suc n) ps p ≡ true
unfolding rounds round_of
rounds_keep n ps p h = rw h

-- round n + 1 floors no more than n rounds did
abbrev pub Stable : ℕ → List ℕ → Type 0
Stable n ps = Agree ps (rounds (suc n) ps) (rounds n ps)

pub count_grows : (n : ℕ) (ps : List ℕ) → floor_count (rounds n ps) ps ≤ floor_count (rounds (suc n) ps) ps
unfolding floor_count
count_grows n ps = keep_wider (rounds n ps) (rounds (suc n) ps) ps (λ p m. rounds_keep n ps p)

pub count_le : (n : ℕ) (ps : List ℕ) → floor_count (rounds n ps) ps ≤ length ps
unfolding floor_count
count_le n ps = length_keep_le (rounds n ps) ps

-- the size of F tells
pub stable_by_count : (n : ℕ) (ps : List ℕ) → floor_count (rounds (suc n) ps) ps ≤ floor_count (rounds n ps) ps → Stable n ps
unfolding floor_count
stable_by_count n ps e = keep_tight (rounds n ps) (rounds (suc n) ps) ps (λ p m. rounds_keep n ps p) e

stable_next : (n : ℕ) (ps : List ℕ) → Stable n ps → Stable (suc n) ps
unfolding rounds
stable_next n ps s = round_agree ps (rounds (suc n) ps) (rounds n ps) s

pub stable_on : (n : ℕ) (ps : List ℕ) → Stable n ps → (k : ℕ) → Agree ps (rounds (n + k) ps) (rounds n ps)
unfolding rounds
stable_on n ps s zero p m = rw add-zero
stable_on n ps s (suc k) p m =
    rw add-suc (round_agree ps (rounds (n + k) ps) (rounds n ps) (stable_on n ps s k) p m ∙ s p m)

-- as many are floored as there were rounds: then the next round is the last, or that holds after it too
further : (n : ℕ) (ps : List ℕ) → n ≤ floor_count (rounds n ps) ps → Stable n ps ⊎ (n < floor_count (rounds (suc n) ps) ps)
further n ps h = go (leb (floor_count (rounds (suc n) ps) ps) (floor_count (rounds n ps) ps)) refl
  where
    go : (t : Bool) →
        leb (floor_count (rounds (suc n) ps) ps) (floor_count (rounds n ps) ps) ≡ t →
        Stable n ps ⊎ (n < floor_count (rounds (suc n) ps) ps)
    go true e = inl (stable_by_count n ps (leb-true _ _ e))
    go false e =
        inr (omega (arith, leb-false (floor_count (rounds (suc n) ps) ps) (floor_count (rounds n ps) ps) e))

climb : (n : ℕ) (ps : List ℕ) → Stable n ps ⊎ (n < floor_count (rounds (suc n) ps) ps)
climb zero ps = further zero ps zero-le
climb (suc n) ps = ⊎_elim (λ s. inl (stable_next n ps s)) (λ h. further (suc n) ps h) (climb n ps)

-- after as many rounds as there are prizes
pub stable_at_length : (ps : List ℕ) → Stable (length ps) ps
stable_at_length ps =
    ⊎_elim (λ s. s) (λ h. absurd (omega (arith, count_le (suc (length ps)) ps))) (climb (length ps) ps)

-- "repeat until none does": none joins F after the rounds that make it
pub rounds_end : (ps : List ℕ) (p : ℕ) → Memᴰ p ps → joins ps (floored_of ps) p ≡ true → floored_of ps p ≡ true
unfolding floored_of rounds round_of
rounds_end ps p m h = sym (stable_at_length ps p m) ∙ rw h (or-true (rounds (length ps) ps p))

-- the first round that changes nothing gives F
pub stable_floored : (n : ℕ) (ps : List ℕ) → Stable n ps → Agree ps (floored_of ps) (rounds n ps)
unfolding floored_of
stable_floored n ps s p m =
    sym (stable_on (length ps) ps (stable_at_length ps) n p m)
    ∙ ap (λ (k : ℕ). rounds k ps p) (add_comm (length ps) n)
    ∙ stable_on n ps s (length ps) p m
