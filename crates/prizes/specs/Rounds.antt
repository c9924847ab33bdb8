-- The cut as the code works it out: F as the prizes below a bound, with the size of F and B, from round to round over the major prizes of a
-- game. Only contracts speak of these; the laws in proofs/CutStates and proofs/MajorLaws join them to the rule.
use Rattle.std.specs.Prelude.{ℕ, ◌+◌, ◌*◌, ◌-◌, ◌/◌, ◌%◌, ◌^◌, ◌≤◌, ◌<◌, max, ◌≡◌, cond, ltb, leb, length, take, drop}
use mathlib.Core.List.{List, Memᴰ}
use Rattle.sale.specs.Lists.{sum, keep}
use Rattle.prizes.specs.Prize.{major_floor, is_major}
use Rattle.prizes.specs.Cut.{majors_limit, payout}
use Rattle.prizes.specs.declared.cut.Cut.{Cut}

-- F empty, and B the sum of all major prizes
abbrev pub first_cut : ℕ → Cut
first_cut base = record { below = 0; count = 0; base = base }

-- F empty, and every prize its own part of the limit, so that it is paid in full
abbrev pub uncut : Cut
uncut = record { below = 0; count = 0; base = majors_limit }

-- A, or 0 where it is below zero
abbrev pub shareable : Cut → ℕ
shareable c = majors_limit - major_floor * c.count

-- what a prize pays under such a state. A prize outside F is a part of B, so that it is no more than B.
unfoldable pub pay_under : Cut → ℕ → ℕ
pay_under c p =
    cond (is_major p)
    (cond (ltb p c.below) major_floor (cond (leb p c.base) (p * shareable c / c.base) (shareable c)))
    p

-- the bound below which a prize is in F after one more round: p × A < 20,000 × B, or any p where A is 0 or less
unfoldable pub next_below : Cut → ℕ
next_below c =
    max c.below
    (cond (leb 250 c.count) (c.base + 1)
    (major_floor * (c.base / shareable c) + (major_floor * (c.base % shareable c) + (shareable c - 1)) / shareable c))

-- F the prizes of a list that are below a bound
abbrev pub cut_below : ℕ → List ℕ → Cut
cut_below bound ps =
    record { below = bound; count = length (keep (λ p. ltb p bound) ps); base = sum (keep (λ p. leb bound p) ps) }

-- a state under which each of a game's major prizes is paid what the rule says
pub record Pays (c : Cut) (ps : List ℕ) : Type 0 where
  pub each : (p : ℕ) → Memᴰ p ps → pay_under c p ≡ payout ps p

-- ---- the major prizes of a game

-- a major prize, whose product with all that there is to share fits
pub record IsMajorPrize (p : ℕ) : Type 0 where
  pub large : major_floor ≤ p
  pub small : p < 2 ^ 40

-- major prizes, as many as are stored of a game at the most
pub record Listed (ps : List ℕ) : Type 0 where
  pub few : length ps ≤ 250
  pub each : (p : ℕ) → Memᴰ p ps → IsMajorPrize p

-- prizes that make so many cents, which pass the limit
pub record PastLimit (ps : List ℕ) (cents : ℕ) : Type 0 where
  pub total : cents ≡ sum ps
  pub past : majors_limit < cents

-- prizes that are paid from the floor to the limit
pub record AllRaised (c : Cut) (ps : List ℕ) : Type 0 where
  pub few : length ps ≤ 250
  pub small : (p : ℕ) → Memᴰ p ps → p < 2 ^ 40
  pub least : (p : ℕ) → Memᴰ p ps → major_floor ≤ pay_under c p
  pub most : (p : ℕ) → Memᴰ p ps → pay_under c p ≤ majors_limit

-- prizes of a table, from a place on and so many, that are paid from the floor to the limit
pub record Raisable (c : Cut) (table : List ℕ) (from many : ℕ) : Type 0 where
  pub inside : from + many ≤ 250
  pub small : (p : ℕ) → Memᴰ p (take many (drop from table)) → p < 2 ^ 40
  pub least : (p : ℕ) → Memᴰ p (take many (drop from table)) → major_floor ≤ pay_under c p
  pub most : (p : ℕ) → Memᴰ p (take many (drop from table)) → pay_under c p ≤ majors_limit
