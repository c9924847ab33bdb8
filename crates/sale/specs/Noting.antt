-- What a walk over a ticket's ways does, whatever it notes of them: it notes each way by its figure, one after the other in their order, where there is room
-- for them all. A sale's survey of its ways is one instance, and what a ticket wins in a drawn game the other.
use Rattle.std.specs.Prelude.{ℕ, suc, ◌*◌, ◌-◌, ◌^◌, ◌≤◌, ◌≡◌, Bool, cond, List, [], ◌∷◌, map, drop, get_or}
use Rattle.sale.specs.Ways.{ways, mask_sum}

-- What each impl proves: room for some ways is room for fewer, and once one of them is noted there is room for the others.
pub record NotingLaws {S : Type 0} (room : S → ℕ → Type 0) (notes : ℕ → S → S → Type 0) : Type 0 where
  pub fewer : (s : S) (n m : ℕ) → n ≤ m → room s m → room s n
  pub others : (s t : S) (figure n : ℕ) → notes figure s t → room s (suc n) → room t n

-- ways of such figures noted one after the other
unfoldable pub AllNoted : {S : Type 0} → (ℕ → S → S → Type 0) → List ℕ → S → S → Type 0
AllNoted notes [] s t = t ≡ s
AllNoted {S} notes (x ∷ xs) s t = (next : S) × notes x s next × AllNoted notes xs next t

-- ---- the figures of the ways, from a table that has the figure of group k at place k; place 0 is no group

-- the figure of each way of a ticket
abbrev pub way_figures : ℕ → ℕ → List ℕ → List ℕ
way_figures g types table = map (λ m. mask_sum m (drop 1 table)) (ways g types)

-- that of a mask which is a way, or none
abbrev pub way_or_none : Bool → ℕ → List ℕ
way_or_none t figure = cond t (figure ∷ []) []

-- figures so small that those of eight groups make a number of 32 bits
pub record Figures (table : List ℕ) : Type 0 where
  pub small : (k : ℕ) → get_or table k 0 ≤ 2 ^ 20

-- what the walk carries to a place: the figures of the groups taken so far, added
pub record Carried (left mask figure : ℕ) (table : List ℕ) : Type 0 where
  pub added : figure ≡ mask_sum mask (drop (suc left) table)
  pub small : figure ≤ 2 ^ 20 * (8 - left)
