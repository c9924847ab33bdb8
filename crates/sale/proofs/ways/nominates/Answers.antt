-- The types byte moved down by one less than the number of groups is odd where that bit is set.
use mathlib.Core.Path.{◌≡◌, refl, sym, ap}
use Prim.Native.Nat.{ℕ, zero, suc, ◌-◌, ◌/◌, ◌%◌, ◌^◌}
use native.Mathlib.Numerals.{sub-one}
use lib.Dec.{eqb}
use Rattle.sale.specs.Ways.{nominated}
use Rattle.sale.proofs.ways.nominates.Goals as goal

some : (types k : ℕ) → (k ≡ 0 → ⊥) → nominated types k ≡ eqb (types / 2 ^ (k - 1) % 2) 1
unfolding nominated
some types zero h = absurd (h refl)
some types (suc k) h = ap (λ n. eqb (types / 2 ^ n % 2) 1) (sym (sub-one (suc k)))

pub returns-then-groups-ne0 : goal.returns-then-groups-ne0
returns-then-groups-ne0 c = sym (some _ _ c.if-groups-ne0.true)

pub returns-else-groups-ne0 : goal.returns-else-groups-ne0
unfolding nominated
returns-else-groups-ne0 c = rw c.if-groups-ne0.false
