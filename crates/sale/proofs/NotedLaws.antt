-- Laws on the walk over a ticket's ways, whatever it notes of them: its two calls note one after the other what the ways together are, and room for them all
-- is room for each call.
use Prim.Native.Nat.{ℕ, ◌+◌, ◌*◌, ◌-◌}
use mathlib.Core.Path.{◌≡◌, refl, sym, ap, ◌∙◌, subst}
use mathlib.Core.List.{List, [], ◌∷◌, ◌++◌}
use native.Mathlib.Nat.{zero-add, suc-add}
use lib.Count.{ones}
use lib.ListN.{length, drop, length-append, length-map}
use Rattle.sale.specs.Ways.{nominated, mask_sum}
use Rattle.sale.specs.Passes.{ways_from, figures_from}
use Rattle.sale.specs.Noting.{NotingLaws, AllNoted, Carried, way_or_none}
use Rattle.sale.proofs.WayLaws.{carried_all}
use Rattle.sale.proofs.WalkLaws.{map_end, map_step, ways_from_step}

module _ {S : Type 0} (notes : ℕ → S → S → Type 0) where
  pub none_noted : (s : S) → AllNoted notes [] s s
  unfolding AllNoted
  none_noted s = refl

  pub both_noted : (xs ys : List ℕ) (s m t : S) → AllNoted notes xs s m → AllNoted notes ys m t → AllNoted notes (xs ++ ys) s t
  unfolding AllNoted
  both_noted [] ys s m t e k = subst (λ s. AllNoted notes ys s t) e k
  both_noted (x ∷ xs) ys s m t (next, n, others) k = (next, n, both_noted xs ys next m t others k)

  -- once some ways are noted there is room for the others
  pub room_others : {room : S → ℕ → Type 0} → NotingLaws room notes → (xs : List ℕ) (n : ℕ) (s m : S) → AllNoted notes xs s m → room s (length xs + n) → room m n
  unfolding AllNoted
  room_others {room} laws [] n s m e r = subst (λ m. room m n) (sym e) (subst (λ k. room s k) (zero-add n) r)
  room_others {room} laws (x ∷ xs) n s m (next, one, others) r =
      room_others laws xs n next m others (laws.others s next x (length xs + n) one (subst (λ k. room s k) (suc-add (length xs) n) r))

-- ---- the walk, at its end and at a step of it

module _ (types : ℕ) (table : List ℕ) (mask : ℕ) {left : ℕ} where
  -- where no group is left, the ways are the mask, or none
  pub own : {figure : ℕ} → left ≡ 0 → Carried left mask figure table
      → figures_from types table left mask ≡ way_or_none (nominated types (ones mask)) figure
  own none carried =
      map_end (λ m. mask_sum m (drop 1 table)) types mask none ∙ ap (way_or_none (nominated types (ones mask))) (sym (carried_all none carried))

  -- the ways that leave the next group, and then those that take it
  pub parts : (left ≡ 0 → ⊥)
      → figures_from types table left mask ≡ figures_from types table (left - 1) (mask * 2) ++ figures_from types table (left - 1) (mask * 2 + 1)
  parts some = map_step (λ m. mask_sum m (drop 1 table)) types mask some

  pub count_own : {figure : ℕ} → left ≡ 0 → Carried left mask figure table
      → length (ways_from types left mask) ≡ length (way_or_none (nominated types (ones mask)) figure)
  count_own none carried = sym (length-map (ways_from types left mask) (λ m. mask_sum m (drop 1 table))) ∙ ap length (own none carried)

  pub count_parts : (left ≡ 0 → ⊥)
      → length (ways_from types left mask) ≡ length (figures_from types table (left - 1) (mask * 2)) + length (ways_from types (left - 1) (mask * 2 + 1))
  count_parts some =
      ap length (ways_from_step types mask some) ∙ length-append (ways_from types (left - 1) (mask * 2)) (ways_from types (left - 1) (mask * 2 + 1))
      ∙ ap (λ n. n + length (ways_from types (left - 1) (mask * 2 + 1))) (sym (length-map (ways_from types (left - 1) (mask * 2)) (λ m. mask_sum m (drop 1 table))))
