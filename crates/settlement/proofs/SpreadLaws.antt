-- Laws of `spread`, which puts a figure of each running ticket at its place among all tickets and 0 at the other places: spread figures of the
-- running tickets are a choice for each ticket; their length, sum and elementwise sum; and awards joined to dues by place.
use Prim.Native.Nat.{ℕ, suc, ◌+◌}
use mathlib.Core.Path.{◌≡◌, refl, sym, ap, ◌∙◌}
use mathlib.Core.Bool.{Bool, true, false, cond}
use mathlib.Core.List.{List, [], ◌∷◌, map, map-map, zip_with}
use native.Mathlib.Nat.{add-zero}
use native.Mathlib.Omega.{arith}
use lib.ListN.{length}
use Rattle.sale.specs.Lists.{sum, keep}
use Rattle.prizes.specs.Settle.{Entry}
use Rattle.house.specs.Tickets.{Ticket, runs_in, entry_of, with_due}
use Rattle.house.specs.Commands.{awarded}
use Rattle.settlement.specs.Settling.{spread, entries_of}

module _ (game : ℕ) where
  -- a running ticket takes the next figure, and another none
  pub spread_runs : (x : ℕ) (figures : List ℕ) (t : Ticket) (ts : List Ticket) → runs_in game t ≡ true
      → spread game (x ∷ figures) (t ∷ ts) ≡ x ∷ spread game figures ts
  unfolding spread
  spread_runs x figures t ts e = rw e

  pub spread_rests : (figures : List ℕ) (t : Ticket) (ts : List Ticket) → runs_in game t ≡ false
      → spread game figures (t ∷ ts) ≡ 0 ∷ spread game figures ts
  unfolding spread
  spread_rests [] t ts e = refl
  spread_rests (x ∷ figures) t ts e = rw e

  pub length_spread : (figures : List ℕ) (ts : List Ticket) → length (spread game figures ts) ≡ length ts
  unfolding spread
  length_spread figures [] = refl
  length_spread [] (t ∷ ts) = ap suc (length_spread [] ts)
  length_spread (x ∷ figures) (t ∷ ts) = go (runs_in game t) (length_spread figures ts) (length_spread (x ∷ figures) ts)
    where
      go : (b : Bool) → length (spread game figures ts) ≡ length ts → length (spread game (x ∷ figures) ts) ≡ length ts
          → length (cond b (x ∷ spread game figures ts) (0 ∷ spread game (x ∷ figures) ts)) ≡ suc (length ts)
      go true p q = ap suc p
      go false p q = ap suc q

  -- a figure of each running ticket
  pub spread_map : (f : Ticket → ℕ) (ts : List Ticket)
      → spread game (map f (keep (runs_in game) ts)) ts ≡ map (λ t. cond (runs_in game t) (f t) 0) ts
  unfolding spread keep
  spread_map f [] = refl
  spread_map f (t ∷ ts) = go (runs_in game t) refl (spread_map f ts)
    where
      go : (b : Bool) → runs_in game t ≡ b
          → spread game (map f (keep (runs_in game) ts)) ts ≡ map (λ u. cond (runs_in game u) (f u) 0) ts
          → spread game (map f (cond b (t ∷ keep (runs_in game) ts) (keep (runs_in game) ts))) (t ∷ ts)
          ≡ cond b (f t) 0 ∷ map (λ u. cond (runs_in game u) (f u) 0) ts
      go true e rest = spread_runs (f t) (map f (keep (runs_in game) ts)) t ts e ∙ ap (◌∷◌ (f t)) rest
      go false e rest = spread_rests (map f (keep (runs_in game) ts)) t ts e ∙ ap (◌∷◌ 0) rest

  -- a figure of each entry
  pub spread_entries : (f : Entry → ℕ) (ts : List Ticket)
      → spread game (map f (entries_of game ts)) ts ≡ map (λ t. cond (runs_in game t) (f (entry_of game t)) 0) ts
  spread_entries f ts =
      ap (λ (figures : List ℕ). spread game figures ts) (map-map f (entry_of game) (keep (runs_in game) ts))
      ∙ spread_map (λ t. f (entry_of game t)) ts

  -- two figures of each running ticket, added before or after they are spread
  pub spread_added : (xs ys : List ℕ) (ts : List Ticket) → length xs ≡ length ys
      → spread game (zip_with ◌+◌ xs ys) ts ≡ zip_with ◌+◌ (spread game xs ts) (spread game ys ts)
  unfolding spread zip_with
  spread_added xs ys [] same = refl
  spread_added [] [] (t ∷ ts) same = ap (◌∷◌ 0) (spread_added [] [] ts refl)
  spread_added [] (y ∷ ys) (t ∷ ts) same = absurd (omega arith)
  spread_added (x ∷ xs) [] (t ∷ ts) same = absurd (omega arith)
  spread_added (x ∷ xs) (y ∷ ys) (t ∷ ts) same =
      go (runs_in game t) (spread_added xs ys ts (omega arith)) (spread_added (x ∷ xs) (y ∷ ys) ts same)
    where
      go : (b : Bool)
          → spread game (zip_with ◌+◌ xs ys) ts ≡ zip_with ◌+◌ (spread game xs ts) (spread game ys ts)
          → spread game ((x + y) ∷ zip_with ◌+◌ xs ys) ts ≡ zip_with ◌+◌ (spread game (x ∷ xs) ts) (spread game (y ∷ ys) ts)
          → cond b ((x + y) ∷ spread game (zip_with ◌+◌ xs ys) ts) (0 ∷ spread game ((x + y) ∷ zip_with ◌+◌ xs ys) ts)
          ≡ zip_with ◌+◌ (cond b (x ∷ spread game xs ts) (0 ∷ spread game (x ∷ xs) ts)) (cond b (y ∷ spread game ys ts) (0 ∷ spread game (y ∷ ys) ts))
      go true p q = ap (◌∷◌ (x + y)) p
      go false p q = ap (◌∷◌ 0) q

  -- no figure is lost where there is one for each running ticket
  pub sum_spread : (figures : List ℕ) (ts : List Ticket) → length figures ≡ length (keep (runs_in game) ts)
      → sum (spread game figures ts) ≡ sum figures
  unfolding spread sum keep
  sum_spread [] [] count = refl
  sum_spread (x ∷ figures) [] count = absurd (omega arith)
  sum_spread [] (t ∷ ts) count = sum_zeros (t ∷ ts)
    where
      sum_zeros : (us : List Ticket) → sum (spread game [] us) ≡ 0
      sum_zeros [] = refl
      sum_zeros (u ∷ us) = omega (arith, sum_zeros us)
  sum_spread (x ∷ figures) (t ∷ ts) count =
      go (runs_in game t) count (sum_spread figures ts) (sum_spread (x ∷ figures) ts)
    where
      go : (b : Bool) → suc (length figures) ≡ length (cond b (t ∷ keep (runs_in game) ts) (keep (runs_in game) ts))
          → (length figures ≡ length (keep (runs_in game) ts) → sum (spread game figures ts) ≡ sum figures)
          → (suc (length figures) ≡ length (keep (runs_in game) ts) → sum (spread game (x ∷ figures) ts) ≡ x + sum figures)
          → sum (cond b (x ∷ spread game figures ts) (0 ∷ spread game (x ∷ figures) ts)) ≡ x + sum figures
      go true n p q = ap (λ (k : ℕ). x + k) (p (omega arith))
      go false n p q = omega (arith, q n)

  -- an award joined to each running ticket's due is the spread award joined to every ticket's
  pub awarded_spread : (awards : List ℕ) (ts : List Ticket)
      → awarded game awards ts ≡ zip_with (λ t cents. with_due t (t.due + cents)) ts (spread game awards ts)
  unfolding spread awarded zip_with
  awarded_spread awards [] = refl
  awarded_spread [] (t ∷ ts) = λ i. with_due t (sym (add-zero t.due) i) ∷ awarded_spread [] ts i
  awarded_spread (a ∷ awards) (t ∷ ts) = go (runs_in game t) (awarded_spread awards ts) (awarded_spread (a ∷ awards) ts)
    where
      joined : List Ticket → List ℕ → List Ticket
      joined us figures = zip_with (λ u cents. with_due u (u.due + cents)) us figures

      go : (b : Bool) → awarded game awards ts ≡ joined ts (spread game awards ts)
          → awarded game (a ∷ awards) ts ≡ joined ts (spread game (a ∷ awards) ts)
          → cond b (with_due t (t.due + a) ∷ awarded game awards ts) (t ∷ awarded game (a ∷ awards) ts)
          ≡ joined (t ∷ ts) (cond b (a ∷ spread game awards ts) (0 ∷ spread game (a ∷ awards) ts))
      go true p q = ap (◌∷◌ (with_due t (t.due + a))) p
      go false p q = λ i. with_due t (sym (add-zero t.due) i) ∷ q i
