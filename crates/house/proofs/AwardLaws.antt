-- A settled game's awards by ticket number: the awards go to the running tickets in their order, and since a number names one ticket at most,
-- a running ticket's award is the one that stands at its number among the lines that play.
use Prim.Native.Nat.{ℕ, ◌+◌}
use native.Mathlib.Omega.{arith}
use mathlib.Core.Path.{◌≡◌, refl, sym, ◌∙◌, ap}
use mathlib.Core.Bool.{Bool, true, false, cond}
use mathlib.Core.List.{List, [], ◌∷◌, map}
use lib.ListN.{length}
use borrow.Author.Tests.{eq-eqb, ne_eqb}
use Rattle.sale.specs.Lists.{keep, member}
use Rattle.house.specs.Tickets.{Ticket, runs_in, with_due}
use Rattle.house.specs.Commands.{awarded}
use Rattle.house.specs.Sheet.{Line}
use Rattle.house.specs.Claims.{award_at}
use Rattle.house.proofs.Ledger.{line_of}
use Rattle.house.proofs.MoneyLaws.{all_of, all_from, keep_same, keep_map, map_same}
use Rattle.house.proofs.SpanLaws.{plays_left}
use Rattle.house.proofs.Numbered.{Row, Within, row_head, row_rest, row_within}

-- the lines that play in the game are those of the running tickets
pub playing_lines : (game : ℕ) (ts : List Ticket)
    → keep (λ l. member game l.left) (map (line_of game) ts) ≡ map (line_of game) (keep (runs_in game) ts)
playing_lines game ts =
    keep_map (λ l. member game l.left) (line_of game) ts
    ∙ ap (map (line_of game)) (keep_same (λ t. member game (line_of game t).left) (runs_in game) ts (all_of (plays_left game) ts))

-- a running ticket with the award of its number
abbrev pub awarded_at : ℕ → List Line → List ℕ → Ticket → Ticket
awarded_at game lines awards t = cond (runs_in game t) (with_due t (t.due + award_at t.number lines awards)) t

award_here : (l : Line) (lines : List Line) (a : ℕ) (awards : List ℕ) → award_at l.number (l ∷ lines) (a ∷ awards) ≡ a
unfolding award_at
award_here l lines a awards = ap (λ (b : Bool). cond b a (award_at l.number lines awards)) (eq-eqb l.number l.number refl)

award_later : (n : ℕ) (l : Line) (lines : List Line) (a : ℕ) (awards : List ℕ)
    → (l.number ≡ n → ⊥)
    → award_at n (l ∷ lines) (a ∷ awards) ≡ award_at n lines awards
unfolding award_at
award_later n l lines a awards other = ap (λ (b : Bool). cond b a (award_at n lines awards)) (ne_eqb l.number n other)

module _ (game : ℕ) where
  abbrev Awarded : List ℕ → List Ticket → List Ticket → Type 0
  Awarded awards running ts = awarded game awards ts ≡ map (awarded_at game (map (line_of game) running) awards) ts

  -- the first ticket has the first award where it runs, and the rest have the others
  awarded_first : (b : Bool) (k : ℕ) (t : Ticket) (ts running : List Ticket) (a : ℕ) (awards : List ℕ)
      → Row k (t ∷ ts)
      → ((some : List ℕ) → length some ≡ length running → Awarded some running ts)
      → length (a ∷ awards) ≡ length (cond b (t ∷ running) running)
      → cond b (with_due t (t.due + a) ∷ awarded game awards ts) (t ∷ awarded game (a ∷ awards) ts)
      ≡ cond b (with_due t (t.due + award_at t.number (map (line_of game) (cond b (t ∷ running) running)) (a ∷ awards))) t
      ∷ map (awarded_at game (map (line_of game) (cond b (t ∷ running) running)) (a ∷ awards)) ts
  awarded_first true k t ts running a awards row rest count =
      let lines : List Line = map (line_of game) running in
      let first : t.number ≡ k = row_head k t ts row in
      let others : map (awarded_at game lines awards) ts ≡ map (awarded_at game (line_of game t ∷ lines) (a ∷ awards)) ts =
      map_same (awarded_at game lines awards) (awarded_at game (line_of game t ∷ lines) (a ∷ awards)) ts
      (all_from {P = Within (k + 1) (k + 1 + length ts)}
      {Q = λ u. awarded_at game lines awards u ≡ awarded_at game (line_of game t ∷ lines) (a ∷ awards) u}
      (λ u within. ap (λ (cents : ℕ). cond (runs_in game u) (with_due u (u.due + cents)) u)
      (sym (award_later u.number (line_of game t) lines a awards (λ same. omega arith))))
      ts (row_within (k + 1) ts (row_rest k t ts row))) in
      let here : a ≡ award_at t.number (line_of game t ∷ lines) (a ∷ awards) = sym (award_here (line_of game t) lines a awards) in
      λ i. with_due t (t.due + here i) ∷ (rest awards (omega arith) ∙ others) i
  awarded_first false k t ts running a awards row rest count = ap (λ (us : List Ticket). t ∷ us) (rest (a ∷ awards) count)

  awarded_none : (b : Bool) (t : Ticket) (ts running : List Ticket)
      → ((some : List ℕ) → length some ≡ length running → Awarded some running ts)
      → length {A = ℕ} [] ≡ length (cond b (t ∷ running) running)
      → t ∷ awarded game [] ts
      ≡ cond b (with_due t (t.due + award_at t.number (map (line_of game) (cond b (t ∷ running) running)) [])) t
      ∷ map (awarded_at game (map (line_of game) (cond b (t ∷ running) running)) []) ts
  awarded_none true t ts running rest count = absurd (omega arith)
  awarded_none false t ts running rest count = ap (λ (us : List Ticket). t ∷ us) (rest [] count)

  pub awarded_by_number : (k : ℕ) (ts : List Ticket) → Row k ts
      → (awards : List ℕ)
      → length awards ≡ length (keep (runs_in game) ts)
      → awarded game awards ts ≡ map (awarded_at game (map (line_of game) (keep (runs_in game) ts)) awards) ts
  unfolding awarded keep
  awarded_by_number k [] row awards count = refl
  awarded_by_number k (t ∷ ts) row [] count =
      awarded_none (runs_in game t) t ts (keep (runs_in game) ts) (awarded_by_number (k + 1) ts (row_rest k t ts row)) count
  awarded_by_number k (t ∷ ts) row (a ∷ awards) count =
      awarded_first (runs_in game t) k t ts (keep (runs_in game) ts) a awards row (awarded_by_number (k + 1) ts (row_rest k t ts row)) count
