-- The till's sums over the live tickets, as sums over rows: what is owed and held reads no marks, an iterator over the places adds it up, and
-- what stands in the rows of a house that comes from a fresh one by commands fits.
use Prim.Native.Nat.{ℕ, zero, suc, ◌+◌, ◌-◌, ◌≤◌, ◌<◌, ◌^◌, min, max}
use mathlib.Core.Path.{◌≡◌, refl, sym, ap, ◌∙◌, subst, subst⁻¹}
use mathlib.Core.List.{List, [], ◌∷◌, ◌++◌, map, map-map, map-append}
use native.Mathlib.Nat.{zero-add, add-zero}
use native.Mathlib.Numerals.{add-one}
use native.Mathlib.Omega.{arith}
use lib.Dec.{ltb}
use Rattle.std.specs.List.{range_with_len, sum as sum_of}
use Rattle.std.proofs.lemmas.List.FromFn.{map-range_with_len_more}
use Rattle.sale.specs.Lists.{sum, below}
use Rattle.prizes.specs.Jackpots.{pooled}
use Rattle.prizes.proofs.MajorLaws.{sum_std}
use Rattle.house.specs.Tickets.{paid_stakes, held_for}
use Rattle.house.specs.Commands.{blank_ticket}
use Rattle.house.specs.Till.{till_of}
use Rattle.queries.specs.Shown.{shown_till}
use Rattle.house.specs.View.{row_at, ticket_in, PaidWithin, view}
use Rattle.house.specs.Parts.{ComesWith}
use Rattle.house.specs.declared.state.House.{House}
use Rattle.house.specs.declared.rows.Row.{Row}
use Rattle.queries.specs.declared.till.Till.{Till}
use Rattle.house.proofs.Ledger.{Kept}
use Rattle.house.proofs.ReachedHouses.{Sure, reached_sure}
use Rattle.house.proofs.MoneyLaws.{sum_snoc}
use Rattle.house.proofs.Bounded.{span_paid_within}
use Rattle.house.proofs.RisingNumbers.{all_at}
use Rattle.house.proofs.RowLists.{get_or_table}
use Rattle.house.proofs.ViewLaws.{live_count}

-- the values below n, added
abbrev pub total : (ℕ → ℕ) → ℕ → ℕ
total f n = sum (map f (below n))

pub total_none : (f : ℕ → ℕ) → total f 0 ≡ 0
unfolding below sum
total_none f = refl

pub total_more : (f : ℕ → ℕ) (n : ℕ) → total f (n + 1) ≡ total f n + f n
unfolding below
total_more f n = ap (total f) (add-one n) ∙ sum_snoc f (below n) n

total_grown : (f : ℕ → ℕ) (i k : ℕ) → total f i ≤ total f (i + k)
total_grown f i zero = omega (arith, ap (total f) (add-zero i))
total_grown f i (suc k) =
    let e : i + suc k ≡ i + k + 1 = omega arith in
    omega (arith, ap (total f) e, total_more f (i + k), total_grown f i k)

pub total_part : (f : ℕ → ℕ) (i n : ℕ) → i ≤ n → total f i ≤ total f n
total_part f i n h =
    let e : n ≡ i + (n - i) = omega arith in
    omega (arith, ap (total f) e, total_grown f i (n - i))

-- the numbers below n are a range's
below_range : (f : ℕ → ℕ) (n : ℕ) → map f (range_with_len 0 n) ≡ map f (below n)
unfolding below
below_range f zero = refl
below_range f (suc n) =
    ap (λ k. map f (range_with_len 0 k)) (sym (add-one n))
    ∙ map-range_with_len_more f 0 n n (zero-add n)
    ∙ ap (λ l. l ++ (f n ∷ [])) (below_range f n)
    ∙ sym (map-append f (below n) (n ∷ []))

-- so that what an iterator adds up over a range is the sum
pub range_total : (f : ℕ → ℕ) (n : ℕ) → sum_of (map f (range_with_len 0 n)) ≡ total f n
range_total f n = sym (sum_std (map f (range_with_len 0 n))) ∙ ap sum (below_range f n)

-- what is owed to the ticket of a row, and held for it
abbrev pub due_at : List ℕ → ℕ → ℕ
due_at words i = (row_at words i).due

abbrev pub held_at : ℕ → List ℕ → ℕ → ℕ
held_at game words i = held_for game (ticket_in words [] i)

-- the till of a house, given what is added up for it
abbrev till_with : House → ℕ → ℕ → ℕ → ℕ → Till
till_with h owed held pool retained =
    record {
      taken = h.counters.taken;
      seeds = h.counters.seeds;
      paid = h.counters.paid;
      refunded = h.counters.refunded;
      owed = owed;
      held = held;
      unclaimed = h.counters.unclaimed;
      pooled = pool;
      retained = retained;
      negative = ltb h.counters.gained h.counters.lost;
    }

module _ (h : House) (words marks : List ℕ) where
  pub owed_rows : (till_of (view h words marks)).owed ≡ total (due_at words) h.live
  unfolding till_of view
  owed_rows = ap sum (map-map (λ t. t.due) (ticket_in words marks) (below h.live))

  pub held_rows : (till_of (view h words marks)).held ≡ total (held_at h.game words) h.live
  unfolding till_of view paid_stakes
  held_rows = ap sum (map-map (held_for h.game) (ticket_in words marks) (below h.live))

  -- the other figures are the struct's own
  pub shown_till_lem : (owed held pool retained : ℕ)
      → owed ≡ (till_of (view h words marks)).owed
      → held ≡ (till_of (view h words marks)).held
      → pool ≡ pooled h.six + pooled h.eight
      → retained ≡ max h.counters.gained h.counters.lost - min h.counters.gained h.counters.lost
      → till_with h owed held pool retained ≡ shown_till (till_of (view h words marks))
  unfolding view till_of shown_till
  shown_till_lem owed held pool retained e f g k = λ x. till_with h (e x) (f x) (g x) (k x)

-- a house that comes from a fresh one by commands
module _ (h : House) (words : List ℕ) (comes : ComesWith h words) where
  pub comes_sure : Sure (view h words comes.marks)
  comes_sure = reached_sure (view h words comes.marks) comes.reached

  pub rows_few : h.live ≤ 200
  rows_few = omega (arith, comes_sure.few, live_count h words comes.marks)

  row_kept : (i : ℕ) → i < h.live → Kept (view h words comes.marks).game (ticket_in words comes.marks i)
  unfolding view
  row_kept i b =
      subst (Kept h.game) (get_or_table (ticket_in words comes.marks) h.live i blank_ticket b)
      (all_at (Kept h.game) (view h words comes.marks).live comes_sure.kept i blank_ticket (omega (arith, live_count h words comes.marks)))

  pub held_small : (i : ℕ) → i < h.live → (w : Row) → w ≡ row_at words i → PaidWithin (max w.first h.game) w.stop w
  unfolding view paid_stakes
  held_small i b w read =
      let t = ticket_in words comes.marks i in
      subst⁻¹ (λ (v : Row). PaidWithin (max v.first h.game) v.stop v) read
      (record { within = span_paid_within h.game (max t.first h.game) t.stop t (row_kept i b) (omega arith) })

  pub owed_fits : (i : ℕ) → i ≤ h.live → total (due_at words) i < 2 ^ 62
  owed_fits i b = omega (arith, total_part (due_at words) i h.live b, owed_rows h words comes.marks, comes_sure.fit.figures.owed)

  pub held_fits : (i : ℕ) → i ≤ h.live → total (held_at h.game words) i < 2 ^ 62
  held_fits i b = omega (arith, total_part (held_at h.game words) i h.live b, held_rows h words comes.marks, comes_sure.fit.figures.held)

  pub pooled_fits : pooled h.six + pooled h.eight < 2 ^ 62
  unfolding till_of view
  pooled_fits = comes_sure.fit.figures.pooled
