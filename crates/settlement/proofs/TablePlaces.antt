-- Laws of tables: a table by its places, a ticket's part of the marks, the sum of its first figures, and a table whose first places hold figures spread over tickets.
use Prim.Native.Nat.{ℕ, zero, suc, ◌+◌, ◌*◌, ◌-◌, ◌≤◌, ◌<◌}
use mathlib.Core.Path.{◌≡◌, refl, sym, ap, ap₂, ◌∙◌}
use mathlib.Core.List.{List, [], ◌∷◌, ◌++◌, map, map-append}
use native.Mathlib.Numerals.{add-one}
use native.Mathlib.Omega.{arith}
use lib.ListN.{length, get_or, take, drop}
use lib.Seq.{ext_get_or, get_or-take, length-take-le}
use Rattle.sale.specs.Lists.{sum, below, keep}
use Rattle.house.specs.Tickets.{Ticket, runs_in}
use Rattle.house.specs.View.{marks_at}
use Rattle.settlement.specs.Settling.{spread}
use Rattle.house.proofs.RowLists.{length_table, get_or_table}
use Rattle.settlement.proofs.SpreadLaws.{sum_spread}

-- ---- tables by place

module _ {A : Type 0} where
  pub table_more : (f : ℕ → A) (n : ℕ) → map f (below (n + 1)) ≡ map f (below n) ++ (f n ∷ [])
  unfolding below
  table_more f n = ap (λ k. map f (below k)) (add-one n) ∙ map-append f (below n) (n ∷ [])

  pub tables_alike : (f g : ℕ → A) (n : ℕ) → ((i : ℕ) → i < n → f i ≡ g i) → map f (below n) ≡ map g (below n)
  unfolding below
  tables_alike f g zero same = refl
  tables_alike f g (suc n) same =
      map-append f (below n) (n ∷ [])
      ∙ ap₂ (λ xs x. xs ++ (x ∷ [])) (tables_alike f g n (λ i b. same i (omega arith))) (same n (omega arith))
      ∙ sym (map-append g (below n) (n ∷ []))

pub table_of : (l : List ℕ) (n : ℕ) → n ≤ length l → map (λ i. get_or l i 0) (below n) ≡ take n l
table_of l n h =
    let long : length (map (λ i. get_or l i 0) (below n)) ≡ n = length_table (λ i. get_or l i 0) n in
    ext_get_or 0 (map (λ i. get_or l i 0) (below n)) (take n l)
    (omega (arith, length-take-le n l h))
    (λ i b.
    let small : i < n = omega arith in
    get_or_table (λ i. get_or l i 0) n i 0 small ∙ sym (get_or-take n l i 0 small))

-- the part of all marks that is lent as those of the ticket at a place
pub marks_part : (marks : List ℕ) (i : ℕ) → take (i * 80 + 80 - i * 80) (drop (i * 80) marks) ≡ marks_at marks i
unfolding marks_at
marks_part marks i =
    let eighty : i * 80 + 80 - i * 80 ≡ 80 = omega arith in
    ap (λ n. take n (drop (i * 80) marks)) eighty

-- ---- sums of a table's first figures

pub place_within : (l : List ℕ) (i : ℕ) → get_or l i 0 ≤ sum l
unfolding sum
place_within [] i = omega arith
place_within (x ∷ xs) zero = omega arith
place_within (x ∷ xs) (suc i) = omega (arith, place_within xs i)

-- a table of spread figures
module _ (game : ℕ) (table figures : List ℕ) (ts : List Ticket) (held : table ≡ spread game figures ts) (count : length figures ≡ length (keep (runs_in game) ts)) where
  pub spread_total : sum table ≡ sum figures
  spread_total = ap sum held ∙ sum_spread game figures ts count

  pub spread_within : (i : ℕ) → i < length ts → get_or table i 0 ≤ sum figures
  spread_within i b = omega (arith, place_within table i, spread_total)
