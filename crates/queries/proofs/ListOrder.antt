-- The live list's order, for every house that comes from a fresh one by commands: `live_list_in_order`. Its tickets stand in rising number, so
-- their numbers rise and each stands once; and of all lists with the same numbers only one rises (`one_rises`).
use Prim.Native.Nat.{ℕ, suc, ◌+◌, ◌<◌}
use mathlib.Core.Path.{◌≡◌, refl, sym, ap, ap₂, ◌∙◌}
use mathlib.Core.Logic.{⊎_elim}
use mathlib.Core.Bool.{Bool, true, false, cond, ◌||◌}
use mathlib.Core.List.{List, [], ◌∷◌, map}
use native.Mathlib.Omega.{arith}
use borrow.Author.Tests.{eqb-true, eq-eqb, ne_eqb}
use lib.Dec.{eqb}
use lib.ListN.{length, get_or, length-map}
use Rattle.sale.specs.Lists.{keep, any}
use Rattle.house.specs.Tickets.{Ticket}
use Rattle.house.specs.Model.{Model}
use Rattle.house.specs.Commands.{Command, blank_ticket, has_ticket}
use Rattle.house.specs.Balance.{run, Reached}
use Rattle.queries.specs.Listing.{live_numbers, Rises, InOrder, OneContent}
use Rattle.house.proofs.RisingNumbers.{Rising, rising_at}
use Rattle.house.proofs.ReachedHouses.{reached_sure}
use Rattle.house.proofs.RowLists.{get_or_map, equal_or_not, earlier_or_not}

-- ---- numbers that rise

-- how often a number stands in a list
abbrev times : ℕ → List ℕ → ℕ
times n ns = length (keep (λ k. eqb k n) ns)

abbrev one_if : Bool → ℕ
one_if test = cond test 1 0

times_more : (n k : ℕ) (ns : List ℕ) → times n (k ∷ ns) ≡ one_if (eqb k n) + times n ns
unfolding keep
times_more n k ns = go (eqb k n)
  where
    go : (test : Bool) → length (cond test (k ∷ keep (λ j. eqb j n) ns) (keep (λ j. eqb j n) ns)) ≡ one_if test + times n ns
    go true = omega arith
    go false = omega arith

times_own : (n : ℕ) (ns : List ℕ) → times n (n ∷ ns) ≡ 1 + times n ns
times_own n ns = omega (arith, times_more n n ns, ap one_if (eq-eqb n n refl))

-- a number below all of a list's stands nowhere in it
absent : (n : ℕ) (ns : List ℕ) → ((i : ℕ) → i < length ns → n < get_or ns i 0) → times n ns ≡ 0
unfolding keep
absent n [] over = refl
absent n (k ∷ ns) over =
    let other : (k ≡ n → ⊥) = λ e. omega (arith, over 0 (omega arith)) in
    omega (arith, times_more n k ns, ap one_if (ne_eqb k n other), absent n ns (λ i b. over (suc i) (omega arith)))

module _ (n : ℕ) (ns : List ℕ) (rises : Rises (n ∷ ns)) where
  rest_rises : Rises ns
  rest_rises i j l b = rises (suc i) (suc j) (omega arith) (omega arith)

  first_least : (i : ℕ) → i < length ns → n < get_or ns i 0
  first_least i b = rises 0 (suc i) (omega arith) (omega arith)

  absent_before : (k : ℕ) → k < n → times k (n ∷ ns) ≡ 0
  absent_before k h =
      omega (arith, times_more k n ns, ap one_if (ne_eqb n k (λ e. omega arith)), absent k ns (λ i b. omega (arith, first_least i b)))

one_rises : (ns ks : List ℕ) → Rises ns → Rises ks → ((n : ℕ) → times n ns ≡ times n ks) → ns ≡ ks
unfolding keep
one_rises [] [] up also same = refl
one_rises [] (k ∷ ks) up also same = absurd (omega (arith, same k, times_own k ks))
one_rises (n ∷ ns) [] up also same = absurd (omega (arith, same n, times_own n ns))
one_rises (n ∷ ns) (k ∷ ks) up also same =
    let first : n ≡ k =
    ⊎_elim
    (λ e. e)
    (λ e. ⊎_elim
    (λ l. absurd (omega (arith, same n, times_own n ns, absent_before k ks also n l)))
    (λ l. absurd (omega (arith, same k, times_own k ks, absent_before n ns up k (omega arith))))
    (earlier_or_not n k))
    (equal_or_not n k) in
    ap₂ ◌∷◌ first
    (one_rises ns ks (rest_rises n ns up) (rest_rises k ks also)
    (λ j. omega (arith, same j, times_more j n ns, times_more j k ks, ap (λ i. one_if (eqb i j)) first)))

rising_once : (n : ℕ) (ns : List ℕ) → Rises ns → times n ns ≡ one_if (any (λ k. eqb k n) ns)
unfolding keep any
rising_once n [] rises = refl
rising_once n (k ∷ ns) rises = go (eqb k n) refl (rising_once n ns (rest_rises k ns rises))
  where
    go :
        (test : Bool)
        → eqb k n ≡ test
        → times n ns ≡ one_if (any (λ j. eqb j n) ns)
        → length (cond test (k ∷ keep (λ j. eqb j n) ns) (keep (λ j. eqb j n) ns)) ≡ one_if (test || any (λ j. eqb j n) ns)
    go true e rest = ap suc (absent n ns (λ i b. omega (arith, eqb-true k n e, first_least k ns rises i b)))
    go false e rest = rest

-- ---- the live tickets' numbers

any_number : (n : ℕ) (ts : List Ticket) → any (λ k. eqb k n) (map (λ t. t.number) ts) ≡ has_ticket n ts
unfolding any
any_number n [] = refl
any_number n (t ∷ ts) = ap (λ rest. eqb t.number n || rest) (any_number n ts)

numbers_rise : (ts : List Ticket) → Rising ts → Rises (map (λ t. t.number) ts)
numbers_rise ts rising i j l b =
    let inside : j < length ts = omega (arith, length-map ts (λ t. t.number)) in
    omega (arith, get_or_map (λ t. t.number) ts i blank_ticket 0 (omega arith), get_or_map (λ t. t.number) ts j blank_ticket 0 inside, rising_at ts rising i j l inside)

in_order : (m : Model) → Rises (live_numbers m) → InOrder m (live_numbers m)
in_order m rises =
    record {
      rises = rises;
      once = λ n. rising_once n (live_numbers m) rises ∙ ap one_if (any_number n m.live);
    }

pub one_content : (m : Model) → Rises (live_numbers m) → OneContent m
one_content m rises =
    let ordered = in_order m rises in
    record {
      order = ordered;
      only = λ ns these. one_rises ns (live_numbers m) these.rises rises (λ n. these.once n ∙ sym (ordered.once n));
    }

pub reached_rises : (m : Model) → Reached m → Rises (live_numbers m)
reached_rises m reached = numbers_rise m.live (reached_sure m reached).rising

-- The theorem.
pub live_list_in_order : (cs : List Command) → OneContent (run cs).house
live_list_in_order cs = one_content (run cs).house (reached_rises (run cs).house (record { commands = cs; comes = refl }))
