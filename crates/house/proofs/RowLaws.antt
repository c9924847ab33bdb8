-- The lent buffers as lists of tickets: what a row or a ticket's marks written to a buffer make of the list, and what a number, a change and a
-- removal are in it. A row and its marks are runs of stores, so each law reads them back by index.
use Prim.Native.Nat.{ℕ, zero, suc, ◌+◌, ◌-◌, ◌*◌, ◌/◌, ◌≤◌, ◌<◌, suc-le-suc}
use mathlib.Core.Path.{◌≡◌, refl, sym, ap, ap₂, ◌∙◌, subst, subst⁻¹}
use mathlib.Core.Logic.{⊎_elim}
use mathlib.Core.Bool.{Bool, true, false, cond, ◌||◌}
use mathlib.Core.List.{List, [], ◌∷◌, ◌++◌, map, append_assoc}
use native.Mathlib.Nat.{add-zero, zero-add, not-suc-le-zero, le_of_suc-le-suc}
use native.Mathlib.Numerals.{add-one}
use native.Mathlib.Omega.{arith}
use borrow.Author.Tests.{tests, lt-ltb, eq-eqb, ne_eqb, eqb-true}
use lib.Dec.{lit<, eqb, ltb, leb-suc-suc}
use lib.ListN.{length, get_or, set, take, drop, length-set, length-map, length-take, length-drop}
use lib.Seq.{sets, sets-eq, length-sets, set-set, get_or-set_same, get_or-set_other, get_or-take, get_or-drop, ext_get_or, take-set-lt, take-suc-set, length-take-le, take_at, drop_at, set_split}
use Rattle.std.specs.List.{HoldsAt}
use Rattle.std.specs.List.Sorted.{IsNonDecreasingBy, IsPartitionPoint, IsSearchInRange, IsBinarySearchResult}
use Rattle.std.specs.Ordering.{nat_cmp, ordering_index}
use Rattle.std.proofs.lemmas.Cmp.{ranked}
use Rattle.std.specs.declared.cmp.Ordering.TheVariants.{Less, Equal, Greater}
use Rattle.std.specs.Simd.{first_chunks}
use Rattle.std.proofs.lemmas.Map.Lookups.{exact_unsigned}
use Rattle.sale.specs.Lists.{keep, any}
use Rattle.sale.specs.Checks.{has_feature, feature_stake}
use Rattle.std.specs.Prelude.{Option, None, Some, IfSome, IfNone, Result, Ok, Err}
use Rattle.std.specs.Result.{result_ok}
use Rattle.house.specs.Tickets.{Ticket, is_live}
use Rattle.house.specs.Commands.{blank_ticket, ticket_at, has_ticket, changed, still_live}
use Rattle.house.specs.View.{row_of, words_of, put_row, marks_at, put_marks, feature_from, ticket_from, ticket_in, tickets_of, place_of, RisingRows, without}
use Rattle.house.specs.declared.rows.Row.{Row}
use Rattle.house.proofs.Ledger.{All}
use Rattle.house.proofs.RowLists.{get_or_sets_before, get_or_sets_after, get_or_sets_at, length_table, get_or_table, get_or_map, equal_or_not, earlier_or_not, length_without, without_before, without_behind, length_chunks, chunk_at, ClosedUp}

-- ---- the tickets of two buffers

module _ (words marks : List ℕ) where
  pub tickets_length : length (tickets_of words marks) ≡ 200
  unfolding tickets_of
  tickets_length = length_table (ticket_in words marks) 200

  pub tickets_at : (i : ℕ) → i < 200 → get_or (tickets_of words marks) i blank_ticket ≡ ticket_in words marks i
  unfolding tickets_of
  tickets_at i h = get_or_table (ticket_in words marks) 200 i blank_ticket h

-- two pairs of buffers have the same tickets but for one
tickets_set : (words marks words' marks' : List ℕ) (i : ℕ) (t : Ticket) → i < 200 → ticket_in words' marks' i ≡ t
    → ((j : ℕ) → j < 200 → (j ≡ i → ⊥) → ticket_in words' marks' j ≡ ticket_in words marks j)
    → tickets_of words' marks' ≡ set (tickets_of words marks) i t
tickets_set words marks words' marks' i t h e others =
    let long : length (tickets_of words marks) ≡ 200 = tickets_length words marks in
    let long' : length (tickets_of words' marks') ≡ 200 = tickets_length words' marks' in
    let same : (j : ℕ) → j ≡ i → get_or (tickets_of words' marks') j blank_ticket ≡ get_or (set (tickets_of words marks) i t) j blank_ticket =
    λ j p. subst⁻¹ (λ j. get_or (tickets_of words' marks') j blank_ticket ≡ get_or (set (tickets_of words marks) i t) j blank_ticket) p
    (tickets_at words' marks' i h ∙ e ∙ sym (get_or-set_same (tickets_of words marks) i t blank_ticket (omega arith))) in
    let other : (j : ℕ) → j < 200 → (j ≡ i → ⊥) → get_or (tickets_of words' marks') j blank_ticket ≡ get_or (set (tickets_of words marks) i t) j blank_ticket =
    λ j b n. tickets_at words' marks' j b ∙ others j b n ∙ sym (tickets_at words marks j b) ∙ sym (get_or-set_other (tickets_of words marks) i j t blank_ticket n) in
    ext_get_or blank_ticket (tickets_of words' marks') (set (tickets_of words marks) i t)
    (simp length-set (omega arith))
    (λ j b. ⊎_elim (same j) (other j (omega arith)) (equal_or_not j i))

-- ---- a row's feature word

-- the word is the feature's stake, and 0 is that of none
pub row_feature : (stake : ℕ) → feature_stake (feature_from stake) ≡ stake
row_feature stake = go (eqb stake 0) refl
  where
    go : (none : Bool) → eqb stake 0 ≡ none → feature_stake (cond none None (Some stake)) ≡ stake
    go true same = sym (eqb-true stake 0 same)
    go false other = refl

-- and a feature that is entered with a stake is read back from it
pub feature_kept : (f : Option ℕ) → (has_feature f ≡ true → feature_stake f ≡ 0 → ⊥) → feature_from (feature_stake f) ≡ f
feature_kept None staked = refl
feature_kept (Some stake) staked = rw (ne_eqb stake 0 (staked refl))

-- ---- a row written to its place

-- rows that agree word by word
row_from : (words words' : List ℕ) (at at' : ℕ) → ((k : ℕ) → k < 16 → get_or words (at + k) 0 ≡ get_or words' (at' + k) 0)
    → row_of words at ≡ row_of words' at'
row_from words words' at at' same =
    let first : get_or words at 0 ≡ get_or words' at' 0 =
    ap (λ n. get_or words n 0) (sym (add-zero at)) ∙ same 0 (lit< tt) ∙ ap (λ n. get_or words' n 0) (add-zero at') in
    λ x.
    record {
      number = first x;
      kind = same 1 (lit< tt) x;
      games = same 2 (lit< tt) x;
      stake = same 3 (lit< tt) x;
      groups = same 4 (lit< tt) x;
      types = same 5 (lit< tt) x;
      ways = same 6 (lit< tt) x;
      jackpot = same 7 (lit< tt) x;
      sold = same 8 (lit< tt) x;
      first = same 9 (lit< tt) x;
      stop = same 10 (lit< tt) x;
      free = same 11 (lit< tt) x;
      due = same 12 (lit< tt) x;
      finished = same 13 (lit< tt) x;
      sizes = same 14 (lit< tt) x;
      feature = same 15 (lit< tt) x;
    }

module _ (words : List ℕ) (long : length words ≡ 3200) (i : ℕ) (h : i < 200) where
  row_of_sets : (vs : List ℕ) → length vs ≡ 16 → row_of (sets words (i * 16) vs) (i * 16) ≡ row_of vs 0
  row_of_sets vs e =
      row_from (sets words (i * 16) vs) vs (i * 16) 0
      (λ k b. get_or_sets_at vs words (i * 16) k 0 (omega arith) (omega arith) ∙ ap (λ n. get_or vs n 0) (sym (zero-add k)))

  row_beside_sets : (vs : List ℕ) → length vs ≡ 16 → (j : ℕ) → (j ≡ i → ⊥)
      → row_of (sets words (i * 16) vs) (j * 16) ≡ row_of words (j * 16)
  row_beside_sets vs e j n =
      row_from (sets words (i * 16) vs) words (j * 16) (j * 16)
      (λ k b. ⊎_elim
      (λ l. get_or_sets_before vs words (i * 16) (j * 16 + k) 0 (omega arith))
      (λ l. get_or_sets_after vs words (i * 16) (j * 16 + k) 0 (omega arith))
      (earlier_or_not j i))

  module _ (w : Row) where
    pub row_of_put : row_of (put_row words (i * 16) w) (i * 16) ≡ w
    unfolding put_row
    row_of_put = row_of_sets (words_of w) refl

    pub row_beside_put : (j : ℕ) → (j ≡ i → ⊥) → row_of (put_row words (i * 16) w) (j * 16) ≡ row_of words (j * 16)
    unfolding put_row
    row_beside_put j n = row_beside_sets (words_of w) refl j n

    pub tickets_put_row : (marks : List ℕ)
        → tickets_of (put_row words (i * 16) w) marks ≡ set (tickets_of words marks) i (ticket_from w (marks_at marks i))
    tickets_put_row marks =
        tickets_set words marks (put_row words (i * 16) w) marks i (ticket_from w (marks_at marks i)) h
        (ap (λ r. ticket_from r (marks_at marks i)) row_of_put)
        (λ j _ n. ap (λ r. ticket_from r (marks_at marks j)) (row_beside_put j n))

-- ---- a row read at its place

-- the chunks of 16 words are the rows
module _ (words : List ℕ) (long : length words ≡ 3200) (chunks : List (List ℕ)) (front : chunks ≡ first_chunks 16 (length words / 16) words) where
  all_chunks : chunks ≡ first_chunks 16 200 words
  all_chunks = front ∙ ap (λ n. first_chunks 16 (n / 16) words) long

  live_rows : (live : ℕ) → live ≤ 200 → length (take live chunks) ≡ live
  live_rows live few =
      length-take-le live chunks (omega (arith, ap length all_chunks, length_chunks 16 200 words))

  word_at : (i : ℕ) → i < 200 → (d : List ℕ) (k : ℕ) → k < 16 → get_or (get_or chunks i d) k 0 ≡ get_or words (i * 16 + k) 0
  word_at i h d k b =
      ap (λ l. get_or (get_or l i d) k 0) all_chunks
      ∙ ap (λ l. get_or l k 0) (chunk_at 16 200 i words d h)
      ∙ get_or-take 16 (drop (i * 16) words) k 0 b
      ∙ get_or-drop (i * 16) words k 0

  pub row_read : (i : ℕ) → i < 200 → row_of (get_or chunks i []) 0 ≡ row_of words (i * 16)
  row_read i h = row_from (get_or chunks i []) words 0 (i * 16) (λ k b. ap (λ n. get_or (get_or chunks i []) n 0) (zero-add k) ∙ word_at i h [] k b)

-- ---- a ticket's marks written to their place

module _ (marks : List ℕ) (long : length marks ≡ 16000) (i : ℕ) (h : i < 200) (these : List ℕ) (eighty : length these ≡ 80) where
  pub put_marks_sets : sets marks (i * 80) these ≡ put_marks marks i these
  unfolding put_marks
  put_marks_sets =
      sets-eq these marks (i * 80) (omega arith) ∙ ap (λ n. take (i * 80) marks ++ these ++ drop (i * 80 + n) marks) eighty

  pub marks_at_put : marks_at (put_marks marks i these) i ≡ these
  unfolding put_marks marks_at
  marks_at_put =
      ap (λ l. take 80 (drop (i * 80) l)) (append_assoc (take (i * 80) marks) these (drop (i * 80 + 80) marks))
      ∙ ap (take 80) (drop_at (take (i * 80) marks) (these ++ drop (i * 80 + 80) marks) (i * 80) (length-take-le (i * 80) marks (omega arith)))
      ∙ take_at these (drop (i * 80 + 80) marks) 80 eighty

  pub marks_beside_put : (j : ℕ) → (j ≡ i → ⊥) → marks_at (put_marks marks i these) j ≡ marks_at marks j
  unfolding marks_at
  marks_beside_put j n =
      ap (λ l. take 80 (drop (j * 80) l)) (sym put_marks_sets)
      ∙ ext_get_or 0 (take 80 (drop (j * 80) (sets marks (i * 80) these))) (take 80 (drop (j * 80) marks))
      (simp (length-take, length-drop, length-sets))
      (λ k b.
      let small : k < 80 = omega (arith, simp length-take at b) in
      get_or-take 80 (drop (j * 80) (sets marks (i * 80) these)) k 0 small
      ∙ get_or-drop (j * 80) (sets marks (i * 80) these) k 0
      ∙ ⊎_elim
      (λ l. get_or_sets_before these marks (i * 80) (j * 80 + k) 0 (omega arith))
      (λ l. get_or_sets_after these marks (i * 80) (j * 80 + k) 0 (omega arith))
      (earlier_or_not j i)
      ∙ sym (get_or-drop (j * 80) marks k 0)
      ∙ sym (get_or-take 80 (drop (j * 80) marks) k 0 small))

  pub tickets_put_marks : (words : List ℕ)
      → tickets_of words (put_marks marks i these) ≡ set (tickets_of words marks) i (ticket_from (row_of words (i * 16)) these)
  tickets_put_marks words =
      tickets_set words marks words (put_marks marks i these) i (ticket_from (row_of words (i * 16)) these) h
      (ap (ticket_from (row_of words (i * 16))) marks_at_put)
      (λ j _ n. ap (ticket_from (row_of words (j * 16))) (marks_beside_put j n))

-- both at once
pub tickets_put : (words marks : List ℕ) → length words ≡ 3200 → length marks ≡ 16000 → (i : ℕ) → i < 200 → (w : Row) (these : List ℕ) → length these ≡ 80
    → tickets_of (put_row words (i * 16) w) (put_marks marks i these) ≡ set (tickets_of words marks) i (ticket_from w these)
tickets_put words marks long long' i h w these eighty =
    tickets_put_marks marks long' i h these eighty (put_row words (i * 16) w)
    ∙ ap (λ r. set (tickets_of (put_row words (i * 16) w) marks) i (ticket_from r these)) (row_of_put words long i h w)
    ∙ ap (λ ts. set ts i (ticket_from w these)) (tickets_put_row words long i h w marks)
    ∙ set-set (tickets_of words marks) i (ticket_from w (marks_at marks i)) (ticket_from w these)

pub length_marks_at : (marks : List ℕ) → length marks ≡ 16000 → (i : ℕ) → i < 200 → length (marks_at marks i) ≡ 80
unfolding marks_at
length_marks_at marks long i h = length-take-le 80 (drop (i * 80) marks) (simp length-drop (omega arith))

mark_at : (marks : List ℕ) (i k : ℕ) → k < 80 → get_or marks (i * 80 + k) 0 ≡ get_or (marks_at marks i) k 0
unfolding marks_at
mark_at marks i k b = sym (get_or-drop (i * 80) marks k 0) ∙ sym (get_or-take 80 (drop (i * 80) marks) k 0 b)

-- ---- a number among tickets

module _ (n : ℕ) where
  -- the first place with the number
  pub place_is : (ts : List Ticket) (p : ℕ) → p < length ts → (get_or ts p blank_ticket).number ≡ n
      → ((j : ℕ) → j < p → (get_or ts j blank_ticket).number ≡ n → ⊥) → place_of n ts ≡ p
  unfolding place_of
  place_is [] p h e none = absurd (not-suc-le-zero h)
  place_is (t ∷ ts) zero h e none = rw (eq-eqb t.number n e)
  place_is (t ∷ ts) (suc p) h e none =
      rw (ne_eqb t.number n (none 0 (omega arith)))
      (ap suc (place_is ts p (le_of_suc-le-suc h) e (λ j b. none (suc j) (suc-le-suc b))))

  -- where no ticket has it
  pub place_none : (ts : List Ticket) → ((j : ℕ) → j < length ts → (get_or ts j blank_ticket).number ≡ n → ⊥) → place_of n ts ≡ length ts
  unfolding place_of
  place_none [] none = refl
  place_none (t ∷ ts) none =
      rw (ne_eqb t.number n (none 0 (omega arith))) (ap suc (place_none ts (λ j b. none (suc j) (suc-le-suc b))))

  has_by : (t : Ticket) (ts : List Ticket) (test : Bool) → any (λ t. eqb t.number n) ts ≡ ltb (place_of n ts) (length ts)
      → (test || any (λ t. eqb t.number n) ts) ≡ ltb (cond test 0 (suc (place_of n ts))) (suc (length ts))
  has_by t ts true e = sym (lt-ltb 0 (suc (length ts)) (omega arith))
  has_by t ts false e = e ∙ sym (leb-suc-suc (suc (place_of n ts)) (length ts))

  pub place_has : (ts : List Ticket) → has_ticket n ts ≡ ltb (place_of n ts) (length ts)
  unfolding place_of any
  place_has [] = refl
  place_has (t ∷ ts) = has_by t ts (eqb t.number n) (place_has ts)

  at_by : (t : Ticket) (ts : List Ticket) (test : Bool) → ticket_at n ts ≡ get_or ts (place_of n ts) blank_ticket
      → cond test t (ticket_at n ts) ≡ get_or (t ∷ ts) (cond test 0 (suc (place_of n ts))) blank_ticket
  at_by t ts true e = refl
  at_by t ts false e = e

  pub place_ticket : (ts : List Ticket) → ticket_at n ts ≡ get_or ts (place_of n ts) blank_ticket
  unfolding place_of ticket_at
  place_ticket [] = refl
  place_ticket (t ∷ ts) = at_by t ts (eqb t.number n) (place_ticket ts)

  number_by : (t : Ticket) (ts : List Ticket) (test : Bool) → eqb t.number n ≡ test → (place_of n ts < length ts → (get_or ts (place_of n ts) blank_ticket).number ≡ n)
      → cond test 0 (suc (place_of n ts)) < suc (length ts) → (get_or (t ∷ ts) (cond test 0 (suc (place_of n ts))) blank_ticket).number ≡ n
  number_by t ts true e later h = eqb-true t.number n e
  number_by t ts false e later h = later (le_of_suc-le-suc h)

  -- the ticket at the place has the number
  pub place_number : (ts : List Ticket) → place_of n ts < length ts → (get_or ts (place_of n ts) blank_ticket).number ≡ n
  unfolding place_of
  place_number [] h = absurd (not-suc-le-zero h)
  place_number (t ∷ ts) h = number_by t ts (eqb t.number n) refl (place_number ts) h

-- the same among the rows of the live tickets
module _ (words marks : List ℕ) (live : ℕ) (h : live ≤ 200) where
  pub live_at : (i : ℕ) → i < live → get_or (take live (tickets_of words marks)) i blank_ticket ≡ ticket_in words marks i
  live_at i b = get_or-take live (tickets_of words marks) i blank_ticket b ∙ tickets_at words marks i (omega arith)

  pub live_length : length (take live (tickets_of words marks)) ≡ live
  live_length = length-take-le live (tickets_of words marks) (omega (arith, tickets_length words marks))

  module _ (n : ℕ) where
    pub place_of_row : (i : ℕ) → i < live → get_or words (i * 16) 0 ≡ n → ((k : ℕ) → k < i → get_or words (k * 16) 0 ≡ n → ⊥)
        → place_of n (take live (tickets_of words marks)) ≡ i
    place_of_row i b e none =
        place_is n (take live (tickets_of words marks)) i (omega (arith, live_length))
        (ap (λ t. t.number) (live_at i b) ∙ e)
        (λ j l q. none j l (ap (λ t. t.number) (sym (live_at j (omega arith))) ∙ q))

    pub place_of_none : ((k : ℕ) → k < live → get_or words (k * 16) 0 ≡ n → ⊥) → place_of n (take live (tickets_of words marks)) ≡ live
    place_of_none none =
        place_none n (take live (tickets_of words marks))
        (λ j l q. none j (omega (arith, live_length)) (ap (λ t. t.number) (sym (live_at j (omega (arith, live_length)))) ∙ q))
        ∙ live_length

-- what a binary search by number answers, among live rows whose numbers rise
module _ (words : List ℕ) (long : length words ≡ 3200) (chunks : List (List ℕ)) (front : chunks ≡ first_chunks 16 (length words / 16) words) (live n : ℕ) (rising : RisingRows words live) where
  pub rows_live : length (take live chunks) ≡ live
  rows_live = live_rows words long chunks front live rising.few

  number_at : (k : ℕ) (d : List ℕ) → k < live → get_or (get_or (take live chunks) k d) 0 0 ≡ get_or words (k * 16) 0
  number_at k d b =
      ap (λ row. get_or row 0 0) (get_or-take live chunks k d b)
      ∙ word_at words long chunks front k (omega (arith, rising.few)) d 0 (lit< tt)
      ∙ ap (λ j. get_or words j 0) (add-zero (k * 16))

  found_row : (marks : List ℕ) (place : ℕ) → place < length (take live chunks)
      → HoldsAt (λ row. nat_cmp (get_or row 0 0) n ≡ Equal) (take live chunks) place
      → place ≡ place_of n (take live (tickets_of words marks))
  found_row marks place h same =
      let inside : place < live = omega (arith, rows_live) in
      let number : get_or words (place * 16) 0 ≡ n = sym (number_at place [] inside) ∙ exact_unsigned _ _ (same []) in
      sym (place_of_row words marks live rising.few n place inside number (λ k b e. omega (arith, rising.rising k place b inside)))

  number_rises : (a b : ℕ) (d : List ℕ) → a ≤ b → b < live → get_or (get_or (take live chunks) a d) 0 0 ≤ get_or (get_or (take live chunks) b d) 0 0
  number_rises a b d le lt =
      ⊎_elim
      (λ same. omega (arith, ap (λ k. get_or (get_or (take live chunks) k d) 0 0) same))
      (λ other. omega (arith, number_at a d (omega arith), number_at b d lt, rising.rising a b (omega arith) lt))
      (equal_or_not a b)

  order_rises : (a b : ℕ) → a ≤ b → ordering_index (nat_cmp a n) ≤ ordering_index (nat_cmp b n)
  order_rises a b le = grind (arith, tests)

  missed_row : (marks : List ℕ) (place : ℕ)
      → (IsNonDecreasingBy (λ row. ordering_index (nat_cmp (get_or row 0 0) n)) (take live chunks)
      → IsPartitionPoint (λ row. nat_cmp (get_or row 0 0) n ≡ Less) (λ row. nat_cmp (get_or row 0 0) n ≡ Greater) (take live chunks) place)
      → live ≡ place_of n (take live (tickets_of words marks))
  missed_row marks place parted =
      let sides = parted (λ a b d le lt. order_rises (get_or (get_or (take live chunks) a d) 0 0) (get_or (get_or (take live chunks) b d) 0 0) (number_rises a b d le (omega (arith, rows_live)))) in
      sym (place_of_none words marks live rising.few n
      (λ k b e. ⊎_elim
      (λ early. omega (arith, number_at k [] b, ranked (get_or (get_or (take live chunks) k []) 0 0) n Less (sym (sides.0 k [] (omega arith) early))))
      (λ late. omega (arith, number_at k [] b, ranked (get_or (get_or (take live chunks) k []) 0 0) n Greater (sym (sides.1 k [] late (omega (arith, rows_live))))))
      (earlier_or_not k place)))

  module _ (marks : List ℕ) where
    pub place_found :
        (r : Result ℕ ℕ) (found : Option ℕ)
        → found ≡ result_ok r
        → IsSearchInRange r (length (take live chunks))
        → IsBinarySearchResult (λ row. nat_cmp (get_or row 0 0) n) (take live chunks) r
        → IfSome found (λ place. (place ≡ place_of n (take live (tickets_of words marks))) × (place < live))
    place_found (Ok place) found told inside same = rw told (found_row marks place inside same, omega (arith, rows_live))
    place_found (Err place) found told inside parted = rw told tt

    pub place_missed :
        (r : Result ℕ ℕ) (found : Option ℕ)
        → found ≡ result_ok r
        → IsBinarySearchResult (λ row. nat_cmp (get_or row 0 0) n) (take live chunks) r
        → IfNone found (place_of n (take live (tickets_of words marks)) ≡ live)
    place_missed (Ok place) found told same = rw told tt
    place_missed (Err place) found told parted = rw told (sym (missed_row marks place parted))

-- a change to the ticket of a number, where no other has it
pub changed_at : (n : ℕ) (f : Ticket → Ticket) (ts : List Ticket) (p : ℕ) → place_of n ts ≡ p → p < length ts
    → ((j : ℕ) → j < length ts → (get_or ts j blank_ticket).number ≡ n → j ≡ p)
    → changed n f ts ≡ set ts p (f (get_or ts p blank_ticket))
unfolding changed
changed_at n f ts p e h only =
    let change : Ticket → Ticket = λ t. cond (eqb t.number n) (f t) t in
    let numbered : (get_or ts p blank_ticket).number ≡ n =
    subst (λ q. q < length ts → (get_or ts q blank_ticket).number ≡ n) e (place_number n ts) h in
    let same : (j : ℕ) → j ≡ p → get_or (map change ts) j blank_ticket ≡ get_or (set ts p (f (get_or ts p blank_ticket))) j blank_ticket =
    λ j q. subst⁻¹ (λ j. get_or (map change ts) j blank_ticket ≡ get_or (set ts p (f (get_or ts p blank_ticket))) j blank_ticket) q
    (get_or_map change ts p blank_ticket blank_ticket h
    ∙ ap (λ b. cond b (f (get_or ts p blank_ticket)) (get_or ts p blank_ticket)) (eq-eqb (get_or ts p blank_ticket).number n numbered)
    ∙ sym (get_or-set_same ts p (f (get_or ts p blank_ticket)) blank_ticket h)) in
    let other : (j : ℕ) → j < length ts → (j ≡ p → ⊥) → get_or (map change ts) j blank_ticket ≡ get_or (set ts p (f (get_or ts p blank_ticket))) j blank_ticket =
    λ j b q. get_or_map change ts j blank_ticket blank_ticket b
    ∙ ap (λ b. cond b (f (get_or ts j blank_ticket)) (get_or ts j blank_ticket)) (ne_eqb (get_or ts j blank_ticket).number n (λ r. q (only j b r)))
    ∙ sym (get_or-set_other ts p j (f (get_or ts p blank_ticket)) blank_ticket q) in
    ext_get_or blank_ticket (map change ts) (set ts p (f (get_or ts p blank_ticket)))
    (length-map ts change ∙ sym (length-set ts p (f (get_or ts p blank_ticket))))
    (λ j b. ⊎_elim (same j) (other j (subst (λ k. j < k) (length-map ts change) b)) (equal_or_not j p))

-- ---- live tickets

module _ {A : Type 0} (f : A → Bool) where
  keep_all : (xs : List A) → All (λ x. f x ≡ true) xs → keep f xs ≡ xs
  unfolding keep
  keep_all [] all = refl
  keep_all (x ∷ xs) (e, all) = rw e (ap (λ ys. x ∷ ys) (keep_all xs all))

  keep_set : (xs : List A) (p : ℕ) (x : A) → p < length xs → All (λ x. f x ≡ true) xs
      → keep f (set xs p x) ≡ take p xs ++ cond (f x) (x ∷ drop (suc p) xs) (drop (suc p) xs)
  unfolding keep
  keep_set [] p x h all = absurd (not-suc-le-zero h)
  keep_set (y ∷ ys) zero x h (e, all) = rw (keep_all ys all)
  keep_set (y ∷ ys) (suc p) x h (e, all) = rw e (ap (λ zs. y ∷ zs) (keep_set ys p x (le_of_suc-le-suc h) all))

module _ (g : ℕ) where
  all_by : (t : Ticket) (ts : List Ticket) (test : Bool) → is_live g t ≡ test → All (λ t. is_live g t ≡ true) ts → All (λ t. is_live g t ≡ true) (cond test (t ∷ ts) ts)
  all_by t ts true e all = (e, all)
  all_by t ts false e all = all

  pub still_live_all : (ts : List Ticket) → All (λ t. is_live g t ≡ true) (still_live g ts)
  unfolding still_live keep
  still_live_all [] = tt
  still_live_all (t ∷ ts) = all_by t (keep (is_live g) ts) (is_live g t) refl (still_live_all ts)

module _ (g : ℕ) (ts : List Ticket) (all : All (λ t. is_live g t ≡ true) ts) (p : ℕ) (h : p < length ts) (t : Ticket) where
  -- a ticket that is live in the place of another
  pub still_live_set : is_live g t ≡ true → still_live g (set ts p t) ≡ set ts p t
  unfolding still_live
  still_live_set e =
      keep_set (is_live g) ts p t h all
      ∙ ap (λ b. take p ts ++ cond b (t ∷ drop (suc p) ts) (drop (suc p) ts)) e
      ∙ sym (set_split ts p t h)

  -- and one that is not
  pub still_live_without : is_live g t ≡ false → still_live g (set ts p t) ≡ without p ts
  unfolding still_live without
  still_live_without e =
      keep_set (is_live g) ts p t h all ∙ ap (λ b. take p ts ++ cond b (t ∷ drop (suc p) ts) (drop (suc p) ts)) e

-- ---- the first tickets of the buffers

pub take_set : (n : ℕ) (ts : List Ticket) (i : ℕ) (t : Ticket) → i < n → take n (set ts i t) ≡ set (take n ts) i t
take_set n ts i t h = take-set-lt n ts i t h

-- a sale
pub take_sold : (n : ℕ) (ts : List Ticket) (t : Ticket) → n < length ts → take (n + 1) (set ts n t) ≡ take n ts ++ (t ∷ [])
take_sold n ts t h = ap (λ k. take k (set ts n t)) (add-one n) ∙ take-suc-set ts n t h

-- ---- a removal: the rows and the marks of the tickets after a place move down, each in one block

-- tickets that agree word by word and mark by mark
ticket_from_lem : (words marks words' marks' : List ℕ) → length marks ≡ 16000 → length marks' ≡ 16000 → (j j' : ℕ) → j < 200 → j' < 200
    → ((k : ℕ) → k < 16 → get_or words (j * 16 + k) 0 ≡ get_or words' (j' * 16 + k) 0)
    → ((k : ℕ) → k < 80 → get_or marks (j * 80 + k) 0 ≡ get_or marks' (j' * 80 + k) 0)
    → ticket_in words marks j ≡ ticket_in words' marks' j'
ticket_from_lem words marks words' marks' long long' j j' h h' same same' =
    let eighty : length (marks_at marks j) ≡ 80 = length_marks_at marks long j h in
    let eighty' : length (marks_at marks' j') ≡ 80 = length_marks_at marks' long' j' h' in
    ap₂ ticket_from
    (row_from words words' (j * 16) (j' * 16) same)
    (ext_get_or 0 (marks_at marks j) (marks_at marks' j') (omega arith)
    (λ k b.
    let small : k < 80 = omega arith in
    sym (mark_at marks j k small) ∙ same' k small ∙ mark_at marks' j' k small))

-- a ticket in the place of another below it, after its row and its marks have moved there
pub tickets_moved : (words words' marks marks' : List ℕ) → length marks ≡ 16000 → (source to : ℕ) → source < 200 → to ≤ source
    → ClosedUp ((source - to) * 16) (to * 16) (source * 16 + 16) words words' → ClosedUp ((source - to) * 80) (to * 80) (source * 80 + 80) marks marks'
    → tickets_of words' marks' ≡ set (tickets_of words marks) to (get_or (tickets_of words marks) source blank_ticket)
tickets_moved words words' marks marks' long source to h down rows own =
    let long' : length marks' ≡ 16000 = own.long ∙ long in
    tickets_set words marks words' marks' to (ticket_in words marks source) (omega arith)
    (ticket_from_lem words' marks' words marks long' long to source (omega arith) h
    (λ k b.
    let from : to * 16 + k + (source - to) * 16 ≡ source * 16 + k = omega arith in
    rows.moved (to * 16 + k) (omega arith) (omega arith) ∙ ap (λ j. get_or words j 0) from)
    (λ k b.
    let from : to * 80 + k + (source - to) * 80 ≡ source * 80 + k = omega arith in
    own.moved (to * 80 + k) (omega arith) (omega arith) ∙ ap (λ j. get_or marks j 0) from))
    (λ j b n. ticket_from_lem words' marks' words marks long' long j j b b
    (λ k c. ⊎_elim (λ l. rows.before (j * 16 + k) (omega arith)) (λ l. rows.behind (j * 16 + k) (omega arith) (omega arith)) (earlier_or_not j to))
    (λ k c. ⊎_elim (λ l. own.before (j * 80 + k) (omega arith)) (λ l. own.behind (j * 80 + k) (omega arith) (omega arith)) (earlier_or_not j to)))
    ∙ ap (set (tickets_of words marks) to) (sym (tickets_at words marks source h))

-- the live tickets without one, after both buffers have closed up
pub tickets_without : (words words' marks marks' : List ℕ) → length marks ≡ 16000 → (i live : ℕ) → i < live → live ≤ 200
    → ClosedUp 16 (i * 16) (live * 16) words words' → ClosedUp 80 (i * 80) (live * 80) marks marks'
    → take (live - 1) (tickets_of words' marks') ≡ without i (take live (tickets_of words marks))
tickets_without words words' marks marks' long i live h few rows own =
    let long' : length marks' ≡ 16000 = own.long ∙ long in
    let tickets : List Ticket = take live (tickets_of words marks) in
    let count : length (take live (tickets_of words marks)) ≡ live = live_length words marks live few in
    let count' : length (take (live - 1) (tickets_of words' marks')) ≡ live - 1 = live_length words' marks' (live - 1) (omega arith) in
    let rest : length (without i (take live (tickets_of words marks))) ≡ length (take live (tickets_of words marks)) - 1 =
    length_without i (take live (tickets_of words marks)) (omega arith) in
    ext_get_or blank_ticket (take (live - 1) (tickets_of words' marks')) (without i tickets)
    (omega arith)
    (λ j b.
    let small : j < live - 1 = omega arith in
    live_at words' marks' (live - 1) (omega arith) j small
    ∙ ⊎_elim
    (λ l. ticket_from_lem words' marks' words marks long' long j j (omega arith) (omega arith)
    (λ k c. rows.before (j * 16 + k) (omega arith))
    (λ k c. own.before (j * 80 + k) (omega arith))
    ∙ sym (live_at words marks live few j (omega arith))
    ∙ sym (without_before i tickets (omega arith) j blank_ticket l))
    (λ l. ticket_from_lem words' marks' words marks long' long j (suc j) (omega arith) (omega arith)
    (λ k c.
    let next : j * 16 + k + 16 ≡ suc j * 16 + k = omega arith in
    rows.moved (j * 16 + k) (omega arith) (omega arith) ∙ ap (λ m. get_or words m 0) next)
    (λ k c.
    let next : j * 80 + k + 80 ≡ suc j * 80 + k = omega arith in
    own.moved (j * 80 + k) (omega arith) (omega arith) ∙ ap (λ m. get_or marks m 0) next)
    ∙ sym (live_at words marks live few (suc j) (omega arith))
    ∙ sym (without_behind i tickets (omega arith) j blank_ticket l))
    (earlier_or_not j i))
