-- The live list's laws: the numbers of a house's rows are the live tickets', rise and fit four bytes, and are written one after another.
use Prim.Native.Nat.{ℕ, ◌+◌, ◌*◌, ◌≤◌, ◌<◌, ◌^◌}
use mathlib.Core.Path.{◌≡◌, refl, sym, ap, ◌∙◌, subst}
use mathlib.Core.List.{List, [], ◌∷◌, ◌++◌, map, map-map, map-append, append_assoc}
use native.Mathlib.Numerals.{add-one}
use native.Mathlib.Omega.{arith}
use borrow.Author.Tests.{lt-ltb, le-ltb}
use lib.ListN.{length, take, drop}
use lib.Seq.{take_at, drop-append-add, drop-drop}
use Rattle.numbers.specs.Bytes.{bytes_of}
use Rattle.sale.specs.Lists.{below}
use Rattle.house.specs.Model.{Model}
use Rattle.house.specs.Commands.{blank_ticket}
use Rattle.house.specs.View.{row_at, ticket_in, view}
use Rattle.house.specs.Parts.{ComesWith}
use Rattle.queries.specs.Listing.{live_numbers, list_bytes, list_answer, list_buffer, Rises, Listing}
use Rattle.queries.specs.declared.live_list.Listed.{Listed}
use Rattle.house.specs.declared.state.House.{House}
use Rattle.house.proofs.RisingNumbers.{all_at}
use Rattle.house.proofs.RowLists.{get_or_table, length_table}
use Rattle.house.proofs.ViewLaws.{live_count}
use Rattle.queries.proofs.TillLaws.{comes_sure}
use Rattle.queries.proofs.ListOrder.{one_content, reached_rises}

-- ---- the rows of a house that comes from a fresh one by commands

abbrev pub number_at : List ℕ → ℕ → ℕ
number_at words i = (row_at words i).number

numbers_rows : (h : House) (words marks : List ℕ) → live_numbers (view h words marks) ≡ map (number_at words) (below h.live)
unfolding view
numbers_rows h words marks = map-map (λ t. t.number) (ticket_in words marks) (below h.live)

module _ (h : House) (words : List ℕ) (comes : ComesWith h words) where
  pub number_small : (i : ℕ) → i < h.live → number_at words i < 2 ^ 32
  unfolding view
  number_small i b =
      let m = view h words comes.marks in
      let known = comes_sure h words comes in
      let bounded =
      subst (λ t. (1 ≤ t.number) × (t.number ≤ h.issued)) (get_or_table (ticket_in words comes.marks) h.live i blank_ticket b)
      (all_at (λ t. (1 ≤ t.number) × (t.number ≤ h.issued)) m.live known.numbered i blank_ticket (omega (arith, live_count h words comes.marks))) in
      omega (arith, bounded.1, known.issued)

  -- the numbers rise, whichever marks stand beside the words
  view_rises : (marks : List ℕ) → Rises (live_numbers (view h words marks))
  view_rises marks =
      subst Rises (numbers_rows h words comes.marks ∙ sym (numbers_rows h words marks))
      (reached_rises (view h words comes.marks) comes.reached)

-- ---- numbers written one after another

length_bytes : (ns : List ℕ) → length (list_bytes ns) ≡ 4 * length ns
unfolding list_bytes bytes_of
length_bytes [] = refl
length_bytes (n ∷ ns) = omega (arith, length_bytes ns)

bytes_append : (ns ks : List ℕ) → list_bytes (ns ++ ks) ≡ list_bytes ns ++ list_bytes ks
unfolding list_bytes
bytes_append [] ks = refl
bytes_append (n ∷ ns) ks = ap (λ l. bytes_of 4 n ++ l) (bytes_append ns ks) ∙ sym (append_assoc (bytes_of 4 n) (list_bytes ns) (list_bytes ks))

bytes_one : (n : ℕ) → list_bytes (n ∷ []) ≡ bytes_of 4 n
unfolding list_bytes bytes_of
bytes_one n = refl

-- a buffer that begins with the numbers of the first rows
unfoldable pub listed_to : (ℕ → ℕ) → ℕ → List ℕ → List ℕ
listed_to f n out = list_bytes (map f (below n)) ++ drop (4 * n) out

pub listed_none : (f : ℕ → ℕ) (out : List ℕ) → out ≡ listed_to f 0 out
unfolding listed_to below list_bytes
listed_none f out = refl

module _ (f : ℕ → ℕ) (n : ℕ) (out : List ℕ) where
  abbrev head : List ℕ
  head = list_bytes (map f (below n))

  head_length : length head ≡ 4 * n
  head_length = length_bytes (map f (below n)) ∙ ap (λ k. 4 * k) (length_table f n)

  head_more : list_bytes (map f (below (n + 1))) ≡ head ++ bytes_of 4 (f n)
  unfolding below
  head_more =
      ap (λ k. list_bytes (map f (below k))) (add-one n)
      ∙ ap list_bytes (map-append f (below n) (n ∷ []))
      ∙ bytes_append (map f (below n)) (f n ∷ [])
      ∙ ap (λ l. head ++ l) (bytes_one (f n))

  rest_more : drop (n * 4 + 4) (head ++ drop (4 * n) out) ≡ drop (4 * (n + 1)) out
  rest_more =
      let long : n * 4 + 4 ≡ length head + 4 = omega (arith, head_length) in
      let next : 4 * n + 4 ≡ 4 * (n + 1) = omega arith in
      ap (λ k. drop k (head ++ drop (4 * n) out)) long
      ∙ drop-append-add head (drop (4 * n) out) 4
      ∙ drop-drop 4 (4 * n) out
      ∙ ap (λ k. drop k out) next

  pub listed_more :
      take (n * 4) (listed_to f n out) ++ bytes_of 4 (f n) ++ drop (n * 4 + 4) (listed_to f n out) ≡ listed_to f (n + 1) out
  unfolding listed_to
  listed_more =
      ap (λ l. l ++ bytes_of 4 (f n) ++ drop (n * 4 + 4) (head ++ drop (4 * n) out))
      (take_at head (drop (4 * n) out) (n * 4) (omega (arith, head_length)))
      ∙ ap (λ l. head ++ bytes_of 4 (f n) ++ l) rest_more
      ∙ ap (λ l. l ++ drop (4 * (n + 1)) out) (sym head_more)

-- ---- the list asked for

module _ (h : House) (words : List ℕ) (comes : ComesWith h words) (marks before : List ℕ) where
  abbrev m : Model
  m = view h words marks

  -- an answer and a buffer that are the definition's
  listing : (after : List ℕ) (r : Listed) → r ≡ list_answer m before → after ≡ list_buffer m before → Listing m before after r
  listing after r answer buffer =
      record { answer = answer; buffer = buffer; content = one_content m (view_rises h words comes marks) }

  pub listing_refused : length before < h.live * 4 → Listing m before before (record { code = 30; count = 0 })
  unfolding list_answer list_buffer
  listing_refused short =
      let few : length before < 4 * length m.live = omega (arith, live_count h words marks) in
      let test = lt-ltb (length before) (4 * length m.live) few in
      listing before (record { code = 30; count = 0 }) (rw test refl) (rw test refl)

  pub listing_written :
      h.live * 4 ≤ length before
      → (after : List ℕ)
      → after ≡ list_bytes (map (number_at words) (below h.live)) ++ drop (4 * h.live) before
      → Listing m before after (record { code = 0; count = h.live })
  unfolding list_answer list_buffer
  listing_written room after written =
      let count : h.live ≡ length m.live = sym (live_count h words marks) in
      let enough : 4 * length m.live ≤ length before = omega arith in
      let test = le-ltb (length before) (4 * length m.live) enough in
      listing after (record { code = 0; count = h.live })
      (rw test (ap (λ n. record { code = 0; count = n }) count))
      (rw test
      (written
      ∙ ap (λ ns. list_bytes ns ++ drop (4 * h.live) before) (sym (numbers_rows h words marks))
      ∙ ap (λ n. list_bytes (live_numbers m) ++ drop (4 * n) before) count))
