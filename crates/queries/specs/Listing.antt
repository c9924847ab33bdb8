-- "The live list writes each live ticket's number once, 4 bytes each, into a lent buffer and answers how many; [..] bytes beyond are untouched.
-- [..] 30 buffer under 4 × live tickets", and the count room's "It shall come in rising ticket number, and the buffer then has one possible content."
use Rattle.std.specs.Prelude.{ℕ, ◌*◌, ◌<◌, ◌≡◌, Bool, cond, List, [], ◌∷◌, ◌++◌, map, ltb, eqb, length, drop, get_or, Result, Ok, Err}
use Rattle.numbers.specs.Bytes.{bytes_of}
use Rattle.refusals.specs.Refusal.{refusal_number}
use Rattle.refusals.specs.declared.refusal.Refusal.{Refusal}
use Rattle.sale.specs.Lists.{keep}
use Rattle.house.specs.Model.{Model}
use Rattle.house.specs.Commands.{has_ticket}
use Rattle.queries.specs.declared.live_list.Listed.{Listed}

-- ---- what is written and answered

-- the live tickets' numbers, as the house keeps the tickets
abbrev pub live_numbers : Model → List ℕ
live_numbers m = map (λ t. t.number) m.live

unfoldable pub list_bytes : List ℕ → List ℕ
list_bytes [] = []
list_bytes (n ∷ ns) = bytes_of 4 n ++ list_bytes ns

abbrev pub too_short : Model → List ℕ → Bool
too_short m buffer = ltb (length buffer) (4 * length m.live)

unfoldable pub list_answer : Model → List ℕ → Listed
list_answer m buffer =
    cond (too_short m buffer) (record { code = 30; count = 0 }) (record { code = 0; count = length m.live })

-- what a host reads of how the list ends
abbrev pub host_list : Result ℕ Refusal → Listed
host_list (Ok count) = record { code = 0; count = count }
host_list (Err refusal) = record { code = refusal_number refusal; count = 0 }

-- the whole buffer afterwards: the numbers and then the rest as it was, or all as it was
unfoldable pub list_buffer : Model → List ℕ → List ℕ
list_buffer m buffer =
    cond (too_short m buffer) buffer (list_bytes (live_numbers m) ++ drop (4 * length m.live) buffer)

-- ---- its order

-- each number is less than every later one
abbrev pub Rises : List ℕ → Type 0
Rises ns = (i j : ℕ) → i < j → j < length ns → get_or ns i 0 < get_or ns j 0

-- numbers that rise and are those of the live tickets
pub record InOrder (m : Model) (ns : List ℕ) : Type 0 where
  pub rises : Rises ns
  -- a live ticket's number, one that code 19 does not call closed, stands there once, and no other does
  pub once : (n : ℕ) → length (keep (λ k. eqb k n) ns) ≡ cond (has_ticket n m.live) 1 0

-- the live tickets' numbers are in order, and no other numbers are, however a house keeps its tickets: "one possible content"
pub record OneContent (m : Model) : Type 0 where
  pub order : InOrder m (live_numbers m)
  pub only : (ns : List ℕ) → InOrder m ns → ns ≡ live_numbers m

-- ---- the promise

-- the live list asked for
pub record Listing (m : Model) (before after : List ℕ) (r : Listed) : Type 0 where
  pub answer : r ≡ list_answer m before
  pub buffer : after ≡ list_buffer m before
  pub content : OneContent m
