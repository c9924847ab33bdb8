-- One book of answers: they fit the book, where it is full some of the roll has been read, and what is printed of it stands before what is printed
-- of the rest.
use Prim.Native.Nat.{ℕ, zero, suc, ◌+◌, ◌-◌, ◌*◌, ◌≤◌, ◌<◌}
use native.Mathlib.Omega.{arith}
use native.Mathlib.Numerals.{add-one}
use mathlib.Core.Path.{◌≡◌, refl, sym, ◌∙◌}
use mathlib.Core.Bool.{Bool, true, false, cond}
use mathlib.Core.List.{List, [], ◌∷◌, ◌++◌}
use lib.Dec.{ltb}
use lib.ListN.{length, take, drop, length-drop}
use borrow.Author.Tests.{ltb-true, ltb-false, ne_eqb}
use Rattle.house.specs.Model.{Model}
use Rattle.house.specs.Commands.{Command, step}
use Rattle.roll.specs.Decode.{CommandByte, unknown, known, command_row, command_of, record_of}
use Rattle.roll.specs.Reading.{Reading, stopped, answered, turn_at, read_turns, read_roll}
use Rattle.house.specs.View.{view}
use Rattle.house.specs.Till.{till_of}
use Rattle.house.specs.declared.state.House.{House}
use Rattle.queries.specs.Shown.{shown_till}
use Rattle.roll.specs.Orders.{Reported}
use Rattle.roll.specs.declared.reader.Report.{Report}
use Rattle.text.specs.Lines.{book_lines, stop_line, till_line}
use Rattle.ledger.specs.Sittings.{sittings_text}
pub use Rattle.roll.proofs.RollsBalanced.{fresh_reached}

-- a turn either stops or answers one command, for which the book has room
one_turn :
    (P : Reading → Type 0) (turns : ℕ) (m : Model) (byte : ℕ) (rest book : List ℕ)
    → P (stopped m 1 book)
    → P (stopped m 2 book)
    → (length book < 14 → P (stopped m 3 book))
    → ((size : ℕ) (c : Command) (answer : List ℕ) (m' : Model)
    → 14 ≤ length book
    → P (answered (1 + size) c answer (read_turns turns m' (drop size rest) (drop 14 book))))
    → P (read_turns (suc turns) m (byte ∷ rest) book)
unfolding read_turns
one_turn P turns m byte rest book one two three more = go (command_row byte)
  where
    room :
        (short full : Bool) (next : Reading)
        → ltb (length book) 14 ≡ full
        → (14 ≤ length book → P next)
        → P (cond short (stopped m 2 book) (cond full (stopped m 3 book) next))
    room true full next e p = two
    room false true next e p = three (ltb-true (length book) 14 e)
    room false false next e p = p (ltb-false (length book) 14 e)

    go : (looked : CommandByte) → P (turn_at (read_turns turns) m byte rest book looked)
    go unknown = one
    go (known row) =
        let c = command_of row (take row.operands rest) in
        let done = step m c in
        room (ltb (length rest) row.operands) (ltb (length book) 14) _ refl (more row.operands c (record_of byte done.answer) done.house)

pub answers_within : (turns : ℕ) (m : Model) (roll book : List ℕ) → (read_turns turns m roll book).answers * 14 ≤ length book
unfolding read_turns
answers_within zero m roll book = omega arith
answers_within (suc turns) m [] book = omega arith
answers_within (suc turns) m (byte ∷ rest) book =
    one_turn (λ x. x.answers * 14 ≤ length book) turns m byte rest book (omega arith) (omega arith) (λ short. omega arith)
    (λ size c answer m' room. omega (arith, answers_within turns m' (drop size rest) (drop 14 book), length-drop 14 book))

full_moves : (turns : ℕ) (m : Model) (roll book : List ℕ) → 14 ≤ length book → (read_turns (suc turns) m roll book).stop ≡ 3 → length (drop (read_turns (suc turns) m roll book).read roll) < length roll
unfolding read_turns
full_moves turns m [] book room = λ stop. absurd (omega arith)
full_moves turns m (byte ∷ rest) book room =
    one_turn (λ x. x.stop ≡ 3 → length (drop x.read (byte ∷ rest)) < length (byte ∷ rest)) turns m byte rest book
    (λ stop. absurd (omega arith)) (λ stop. absurd (omega arith)) (λ short. absurd (omega arith))
    (λ size c answer m' _ stop.
    let r = read_turns turns m' (drop size rest) (drop 14 book) in
    omega (arith, length-drop (1 + size + r.read) (byte ∷ rest)))

pub full_reads : (m : Model) (roll book : List ℕ) → 14 ≤ length book → (read_roll m roll book).stop ≡ 3 → length (drop (read_roll m roll book).read roll) < length roll
full_reads m roll book room = rw (add-one (length roll)) (full_moves (length roll) m roll book room)

-- what is printed of a roll after one book more
module _ (h : House) (words marks roll lent : List ℕ) (r : Report) (words' marks' written : List ℕ) (read : Reported h words marks roll lent r words' marks' written) where
  pub text_on : (books : ℕ) → 0 < books → r.stop ≡ 3
      → sittings_text books (view h words marks) roll lent ≡ book_lines r.answers written ++ sittings_text (books - 1) (view r.house words' marks') (drop r.read roll) written
  unfolding sittings_text
  text_on zero some full = absurd (omega arith)
  text_on (suc books) some full =
      let less : suc books - 1 ≡ books = omega arith in
      rw (less, read.house, read.read, read.answers, read.book, sym read.stop ∙ full)

  pub text_end : (books : ℕ) → 0 < books → (r.stop ≡ 3 → ⊥)
      → sittings_text books (view h words marks) roll lent ≡ book_lines r.answers written ++ (stop_line r.stop ++ till_line (shown_till (till_of (view r.house words' marks'))))
  unfolding sittings_text
  text_end zero some other = absurd (omega arith)
  text_end (suc books) some other =
      rw (read.house, read.answers, read.book, read.stop, ne_eqb (read_roll (view h words marks) roll lent).stop 3 (λ e. other (read.stop ∙ e)))
