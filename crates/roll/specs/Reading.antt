-- "The reader runs commands from a lent roll and writes 14 bytes each into a lent answer book [..]. A refused command is answered and reading
-- goes on. It reports the stop code, bytes read and answers written, and hands back the unread part of the roll. Bytes read are those of the
-- answered commands [..]. The book beyond its answers is untouched. Stop 0: end of roll." The other stops: "1 unknown byte; 2 too few bytes
-- left; 3 under 14 bytes free in the book".
use Rattle.std.specs.Prelude.{ℕ, zero, suc, ◌+◌, ◌≡◌, cond, List, [], ◌∷◌, ◌++◌, ltb, length, take, drop}
use Rattle.house.specs.Model.{Model}
use Rattle.house.specs.Commands.{Command, step}
use Rattle.roll.specs.Decode.{CommandByte, unknown, known, command_row, command_of, record_of}

-- the house after a roll, the report, the commands that were answered, and the whole book
pub record Reading : Type 0 where
  pub house : Model
  pub stop : ℕ
  pub read : ℕ
  pub answers : ℕ
  pub commands : List Command
  pub book : List ℕ

-- reading ends here with a stop code: nothing is written
abbrev pub stopped : Model → ℕ → List ℕ → Reading
stopped m code book = record { house = m; stop = code; read = 0; answers = 0; commands = []; book = book }

-- a command answered before the rest of the reading
abbrev pub answered : ℕ → Command → List ℕ → Reading → Reading
answered bytes c answer r =
    record {
      house = r.house;
      stop = r.stop;
      read = bytes + r.read;
      answers = 1 + r.answers;
      commands = c ∷ r.commands;
      book = answer ++ r.book;
    }

-- What one turn does at a byte, by what the table has for it. `later` reads what is left behind an answered command.
abbrev pub turn_at : (Model → List ℕ → List ℕ → Reading) → Model → ℕ → List ℕ → List ℕ → CommandByte → Reading
turn_at later m byte rest book unknown = stopped m 1 book
turn_at later m byte rest book (known row) =
    let size = row.operands in
    let c = command_of row (take size rest) in
    let done = step m c in
    let r = later done.house (drop size rest) (drop 14 book) in
    cond (ltb (length rest) size) (stopped m 2 book)
    (cond (ltb (length book) 14) (stopped m 3 book)
    (answered (1 + size) c (record_of byte done.answer) r))

-- Reading a roll into a book. Each command takes a byte at the least, so that as many turns as the roll has bytes, and one, are enough.
unfoldable pub read_turns : ℕ → Model → List ℕ → List ℕ → Reading
read_turns zero m roll book = stopped m 0 book
read_turns (suc turns) m [] book = stopped m 0 book
read_turns (suc turns) m (byte ∷ rest) book = turn_at (read_turns turns) m byte rest book (command_row byte)

abbrev pub read_roll : Model → List ℕ → List ℕ → Reading
read_roll m roll book = read_turns (length roll + 1) m roll book

-- every command of a list is refused, each on the house that the last one left
unfoldable pub AllRefused : Model → List Command → Type 0
AllRefused m [] = Unit {0}
AllRefused m (c ∷ cs) = ((step m c).answer.code ≡ 0 → ⊥) × AllRefused (step m c).house cs
