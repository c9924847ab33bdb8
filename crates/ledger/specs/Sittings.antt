-- "reads a roll [..] from standard input, emptying a full book and reading on"
use Rattle.std.specs.Prelude.{ℕ, zero, suc, ◌+◌, ◌<◌, ◌≡◌, cond, eqb, List, [], ◌++◌, length, drop, replicate}
use Rattle.house.specs.Model.{Model, fresh}
use Rattle.house.specs.Balance.{Reached}
use Rattle.house.specs.Till.{till_of}
use Rattle.queries.specs.Shown.{shown_till}
use Rattle.roll.specs.Reading.{read_roll}
use Rattle.text.specs.Lines.{book_lines, stop_line, till_line}

-- after one book: the house comes from a fresh one, and where the book was full some of the roll has been read
pub record ReadsOn (after : Model) (roll : List ℕ) (stop read : ℕ) : Type 0 where
  pub reached : Reached after
  pub shorter : stop ≡ 3 → length (drop read roll) < length roll

-- What is printed of a roll from a house on, with a book that is emptied where it is full: the lines of the book's answers, and then those of the
-- rest, or the stop code and the till.
unfoldable pub sittings_text : ℕ → Model → List ℕ → List ℕ → List ℕ
sittings_text zero m roll book = []
sittings_text (suc books) m roll book =
    let r = read_roll m roll book in
    book_lines r.answers r.book
    ++ cond (eqb r.stop 3) (sittings_text books r.house (drop r.read roll) r.book) (stop_line r.stop ++ till_line (shown_till (till_of r.house)))

-- What is printed of a whole roll, from a fresh house and with a book of 64 answers. A full book has a command of the roll at the least, so that as
-- many books as the roll has bytes, and one, are enough.
abbrev pub printed : List ℕ → List ℕ
printed roll = sittings_text (length roll + 1) fresh roll (replicate 896 0)
