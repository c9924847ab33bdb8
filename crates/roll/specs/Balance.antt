-- "The answered commands of rolls, one roll after another, are such a list too": demand 3 over rolls, whatever books they are read into.
use Rattle.std.specs.Prelude.{ℕ, zero, suc, ◌<◌, ◌≡◌, List, [], ◌∷◌, ◌++◌, get_or, take, drop}
use Rattle.house.specs.Model.{Model, fresh}
use Rattle.house.specs.Commands.{Command, step}
use Rattle.house.specs.declared.answer.Answer.{Answer}
use Rattle.house.specs.Balance.{run, TillBalances}
use Rattle.numbers.specs.Bytes.{number_of}
use Rattle.roll.specs.Decode.{byte_of}
use Rattle.roll.specs.Reading.{read_roll}

-- a roll and the book that it is read into, as it was before
pub record Sitting : Type 0 where
  pub roll : List ℕ
  pub book : List ℕ
  pub bytes : (i : ℕ) → get_or roll i 0 < 256

-- rolls one after another, each on the house that the last one left: the house, and the commands answered
unfoldable pub house_after : Model → List Sitting → Model
house_after m [] = m
house_after m (s ∷ ss) = house_after (read_roll m s.roll s.book).house ss

unfoldable pub answered_in : Model → List Sitting → List Command
answered_in m [] = []
answered_in m (s ∷ ss) =
    let r = read_roll m s.roll s.book in
    r.commands ++ answered_in r.house ss

-- an entry of a book: the byte of a command, and its answer
pub record Entry : Type 0 where
  pub byte : ℕ
  pub answer : Answer

-- the entries that some commands ask for, one after another
unfoldable pub entries_to : Model → List Command → List Entry
entries_to m [] = []
entries_to m (c ∷ cs) = record { byte = byte_of c; answer = (step m c).answer } ∷ entries_to (step m c).house cs

-- an entry from its 14 bytes, and the entries of a book that has so many
abbrev pub entry_from : List ℕ → Entry
entry_from bytes =
    record {
      byte = get_or bytes 0 0;
      answer = record { code = get_or bytes 1 0; number = number_of (take 4 (drop 2 bytes)); cents = number_of (take 8 (drop 6 bytes)) };
    }

unfoldable pub entries_from : ℕ → List ℕ → List Entry
entries_from zero book = []
entries_from (suc n) book = entry_from (take 14 book) ∷ entries_from n (drop 14 book)

-- the entries that stand in the books, in the order of the rolls
unfoldable pub entries_in : Model → List Sitting → List Entry
entries_in m [] = []
entries_in m (s ∷ ss) =
    let r = read_roll m s.roll s.book in
    entries_from r.answers r.book ++ entries_in r.house ss

-- Demand 3 over rolls: the house is that of the commands answered, in order, from a fresh one; the till balances over that list; and the books
-- have its answers, each after its command's byte.
pub record RollsBalance (ss : List Sitting) : Type 0 where
  pub house : house_after fresh ss ≡ (run (answered_in fresh ss)).house
  pub till : TillBalances (answered_in fresh ss)
  pub answers : entries_in fresh ss ≡ entries_to fresh (answered_in fresh ss)
