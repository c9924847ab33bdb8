-- What the decoder answers, and what the reader's parts leave: the definitions that the contracts of this crate's functions cite.
use Rattle.std.specs.Prelude.{ℕ, ◌+◌, ◌≡◌, true, cond, ◌||◌, List, [], ◌∷◌, ◌++◌, Option, Some, None, Result, Ok, Err, ltb, leb, length, take, drop}
use Rattle.commands.specs.declared.command.Command.{Command}
use Rattle.house.specs.declared.state.House.{House}
use Rattle.house.specs.Commands.{step}
use Rattle.house.specs.View.{view}
use Rattle.roll.specs.Decode.{CommandByte, unknown, known, command_row, record_of}
use Rattle.roll.specs.Reading.{Reading, read_roll, AllRefused}
use Rattle.roll.specs.declared.stop.Stop.{Stop}
use Rattle.roll.specs.declared.stop.Stop.TheVariants.{RollEnded, UnknownByte, ShortCommand}
use Rattle.roll.specs.declared.decode.Order.{Order}
use Rattle.roll.specs.declared.reader.Report.{Report}

-- how many operand bytes follow a command byte: none behind an unknown one
abbrev pub operands_by : CommandByte → ℕ
operands_by unknown = 0
operands_by (known row) = row.operands

abbrev pub operand_bytes : ℕ → ℕ
operand_bytes byte = operands_by (command_row byte)

-- the same as the code has it
abbrev pub operand_length : CommandByte → Option ℕ
operand_length unknown = None
operand_length (known row) = Some row.operands

-- a command from its row and what follows its byte; an unknown byte is none
abbrev pub command_by : CommandByte → List ℕ → Result Command Stop
command_by unknown rest = Err UnknownByte
command_by (known row) rest = Ok (row.decoded (take row.operands rest))

-- the same with the command's length
abbrev pub order_by : CommandByte → List ℕ → ℕ → Result Order Stop
order_by unknown rest size = Err UnknownByte
order_by (known row) rest size = Ok (record { command = row.decoded (take row.operands rest); size = size })

-- Bytes of a command: a sale's are enough for its marks, and another command ends before marks would begin. So `marks_in` of its operands is what is lent
-- with any command: the marks of a sale, and nothing with another.
pub record CommandSize (size : ℕ) : Type 0 where
  pub apart : (leb size 9 || leb 89 size) ≡ true

-- what stands at the start of a part of a roll
unfoldable pub decoded_at : List ℕ → Result Order Stop
decoded_at [] = Err RollEnded
decoded_at (byte ∷ rest) =
    cond (ltb (length rest) (operand_bytes byte)) (Err ShortCommand) (order_by (command_row byte) rest (operand_bytes byte + 1))

-- a command answered into a part of a book: the house after it, its record behind which the part is as it was, and where the command is refused struct,
-- words and marks are those before
pub record Answered (h : House) (words marks : List ℕ) (c : Rattle.house.specs.Commands.Command) (byte : ℕ) (part : List ℕ) (after : House) (words' marks' part' : List ℕ) : Type 0 where
  pub house : view after words' marks' ≡ (step (view h words marks) c).house
  pub written : part' ≡ record_of byte (step (view h words marks) c).answer ++ drop 14 part
  pub refused : ((step (view h words marks) c).answer.code ≡ 0 → ⊥) → (after ≡ h) × (words' ≡ words) × (marks' ≡ marks)

-- the reading of a roll into a book, from the house that is handed in with the words and marks that are lent
abbrev pub reading_of : House → List ℕ → List ℕ → List ℕ → List ℕ → Reading
reading_of h words marks roll book = read_roll (view h words marks) roll book

-- a reading as the reader reports it: the house after it, the stop code, bytes read, answers written, and the whole book
pub record Reported (h : House) (words marks roll lent : List ℕ) (r : Report) (words' marks' written : List ℕ) : Type 0 where
  pub house : view r.house words' marks' ≡ (reading_of h words marks roll lent).house
  pub stop : r.stop ≡ (reading_of h words marks roll lent).stop
  pub read : r.read ≡ (reading_of h words marks roll lent).read
  pub answers : r.answers ≡ (reading_of h words marks roll lent).answers
  pub book : written ≡ (reading_of h words marks roll lent).book
  -- where no answer has the code 0, struct, words and marks are those before
  pub refused :
      AllRefused (view h words marks) (reading_of h words marks roll lent).commands
      → (r.house ≡ h) × (words' ≡ words) × (marks' ≡ marks)
