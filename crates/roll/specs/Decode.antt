-- The table of commands: 01h "Open: day (2)"; 02h "Sell: kind (1), games (1), stake (4), groups (1), types (1), marks (80)"; 03h "Cancel: ticket (4)";
-- 04h "Ball: number (1)"; 05h "Claim: ticket (4)"; 06h "Expire"; 07h "Transfer: jackpot 6 or 8 (1), cents (4)"; "Command 08h has Sell's operands and then
-- a feature stake (4 bytes)"; "Command 09h, Collect (ticket, 4 bytes)"; "Command 0Ah", which has none. And "writes 14 bytes each [..]: command byte, code (0 or the refusal), number (4), cents (8)".
use Rattle.std.specs.Prelude.{ℕ, cond, Option, Some, None, List, [], ◌∷◌, ◌++◌, eqb, get_or, take, drop}
use Rattle.numbers.specs.Bytes.{number_of, bytes_of}
use Rattle.sale.specs.declared.terms.Sale.{Sale}
use Rattle.house.specs.Commands.{open', sell, cancel, ball, claim, expire, transfer, collect, call_off}
use Rattle.house.specs.declared.answer.Answer.{Answer}
use Rattle.commands.specs.Meant.{meant}
use Rattle.commands.specs.declared.command.Command.{Command}
use Rattle.commands.specs.declared.command.Command.TheVariants.{Open, Sell, Cancel, Ball, Claim, Expire, Transfer, Collect, CallOff}

-- a sale's operands up to the marks, with a feature or without one
abbrev pub sale_in : Option ℕ → List ℕ → Sale
sale_in feature bytes =
    record {
      kind = get_or bytes 0 0;
      games = get_or bytes 1 0;
      stake = number_of (take 4 (drop 2 bytes));
      groups = get_or bytes 6 0;
      types = get_or bytes 7 0;
      feature = feature;
    }

-- the marks behind them
abbrev pub marks_in : List ℕ → List ℕ
marks_in bytes = take 80 (drop 8 bytes)

-- and, behind Sell's 88 bytes, the feature stake of Lucky Last
abbrev pub feature_in : List ℕ → Option ℕ
feature_in bytes = Some (number_of (drop 88 bytes))

-- a row of the table: the command's byte, how many operand bytes follow it, and the decoded command that they are read as, a sale without its marks
pub record CommandRow : Type 0 where
  pub byte : ℕ
  pub operands : ℕ
  pub decoded : List ℕ → Command

-- the table, row by row
unfoldable pub command_rows : List CommandRow
command_rows =
    record { byte = 1; operands = 2; decoded = λ bytes. Open (number_of bytes) }
    ∷ record { byte = 2; operands = 88; decoded = λ bytes. Sell (sale_in None bytes) }
    ∷ record { byte = 3; operands = 4; decoded = λ bytes. Cancel (number_of bytes) }
    ∷ record { byte = 4; operands = 1; decoded = λ bytes. Ball (get_or bytes 0 0) }
    ∷ record { byte = 5; operands = 4; decoded = λ bytes. Claim (number_of bytes) }
    ∷ record { byte = 6; operands = 0; decoded = λ bytes. Expire }
    ∷ record { byte = 7; operands = 5; decoded = λ bytes. Transfer (get_or bytes 0 0) (number_of (drop 1 bytes)) }
    ∷ record { byte = 8; operands = 92; decoded = λ bytes. Sell (sale_in (feature_in bytes) bytes) }
    ∷ record { byte = 9; operands = 4; decoded = λ bytes. Collect (number_of bytes) }
    ∷ record { byte = 10; operands = 0; decoded = λ bytes. CallOff }
    ∷ []

-- what the table has for a byte
pub data CommandByte : Type 0 where
  unknown : CommandByte
  known : CommandRow → CommandByte

unfoldable pub row_among : List CommandRow → ℕ → CommandByte
row_among [] byte = unknown
row_among (row ∷ rows) byte = cond (eqb byte row.byte) (known row) (row_among rows byte)

abbrev pub command_row : ℕ → CommandByte
command_row byte = row_among command_rows byte

-- the command that a row's operand bytes stand for, a sale with the marks among them
abbrev pub command_of : CommandRow → List ℕ → Rattle.house.specs.Commands.Command
command_of row bytes = meant (row.decoded bytes) (marks_in bytes)

-- the byte of a sale
abbrev pub sale_byte : Option ℕ → ℕ
sale_byte None = 2
sale_byte (Some stake) = 8

-- the byte of a command
abbrev pub byte_of : Rattle.house.specs.Commands.Command → ℕ
byte_of (open' d) = 1
byte_of (sell o) = sale_byte o.feature
byte_of (cancel n) = 3
byte_of (ball b) = 4
byte_of (claim n) = 5
byte_of expire = 6
byte_of (transfer j cents) = 7
byte_of (collect n) = 9
byte_of call_off = 10

-- an answer's 14 bytes
unfoldable pub record_of : ℕ → Answer → List ℕ
record_of byte a = byte ∷ a.code ∷ bytes_of 4 a.number ++ bytes_of 8 a.cents
