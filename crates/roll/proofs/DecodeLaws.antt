-- What the decoder answers: where it stops, what a whole command is, and that it is the command that its bytes stand for. What is shown of each row of
-- the table, in one list of records (`rows_hold`), holds of the row that a byte has.
use Prim.Native.Nat.{ℕ, ◌+◌, ◌≤◌, ◌<◌}
use native.Mathlib.Omega.{arith}
use mathlib.Core.Path.{◌≡◌, refl, sym, ap, subst, ◌∙◌}
use mathlib.Core.Bool.{Bool, true, false, cond, ◌||◌}
use mathlib.Core.List.{List, [], ◌∷◌}
use Rattle.std.specs.Prelude.{Some, None, Ok, Err}
use lib.Dec.{ltb, leb, eqb}
use lib.ListN.{length, get_or, take}
use borrow.Author.Tests.{ltb-false, lt-ltb, le-ltb, eqb-true}
use Rattle.numbers.specs.Bytes.{number_of}
use Rattle.numbers.proofs.ByteLaws.{two_bytes_below}
use Rattle.house.specs.Commands.{open'}
use Rattle.house.proofs.Ledger.{All}
use Rattle.house.proofs.EachCommand.{ShortDay}
use Rattle.commands.specs.declared.command.Command.{Command}
use Rattle.roll.specs.Decode.{CommandRow, command_rows, CommandByte, unknown, known, row_among, command_row, command_of, byte_of}
use Rattle.roll.specs.Orders.{operands_by, operand_length, operand_bytes, command_by, order_by, CommandSize, decoded_at}
use Rattle.roll.specs.declared.decode.Order.{Order}
use Rattle.roll.specs.declared.stop.Stop.TheVariants.{UnknownByte, ShortCommand}

-- ---- the table of commands

-- what the code is told of a byte's operands
pub operands_told : (looked : CommandByte) (size : ℕ) → operand_length looked ≡ Some size → operands_by looked ≡ size
operands_told unknown size e = absurd (cc)
operands_told (known row) size e = cc

pub unknown_told : (looked : CommandByte) → operand_length looked ≡ None → looked ≡ unknown
unknown_told unknown e = refl
unknown_told (known row) e = absurd (cc)

-- a command that was decoded, with its length
pub order_told :
    (looked : CommandByte) (rest : List ℕ) (size : ℕ) (command : Command)
    → Ok command ≡ command_by looked rest
    → Ok (record { command = command; size = size }) ≡ order_by looked rest size
order_told unknown rest size command e = absurd (cc)
order_told (known row) rest size command e =
    let same : command ≡ row.decoded (take row.operands rest) = cc in
    ap (λ (c : Command). Ok (record { command = c; size = size })) same

-- the row that is found for a byte has that byte, and what holds of each row
found : (P : CommandRow → Type 0) (rows : List CommandRow) → All P rows → (byte : ℕ) (row : CommandRow) → row_among rows byte ≡ known row → (row.byte ≡ byte) × P row
unfolding row_among
found P [] each byte row e = let z : ◌≡◌ {A = ℕ} 0 1 = cc in absurd (omega arith)
found P (first ∷ rows) (this, later) byte row e = go (eqb byte first.byte) (found P rows later byte row) refl e
  where
    go :
        (same : Bool)
        → (row_among rows byte ≡ known row → (row.byte ≡ byte) × P row)
        → eqb byte first.byte ≡ same
        → cond same (known first) (row_among rows byte) ≡ known row
        → (row.byte ≡ byte) × P row
    go true further p q =
        let r : first ≡ row = cc in
        subst (λ (x : CommandRow). (x.byte ≡ byte) × P x) r (sym (eqb-true byte first.byte p), this)
    go false further p q = further q

-- a list of bytes
abbrev pub Small : List ℕ → Type 0
Small l = (i : ℕ) → get_or l i 0 < 256

-- what is shown of a row
record RowHolds (row : CommandRow) : Type 0 where
  -- a command has marks or ends before them
  apart : CommandSize (row.operands + 1)
  -- the command's byte is the row's
  back : (bytes : List ℕ) → byte_of (command_of row bytes) ≡ row.byte
  -- if it has a day, the day has two bytes
  short : (rest : List ℕ) → Small rest → ShortDay (command_of row (take row.operands rest))

-- a row whose command is not Open
plain_row :
    (row : CommandRow)
    → (leb (row.operands + 1) 9 || leb 89 (row.operands + 1)) ≡ true
    → ((bytes : List ℕ) → byte_of (command_of row bytes) ≡ row.byte)
    → (row.byte ≡ 1 → ⊥)
    → RowHolds row
plain_row row apart back other =
    record {
      apart = record { apart = apart };
      back = back;
      short = λ rest small d e. absurd (other (sym (back (take row.operands rest)) ∙ ap byte_of e));
    }

-- Open's day
two_byte_day : (rest : List ℕ) → Small rest → ShortDay (open' (number_of (take 2 rest)))
two_byte_day rest small d e =
    let same : number_of (take 2 rest) ≡ d = cc in
    subst (λ k. k < 65536) same (two_bytes_below rest small)

infixr 30 ◌and◌
-- of the first row, and of those below it
◌and◌ : {A B : Type 0} → A → B → A × B
this and later = (this, later)

rows_hold : All RowHolds command_rows
unfolding command_rows
rows_hold =
    record { apart = record { apart = refl }; back = λ _. refl; short = two_byte_day }
    and plain_row _ refl (λ _. refl) (omega arith)
    and plain_row _ refl (λ _. refl) (omega arith)
    and plain_row _ refl (λ _. refl) (omega arith)
    and plain_row _ refl (λ _. refl) (omega arith)
    and plain_row _ refl (λ _. refl) (omega arith)
    and plain_row _ refl (λ _. refl) (omega arith)
    and plain_row _ refl (λ _. refl) (omega arith)
    and plain_row _ refl (λ _. refl) (omega arith)
    and plain_row _ refl (λ _. refl) (omega arith)
    and tt

row_found : (byte : ℕ) (row : CommandRow) → command_row byte ≡ known row → (row.byte ≡ byte) × RowHolds row
row_found = found RowHolds command_rows rows_hold

pub byte_back : (byte : ℕ) (row : CommandRow) (bytes : List ℕ) → command_row byte ≡ known row → byte_of (command_of row bytes) ≡ byte
byte_back byte row bytes e =
    let here = row_found byte row e in
    here.1.back bytes ∙ here.0

pub short_day : (byte : ℕ) (row : CommandRow) (rest : List ℕ) → command_row byte ≡ known row → Small rest → ShortDay (command_of row (take row.operands rest))
short_day byte row rest e small = (row_found byte row e).1.short rest small

-- ---- what bytes begin with

module _ (byte : ℕ) (operands : List ℕ) where
  pub unknown_here : command_row byte ≡ unknown → decoded_at (byte ∷ operands) ≡ Err UnknownByte
  unfolding decoded_at
  unknown_here none = rw (none, le-ltb (length operands) 0 (omega arith))

  pub short_here : length operands < operand_bytes byte → decoded_at (byte ∷ operands) ≡ Err ShortCommand
  unfolding decoded_at
  short_here short = rw (lt-ltb (length operands) (operand_bytes byte) short)

  pub whole_here :
      operand_bytes byte ≤ length operands → decoded_at (byte ∷ operands) ≡ order_by (command_row byte) operands (operand_bytes byte + 1)
  unfolding decoded_at
  whole_here enough = rw (le-ltb (length operands) (operand_bytes byte) enough)

-- a whole command that stands at the start of a part of a roll
pub record Stands (roll : List ℕ) (order : Command) (size : ℕ) : Type 0 where
  pub byte : ℕ
  pub rest : List ℕ
  pub row : CommandRow
  pub begins : roll ≡ byte ∷ rest
  pub has : command_row byte ≡ known row
  pub enough : row.operands ≤ length rest
  pub is : order ≡ row.decoded (take row.operands rest)
  pub long : size ≡ row.operands + 1

pub stands : (roll : List ℕ) (order : Order) → decoded_at roll ≡ Ok order → Stands roll order.command order.size
unfolding decoded_at
stands [] order e = absurd (cc)
stands (byte ∷ rest) order e = go (command_row byte) (ltb (length rest) (operand_bytes byte)) refl refl e
  where
    go :
        (looked : CommandByte) (short : Bool)
        → command_row byte ≡ looked
        → ltb (length rest) (operands_by looked) ≡ short
        → cond short (Err ShortCommand) (order_by looked rest (operands_by looked + 1)) ≡ Ok order
        → Stands (byte ∷ rest) order.command order.size
    go looked true p q e = absurd (cc)
    go unknown false p q e = absurd (cc)
    go (known row) false p q e =
        let same : ◌≡◌ {A = Order} order (record { command = row.decoded (take row.operands rest); size = row.operands + 1 }) = cc in
        record {
          byte = byte;
          rest = rest;
          row = row;
          begins = refl;
          has = p;
          enough = ltb-false (length rest) row.operands q;
          is = ap (λ (o : Order). o.command) same;
          long = ap (λ (o : Order). o.size) same;
        }

-- it has marks, or ends before them
pub size_apart : {roll : List ℕ} {order : Command} {size : ℕ} → Stands roll order size → CommandSize size
size_apart s = subst CommandSize (sym s.long) (row_found s.byte s.row s.has).1.apart
