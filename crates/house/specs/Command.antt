-- "Open: day (2) [..] Sell: kind (1), games (1), stake (4), groups (1), types (1), marks (80) [..] Cancel: ticket (4) [..] Ball: number (1) [..] Claim:
-- ticket (4) [..] Expire [..] Transfer: jackpot 6 or 8 (1), cents (4)": the commands with their operands, and nothing of what they do; and the form of
-- what an accepted one answers. The house and the count sheet are both fed them. The eighth, Lucky Last, "has Sell's operands and then a feature stake":
-- it is a sale whose operands have one. The ninth is "Collect (ticket, 4 bytes)". The tenth, Call off,
-- has no operands.
use Rattle.std.specs.Prelude.{ℕ}
use Rattle.sale.specs.Checks.{Operands}

pub data Command : Type 0 where
  open' : ℕ → Command
  sell : Operands → Command
  cancel : ℕ → Command
  ball : ℕ → Command
  claim : ℕ → Command
  expire : Command
  transfer : ℕ → ℕ → Command
  collect : ℕ → Command
  call_off : Command

-- the number and the cents that an accepted command answers
pub record Reply : Type 0 where
  pub number : ℕ
  pub cents : ℕ

abbrev pub replies : ℕ → ℕ → Reply
replies n cents = record { number = n; cents = cents }
