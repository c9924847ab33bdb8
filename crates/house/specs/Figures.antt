-- "taken (charges), seeds, paid (claims), refunded (cancels), owed [..], held [..], unclaimed [..], pooled [..], retained (signed [..])": the names of
-- the nine figures, which the house's till and the count sheet both give. What they are stands in Till and in Sheet.
use Rattle.std.specs.Prelude.{ℕ}

pub record Figures : Type 0 where
  pub taken : ℕ
  pub seeds : ℕ
  pub paid : ℕ
  pub refunded : ℕ
  pub owed : ℕ
  pub held : ℕ
  pub unclaimed : ℕ
  pub pooled : ℕ
  -- retained is gained less lost, and may be below zero
  pub gained : ℕ
  pub lost : ℕ
