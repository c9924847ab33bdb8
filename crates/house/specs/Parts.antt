-- "Every callable part states the house after it, its answer and the buffers it was lent as a definition's value, refusals included [..]." The house
-- that a caller keeps is the struct with the words and marks that it lends; a part may rely on its coming from a fresh one by commands.
use Rattle.std.specs.Prelude.{◌≡◌, List, ℕ, Result, Ok, Err}
use Rattle.refusals.specs.Refusal.{refusal_number}
use Rattle.refusals.specs.declared.refusal.Refusal.{Refusal}
use Rattle.house.specs.Commands.{Command, Answer, step}
use Rattle.house.specs.Balance.{Reached}
use Rattle.house.specs.View.{view}
use Rattle.house.specs.declared.state.House.{House}
use Rattle.house.specs.declared.answer.Receipt.{Receipt}

-- a house that comes from a fresh one by commands, whichever buffers stand beside it
pub record Comes (h : House) : Type 0 where
  pub words : List ℕ
  pub marks : List ℕ
  pub reached : Reached (view h words marks)

-- the same, with the words that are lent, whichever marks stand beside them
pub record ComesWith (h : House) (words : List ℕ) : Type 0 where
  pub marks : List ℕ
  pub reached : Reached (view h words marks)

-- what a host reads of how a command's code ends
abbrev pub host_answer : Result Receipt Refusal → Answer
host_answer (Ok receipt) = record { code = 0; number = receipt.number; cents = receipt.cents }
host_answer (Err refusal) = record { code = refusal_number refusal; number = 0; cents = 0 }

-- a command carried out: the house after it and the answer are those of `step`, and a refusal leaves all as it was
pub record Carried (h : House) (words marks : List ℕ) (c : Command) (after : House) (words' marks' : List ℕ) (a : Answer) : Type 0 where
  pub house : view after words' marks' ≡ (step (view h words marks) c).house
  pub answer : a ≡ (step (view h words marks) c).answer
  pub refused : (a.code ≡ 0 → ⊥) → (after ≡ h) × (words' ≡ words) × (marks' ≡ marks)
