-- Demand 3 for code that calls the commands one by one: it starts from `House::fresh()`, and each call has the house and the buffers that the last
-- one left. A call is known by its contract alone.
use Rattle.std.specs.Prelude.{◌≡◌, List, [], ◌∷◌, ◌++◌, ℕ}
use Rattle.house.specs.Model.{fresh}
use Rattle.house.specs.Commands.{Command, Answer}
use Rattle.house.specs.Till.{till_of}
use Rattle.house.specs.Claims.{sheet_of}
use Rattle.house.specs.Balance.{run, answer_after, TillBalances, Reached}
use Rattle.house.specs.View.{view}
use Rattle.house.specs.Parts.{Carried}
use Rattle.house.specs.declared.state.House.{House}

-- the calls so far, with the commands in order
pub data Calls : List Command → House → List ℕ → List ℕ → Type 0 where
  begun : {h : House} {words marks : List ℕ} → view h words marks ≡ fresh → Calls [] h words marks
  called :
      {cs : List Command} {h : House} {words marks : List ℕ} {c : Command} {after : House} {words' marks' : List ℕ} {a : Answer}
      → Calls cs h words marks
      → Carried h words marks c after words' marks' a
      → Calls (cs ++ (c ∷ [])) after words' marks'

-- the caller's house is that of its list of commands, over which the till balances, and its nine figures are the sheet's
pub record CallsBalance (cs : List Command) (h : House) (words marks : List ℕ) : Type 0 where
  pub house : view h words marks ≡ (run cs).house
  pub till : TillBalances cs
  pub figures : till_of (view h words marks) ≡ (sheet_of (run cs).log).figures
  -- so that every call may be made
  pub reached : Reached (view h words marks)
  -- and what the next call answers is the list's answer to it
  pub answer :
      (c : Command) (after : House) (words' marks' : List ℕ) (a : Answer)
      → Carried h words marks c after words' marks' a
      → a ≡ answer_after cs c
