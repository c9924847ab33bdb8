-- Demand 3: "The till balances. Take any list of the [..] commands [..], refused ones included, run from a fresh house, each on the house the
-- last one left." The statement; the proof is till_balances in proofs/Theorem.antt.
use Rattle.std.specs.Prelude.{ℕ, ◌+◌, ◌≤◌, ◌≡◌, List, [], ◌∷◌, ◌++◌, map}
use Rattle.house.specs.Model.{Model, fresh}
use Rattle.house.specs.Commands.{Command, ball, claim, collect, Answer, running_in, step}
use Rattle.house.specs.Till.{Figures, till_of}
use Rattle.house.specs.Sheet.{playing, sheet_reply}
use Rattle.house.specs.Claims.{Log, sheet_of, payments, PlaysExactly, won_by, given_back}

-- a house after some commands, with the log of them
pub record State : Type 0 where
  pub house : Model
  pub log : Log

-- one command more, on the house that the last one left
unfoldable pub next : State → Command → State
next s c =
    record { house = (step s.house c).house; log = record { command = c; code = (step s.house c).answer.code } ∷ s.log }

unfoldable pub run_from : State → List Command → State
run_from s [] = s
run_from s (c ∷ cs) = run_from (next s c) cs

abbrev pub run : List Command → State
run cs = run_from (record { house = fresh; log = [] }) cs

-- a house that comes from a fresh one by commands
pub record Reached (m : Model) : Type 0 where
  pub commands : List Command
  pub comes : (run commands).house ≡ m

-- what the house answers to a command after others
abbrev pub answer_after : List Command → Command → Answer
answer_after cs c = (step (run cs).house c).answer

-- "money taken plus seeds equals paid, refunded, owed, held, unclaimed, pooled and retained together", retained being gained less lost
abbrev pub Balanced : Figures → Type 0
Balanced f =
    f.taken + f.seeds + f.lost ≡ f.paid + f.refunded + f.owed + f.held + f.unclaimed + f.pooled + f.gained

pub record TillBalances (cs : List Command) : Type 0 where
  pub balance : Balanced (till_of (run cs).house)
  -- "Each of the nine equals the same figure on document 01's count sheet."
  pub figures : till_of (run cs).house ≡ (sheet_of (run cs).log).figures
  -- "Every accepted answer in the list, its number and its cents, equals the sheet's."
  pub answers :
      (before after : List Command) (c : Command)
      → cs ≡ before ++ c ∷ after
      → (answer_after before c).code ≡ 0
      → ((answer_after before c).number ≡ (sheet_reply (sheet_of (run before).log) c).number)
      × ((answer_after before c).cents ≡ (sheet_reply (sheet_of (run before).log) c).cents)
  -- "The twentieth ball settles each way of each live ticket that runs in that game": in the house and on the sheet, the tickets that play are exactly
  -- those whose span, told from the commands and their codes, has the game
  pub plays :
      (before after : List Command) (b : ℕ)
      → cs ≡ before ++ ball b ∷ after
      → (answer_after before (ball b)).code ≡ 0
      → (answer_after before (ball b)).number ≡ 20
      → PlaysExactly (run before).log (map (λ t. t.number) (running_in (run before).house))
      × PlaysExactly (run before).log (map (λ l. l.number) (playing (sheet_of (run before).log)))
  -- "Each ticket number has at most one accepted claim." With Collect in the list: "each number is paid by at most one claim or one collection".
  pub once : (n : ℕ) → payments n (run cs).log ≤ 1
  -- "That claim pays exactly the prizes, as cut, and the jackpot shares of the drawn games the ticket was sold for and had not cancelled." And beside them the
  -- paid stakes of those that were called off: "a ticket's claim or collection pays them beside its prizes".
  pub pays :
      (before after : List Command) (n : ℕ)
      → cs ≡ before ++ claim n ∷ after
      → (answer_after before (claim n)).code ≡ 0
      → (answer_after before (claim n)).cents ≡ won_by n (run before).log + given_back n (run before).log
  -- And a collection pays "exactly what its games drawn by then won", and the stakes of those called off by then.
  pub collects :
      (before after : List Command) (n : ℕ)
      → cs ≡ before ++ collect n ∷ after
      → (answer_after before (collect n)).code ≡ 0
      → (answer_after before (collect n)).cents ≡ won_by n (run before).log + given_back n (run before).log
