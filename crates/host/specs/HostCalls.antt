-- Demand 3 for a host: it starts with wulipday_fresh and makes any calls of wulipday_roll and wulipday_command, with any bytes and any books, each on
-- the house, the words and the marks that the last one left. A call is known by its contract alone; the other exported functions change nothing.
use Rattle.std.specs.Prelude.{ℕ, ◌<◌, ◌≡◌, List, [], ◌++◌, get_or}
use Rattle.house.specs.Model.{fresh}
use Rattle.house.specs.Commands.{Command}
use Rattle.house.specs.Till.{till_of}
use Rattle.house.specs.Claims.{sheet_of}
use Rattle.house.specs.Balance.{run, Reached, TillBalances}
use Rattle.house.specs.View.{view}
use Rattle.house.specs.declared.state.House.{House}
use Rattle.queries.specs.Shown.{shown_till}
use Rattle.queries.specs.declared.till.Till.{Till}
use Rattle.roll.specs.Balance.{Entry, entries_to, entries_from}
use Rattle.roll.specs.Orders.{reading_of, Reported}
use Rattle.roll.specs.declared.reader.Report.{Report}

-- the calls so far: the commands answered and what the books were given for them, in order, with the house and the buffers that are left
pub data HostCalls : List Command → List Entry → House → List ℕ → List ℕ → Type 0 where
  begun : {h : House} {words marks : List ℕ} → ((these others : List ℕ) → view h these others ≡ fresh) → HostCalls [] [] h words marks
  called :
      {cs : List Command} {es : List Entry} {h : House} {words marks roll book : List ℕ} {r : Report} {words' marks' written : List ℕ}
      → HostCalls cs es h words marks
      → ((i : ℕ) → get_or roll i 0 < 256)
      → Reported h words marks roll book r words' marks' written
      → HostCalls (cs ++ (reading_of h words marks roll book).commands) (es ++ entries_from r.answers written) r.house words' marks'

pub record HostBalance (cs : List Command) (es : List Entry) (h : House) (words marks : List ℕ) : Type 0 where
  -- the house is that of the list of answered commands, over which the till balances
  pub house : view h words marks ≡ (run cs).house
  pub till : TillBalances cs
  -- the books have the list's answers, each after its command's byte
  pub books : es ≡ entries_to fresh cs
  -- the till that wulipday_till shows is the sheet's
  pub shown :
      (t : Till)
      → ((others : List ℕ) → t ≡ shown_till (till_of (view h words others)))
      → t ≡ shown_till (sheet_of (run cs).log).figures
  -- and every function may be called again
  pub reached : Reached (view h words marks)
