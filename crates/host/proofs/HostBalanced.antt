-- Demand 3 for a host, proved: `host_balances`. By its contract a call reads a roll from the house that the last one left, and reading a roll is
-- running the commands that it answers; so the calls are one list of commands, over which the till balances.
use Prim.Native.Nat.{ℕ, ◌+◌}
use mathlib.Core.Path.{◌≡◌, refl, sym, ap, ap₂, subst, ◌∙◌}
use mathlib.Core.List.{List, [], ◌++◌}
use lib.ListN.{length}
use Rattle.house.specs.Model.{fresh}
use Rattle.house.specs.Commands.{Command}
use Rattle.house.specs.Till.{till_of}
use Rattle.house.specs.Balance.{run, Reached}
use Rattle.house.specs.View.{view}
use Rattle.house.specs.declared.state.House.{House}
use Rattle.house.proofs.Theorem.{till_balances}
use Rattle.queries.specs.Shown.{shown_till}
use Rattle.roll.specs.Balance.{Entry, entries_to, entries_from}
use Rattle.roll.specs.Orders.{reading_of, Reported}
use Rattle.roll.specs.declared.reader.Report.{Report}
use Rattle.roll.proofs.RollsBalanced.{end_of, run_ends, end_append, entries_append, read_house, read_reached, read_entries, fresh_reached}
use Rattle.host.specs.HostCalls.{HostCalls, begun, called, HostBalance}

module _ (h : House) (words marks roll book : List ℕ) (r : Report) (words' marks' written : List ℕ) (done : Reported h words marks roll book r words' marks' written) where
  -- the house after a call is that of the commands that it answered
  call_house : view r.house words' marks' ≡ end_of (view h words marks) (reading_of h words marks roll book).commands
  call_house = done.house ∙ read_house (length roll + 1) (view h words marks) roll book

  call_reached : Reached (view h words marks) → Reached (view r.house words' marks')
  call_reached reached = subst Reached (sym done.house) (read_reached (view h words marks) roll book reached)

calls_reached : {cs : List Command} {es : List Entry} {h : House} {words marks : List ℕ} → HostCalls cs es h words marks → Reached (view h words marks)
calls_reached (begun {words = words} {marks = marks} new) = subst Reached (sym (new words marks)) fresh_reached
calls_reached (called {h = h} {words} {marks} {roll} {book} {r} {words'} {marks'} {written} calls bytes done) =
    call_reached h words marks roll book r words' marks' written done (calls_reached calls)

calls_end : {cs : List Command} {es : List Entry} {h : House} {words marks : List ℕ} → HostCalls cs es h words marks → view h words marks ≡ end_of fresh cs
calls_end (begun {words = words} {marks = marks} new) = new words marks
calls_end (called {cs} {h = h} {words} {marks} {roll} {book} {r} {words'} {marks'} {written} calls bytes done) =
    let these = (reading_of h words marks roll book).commands in
    call_house h words marks roll book r words' marks' written done
    ∙ ap (λ m. end_of m these) (calls_end calls)
    ∙ sym (end_append fresh cs these)

calls_entries : {cs : List Command} {es : List Entry} {h : House} {words marks : List ℕ} → HostCalls cs es h words marks → es ≡ entries_to fresh cs
unfolding entries_to
calls_entries (begun new) = refl
calls_entries (called {cs} {es} {h} {words} {marks} {roll} {book} {r} {words'} {marks'} {written} calls bytes done) =
    let these = (reading_of h words marks roll book).commands in
    ap₂ ◌++◌ (calls_entries calls)
    (ap₂ entries_from done.answers done.book
    ∙ read_entries (length roll + 1) (view h words marks) roll book (calls_reached calls) bytes
    ∙ ap (λ m. entries_to m these) (calls_end calls))
    ∙ sym (entries_append fresh cs these)

-- The theorem.
pub host_balances :
    {cs : List Command} {es : List Entry} {h : House} {words marks : List ℕ} → HostCalls cs es h words marks → HostBalance cs es h words marks
host_balances {cs} {es} {h} {words} {marks} calls =
    let same : view h words marks ≡ (run cs).house = calls_end calls ∙ sym (run_ends (record { house = fresh; log = [] }) cs) in
    record {
      house = same;
      till = till_balances cs;
      books = calls_entries calls;
      shown = λ t is. is marks ∙ ap (λ m. shown_till (till_of m)) same ∙ ap shown_till (till_balances cs).figures;
      reached = calls_reached calls;
    }
