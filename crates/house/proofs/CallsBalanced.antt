-- Demand 3 over the code's own contracts: the view of a caller's house follows `step` call by call, so that it is the house of the list of
-- commands, and what `till_balances` says of the list holds of the caller.
use mathlib.Core.Path.{◌≡◌, sym, ap, ◌∙◌}
use mathlib.Core.List.{List, []}
use Prim.Native.Nat.{ℕ}
use Rattle.house.specs.Model.{fresh}
use Rattle.house.specs.Commands.{Command, step}
use Rattle.house.specs.Till.{till_of}
use Rattle.house.specs.Balance.{run, run_from}
use Rattle.house.specs.View.{view}
use Rattle.house.specs.Calls.{Calls, begun, called, CallsBalance}
use Rattle.house.specs.declared.state.House.{House}
use Rattle.house.proofs.Theorem.{till_balances, reached_more}

pub calls_house : {cs : List Command} {h : House} {words marks : List ℕ} → Calls cs h words marks → view h words marks ≡ (run cs).house
unfolding run_from
calls_house (begun new) = new
calls_house (called {cs} {c = c} calls done) =
    done.house
    ∙ ap (λ m. (step m c).house) (calls_house calls)
    ∙ sym (reached_more cs (record { house = fresh; log = [] }) c)

pub calls_balance : {cs : List Command} {h : House} {words marks : List ℕ} → Calls cs h words marks → CallsBalance cs h words marks
calls_balance {cs} calls =
    let same = calls_house calls in
    record {
      house = same;
      till = till_balances cs;
      figures = ap till_of same ∙ (till_balances cs).figures;
      reached = record { commands = cs; comes = sym same };
      answer = λ c after words' marks' a done. done.answer ∙ ap (λ m. (step m c).answer) same;
    }
