-- Why Claim does not ask whether something is due, over every list of commands, collections and games called off among them: "A finished ticket with nothing due is
-- closed already". Read off what holds of every house that commands reach: its tickets are live. The check, which had the number 24, is gone.
use Prim.Native.Nat.{ℕ, ◌<◌}
use native.Mathlib.Omega.{arith}
use mathlib.Core.Path.{◌≡◌, refl, subst⁻¹}
use mathlib.Core.Bool.{Bool, true}
use mathlib.Core.List.{List, [], ◌∷◌, ◌++◌}
use lib.Dec.{eqb}
use borrow.Author.Tests.{ne_eqb}
use Rattle.sale.specs.Checks.{first_met, operand_rows}
use Rattle.house.specs.Tickets.{is_finished}
use Rattle.house.specs.Model.{Model}
use Rattle.house.specs.Commands.{Command, open', sell, cancel, ball, claim, expire, transfer, collect, call_off, Answer, ticket_at, rows_of, code_of, reply, Outcome, step}
use Rattle.house.specs.Balance.{run}
use Rattle.house.proofs.Ledger.{All}
use Rattle.house.proofs.ListLaws.{cond_either}
use Rattle.house.proofs.MoneyLaws.{all_from}
use Rattle.house.proofs.OneCommand.{accepted_done, accepted_code}
use Rattle.house.proofs.Refusals.{row_unmet, among_rows, ClaimAccepted, claim_accepted}
use Rattle.house.proofs.LiveTickets.{live_due, found_due}
use Rattle.house.proofs.ReachedHouses.{Sure, reached_sure}

-- the check that stood behind Claim's other rows of the refusal table
abbrev pub due_row : ℕ → Model → Bool × ℕ
due_row n m = (eqb (ticket_at n m.live).due 0, 24)

pub record FinishedAreDue (m : Model) : Type 0 where
  -- each live ticket that is finished is due something
  pub due : All (λ t. is_finished m.game t ≡ true → 0 < t.due) m.live
  -- so whenever a claim passes the checks that it has, something is due,
  pub claims : (n : ℕ) → code_of m (claim n) ≡ 0 → 0 < (ticket_at n m.live).due
  -- and one that is accepted pays something;
  pub pays : (n : ℕ) → (step m (claim n)).answer.code ≡ 0 → 0 < (step m (claim n)).answer.cents
  -- with the check behind the others each claim would be answered by the same code
  pub same : (n : ℕ) → first_met (rows_of m (claim n) ++ (due_row n m ∷ [])) ≡ code_of m (claim n)

module _ (m : Model) (sure : Sure m) where
  something_due : (n : ℕ) → code_of m (claim n) ≡ 0 → 0 < (ticket_at n m.live).due
  something_due n passed =
      let accepted : ClaimAccepted m n = claim_accepted m n passed in
      found_due m n sure.alive accepted.here accepted.finished

  something_paid : (n : ℕ) → (step m (claim n)).answer.code ≡ 0 → 0 < (step m (claim n)).answer.cents
  unfolding reply
  something_paid n accepted =
      let passed : code_of m (claim n) ≡ 0 = accepted_code m (claim n) accepted in
      subst⁻¹ (λ (a : Answer). 0 < a.cents) (accepted_done m (claim n) passed).1 (something_due n passed)

  check_unmet : (n : ℕ) → first_met (rows_of m (claim n) ++ (due_row n m ∷ [])) ≡ code_of m (claim n)
  unfolding code_of
  check_unmet n = row_unmet (rows_of m (claim n)) (due_row n m) (λ passed. ne_eqb _ 0 (λ none. omega (arith, something_due n passed, none)))

pub finished_are_due : (cs : List Command) → FinishedAreDue (run cs).house
finished_are_due cs =
    let m : Model = (run cs).house in
    let sure : Sure m = reached_sure m (record { commands = cs; comes = refl }) in
    record {
      due = all_from (λ t alive finished. live_due m.game t alive finished) m.live sure.alive;
      claims = something_due m sure;
      pays = something_paid m sure;
      same = check_unmet m sure;
    }

-- ---- "The number isn't used again."

other_numbers : (m : Model) (c : Command) → All (λ row. row.1 ≡ 24 → ⊥) (rows_of m c)
unfolding rows_of operand_rows
other_numbers m (open' d) = omega arith
other_numbers m (sell o) = omega arith
other_numbers m (cancel n) = omega arith
other_numbers m (ball b) = omega arith
other_numbers m (claim n) = omega arith
other_numbers m expire = omega arith
other_numbers m (transfer j cents) = omega arith
other_numbers m (collect n) = omega arith
other_numbers m call_off = omega arith

-- no command is answered by it, whatever the house
pub never_answered : (m : Model) (c : Command) → (step m c).answer.code ≡ 24 → ⊥
unfolding step code_of
never_answered m c =
    cond_either (λ (o : Outcome). o.answer.code ≡ 24 → ⊥) (eqb (code_of m c) 0) (omega arith)
    (among_rows (λ code. code ≡ 24 → ⊥) (rows_of m c) (omega arith) (other_numbers m c))
