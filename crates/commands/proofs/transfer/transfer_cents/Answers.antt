-- `commands::transfer::transfer_cents` meets its contract: an accepted transfer is covered by the unclaimed money, and a reached house's primary
-- has room for it.
use native.Mathlib.Omega.{arith}
use Prim.Native.Nat.{ℕ}
use mathlib.Core.Path.{◌≡◌, sym, ap, ◌∙◌}
use mathlib.Core.Bool.{true, false}
use lib.Dec.{eqb}
use Rattle.sale.specs.Kinds.{number_of}
use Rattle.sale.specs.declared.terms.JackpotKind.{JackpotKind}
use Rattle.sale.specs.declared.terms.JackpotKind.TheVariants.{Six, Eight}
use Rattle.house.specs.Commands.{transfer, code_of}
use Rattle.house.specs.View.{view}
use Rattle.house.proofs.ViewLaws.{refused_as}
use Rattle.commands.proofs.TransferLaws.{room, transfer_done}
use Rattle.commands.proofs.transfer.transfer_cents.Goals as goal
use Rattle.commands.proofs.transfer.transfer_cents.Goals.{in-Six, in-Eight}

-- the test of the operand, by the jackpot that it names
is_six : {j : ℕ} {kind : JackpotKind} → number_of kind ≡ j → kind ≡ Six → eqb j 6 ≡ true
is_six named six = ap (λ n. eqb n 6) (sym named ∙ ap number_of six)

is_eight : {j : ℕ} {kind : JackpotKind} → number_of kind ≡ j → kind ≡ Eight → eqb j 6 ≡ false
is_eight named eight = ap (λ n. eqb n 6) (sym named ∙ ap number_of eight)

pub returns-in_err-kind : goal.returns-in_err-kind
returns-in_err-kind c words marks =
    let args = c.args in
    refused_as args.house.now words marks (transfer args.jackpot args.cents) _ _ c.from_residual.ensures.1
    (c.in_err-kind.ensures.code words marks
    ∙ ap (λ n. code_of (view args.house.now words marks) (transfer args.jackpot n)) c.from-money.ensures)

pub add_to_primary-primary-requires : goal.add_to_primary-primary-requires
add_to_primary-primary-requires c = omega (arith, c.ranges.cents, (room c.args.house.now c.requires).six)

pub add_to_primary-primary-requires-in-Eight : goal.add_to_primary-primary-requires-in-Eight
add_to_primary-primary-requires-in-Eight c = omega (arith, c.ranges.cents, (room c.args.house.now c.requires).eight)

pub returns : goal.returns
returns c words marks =
    let args = c.args in
    let same = c.from-money.ensures in
    let named = c.in_ok-kind.ensures.named in
    transfer_done args.house.now words marks args.jackpot args.cents _ _ _
    (sym (c.in_ok-kind.ensures.code words marks ∙ ap (λ n. code_of (view args.house.now words marks) (transfer args.jackpot n)) same))
    (elim c.match-kind.branch [
      | in-Six w ↦ w.house-is ∙ rw (is_six named w.in-Six.is, w.add_to_primary-primary.ensures.pools, same)
      | in-Eight w ↦ w.house-is ∙ rw (is_eight named w.in-Eight.is, w.add_to_primary-primary-in-Eight.ensures.pools, same)
    ])
    c.from.ensures
    (elim c.match-kind.branch [
      | in-Six w ↦ w.primary-is ∙ w.add_to_primary-primary.ensures.primary ∙ rw (is_six named w.in-Six.is, same)
      | in-Eight w ↦ w.primary-is ∙ w.add_to_primary-primary-in-Eight.ensures.primary ∙ rw (is_eight named w.in-Eight.is, same)
    ])
