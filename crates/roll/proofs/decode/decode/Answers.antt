-- `roll::decode::decode` meets its contract: each return is a case of the definition, told by the tests that led there.
use Prim.Native.Nat.{◌+◌}
use native.Mathlib.Omega.{arith}
use mathlib.Core.Path.{◌≡◌, sym, ap, ◌∙◌}
use mathlib.Core.List.{◌∷◌}
use Rattle.std.specs.Prelude.{Err}
use Rattle.std.proofs.lemmas.List.{nil_from_length}
use Rattle.std.proofs.lemmas.Option.{MatchOption-at_none}
use Rattle.std.proofs.lemmas.Result.{err_from_is_err_and}
use Rattle.roll.specs.Decode.{command_row}
use Rattle.roll.specs.Orders.{order_by, decoded_at}
use Rattle.roll.specs.declared.stop.Stop.TheVariants.{UnknownByte}
use Rattle.roll.proofs.DecodeLaws.{operands_told, unknown_told, order_told, unknown_here, short_here, whole_here}
use Rattle.roll.proofs.decode.decode.Goals as goal

pub returns-in_default : goal.returns-in_default
unfolding decoded_at
returns-in_default c =
    sym (ap decoded_at (nil_from_length c.args.rest.now (MatchOption-at_none _ _ c.in_default.is c.split_first.ensures.cases)))

pub returns-in_err-count : goal.returns-in_err-count
returns-in_err-count c =
    let split : c.args.rest.now ≡ c.in-Some.field-0-0.now ∷ c.in-Some.operands.now = c.in-Some.ensures.cases.0 in
    let none = c.in_err-count.ensures.ok_part in
    let told = rw none at c.in_err-count.ensures.value in
    let stop : c.in_err-count.field-0.0 ≡ UnknownByte = cc in
    let passed = err_from_is_err_and c.from_residual.result c.from_residual.ensures.1 in
    passed.1 ∙ ap Err (passed.2 ∙ stop)
    ∙ sym (ap decoded_at split ∙ unknown_here _ _ (unknown_told _ (sym c.operand_bytes.ensures ∙ none)))

pub returns-then-operands-count : goal.returns-then-operands-count
returns-then-operands-count c =
    let split : c.args.rest.now ≡ c.in-Some.field-0-0.now ∷ c.in-Some.operands.now = c.in-Some.ensures.cases.0 in
    let count = operands_told _ c.in_ok-count.count (sym c.operand_bytes.ensures ∙ c.in_ok-count.ensures.ok_part) in
    sym (ap decoded_at split ∙ short_here _ _ (omega arith))

pub returns : goal.returns
returns c =
    let split : c.args.rest.now ≡ c.in-Some.field-0-0.now ∷ c.in-Some.operands.now = c.in-Some.ensures.cases.0 in
    let count = operands_told _ c.in_ok-count.count (sym c.operand_bytes.ensures ∙ c.in_ok-count.ensures.ok_part) in
    let byte = c.in-Some.field-0-0.now in
    let operands = c.in-Some.operands.now in
    order_told _ _ _ _ c.in_ok-command.ensures
    ∙ ap (λ n. order_by (command_row byte) operands (n + 1)) (sym count)
    ∙ sym (ap decoded_at split ∙ whole_here byte operands (omega arith))
