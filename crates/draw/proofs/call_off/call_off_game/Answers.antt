-- `draw::call_off::call_off_game` meets its contract: a refusal by the table's number, or the end of the game, with what each ticket paid for it as its award.
use native.Mathlib.Omega.{arith}
use mathlib.Core.Path.{sym, ap, ◌∙◌}
use Rattle.house.specs.Commands.{call_off, replies, answer_of, stakes_paid, game_called_off, act, reply}
use Rattle.house.specs.View.{view}
use Rattle.house.proofs.ReachedHouses.{reached_sure}
use Rattle.house.proofs.ViewLaws.{carried_done, refused_as}
use Rattle.draw.proofs.CallOffLaws.{stakes_spread, stakes_total, rows_priced, stakes_endable}
use Rattle.draw.proofs.call_off.call_off_game.Goals as goal

pub returns-in_err-check_call_off : goal.returns-in_err-check_call_off
returns-in_err-check_call_off c =
    let args = c.args in
    refused_as args.house.now args.rows.now args.marks.now call_off _ _ c.from_residual.ensures.1
    (c.in_err-check_call_off.ensures args.rows.now args.marks.now)

pub overflow_cast-game : goal.overflow_cast-game
unfolding view
overflow_cast-game c =
    record { fits = omega (arith, (reached_sure (view c.args.house.now c.args.rows.now c.args.marks.now) c.requires).game) }

pub find_stakes-cents-requires : goal.find_stakes-cents-requires
find_stakes-cents-requires c = rows_priced c.args.house.now c.args.rows.now c.args.marks.now c.requires

pub end_game-requires : goal.end_game-requires
end_game-requires c =
    stakes_endable c.args.house.now c.args.rows.now c.args.marks.now c.find_stakes-cents.new.stakes c.requires c.find_stakes-cents.ensures.each

pub returns : goal.returns
unfolding act reply game_called_off view
returns c =
    let house = c.args.house.now in
    let rows = c.args.rows.now in
    let marks = c.args.marks.now in
    let stakes = stakes_paid (view house rows marks) in
    carried_done house rows marks call_off c.end_game.result c.end_game.new.rows c.end_game.new.marks _
    (sym (c.in_ok-check_call_off.ensures rows marks))
    (c.end_game.ensures stakes (c.find_stakes-cents.ensures.each ∙ stakes_spread house rows marks))
    (ap (λ cents. answer_of (replies house.game cents)) (c.find_stakes-cents.ensures.total ∙ stakes_total house rows marks))
