-- `draw::ball::enter_ball` meets its contract: a refusal by the table's number, a ball more, or the twentieth, since 19 are in at the most.
use native.Mathlib.Omega.{arith}
use Rattle.house.specs.Commands.{ball}
use Rattle.house.proofs.ViewLaws.{refused_as}
use Rattle.draw.proofs.BallLaws.{drawn_few, completes}
use Rattle.draw.proofs.ball.enter_ball.Goals as goal

pub check_ball-requires : goal.check_ball-requires
check_ball-requires c = omega (arith, drawn_few c.args.house.now c.args.rows.now c.args.marks.now c.requires)

pub returns-in_err-check_ball : goal.returns-in_err-check_ball
returns-in_err-check_ball c =
    let args = c.args in
    refused_as args.house.now args.rows.now args.marks.now (ball args.number) _ _ c.from_residual.ensures.1
    (c.in_err-check_ball.ensures args.rows.now args.marks.now)

pub balls_with-requires : goal.balls_with-requires
balls_with-requires c = omega (arith, drawn_few c.args.house.now c.args.rows.now c.args.marks.now c.requires)

-- the draw is the one that the ball completes
pub settle_game-requires : goal.settle_game-requires
settle_game-requires c =
    let args = c.args in
    record {
      reached = c.requires;
      number = args.number;
      drawn =
          completes args.house.now args.rows.now args.marks.now args.number c.balls_with.result _ c.requires (omega arith)
          (c.in_ok-check_ball.ensures args.rows.now args.marks.now) c.balls_with.ensures.count
          (c.balls_with.ensures.balls args.rows.now args.marks.now) c.of-draw.ensures;
    }

pub returns : goal.returns
returns c =
    let args = c.args in
    c.settle_game.ensures args.number
    (completes args.house.now args.rows.now args.marks.now args.number c.balls_with.result _ c.requires (omega arith)
    (c.in_ok-check_ball.ensures args.rows.now args.marks.now) c.balls_with.ensures.count
    (c.balls_with.ensures.balls args.rows.now args.marks.now) c.of-draw.ensures)
