-- `draw::ball::balls_with` meets its contract: the number is stored behind the balls in.
use native.Mathlib.Omega.{arith}
use Rattle.house.specs.View.{view}
use Rattle.draw.proofs.BallLaws.{balls_more}
use Rattle.draw.proofs.ball.balls_with.Goals as goal

pub returns-clause-balls : goal.returns-clause-balls
unfolding view
returns-clause-balls c words marks =
    balls_more c.args.house.now.balls c.args.house.now.drawn c.args.number (omega arith)
