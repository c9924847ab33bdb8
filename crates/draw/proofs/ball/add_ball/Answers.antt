-- `draw::ball::add_ball` meets its contract: fewer than twenty balls are in with it, so the game goes on.
use native.Mathlib.Omega.{arith}
use mathlib.Core.Path.{sym, ap, ◌∙◌}
use Prim.Native.Nat.{◌+◌}
use Rattle.house.specs.Commands.{ball, replies, answer_of}
use Rattle.house.specs.View.{view}
use Rattle.house.proofs.ViewLaws.{carried_done, balls_count}
use Rattle.draw.proofs.BallLaws.{entered_view, early_act}
use Rattle.draw.proofs.ball.add_ball.Goals as goal

pub returns : goal.returns
returns c = λ words marks coded.
    let house = c.args.house.now in
    let number = c.args.number in
    let in_now = balls_count house words marks in
    let early = early_act (view house words marks) number (λ e. omega (arith, c.requires, in_now)) in
    carried_done house words marks (ball number) _ words marks _ coded
    (entered_view house words marks number c.balls_with-house.result (c.balls_with-house.ensures.balls words marks) ∙ sym early.0)
    (ap (λ n. answer_of (replies (n + 1) 0)) (sym in_now) ∙ ap answer_of (sym early.1))
