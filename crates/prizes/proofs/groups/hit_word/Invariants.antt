-- `hit_word` meets its contract. The loop's invariant: the word counts the marks of the balls passed, a byte for each group.
use Rattle.prizes.proofs.HitLaws.{Drawn}
use Rattle.prizes.proofs.groups.hit_word.Given as goal

abbrev pub invariant-loop-ball : goal.invariant-loop-ball
invariant-loop-ball l = Drawn l.marks l.fn.draw.balls l.ball-index l.word
