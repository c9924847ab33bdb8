-- `hit_word` meets its contract. The loop's invariant: the word counts the marks of the balls passed, a byte for each group.
use mathlib.Core.Path.{◌≡◌, sym, subst}
use mathlib.Core.List.{List}
use Prim.Native.Nat.{ℕ, ◌<◌}
use native.Mathlib.Omega.{arith}
use borrow.Author.Rules.{rules}
use Rattle.sale.specs.Ways.{mark_of}
use Rattle.sale.specs.Bounds.{Grouping}
use Rattle.prizes.specs.Hits.{hits_of}
use Rattle.prizes.proofs.HitLaws.{Drawn, drawn_none, drawn_more, drawn_fits, drawn_all, mark_few}
use Rattle.prizes.proofs.groups.hit_word.Goals as goal

-- a mark names a group or none
inside : (marks : List ℕ) (n : ℕ) {m : ℕ} → Grouping marks → m ≡ mark_of marks n → m < 9
inside marks n g e = subst (λ k. k < 9) (sym e) (mark_few marks g n)

pub loop-ball-init : goal.loop-ball-init
loop-ball-init c = drawn_none _ _

pub bounds-units-mark_of : goal.bounds-units-mark_of
bounds-units-mark_of c = inside c.args.marks.now _ c.requires c.mark_of.ensures

pub overflow_add-word : goal.overflow_add-word
overflow_add-word c =
    let marks = c.args.marks.now in
    let balls = c.args.draw.balls in
    let more =
    drawn_more marks balls c.loop-ball.invariant c.loop-ball-test.true (search rules) c.mark_of.ensures (inside marks _ c.requires c.mark_of.ensures) in
    record { fits = drawn_fits marks balls more }

pub loop-ball-preserved : goal.loop-ball-preserved
loop-ball-preserved c =
    let marks = c.args.marks.now in
    drawn_more marks c.args.draw.balls c.loop-ball.invariant c.loop-ball-test.true (search rules) c.mark_of.ensures
    (inside marks _ c.requires c.mark_of.ensures)

pub returns : goal.returns
unfolding hits_of
returns c =
    let turn = c.loop-ball in
    let marks = c.args.marks.now in
    let balls = c.args.draw.balls in
    let all : turn.ball-index ≡ 20 = omega (arith, turn.invariant.within, c.loop-ball-test.false) in
    drawn_all marks balls (search rules) (subst (λ n. Drawn marks balls n turn.word) all turn.invariant)
