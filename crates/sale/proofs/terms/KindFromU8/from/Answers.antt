-- A kind from its number meets its contract: at each number that the `match` names, the definition computes to the arm's kind; in the last arm no test
-- of the definition passes. Assumes nothing.
use mathlib.Core.Path.{sym, ap}
use native.Mathlib.Omega.{arith}
use borrow.Author.Tests.{ne_eqb}
use Rattle.sale.specs.Kinds.{kind_of}
use Rattle.sale.proofs.terms.KindFromU8.from.Goals as goal

pub returns-in-0 : goal.returns-in-0
unfolding kind_of
returns-in-0 c = sym (ap kind_of c.in-0.is)

pub returns-in-1 : goal.returns-in-1
unfolding kind_of
returns-in-1 c = sym (ap kind_of c.in-1.is)

pub returns-in-2 : goal.returns-in-2
unfolding kind_of
returns-in-2 c = sym (ap kind_of c.in-2.is)

pub returns-in_default : goal.returns-in_default
unfolding kind_of
returns-in_default c =
    let n = c.args.number in
    simp (ne_eqb n 0 (λ e. omega arith), ne_eqb n 1 (λ e. omega arith), ne_eqb n 2 (λ e. omega arith))
