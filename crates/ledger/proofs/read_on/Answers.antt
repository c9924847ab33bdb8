-- `ledger::read_on` meets its contract: at most 64 answers fit the book, and a full book has some of the roll in it.
use Rattle.std.proofs.Common.{◌<◌, ◌+◌, ◌∙◌, length, drop, arith, sym, subst}
use Rattle.house.specs.Balance.{Reached}
use Rattle.house.specs.View.{view}
use Rattle.roll.proofs.RollsBalanced.{read_reached}
use Rattle.ledger.proofs.SittingLaws.{answers_within, full_reads}
use Rattle.ledger.proofs.read_on.Goals as goal

pub returns-clause-reads_on : goal.returns-clause-reads_on
returns-clause-reads_on c =
    let a = c.args in
    let read = c.read_roll.ensures in
    let roll = a.roll.now in
    let m = view a.house a.rows.now a.marks.now in
    record {
      reached = subst Reached (sym read.house) (read_reached m roll a.book.now c.requires);
      shorter =
          λ stop.
          subst (λ k. length (drop k roll) < length roll) (sym read.read)
          (full_reads m roll a.book.now (omega arith) (sym read.stop ∙ stop));
    }

pub returns-clause-few : goal.returns-clause-few
returns-clause-few c =
    let a = c.args in
    omega (arith, c.read_roll.ensures.answers, answers_within (length a.roll.now + 1) (view a.house a.rows.now a.marks.now) a.roll.now a.book.now)
