-- `settlement::figures::find_figures` meets its contract: each turn adds one row's figures, and each total is that of the rows passed, within so many
-- of the most that one row adds.
use mathlib.Core.Path.{◌≡◌}
use Rattle.settlement.specs.Passing.{full_of}
use Rattle.sale.specs.declared.terms.JackpotKind.TheVariants.{Six, Eight}
use Rattle.settlement.specs.Sharing.{paid_in, stakes_of}
use Rattle.settlement.proofs.figures.find_figures.Given as goal

abbrev pub invariant-loop-i : goal.invariant-loop-i
invariant-loop-i l = record {
  stakes : l.stakes ≡ paid_in l.game.rows.now l.game.game l.i;
  six : l.six ≡ stakes_of l.game.rows.now (full_of l.ways) l.game.game Six l.i;
  eight : l.eight ≡ stakes_of l.game.rows.now (full_of l.ways) l.game.game Eight l.i;
}
