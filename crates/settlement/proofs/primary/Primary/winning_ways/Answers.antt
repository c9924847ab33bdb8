-- `settlement::primary::Primary::winning_ways` meets its contract: the test on the jackpot is the definition's.
use mathlib.Core.Path.{sym, ◌∙◌}
use Rattle.sale.specs.Kinds.{number_of}
use Rattle.settlement.proofs.SharingLaws.{plays_count, rests_count, stake_here}
use Rattle.settlement.proofs.primary.Primary.winning_ways.Goals as goal

pub returns-then-row-from : goal.returns-then-row-from
returns-then-row-from c =
    let primary = c.args.self.now in
    record {
      count = plays_count primary.rows.now primary.ways.now c.args.i c.requires (number_of primary.jackpot) c.read_row-row.result c.read_row-row.ensures (c.if-row-from.true ∙ c.from.ensures);
      stake = stake_here primary.rows.now primary.ways.now c.args.i c.requires (number_of primary.jackpot) c.read_row-row.result c.read_row-row.ensures;
    }

pub returns-else-row-from : goal.returns-else-row-from
returns-else-row-from c =
    let primary = c.args.self.now in
    record {
      count = rests_count primary.rows.now primary.ways.now c.args.i c.requires (number_of primary.jackpot) c.read_row-row.result c.read_row-row.ensures (λ e. c.if-row-from.false (e ∙ sym c.from.ensures));
      stake = stake_here primary.rows.now primary.ways.now c.args.i c.requires (number_of primary.jackpot) c.read_row-row.result c.read_row-row.ensures;
    }
