-- `settlement::payouts::row_terms` meets its contract: the kind is that of its number, and the other words are the terms.
use Rattle.settlement.proofs.payouts.row_terms.Goals as goal

pub returns : goal.returns
returns c =
    let row = c.args.row in
    λ i. record { kind = c.from.ensures i; games = row.games; stake = row.stake; groups = row.groups; types = row.types }
