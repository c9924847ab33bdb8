-- `settlement::features::find_prizes` meets its contract: the feature prizes joined to the payouts of the ways are all prizes.
use Rattle.settlement.proofs.FeatureLaws.{payouts_fit, prized}
use Rattle.settlement.proofs.features.find_prizes.Goals as goal

pub add_features-requires-clause-room : goal.add_features-requires-clause-room
add_features-requires-clause-room c = payouts_fit c.args.game.now c.find_payouts.ensures c.requires.room

pub returns : goal.returns
returns c = prized c.args.game.now c.find_payouts.ensures c.add_features.ensures
