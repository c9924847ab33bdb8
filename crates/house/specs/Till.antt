-- "Till: taken (charges), seeds, paid (claims), refunded (cancels), owed (prizes neither claimed nor expired), held (paid stakes of games
-- neither drawn nor cancelled), unclaimed (expired less transferred), pooled (the six pools [..]), retained (signed [..])." With Collect "paid
-- includes collections, owed loses them". And of a game called off "owed counts these dues, held loses them".
use Rattle.std.specs.Prelude.{◌+◌, map}
use Rattle.sale.specs.Lists.{sum}
use Rattle.prizes.specs.Jackpots.{pooled}
use Rattle.house.specs.Tickets.{held_for}
use Rattle.house.specs.Model.{Model}
pub use Rattle.house.specs.Figures.{Figures}

unfoldable pub till_of : Model → Figures
till_of m =
    record {
      taken = m.counters.taken;
      seeds = m.counters.seeds;
      paid = m.counters.paid;
      refunded = m.counters.refunded;
      owed = sum (map (λ t. t.due) m.live);
      held = sum (map (held_for m.game) m.live);
      unclaimed = m.counters.unclaimed;
      pooled = pooled m.six + pooled m.eight;
      gained = m.counters.gained;
      lost = m.counters.lost;
    }
