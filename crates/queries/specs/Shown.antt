-- The till and the pools as a caller gets them: the nine figures, retained with its sign.
use Rattle.std.specs.Prelude.{◌-◌, min, max, ltb}
use Rattle.house.specs.Model.{Model}
use Rattle.house.specs.Till.{Figures}
use Rattle.queries.specs.declared.till.Till.{Till}
use Rattle.queries.specs.declared.till.Pools.{Pools}

-- the figures as a caller gets them: retained by its size, and whether it is below zero
unfoldable pub shown_till : Figures → Till
shown_till f =
    record {
      taken = f.taken;
      seeds = f.seeds;
      paid = f.paid;
      refunded = f.refunded;
      owed = f.owed;
      held = f.held;
      unclaimed = f.unclaimed;
      pooled = f.pooled;
      retained = max f.gained f.lost - min f.gained f.lost;
      negative = ltb f.gained f.lost;
    }

-- the pools and the debt of each jackpot
abbrev pub pools_of : Model → Pools
pools_of m = record { six = m.six; eight = m.eight }
