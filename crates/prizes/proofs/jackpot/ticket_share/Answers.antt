-- The ticket's shares are within the primary, since its winning stakes are within all of them, and its odd cents are few.
use mathlib.Core.Path.{◌≡◌}
use Prim.Native.Nat.{ℕ, ◌*◌, ◌≤◌}
use native.Mathlib.Nat.{mul-le-mul_right, le_trans}
use native.Mathlib.Omega.{arith}
use Rattle.prizes.specs.Bounds.{Winning}
use Rattle.prizes.specs.Jackpots.{share_of}
use Rattle.prizes.proofs.ShareLaws.{ticket_within}
use Rattle.prizes.proofs.jackpot.ticket_share.Goals as goal

within : {primary stakes count stake share : ℕ} → Winning primary stakes count stake → share ≡ share_of primary stakes stake → count * share ≤ primary
within {primary} {stakes} {count} {stake} w e =
    rw e (ticket_within primary stakes w.sharing.won count stake w.sharing.part)

pub share_of-requires : goal.share_of-requires
share_of-requires c =
    record {
      pool = c.requires.sharing.pool;
      limit = c.requires.sharing.limit;
      total = c.requires.sharing.total;
      won = c.requires.sharing.won;
      part = le_trans (mul-le-mul_right c.args.stake c.requires.some) c.requires.sharing.part;
      few = omega arith;
    }

pub overflow_mul-result : goal.overflow_mul-result
overflow_mul-result c = omega (arith, within c.requires c.share_of.ensures)

pub overflow_add-result : goal.overflow_add-result
overflow_add-result c = omega (arith, within c.requires c.share_of.ensures)
