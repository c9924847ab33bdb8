-- `settlement::primary::Primary::share_at` meets its contract: ways that were read are among all winning ways, so that their share fits; and with no odd cent
-- to give, or no way to give it to, none is given whatever ranks before.
use native.Mathlib.Omega.{arith}
use Rattle.settlement.proofs.PrimaryLaws.{winning_read}
use Rattle.settlement.proofs.primary.Primary.share_at.Goals as goal

pub overflow_cast-ways : goal.overflow_cast-ways
overflow_cast-ways c =
    let read = c.winning_ways-ways.ensures in
    let mine = winning_read c.args.self.now c.requires.won c.args.i _ _ c.requires.place read.count read.stake c.if-ways-eq0.false in
    record { fits = omega (arith, mine.sharing.limit) }

pub ticket_share-requires : goal.ticket_share-requires
ticket_share-requires c =
    let read = c.winning_ways-ways.ensures in
    winning_read c.args.self.now c.requires.won c.args.i _ _ c.requires.place read.count read.stake c.if-ways-eq0.false
