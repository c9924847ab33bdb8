-- `tickets::expire::expire_tickets` meets its contract: the tickets that stay are those of the house after it, the others are counted, and their
-- dues are within what the reached house owes, so the sum fits.
use Prim.Native.Nat.{◌-◌}
use native.Mathlib.Omega.{arith}
use mathlib.Core.Path.{◌≡◌, refl, sym, ap₂}
use Rattle.std.specs.Prelude.{Err}
use lib.ListN.{length}
use Rattle.refusals.specs.declared.refusal.Refusal.TheVariants.{NotOpen}
use Rattle.house.specs.Commands.{expire, replies, answer_of, act, reply, expiring}
use Rattle.house.specs.Till.{till_of}
use Rattle.house.specs.View.{view}
use Rattle.house.proofs.Ledger.{Kept}
use Rattle.house.proofs.ReachedHouses.{Sure, reached_sure}
use Rattle.house.proofs.ViewLaws.{refused_as, carried_done, live_count, each_live}
use Rattle.tickets.proofs.ExpireLaws.{expire_closed, expire_open, kept_tells, dues_within, house_expired}
use Rattle.tickets.proofs.expire.expire_tickets.Goals as goal

pub returns-then-house-eq0 : goal.returns-then-house-eq0
unfolding view
returns-then-house-eq0 c =
    let args = c.args in
    refused_as args.house.now args.rows.now args.marks.now expire (Err NotOpen) NotOpen refl (sym (expire_closed (view args.house.now args.rows.now args.marks.now) c.if-house-eq0.true))

pub drop_expired-sweep-requires : goal.drop_expired-sweep-requires
unfolding till_of view
drop_expired-sweep-requires c =
    let args = c.args in
    let m = view args.house.now args.rows.now args.marks.now in
    let sure : Sure m = reached_sure m c.requires in
    record {
      live_bound = (omega (arith, live_count args.house.now args.rows.now args.marks.now, sure.few), sure.fit.figures.owed);
      days = λ i b. kept_tells m.game _ (each_live args.house.now args.rows.now args.marks.now (Kept m.game) sure.kept i b);
    }

pub overflow_sub-gone : goal.overflow_sub-gone
overflow_sub-gone c =
    let args = c.args in
    omega (arith, live_count args.house.now args.rows.now args.marks.now, c.drop_expired-sweep.ensures.gone)

pub overflow_add-house : goal.overflow_add-house
unfolding view till_of
overflow_add-house c =
    let args = c.args in
    let m = view args.house.now args.rows.now args.marks.now in
    let figures = (reached_sure m c.requires).fit.figures in
    omega (arith, figures.unclaimed, figures.owed, dues_within m, c.drop_expired-sweep.ensures.dues)

pub overflow_cast-result : goal.overflow_cast-result
overflow_cast-result c =
    let args = c.args in
    omega (arith, live_count args.house.now args.rows.now args.marks.now, (reached_sure _ c.requires).few)

pub returns : goal.returns
unfolding view act reply
returns c =
    let args = c.args in
    let words = args.rows.now in
    let marks = args.marks.now in
    let m = view args.house.now words marks in
    let words' = c.drop_expired-sweep.new.rows in
    let marks' = c.drop_expired-sweep.new.marks in
    let sweep = c.drop_expired-sweep.result in
    let done = c.drop_expired-sweep.ensures in
    let gone : args.house.now.live - sweep.left ≡ length (expiring m) = omega (arith, done.gone, live_count args.house.now words marks) in
    carried_done args.house.now words marks expire _ words' marks' _
    (expire_open m c.if-house-eq0.false)
    (house_expired args.house.now words marks (reached_sure m c.requires) words' marks' sweep.left sweep.cents done)
    (ap₂ (λ number cents. answer_of (replies number cents)) gone done.dues)
