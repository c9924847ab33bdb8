-- `tickets::sell::sell_ticket` meets its contract: a refusal is the first row of Sell's table that is met; else the row appended is the new ticket,
-- and the struct counts it. The sums fit, since the house is a reached one.
use Prim.Native.Nat.{ℕ, ◌+◌, ◌<◌}
use native.Mathlib.Omega.{arith}
use mathlib.Core.Path.{◌≡◌, refl, sym, ap, ◌∙◌}
use Rattle.std.specs.Prelude.{Err}
use mathlib.Core.List.{List}
use Rattle.refusals.specs.declared.refusal.Refusal.TheVariants.{NotOpen}
use Rattle.sale.specs.Checks.{Operands, operands_of, charge_of}
use Rattle.sale.specs.declared.check.Quote.{Quote}
use Rattle.house.specs.Model.{live_limit}
use Rattle.house.specs.Commands.{sell, code_of, act, reply, replies, answer_of}
use Rattle.house.specs.Till.{till_of}
use Rattle.house.specs.View.{view}
use Rattle.house.specs.declared.state.House.{House}
use Rattle.house.proofs.Refusals.{sell_accepted, OperandsAccepted, operands_accepted}
use Rattle.house.proofs.ReachedHouses.{Sure, reached_sure}
use Rattle.house.proofs.ViewLaws.{refused_as, carried_done, live_count}
use Rattle.tickets.specs.Steps.{Quoted}
use Rattle.tickets.proofs.SellLaws.{sale_closed, sale_unfit, sale_room, house_sold}
use Rattle.tickets.proofs.sell.sell_ticket.Goals as goal
use Rattle.tickets.proofs.sell.sell_ticket.Goals.{In_ok-check_room}

-- what is known of a sale of a reached house that no row of the table refuses, with the quote of its operands
record Accepts (h : House) (words marks : List ℕ) (o : Operands) (q : Quote) : Type 0 where
  sure : Sure (view h words marks)
  passed : code_of (view h words marks) (sell o) ≡ 0
  quoted : Quoted q o
  fitting : OperandsAccepted o
  charged : q.charge ≡ charge_of o
  room : h.live < live_limit

accepts : (c : In_ok-check_room) → Accepts c.args.house.now c.args.rows.now c.args.marks.now (operands_of c.args.sale c.args.from.now) c.in_ok-quote.quote
unfolding view
accepts c =
    let args = c.args in
    let m = view args.house.now args.rows.now args.marks.now in
    let o = operands_of args.sale args.from.now in
    let fits = c.in_ok-quote.ensures.code in
    let passed : code_of m (sell o) ≡ 0 = sale_room m o c.if-house-eq0.false fits ∙ sym (c.in_ok-check_room.ensures args.rows.now args.marks.now) in
    record {
      sure = reached_sure m c.requires;
      passed = passed;
      quoted = record { quote = c.in_ok-quote.ensures.quote; passed = sym fits };
      fitting = operands_accepted o (sym fits);
      charged = ap (λ (q : Quote). q.charge) c.in_ok-quote.ensures.quote;
      room = omega (arith, (sell_accepted m o passed).room, live_count args.house.now args.rows.now args.marks.now);
    }

pub returns-then-house-eq0 : goal.returns-then-house-eq0
unfolding view
returns-then-house-eq0 c =
    let args = c.args in
    let o = operands_of args.sale args.from.now in
    refused_as args.house.now args.rows.now args.marks.now (sell o) (Err NotOpen) NotOpen refl (sym (sale_closed (view args.house.now args.rows.now args.marks.now) o c.if-house-eq0.true))

pub returns-in_err-quote : goal.returns-in_err-quote
unfolding view
returns-in_err-quote c =
    let args = c.args in
    let o = operands_of args.sale args.from.now in
    refused_as args.house.now args.rows.now args.marks.now (sell o) _ _ c.from_residual.ensures.1
    (sym (sale_unfit (view args.house.now args.rows.now args.marks.now) o c.if-house-eq0.false _ c.in_err-quote.ensures.code))

pub returns-in_err-check_room : goal.returns-in_err-check_room
unfolding view
returns-in_err-check_room c =
    let args = c.args in
    let o = operands_of args.sale args.from.now in
    refused_as args.house.now args.rows.now args.marks.now (sell o) _ _ c.from_residual-in_err-check_room.ensures.1
    (c.in_err-check_room.ensures args.rows.now args.marks.now
    ∙ sym (sale_room (view args.house.now args.rows.now args.marks.now) o c.if-house-eq0.false c.in_ok-quote.ensures.code))

pub check_room-requires : goal.check_room-requires
unfolding view
check_room-requires c = record { within = (reached_sure _ c.requires).game }

pub sold_row-row-requires : goal.sold_row-row-requires
unfolding view
sold_row-row-requires c =
    let s = reached_sure _ c.requires in
    (record { within = s.game }, s.issued)

pub append_ticket-requires : goal.append_ticket-requires
append_ticket-requires c =
    let here = accepts (goal.at.append_ticket-requires c).In_ok-check_room in
    record { within = here.room; count = here.fitting.eighty }

pub overflow_add-house : goal.overflow_add-house
unfolding view
overflow_add-house c = omega (arith, (reached_sure _ c.requires).issued)

pub overflow_add-house-2 : goal.overflow_add-house-2
overflow_add-house-2 c = omega (arith, (accepts (goal.at.overflow_add-house-2 c).In_ok-check_room).room)

pub overflow_add-house-3 : goal.overflow_add-house-3
unfolding view till_of
overflow_add-house-3 c =
    let here = accepts (goal.at.overflow_add-house-3 c).In_ok-check_room in
    omega (arith, here.sure.fit.figures.taken, here.charged, here.fitting.charge)

pub overflow_cast-result : goal.overflow_cast-result
unfolding view
overflow_cast-result c = omega (arith, (reached_sure _ c.requires).issued)

pub returns : goal.returns
unfolding view act reply
returns c =
    let args = c.args in
    let words = args.rows.now in
    let marks = args.marks.now in
    let o = operands_of args.sale args.from.now in
    let after = c.append_ticket in
    let here = accepts (goal.at.returns c).In_ok-check_room in
    let charged : c.from-cents.result ≡ charge_of o = c.from-cents.ensures ∙ here.charged in
    carried_done args.house.now words marks (sell o) _ after.new.rows after.new.marks _ here.passed
    (house_sold args.house.now words marks o _ after.new.rows after.new.marks _ here.room charged after.ensures
    (c.sold_row-row.ensures words marks args.from.now here.quoted))
    (ap (λ cents. answer_of (replies (args.house.now.issued + 1) cents)) charged)
