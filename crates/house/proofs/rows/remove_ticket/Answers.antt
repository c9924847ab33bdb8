-- `house::rows::remove_ticket` meets its contract: in both buffers the block behind the ticket has moved down by a ticket's width.
use Prim.Native.Nat.{◌*◌}
use native.Mathlib.Omega.{arith}
use Rattle.house.proofs.RowLists.{closes_up}
use Rattle.house.proofs.RowLaws.{tickets_without}
use Rattle.house.proofs.rows.remove_ticket.Goals as goal

pub returns : goal.returns
returns c =
    let args = c.args in
    let rows = c.shift_down.ensures in
    let own = c.shift_down-2.ensures in
    tickets_without args.rows.now _ args.marks.now _ c.told-marks args.i args.live c.requires.within c.requires.few
    (closes_up 16 (args.i * 16) (args.live * 16) args.rows.now c.shift_down.new.items (omega arith) (omega arith) rows.len rows.by_index)
    (closes_up 80 (args.i * 80) (args.live * 80) args.marks.now c.shift_down-2.new.items (omega arith) (omega arith) own.len own.by_index)
