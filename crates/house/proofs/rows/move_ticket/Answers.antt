-- `house::rows::move_ticket` meets its contract: in both buffers what stands at the one place has moved down to the other.
use Prim.Native.Nat.{◌+◌, ◌-◌, ◌*◌}
use native.Mathlib.Omega.{arith}
use Rattle.house.proofs.RowLists.{closes_up}
use Rattle.house.proofs.RowLaws.{tickets_moved}
use Rattle.house.proofs.rows.move_ticket.Goals as goal

pub returns : goal.returns
returns c =
    let args = c.args in
    let rows = c.copy_within.ensures in
    let own = c.copy_within-2.ensures in
    tickets_moved args.rows.now _ args.marks.now _ c.told-marks args.from args.to c.requires.within c.requires.down
    (closes_up ((args.from - args.to) * 16) (args.to * 16) (args.from * 16 + 16) args.rows.now c.copy_within.new.self (omega arith) (omega arith) rows.len rows.by_index)
    (closes_up ((args.from - args.to) * 80) (args.to * 80) (args.from * 80 + 80) args.marks.now c.copy_within-2.new.self (omega arith) (omega arith) own.len own.by_index)
