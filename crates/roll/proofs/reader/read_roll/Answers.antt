-- `roll::reader::read_roll` meets its contract: at each whole command, what stands there (`stands`) says that it ends within the roll; once it is
-- carried out and its record is written, the rest of the reading is that of what is left (`answered_once`).
use Prim.Native.Nat.{ℕ, ◌+◌, ◌-◌, ◌*◌, ◌≤◌}
use mathlib.Core.Path.{◌≡◌, sym, ap, subst, ◌∙◌}
use mathlib.Core.List.{List, ◌++◌}
use native.Mathlib.Omega.{arith}
use lib.ListN.{length, get_or, take, drop, length-drop}
use lib.Seq.{take_all, length-take-le}
use borrow.Rule.Slice.PartMut.{put_mid}
use Rattle.house.specs.Model.{Model}
use Rattle.house.specs.Commands.{step}
use Rattle.house.specs.Balance.{Reached}
use Rattle.house.specs.View.{view}
use Rattle.commands.specs.Meant.{meant}
use Rattle.house.specs.declared.answer.Answer.{Answer}
use Rattle.house.specs.declared.state.House.{House}
use Rattle.commands.specs.declared.command.Command.{Command}
use Rattle.house.proofs.Theorem.{reached_step}
use Rattle.roll.specs.Decode.{marks_in, record_of}
use Rattle.roll.specs.Reading.{Reading}
use Rattle.std.specs.Prelude.{Result, Ok}
use Rattle.roll.specs.Orders.{CommandSize, decoded_at, reading_of, Reported}
use Rattle.roll.specs.Stop.{stop_number}
use Rattle.roll.specs.declared.stop.Stop.{Stop}
use Rattle.roll.specs.declared.decode.Order.{Order}
use Rattle.roll.specs.declared.reader.Report.{Report}
use Rattle.roll.proofs.DecodeLaws.{Stands, stands, size_apart}
use Rattle.roll.proofs.ReadingLaws.{Quiet, Ahead, Ended, refused_here, ahead_stops, ahead_full, ahead_more, command_within, part_written, book_long, record_long}
use Rattle.roll.proofs.reader.read_roll.Goals.{in_default, in-Ok+then-book-written-lt14}
use Rattle.roll.proofs.reader.read_roll.Goals as goal

-- the report at the end
reported :
    (h : House) (words marks roll lent : List ℕ) (r : Report) (words' marks' written : List ℕ)
    → (Quiet h words marks roll lent → (r.house ≡ h) × (words' ≡ words) × (marks' ≡ marks))
    → Ended (reading_of h words marks roll lent) (view r.house words' marks') r.stop r.read r.answers written
    → Reported h words marks roll lent r words' marks' written
reported h words marks roll lent r words' marks' written same e =
    record { house = e.house; stop = e.stop; read = e.bytes; answers = e.count; book = e.text; refused = same }

-- what is left of a roll
left : (roll : List ℕ) (read : ℕ) → take (length roll - read) (drop read roll) ≡ drop read roll
left roll read = take_all (length roll - read) (drop read roll) (omega (arith, length-drop read roll))

-- what was decoded stands there
stands_left :
    (roll : List ℕ) (read : ℕ) (order : Order) (decoded : Result Order Stop)
    → decoded ≡ decoded_at (take (length roll - read) (drop read roll))
    → decoded ≡ Ok order
    → Stands (drop read roll) order.command order.size
stands_left roll read order decoded told is = stands (drop read roll) order (sym (told ∙ ap decoded_at (left roll read)) ∙ is)

-- so many bytes of what is left are as many
own_bytes : (roll : List ℕ) (read size : ℕ) → read + size ≤ length roll → length (take size (take (length roll - read) (drop read roll))) ≡ size
own_bytes roll read size within =
    ap (λ l. length (take size l)) (left roll read) ∙ length-take-le size (drop read roll) (omega (arith, length-drop read roll))

-- a command carried out where it stands, and its answer's record written into the part of the book that is lent on
module _ (quiet : Type 0) (whole : Reading) (m : Model) (roll book : List ℕ) (read answers : ℕ) (ahead : Ahead quiet whole m roll book read answers)
    (order : Command) (size : ℕ) (s : Stands (drop read roll) order size) (marks : List ℕ) (room : 14 ≤ length book - answers * 14)
    (lent : marks ≡ marks_in (drop 1 (take size (drop read roll)))) where
  abbrev done : ℕ
  done = answers * 14

  fits : done + 14 ≤ length book
  fits = omega (arith, ahead.room)

  -- where nothing was to be accepted, neither is this command
  not_accepted : quiet → (step m (meant order marks)).answer.code ≡ 0 → ⊥
  not_accepted q zero = refused_here quiet whole m roll book read answers ahead order size s marks fits lent q zero

  module _ (h : Model) (last : List ℕ) (house : h ≡ (step m (meant order marks)).house)
      (written : last ≡ record_of (get_or (drop read roll) 0 0) (step m (meant order marks)).answer ++ drop 14 (take (length book - done) (drop done book))) where
    abbrev answer : Answer
    answer = (step m (meant order marks)).answer

    text : put_mid done (length book - done) book last ≡ take done book ++ (record_of (get_or (drop read roll) 0 0) answer ++ drop 14 (drop done book))
    text = part_written book (record_of (get_or (drop read roll) 0 0) answer) done (record_long (get_or (drop read roll) 0 0) answer) fits last written

    answered_once : Ahead quiet whole h roll (put_mid done (length book - done) book last) (read + size) (answers + 1)
    answered_once =
        subst (λ x. Ahead quiet whole x roll (put_mid done (length book - done) book last) (read + size) (answers + 1)) (sym house)
        (ahead_more quiet whole m roll book read answers ahead order size s marks fits lent (put_mid done (length book - done) book last) text)

    as_long : length (put_mid done (length book - done) book last) ≡ length book
    as_long = ap length text ∙ book_long book (record_of (get_or (drop read roll) 0 0) answer) done (record_long (get_or (drop read roll) 0 0) answer) fits

pub returns : goal.returns
returns c =
    let inv = c.loop-order.invariant in
    elim c.match-decoded.branch [
      | in_default w ↦
          reported _ _ _ _ _ _ _ _ _ inv.same
          (ahead_stops _ _ _ _ _ _ _ inv.ahead _ _ (c.from.ensures ∙ ap stop_number w.stop-is)
          (sym (c.decode-decoded.ensures ∙ ap decoded_at (left c.args.roll.now c.loop-order.read)) ∙ w.unwrap_err-stop.ensures))
      | in-Ok+then-book-written-lt14 w ↦
          let s = stands_left c.args.roll.now c.loop-order.read w.in-Ok.order _ c.decode-decoded.ensures w.in-Ok.is in
          reported _ _ _ _ _ _ _ _ _ inv.same
          (ahead_full _ _ _ _ _ _ _ inv.ahead _ _ s _ (c.from.ensures ∙ ap stop_number w.stop-is) (omega (arith, w.if-book-written-lt14.true, inv.ahead.room)))
    ]

pub slice_bounds-bytes-end : goal.slice_bounds-bytes-end
slice_bounds-bytes-end c =
    let s = stands_left c.args.roll.now c.loop-order.read c.in-Ok.order _ c.decode-decoded.ensures c.in-Ok.is in
    let within = command_within _ _ _ _ _ _ _ c.loop-order.invariant.ahead _ _ s in
    sym (own_bytes c.args.roll.now c.loop-order.read c.in-Ok.order.size within)

pub bounds-rest-0 : goal.bounds-rest-0
bounds-rest-0 c =
    let s = stands_left c.args.roll.now c.loop-order.read c.in-Ok.order _ c.decode-decoded.ensures c.in-Ok.is in
    let within = command_within _ _ _ _ _ _ _ c.loop-order.invariant.ahead _ _ s in
    omega (arith, s.long, ap length (left c.args.roll.now c.loop-order.read), length-drop c.loop-order.read c.args.roll.now)

pub marks_of-requires : goal.marks_of-requires
marks_of-requires c =
    let s = stands_left c.args.roll.now c.loop-order.read c.in-Ok.order _ c.decode-decoded.ensures c.in-Ok.is in
    let within = command_within _ _ _ _ _ _ _ c.loop-order.invariant.ahead _ _ s in
    subst CommandSize (sym (own_bytes c.args.roll.now c.loop-order.read c.in-Ok.order.size within)) (size_apart s)

pub overflow_add-read : goal.overflow_add-read
overflow_add-read c =
    let s = stands_left c.args.roll.now c.loop-order.read c.in-Ok.order _ c.decode-decoded.ensures c.in-Ok.is in
    let within = command_within _ _ _ _ _ _ _ c.loop-order.invariant.ahead _ _ s in
    omega arith

pub loop-order-smaller : goal.loop-order-smaller
loop-order-smaller c =
    let s = stands_left c.args.roll.now c.loop-order.read c.in-Ok.order _ c.decode-decoded.ensures c.in-Ok.is in
    let within = command_within _ _ _ _ _ _ _ c.loop-order.invariant.ahead _ _ s in
    omega (arith, s.long)

pub loop-order-preserved : goal.loop-order-preserved
loop-order-preserved c =
    let inv = c.loop-order.invariant in
    let rest = left c.args.roll.now c.loop-order.read in
    let done = c.answer_order.ensures in
    let written = rw rest at done.written in
    let lent = c.marks_of.ensures ∙ ap (λ l. marks_in (drop 1 (take c.in-Ok.order.size l))) rest in
    let s = stands_left c.args.roll.now c.loop-order.read c.in-Ok.order _ c.decode-decoded.ensures c.in-Ok.is in
    record {
      reached = subst Reached (sym done.house) (reached_step _ _ inv.reached);
      ahead =
          answered_once _ _ _ _ _ _ _ inv.ahead _ _ s _ c.if-book-written-lt14.false lent _ _ done.house written;
      long = as_long _ _ _ _ _ _ _ inv.ahead _ _ s _ c.if-book-written-lt14.false lent _ _ done.house written ∙ inv.long;
      same = λ q.
          let kept = done.refused (not_accepted _ _ _ _ _ _ _ inv.ahead _ _ s _ c.if-book-written-lt14.false lent q) in
          let before = inv.same q in
          (kept.0 ∙ before.0, kept.1 ∙ before.1, kept.2 ∙ before.2);
    }
