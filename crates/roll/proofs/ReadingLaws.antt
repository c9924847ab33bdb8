-- Reading a roll from some place on: what one turn does, told from what the decoder answers there, and how the whole reading is what was
-- answered so far and the reading of what is left.
use Prim.Native.Nat.{ℕ, zero, suc, ◌+◌, ◌-◌, ◌*◌, ◌≤◌, ◌<◌}
use native.Mathlib.Numerals.{add-one}
use native.Mathlib.Omega.{arith}
use mathlib.Core.Path.{◌≡◌, refl, sym, ap, ap₂, subst, ◌∙◌}
use mathlib.Core.Bool.{Bool, true, false, cond}
use mathlib.Core.List.{List, [], ◌∷◌, ◌++◌, append_assoc, append-nil}
use Rattle.std.specs.Prelude.{Result, Ok, Err}
use lib.Dec.{ltb}
use lib.ListN.{length, get_or, take, drop, take-append-drop, length-append, length-take, length-drop, drop_of_length-le}
use lib.Seq.{length-take-le, take_all, drop-drop, drop_at, take_at}
use borrow.Author.Tests.{lt-ltb, le-ltb}
use borrow.Rule.Slice.PartMut.{put_mid}
use Rattle.house.specs.Model.{Model}
use Rattle.house.specs.Commands.{step}
use Rattle.commands.specs.Meant.{meant}
use Rattle.house.specs.declared.answer.Answer.{Answer}
use Rattle.house.specs.declared.state.House.{House}
use Rattle.house.specs.View.{view}
use Rattle.commands.specs.declared.command.Command.{Command}
use Rattle.numbers.specs.Bytes.{bytes_of}
use Rattle.roll.specs.Decode.{marks_in, CommandRow, CommandByte, unknown, known, command_row, command_of, record_of}
use Rattle.roll.specs.Reading.{Reading, stopped, answered, turn_at, read_turns, AllRefused}
use Rattle.roll.specs.Stop.{stop_number}
use Rattle.roll.specs.Orders.{operands_by, order_by, decoded_at, reading_of}
use Rattle.roll.specs.declared.stop.Stop.{Stop}
use Rattle.roll.specs.declared.stop.Stop.TheVariants.{RollEnded, UnknownByte, ShortCommand, BookFull}
use Rattle.roll.specs.declared.decode.Order.{Order}
use Rattle.roll.proofs.DecodeLaws.{Stands}

-- ---- one turn

-- a command of so many bytes answered, and the reading of what is left
abbrev pub answered_by : ℕ → Model → List ℕ → ℕ → Rattle.house.specs.Commands.Command → ℕ → List ℕ → Reading
answered_by turns m book size c byte rest =
    answered size c (record_of byte (step m c).answer) (read_turns turns (step m c).house rest (drop 14 book))

-- nothing whole stands there
pub turn_stops :
    (turns : ℕ) (m : Model) (roll book : List ℕ) (stop : Stop)
    → decoded_at roll ≡ Err stop
    → read_turns (suc turns) m roll book ≡ stopped m (stop_number stop) book
unfolding decoded_at read_turns
turn_stops turns m [] book stop e = let same : RollEnded ≡ stop = cc in ap (λ s. stopped m (stop_number s) book) same
turn_stops turns m (byte ∷ rest) book stop e = go (command_row byte) e
  where
    short_stops :
        (short : Bool) (order : Order) (more : Reading)
        → cond short (Err ShortCommand) (Ok order) ≡ Err stop
        → cond short (stopped m 2 book) more ≡ stopped m (stop_number stop) book
    short_stops true order more e = let same : ShortCommand ≡ stop = cc in ap (λ s. stopped m (stop_number s) book) same
    short_stops false order more e = absurd (cc)

    go :
        (looked : CommandByte)
        → cond (ltb (length rest) (operands_by looked)) (Err ShortCommand) (order_by looked rest (operands_by looked + 1)) ≡ Err stop
        → turn_at (read_turns turns) m byte rest book looked ≡ stopped m (stop_number stop) book
    go unknown e =
        let never : ◌≡◌ {A = Result Order Stop} (Err UnknownByte) (Err stop) = rw (le-ltb (length rest) 0 (omega arith)) at e in
        let same : UnknownByte ≡ stop = cc in
        ap (λ s. stopped m (stop_number s) book) same
    go (known row) e = short_stops (ltb (length rest) row.operands) _ _ e

-- a known command with all its bytes, and room for its answer
turn_known :
    (turns : ℕ) (m : Model) (byte : ℕ) (rest book : List ℕ) (row : CommandRow)
    → command_row byte ≡ known row
    → row.operands ≤ length rest
    → 14 ≤ length book
    → read_turns (suc turns) m (byte ∷ rest) book
    ≡ answered_by turns m book (1 + row.operands) (command_of row (take row.operands rest)) byte (drop row.operands rest)
unfolding read_turns
turn_known turns m byte rest book row has enough room =
    rw (has, le-ltb (length rest) row.operands enough, le-ltb (length book) 14 room)

module _ (turns : ℕ) (m : Model) (roll book : List ℕ) (order : Command) (size : ℕ) (s : Stands roll order size) where
  -- no room for an answer
  pub turn_full : length book < 14 → read_turns (suc turns) m roll book ≡ stopped m 3 book
  unfolding read_turns
  turn_full full =
      rw (s.begins, s.has, le-ltb (length s.rest) s.row.operands s.enough, lt-ltb (length book) 14 full)

  after_command : drop size roll ≡ drop s.row.operands s.rest
  after_command = rw (s.begins, s.long, add-one s.row.operands)

  -- the command answered, with what is lent with it
  pub turn_answers :
      (marks : List ℕ)
      → 14 ≤ length book
      → marks ≡ marks_in (take s.row.operands s.rest)
      → read_turns (suc turns) m roll book ≡ answered_by turns m book size (meant order marks) (get_or roll 0 0) (drop size roll)
  turn_answers marks room same =
      let command = sym (ap₂ meant s.is same) in
      let long : 1 + s.row.operands ≡ size = omega (arith, s.long) in
      let byte = sym (ap (λ l. get_or l 0 0) s.begins) in
      let later = sym after_command in
      ap (λ l. read_turns (suc turns) m l book) s.begins
      ∙ turn_known turns m s.byte s.rest book s.row s.has s.enough room
      ∙ (λ i. answered_by turns m book (long i) (command i) (byte i) (later i))

-- ---- a record written after others

pub record_long : (byte : ℕ) (a : Answer) → length (record_of byte a) ≡ 14
unfolding record_of bytes_of
record_long byte a = refl

module _ (front entry back : List ℕ) (n : ℕ) (long : length front + length entry ≡ n) where
  both_long : length (front ++ entry) ≡ n
  both_long = length-append front entry ∙ long

  through_entry : take n (front ++ (entry ++ back)) ≡ front ++ entry
  through_entry = ap (take n) (sym (append_assoc front entry back)) ∙ take_at (front ++ entry) back n both_long

  past_entry : drop n (front ++ (entry ++ back)) ≡ back
  past_entry = ap (drop n) (sym (append_assoc front entry back)) ∙ drop_at (front ++ entry) back n both_long

-- a record that was written into the last part of a book, from a place on
module _ (book entry : List ℕ) (at : ℕ) (long : length entry ≡ 14) (room : at + 14 ≤ length book) where
  part_whole : take (length book - at) (drop at book) ≡ drop at book
  part_whole = take_all (length book - at) (drop at book) (omega (arith, length-drop at book))

  part_rest : drop (length book - at) (drop at book) ≡ []
  part_rest =
      let within : length (drop at book) ≤ length book - at = omega (arith, length-drop at book) in
      drop_of_length-le (drop at book) within

  pub part_written :
      (part : List ℕ)
      → part ≡ entry ++ drop 14 (take (length book - at) (drop at book))
      → put_mid at (length book - at) book part ≡ take at book ++ (entry ++ drop 14 (drop at book))
  part_written part written =
      let same = ap₂ ◌++◌ (written ∙ ap (λ l. entry ++ drop 14 l) part_whole) part_rest in
      ap (λ l. take at book ++ l) (same ∙ append-nil (entry ++ drop 14 (drop at book)))

  pub book_long : length (take at book ++ (entry ++ drop 14 (drop at book))) ≡ length book
  book_long =
      omega (
        arith,
        long,
        length-append (take at book) (entry ++ drop 14 (drop at book)),
        length-append entry (drop 14 (drop at book)),
        length-take-le at book (omega arith),
        length-drop 14 (drop at book),
        length-drop at book,
      )

-- ---- the whole reading, by what is left of it

-- no command that a roll has answered is accepted
abbrev pub Quiet : House → List ℕ → List ℕ → List ℕ → List ℕ → Type 0
Quiet h words marks roll book = AllRefused (view h words marks) (reading_of h words marks roll book).commands

-- a reading that some answers stand before
pub record Joins (whole left : Reading) (front : List ℕ) (read answers : ℕ) : Type 0 where
  pub house : whole.house ≡ left.house
  pub stop : whole.stop ≡ left.stop
  pub bytes : whole.read ≡ read + left.read
  pub count : whole.answers ≡ answers + left.answers
  pub text : whole.book ≡ front ++ left.book

-- so many bytes were read and so many answers written, and the rest of the reading is that of what is left; if nothing was to be accepted, then
-- nothing of what is left is
pub record Ahead (quiet : Type 0) (whole : Reading) (m : Model) (roll book : List ℕ) (read answers : ℕ) : Type 0 where
  pub turns : ℕ
  pub enough : length roll < read + turns
  pub within : read ≤ length roll
  pub room : answers * 14 ≤ length book
  pub joins : Joins whole (read_turns turns m (drop read roll) (drop (answers * 14) book)) (take (answers * 14) book) read answers
  pub refused : quiet → AllRefused m (read_turns turns m (drop read roll) (drop (answers * 14) book)).commands

-- an answered command is passed, with its record in the book
next_ahead :
    (quiet : Type 0) (whole : Reading) (m : Model) (roll book : List ℕ) (read answers : ℕ) (c : Rattle.house.specs.Commands.Command) (size : ℕ) (book' : List ℕ) (turns : ℕ)
    → answers * 14 + 14 ≤ length book
    → 0 < size
    → length roll < read + suc turns
    → read + size ≤ length roll
    → Joins whole (answered_by turns m (drop (answers * 14) book) size c (get_or (drop read roll) 0 0) (drop size (drop read roll))) (take (answers * 14) book) read answers
    → (quiet → AllRefused m (c ∷ (read_turns turns (step m c).house (drop size (drop read roll)) (drop 14 (drop (answers * 14) book))).commands))
    → book' ≡ take (answers * 14) book ++ (record_of (get_or (drop read roll) 0 0) (step m c).answer ++ drop 14 (drop (answers * 14) book))
    → Ahead quiet whole (step m c).house roll book' (read + size) (answers + 1)
unfolding AllRefused
next_ahead quiet whole m roll book read answers c size book' turns room some enough within j none written =
    let front = take (answers * 14) book in
    let entry = record_of (get_or (drop read roll) 0 0) (step m c).answer in
    let back = drop 14 (drop (answers * 14) book) in
    let left = read_turns turns (step m c).house (drop size (drop read roll)) back in
    let front_long = length-take-le (answers * 14) book (omega arith) in
    let long : length front + length entry ≡ (answers + 1) * 14 = omega (arith, front_long, record_long (get_or (drop read roll) 0 0) (step m c).answer) in
    let through = ap (take ((answers + 1) * 14)) written ∙ through_entry front entry back ((answers + 1) * 14) long in
    let past = ap (drop ((answers + 1) * 14)) written ∙ past_entry front entry back ((answers + 1) * 14) long in
    let same : left ≡ read_turns turns (step m c).house (drop (read + size) roll) (drop ((answers + 1) * 14) book') =
    ap₂ (read_turns turns (step m c).house) (drop-drop size read roll) (sym past) in
    record {
      turns = turns;
      enough = omega arith;
      within = within;
      room = omega (arith, long, ap length through, length-append front entry, length-take ((answers + 1) * 14) book');
      joins =
          record {
            house = j.house ∙ ap (λ r. r.house) same;
            stop = j.stop ∙ ap (λ r. r.stop) same;
            bytes = omega (arith, j.bytes, ap (λ r. r.read) same);
            count = omega (arith, j.count, ap (λ r. r.answers) same);
            text =
                j.text
                ∙ sym (append_assoc front entry left.book)
                ∙ ap₂ ◌++◌ (sym through) (ap (λ r. r.book) same);
          };
      refused = λ q. subst (λ (r : Reading). AllRefused (step m c).house r.commands) same (none q).1;
    }

-- what the reader reports at last of a house and of the buffers beside it
pub record Ended (whole : Reading) (m : Model) (code read answers : ℕ) (book : List ℕ) : Type 0 where
  pub house : m ≡ whole.house
  pub stop : code ≡ whole.stop
  pub bytes : read ≡ whole.read
  pub count : answers ≡ whole.answers
  pub text : book ≡ whole.book

module _ (quiet : Type 0) (whole : Reading) (m : Model) (roll book : List ℕ) (read answers : ℕ) (a : Ahead quiet whole m roll book read answers) where
  abbrev done : ℕ
  done = answers * 14

  ends : (code : ℕ) → Joins whole (stopped m code (drop done book)) (take done book) read answers → Ended whole m code read answers book
  ends code j =
      record {
        house = sym j.house;
        stop = sym j.stop;
        bytes = omega (arith, j.bytes);
        count = omega (arith, j.count);
        text = sym (j.text ∙ take-append-drop done book);
      }

  -- the last turn
  pub ahead_stops :
      (stop : Stop) (code : ℕ) → code ≡ stop_number stop → decoded_at (drop read roll) ≡ Err stop → Ended whole m code read answers book
  ahead_stops stop code told decoded = go a.turns a.enough a.joins
    where
      go :
          (turns : ℕ)
          → length roll < read + turns
          → Joins whole (read_turns turns m (drop read roll) (drop done book)) (take done book) read answers
          → Ended whole m code read answers book
      go zero enough j = absurd (omega (arith, a.within))
      go (suc turns) enough j =
          ends code
          (subst (λ r. Joins whole r (take done book) read answers)
          (turn_stops turns m (drop read roll) (drop done book) stop decoded ∙ ap (λ n. stopped m n (drop done book)) (sym told)) j)

  module _ (order : Command) (size : ℕ) (s : Stands (drop read roll) order size) where
    pub ahead_full : (code : ℕ) → code ≡ stop_number BookFull → length book < done + 14 → Ended whole m code read answers book
    ahead_full code told full = go a.turns a.enough a.joins
      where
        go :
            (turns : ℕ)
            → length roll < read + turns
            → Joins whole (read_turns turns m (drop read roll) (drop done book)) (take done book) read answers
            → Ended whole m code read answers book
        go zero enough j = absurd (omega (arith, a.within))
        go (suc turns) enough j =
            ends code
            (subst (λ r. Joins whole r (take done book) read answers)
            (turn_full turns m (drop read roll) (drop done book) order size s (omega (arith, length-drop done book))
            ∙ ap (λ n. stopped m n (drop done book)) (sym told)) j)

    -- the command ends within the roll
    pub command_within : read + size ≤ length roll
    command_within = omega (arith, s.long, s.enough, ap length s.begins, length-drop read roll, a.within)

    -- one more answer, its record written after the others
    module _ (marks : List ℕ) (room : done + 14 ≤ length book) (same : marks ≡ marks_in (drop 1 (take size (drop read roll)))) where
      operands : drop 1 (take size (drop read roll)) ≡ take s.row.operands s.rest
      operands = rw (s.begins, s.long, add-one s.row.operands)

      turn_here : (turns : ℕ) → read_turns (suc turns) m (drop read roll) (drop done book)
          ≡ answered_by turns m (drop done book) size (meant order marks) (get_or (drop read roll) 0 0) (drop size (drop read roll))
      turn_here turns =
          turn_answers turns m (drop read roll) (drop done book) order size s marks (omega (arith, length-drop done book)) (same ∙ ap marks_in operands)

      pub ahead_more :
          (book' : List ℕ)
          → book'
          ≡ take done book
          ++ (record_of (get_or (drop read roll) 0 0) (step m (meant order marks)).answer ++ drop 14 (drop done book))
          → Ahead quiet whole (step m (meant order marks)).house roll book' (read + size) (answers + 1)
      ahead_more book' written = go a.turns a.enough a.joins a.refused
        where
          go :
              (turns : ℕ)
              → length roll < read + turns
              → Joins whole (read_turns turns m (drop read roll) (drop done book)) (take done book) read answers
              → (quiet → AllRefused m (read_turns turns m (drop read roll) (drop done book)).commands)
              → Ahead quiet whole (step m (meant order marks)).house roll book' (read + size) (answers + 1)
          go zero enough j none = absurd (omega (arith, a.within))
          go (suc turns) enough j none =
              next_ahead quiet whole m roll book read answers (meant order marks) size book' turns room (omega (arith, s.long)) enough command_within
              (subst (λ r. Joins whole r (take done book) read answers) (turn_here turns) j)
              (λ q. subst (λ (r : Reading). AllRefused m r.commands) (turn_here turns) (none q))
              written

      -- where nothing was to be accepted, neither is this command
      pub refused_here : quiet → (step m (meant order marks)).answer.code ≡ 0 → ⊥
      unfolding AllRefused
      refused_here q = go a.turns a.enough (a.refused q)
        where
          go :
              (turns : ℕ)
              → length roll < read + turns
              → AllRefused m (read_turns turns m (drop read roll) (drop done book)).commands
              → (step m (meant order marks)).answer.code ≡ 0
              → ⊥
          go zero enough none = absurd (omega (arith, a.within))
          go (suc turns) enough none = (subst (λ (r : Reading). AllRefused m r.commands) (turn_here turns) none).0
