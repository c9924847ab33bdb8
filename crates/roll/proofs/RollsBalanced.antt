-- Demand 3 over rolls, proved: `rolls_balance`. Reading a roll is running the commands that it answers, each on the house that the last one
-- left, and the records in the book read back as their answers; so rolls one after another are one list, over which the till balances.
use Prim.Native.Nat.{ℕ, zero, suc, ◌+◌}
use native.Mathlib.Omega.{arith}
use mathlib.Core.Path.{◌≡◌, refl, sym, ap, ap₂, subst, ◌∙◌}
use mathlib.Core.Bool.{Bool, true, false, cond}
use mathlib.Core.List.{List, [], ◌∷◌, ◌++◌}
use lib.Dec.{ltb}
use lib.ListN.{length, take, drop}
use lib.Seq.{get_or-drop}
use Rattle.house.specs.Model.{Model, fresh}
use Rattle.house.specs.Commands.{Command, step}
use Rattle.house.specs.Balance.{State, next, run_from, Reached}
use Rattle.house.proofs.Theorem.{till_balances, reached_step}
use Rattle.roll.specs.Decode.{CommandRow, CommandByte, unknown, known, command_row, command_of, byte_of, record_of}
use Rattle.roll.specs.Reading.{Reading, stopped, turn_at, read_turns, read_roll}
use Rattle.roll.specs.Balance.{Sitting, house_after, answered_in, entries_to, entries_from, entries_in, RollsBalance}
use Rattle.roll.proofs.RecordLaws.{entry_back, record_passed}
use Rattle.roll.proofs.DecodeLaws.{Small, byte_back, short_day}
use Rattle.roll.proofs.AnswerBounds.{answer_shown}
use Rattle.roll.proofs.ReadingLaws.{answered_by}

-- ---- lists of commands

-- the house after some commands
abbrev pub end_of : Model → List Command → Model
end_of m [] = m
end_of m (c ∷ cs) = end_of (step m c).house cs

pub run_ends : (s : State) (cs : List Command) → (run_from s cs).house ≡ end_of s.house cs
unfolding run_from next
run_ends s [] = refl
run_ends s (c ∷ cs) = run_ends (next s c) cs

pub end_append : (m : Model) (cs ds : List Command) → end_of m (cs ++ ds) ≡ end_of (end_of m cs) ds
end_append m [] ds = refl
end_append m (c ∷ cs) ds = end_append (step m c).house cs ds

end_reached : (m : Model) (cs : List Command) → Reached m → Reached (end_of m cs)
end_reached m [] r = r
end_reached m (c ∷ cs) r = end_reached (step m c).house cs (reached_step m c r)

pub entries_append : (m : Model) (cs ds : List Command) → entries_to m (cs ++ ds) ≡ entries_to m cs ++ entries_to (end_of m cs) ds
unfolding entries_to
entries_append m [] ds = refl
entries_append m (c ∷ cs) ds =
    ap (λ later. record { byte = byte_of c; answer = (step m c).answer } ∷ later) (entries_append (step m c).house cs ds)

-- ---- one roll

-- a turn either stops or answers one command
by_turn :
    (P : Reading → Type 0) (turns : ℕ) (m : Model) (byte : ℕ) (rest book : List ℕ)
    → ((code : ℕ) → P (stopped m code book))
    → ((row : CommandRow)
    → command_row byte ≡ known row
    → P (answered_by turns m book (1 + row.operands) (command_of row (take row.operands rest)) byte (drop row.operands rest)))
    → P (read_turns (suc turns) m (byte ∷ rest) book)
unfolding read_turns
by_turn P turns m byte rest book stops answers = go (command_row byte) refl
  where
    room : (short full : Bool) (next : Reading) → P next → P (cond short (stopped m 2 book) (cond full (stopped m 3 book) next))
    room true full next p = stops 2
    room false true next p = stops 3
    room false false next p = p

    go : (looked : CommandByte) → command_row byte ≡ looked → P (turn_at (read_turns turns) m byte rest book looked)
    go unknown e = stops 1
    go (known row) e = room (ltb (length rest) row.operands) (ltb (length book) 14) _ (answers row e)

pub read_house : (turns : ℕ) (m : Model) (roll book : List ℕ) → (read_turns turns m roll book).house ≡ end_of m (read_turns turns m roll book).commands
unfolding read_turns
read_house zero m roll book = refl
read_house (suc turns) m [] book = refl
read_house (suc turns) m (byte ∷ rest) book =
    by_turn (λ r. r.house ≡ end_of m r.commands) turns m byte rest book (λ code. refl)
    (λ row has. read_house turns (step m (command_of row (take row.operands rest))).house (drop row.operands rest) (drop 14 book))

-- so that the reader may be called again
pub read_reached : (m : Model) (roll book : List ℕ) → Reached m → Reached (read_roll m roll book).house
read_reached m roll book reached =
    let turns = length roll + 1 in
    subst Reached (sym (read_house turns m roll book)) (end_reached m (read_turns turns m roll book).commands reached)

pub read_entries :
    (turns : ℕ) (m : Model) (roll book : List ℕ)
    → Reached m
    → Small roll
    → entries_from (read_turns turns m roll book).answers (read_turns turns m roll book).book ≡ entries_to m (read_turns turns m roll book).commands
unfolding read_turns entries_from entries_to
read_entries zero m roll book reached small = refl
read_entries (suc turns) m [] book reached small = refl
read_entries (suc turns) m (byte ∷ rest) book reached small =
    by_turn (λ r. entries_from r.answers r.book ≡ entries_to m r.commands) turns m byte rest book (λ code. refl)
    (λ row has.
    let size = row.operands in
    let c = command_of row (take size rest) in
    let a = (step m c).answer in
    let r = read_turns turns (step m c).house (drop size rest) (drop 14 book) in
    let fits = answer_shown m c reached (short_day byte row rest has (λ i. small (suc i))) in
    let later = read_entries turns (step m c).house (drop size rest) (drop 14 book) (reached_step m c reached) (λ i. rw (get_or-drop size rest i 0) (small (suc (size + i)))) in
    let one_more : 1 + r.answers ≡ suc r.answers = omega arith in
    ap (λ n. entries_from n (record_of byte a ++ r.book)) one_more
    ∙ ap₂ (λ x xs. x ∷ xs)
    (entry_back byte a r.book fits.number fits.cents
    ∙ ap (λ b. record { byte = b; answer = a }) (sym (byte_back byte row (take size rest) has)))
    (ap (entries_from r.answers) (record_passed byte a r.book) ∙ later))

-- ---- rolls one after another

rolls_house : (m : Model) (ss : List Sitting) → house_after m ss ≡ end_of m (answered_in m ss)
unfolding house_after answered_in
rolls_house m [] = refl
rolls_house m (s ∷ ss) =
    let r = read_roll m s.roll s.book in
    rolls_house r.house ss
    ∙ ap (λ h. end_of h (answered_in r.house ss)) (read_house (length s.roll + 1) m s.roll s.book)
    ∙ sym (end_append m r.commands (answered_in r.house ss))

rolls_answers : (m : Model) (ss : List Sitting) → Reached m → entries_in m ss ≡ entries_to m (answered_in m ss)
unfolding entries_in answered_in entries_to
rolls_answers m [] reached = refl
rolls_answers m (s ∷ ss) reached =
    let r = read_roll m s.roll s.book in
    let same = read_house (length s.roll + 1) m s.roll s.book in
    let after = read_reached m s.roll s.book reached in
    ap₂ ◌++◌ (read_entries (length s.roll + 1) m s.roll s.book reached s.bytes) (rolls_answers r.house ss after)
    ∙ ap (λ h. entries_to m r.commands ++ entries_to h (answered_in r.house ss)) same
    ∙ sym (entries_append m r.commands (answered_in r.house ss))

pub fresh_reached : Reached fresh
unfolding run_from
fresh_reached = record { commands = []; comes = refl }

pub rolls_balance : (ss : List Sitting) → RollsBalance ss
rolls_balance ss =
    record {
      house = rolls_house fresh ss ∙ sym (run_ends (record { house = fresh; log = [] }) (answered_in fresh ss));
      till = till_balances (answered_in fresh ss);
      answers = rolls_answers fresh ss fresh_reached;
    }
