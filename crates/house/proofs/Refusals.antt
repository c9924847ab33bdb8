-- What an accepted command tells: the code is 0 just where no row of the refusal table is met, so every test is false, and each test is read
-- here as the fact about the numbers that it stands for.
use Prim.Native.Nat.{ℕ, ◌+◌, ◌^◌, ◌≤◌, ◌<◌}
use native.Mathlib.Omega.{arith}
use mathlib.Core.Path.{◌≡◌, refl}
use mathlib.Core.Bool.{Bool, true, false, cond, ◌&&◌, ◌||◌, true≢false, false≢true}
use mathlib.Core.List.{List, [], ◌∷◌, ◌++◌}
use mathlib.Core.Logic.{◌⊎◌, inl, inr}
use lib.Dec.{ltb, leb, eqb}
use lib.ListN.{length}
use borrow.Author.Tests.{ltb-false, leb-true, leb-false, eqb-true, eqb-false, not-false}
use Rattle.sale.specs.Lists.{member}
use Rattle.sale.specs.Kinds.{kind_of, is_special_one, sizes_fit}
use Rattle.sale.specs.Ways.{sizes, way_sizes}
use Rattle.sale.specs.Price.{charge_limit, stake_fits}
use Rattle.sale.specs.Checks.{Operands, first_met, marks_fit, feature_row, feature_stake_row, operand_rows, operand_code, way_count, charge_of}
use Rattle.house.specs.Tickets.{is_finished, keno_to_go_begun}
use Rattle.house.specs.Model.{Model, game_limit, live_limit, ticket_limit, is_drawing, next_game}
use Rattle.house.specs.Commands.{sell, cancel, ball, claim, transfer, collect, call_off, ticket_at, has_ticket, cancel_stop, rows_of, code_of}
use Rattle.house.proofs.Ledger.{All}
use Rattle.house.proofs.ListLaws.{cond_either}

-- ---- Bool tests

pub or_false : (a b : Bool) → (a || b) ≡ false → (a ≡ false) × (b ≡ false)
or_false true b e = absurd (true≢false e)
or_false false b e = (refl, e)

pub and_true : (a b : Bool) → (a && b) ≡ true → (a ≡ true) × (b ≡ true)
and_true true b e = (refl, e)
and_true false b e = absurd (false≢true e)

pub or_true : (a b : Bool) → (a || b) ≡ true → (a ≡ true) ⊎ (b ≡ true)
or_true true b e = inl refl
or_true false b e = inr e

-- ---- rows of a refusal table

-- a row whose number is not 0, and those below it
pub row_passed :
    (met : Bool) (code rest : ℕ)
    → (code ≡ 0 → ⊥)
    → cond met code rest ≡ 0
    → (met ≡ false) × (rest ≡ 0)
row_passed true code rest h e = absurd (h e)
row_passed false code rest h e = (refl, e)

pub all_passed :
    (rows : List (Bool × ℕ))
    → All (λ row. row.1 ≡ 0 → ⊥) rows
    → first_met rows ≡ 0
    → All (λ row. row.0 ≡ false) rows
unfolding first_met
all_passed [] h e = tt
all_passed (row ∷ rows) h e =
    let p = row_passed row.0 row.1 (first_met rows) h.0 e in
    (p.0, all_passed rows h.1 p.1)

-- of two tables one below the other, neither has a row that is met
pub append_passed :
    (rows more : List (Bool × ℕ))
    → All (λ row. row.1 ≡ 0 → ⊥) rows
    → first_met (rows ++ more) ≡ 0
    → (first_met rows ≡ 0) × (first_met more ≡ 0)
unfolding first_met
append_passed [] more h e = (refl, e)
append_passed (row ∷ rows) more h e =
    let p = row_passed row.0 row.1 (first_met (rows ++ more)) h.0 e in
    let q = append_passed rows more h.1 p.1 in
    (rw p.0 q.0, q.1)

-- what is answered is 0 or the number of a row
pub among_rows : (P : ℕ → Type 0) (rows : List (Bool × ℕ)) → P 0 → All (λ row. P row.1) rows → P (first_met rows)
unfolding first_met
among_rows P [] none each = none
among_rows P (row ∷ rows) none each = cond_either P row.0 each.0 (among_rows P rows none each.1)

-- a last row that is not met where none before it is makes no difference
pub row_unmet :
    (rows : List (Bool × ℕ)) (last : Bool × ℕ)
    → (first_met rows ≡ 0 → last.0 ≡ false)
    → first_met (rows ++ (last ∷ [])) ≡ first_met rows
unfolding first_met
row_unmet [] last unmet = rw (unmet refl) refl
row_unmet (row ∷ rows) last unmet = go row.0 unmet (row_unmet rows last)
  where
    go : (met : Bool)
        → (cond met row.1 (first_met rows) ≡ 0 → last.0 ≡ false)
        → ((first_met rows ≡ 0 → last.0 ≡ false) → first_met (rows ++ (last ∷ [])) ≡ first_met rows)
        → cond met row.1 (first_met (rows ++ (last ∷ []))) ≡ cond met row.1 (first_met rows)
    go true unmet below = refl
    go false unmet below = below unmet

-- ---- the operands of Sell

pub record OperandsAccepted (o : Operands) : Type 0 where
  pub kind : o.kind ≤ 3
  pub few_games : o.games ≤ 100
  pub some_games : 1 ≤ o.games
  pub few_groups : o.groups ≤ 8
  pub some_groups : 1 ≤ o.groups
  pub marks : marks_fit o.groups o.marks ≡ true
  pub eighty : length o.marks ≡ 80
  pub some_types : o.types ≡ 0 → ⊥
  pub few_types : o.types < 2 ^ o.groups
  pub sized : sizes_fit (kind_of o.kind) (way_sizes o.groups o.types (sizes o.marks)) ≡ true
  pub special : (is_special_one (kind_of o.kind) && eqb (way_count o) 1) ≡ false
  pub feature : (feature_row o).0 ≡ false
  pub stake : stake_fits (kind_of o.kind) (way_count o) o.stake ≡ true
  pub feature_staked : (feature_stake_row o).0 ≡ false
  pub charge : charge_of o ≤ charge_limit

marks_eighty : (g : ℕ) (marks : List ℕ) → marks_fit g marks ≡ true → length marks ≡ 80
unfolding marks_fit
marks_eighty g marks e = eqb-true _ _ (and_true _ _ (and_true _ _ e).0).0

pub operand_numbers : (o : Operands) → All (λ row. row.1 ≡ 0 → ⊥) (operand_rows o)
unfolding operand_rows
operand_numbers o = omega arith

pub operands_accepted : (o : Operands) → operand_code o ≡ 0 → OperandsAccepted o
unfolding operand_code operand_rows
operands_accepted o e =
    let p = all_passed (operand_rows o) (operand_numbers o) e in
    let games = and_true _ _ (not-false _ p.1.0) in
    let groups = and_true _ _ (not-false _ p.1.1.0) in
    let types = or_false _ _ p.1.1.1.1.0 in
    record {
      kind = leb-true _ _ (not-false _ p.0);
      few_games = leb-true _ _ games.1;
      some_games = leb-true _ _ games.0;
      few_groups = leb-true _ _ groups.1;
      some_groups = leb-true _ _ groups.0;
      marks = not-false _ p.1.1.1.0;
      eighty = marks_eighty _ _ (not-false _ p.1.1.1.0);
      some_types = eqb-false _ _ types.0;
      few_types = leb-false _ _ types.1;
      sized = not-false _ p.1.1.1.1.1.0;
      special = p.1.1.1.1.1.1.0;
      feature = p.1.1.1.1.1.1.1.0;
      stake = not-false _ p.1.1.1.1.1.1.1.1.0;
      feature_staked = p.1.1.1.1.1.1.1.1.1.0;
      charge = ltb-false _ _ p.1.1.1.1.1.1.1.1.1.1.0;
    }

-- ---- the commands, accepted

pub record SellAccepted (m : Model) (o : Operands) : Type 0 where
  pub opened : m.day ≡ 0 → ⊥
  pub checked : operand_code o ≡ 0
  pub room : length m.live < live_limit
  pub numbered : m.issued < ticket_limit
  pub ends : next_game m + o.games ≤ game_limit + 1

pub record CancelAccepted (m : Model) (n : ℕ) : Type 0 where
  pub opened : m.day ≡ 0 → ⊥
  pub positive : n ≡ 0 → ⊥
  pub issued : n ≤ m.issued
  pub here : has_ticket n m.live ≡ true
  pub today : m.day ≤ (ticket_at n m.live).sold_day
  pub not_begun : keno_to_go_begun m.game (is_drawing m) (ticket_at n m.live) ≡ false
  pub some : cancel_stop m (ticket_at n m.live) < (ticket_at n m.live).stop

pub record BallAccepted (m : Model) (b : ℕ) : Type 0 where
  pub opened : m.day ≡ 0 → ⊥
  pub least : 1 ≤ b
  pub most : b ≤ 80
  pub game : m.game ≤ game_limit
  pub new : member b m.balls ≡ false

pub record ClaimAccepted (m : Model) (n : ℕ) : Type 0 where
  pub opened : m.day ≡ 0 → ⊥
  pub positive : n ≡ 0 → ⊥
  pub issued : n ≤ m.issued
  pub here : has_ticket n m.live ≡ true
  pub finished : is_finished m.game (ticket_at n m.live) ≡ true

pub record CollectAccepted (m : Model) (n : ℕ) : Type 0 where
  pub opened : m.day ≡ 0 → ⊥
  pub issued : n ≤ m.issued
  pub here : has_ticket n m.live ≡ true
  pub running : is_finished m.game (ticket_at n m.live) ≡ false
  pub due : (ticket_at n m.live).due ≡ 0 → ⊥
  pub numbered : m.issued < ticket_limit

pub record CallOffAccepted (m : Model) : Type 0 where
  pub opened : m.day ≡ 0 → ⊥
  pub game : m.game ≤ game_limit

pub record TransferAccepted (m : Model) (j cents : ℕ) : Type 0 where
  pub opened : m.day ≡ 0 → ⊥
  pub jackpot : (j ≡ 6) ⊎ (j ≡ 8)
  pub waiting : is_drawing m ≡ false
  pub some : 0 < cents
  pub covered : cents ≤ m.counters.unclaimed

-- a sale's rows below those of its operands
abbrev pub sale_rows : Model → Operands → List (Bool × ℕ)
sale_rows m o =
    (leb live_limit (length m.live), 16)
    ∷ (leb ticket_limit m.issued || ltb (game_limit + 1) (next_game m + o.games), 17)
    ∷ []

pub sell_accepted : (m : Model) (o : Operands) → code_of m (sell o) ≡ 0 → SellAccepted m o
unfolding code_of rows_of first_met operand_code
sell_accepted m o e =
    let p = row_passed (eqb m.day 0) 4 (first_met (operand_rows o ++ sale_rows m o)) (omega arith) e in
    let q = append_passed (operand_rows o) (sale_rows m o) (operand_numbers o) p.1 in
    let r = all_passed (sale_rows m o) (omega arith) q.1 in
    let room = or_false _ _ r.1.0 in
    record {
      opened = eqb-false _ _ p.0;
      checked = q.0;
      room = leb-false _ _ r.0;
      numbered = leb-false _ _ room.0;
      ends = ltb-false _ _ room.1;
    }

pub cancel_accepted : (m : Model) (n : ℕ) → code_of m (cancel n) ≡ 0 → CancelAccepted m n
unfolding code_of rows_of
cancel_accepted m n e =
    let p = all_passed (rows_of m (cancel n)) (omega arith) e in
    let number = or_false _ _ p.1.0 in
    record {
      opened = eqb-false _ _ p.0;
      positive = eqb-false _ _ number.0;
      issued = ltb-false _ _ number.1;
      here = not-false _ p.1.1.0;
      today = ltb-false _ _ p.1.1.1.0;
      not_begun = p.1.1.1.1.0;
      some = leb-false _ _ p.1.1.1.1.1.0;
    }

pub ball_accepted : (m : Model) (b : ℕ) → code_of m (ball b) ≡ 0 → BallAccepted m b
unfolding code_of rows_of
ball_accepted m b e =
    let p = all_passed (rows_of m (ball b)) (omega arith) e in
    let range = and_true _ _ (not-false _ p.1.0) in
    record {
      opened = eqb-false _ _ p.0;
      least = leb-true _ _ range.0;
      most = leb-true _ _ range.1;
      game = ltb-false _ _ p.1.1.0;
      new = p.1.1.1.0;
    }

pub claim_accepted : (m : Model) (n : ℕ) → code_of m (claim n) ≡ 0 → ClaimAccepted m n
unfolding code_of rows_of
claim_accepted m n e =
    let p = all_passed (rows_of m (claim n)) (omega arith) e in
    let number = or_false _ _ p.1.0 in
    record {
      opened = eqb-false _ _ p.0;
      positive = eqb-false _ _ number.0;
      issued = ltb-false _ _ number.1;
      here = not-false _ p.1.1.0;
      finished = not-false _ p.1.1.1.0;
    }

pub collect_accepted : (m : Model) (n : ℕ) → code_of m (collect n) ≡ 0 → CollectAccepted m n
unfolding code_of rows_of
collect_accepted m n e =
    let p = all_passed (rows_of m (collect n)) (omega arith) e in
    record {
      opened = eqb-false _ _ p.0;
      issued = ltb-false _ _ (or_false _ _ p.1.0).1;
      here = not-false _ p.1.1.0;
      running = p.1.1.1.0;
      due = eqb-false _ _ p.1.1.1.1.0;
      numbered = leb-false _ _ p.1.1.1.1.1.0;
    }

pub call_off_accepted : (m : Model) → code_of m call_off ≡ 0 → CallOffAccepted m
unfolding code_of rows_of
call_off_accepted m e =
    let p = all_passed (rows_of m call_off) (omega arith) e in
    record { opened = eqb-false _ _ p.0; game = ltb-false _ _ p.1.0 }

six_or_eight : (j : ℕ) → (eqb j 6 ≡ true) ⊎ (eqb j 8 ≡ true) → (j ≡ 6) ⊎ (j ≡ 8)
six_or_eight j (inl e) = inl (eqb-true j 6 e)
six_or_eight j (inr e) = inr (eqb-true j 8 e)

pub transfer_accepted : (m : Model) (j cents : ℕ) → code_of m (transfer j cents) ≡ 0 → TransferAccepted m j cents
unfolding code_of rows_of
transfer_accepted m j cents e =
    let p = all_passed (rows_of m (transfer j cents)) (omega arith) e in
    let amount = or_false _ _ p.1.1.1.0 in
    let some = eqb-false cents 0 amount.0 in
    record {
      opened = eqb-false _ _ p.0;
      jackpot = six_or_eight j (or_true _ _ (not-false _ p.1.0));
      waiting = p.1.1.0;
      some = omega arith;
      covered = ltb-false _ _ amount.1;
    }
