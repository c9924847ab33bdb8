-- Operands that a sale's checks accept are playable. The price of one game is within the charge, since at least one game is paid for; and one
-- stake is within those, since there is a way: where k is the highest count of groups that the types nominate, the first k groups together
-- are one.
use Prim.Native.Nat.{ℕ, zero, suc, ◌*◌, ◌-◌, ◌/◌, ◌^◌, ◌≤◌, ◌<◌}
use native.Mathlib.Nat.{le_trans, mul-le-mul_left, mul-one, pow-suc, div-eq_of_lt-le}
use native.Mathlib.Omega.{arith}
use mathlib.Core.Path.{◌≡◌, refl, sym, ap, ◌∙◌}
use mathlib.Core.Bool.{Bool, true, false, cond, ◌&&◌}
use mathlib.Core.List.Memᴰ
use mathlib.Core.List.{List, [], ◌∷◌, Memᴰ}
use lib.Count.{ones, ones-ones, leading_top}
use lib.Dec.{ltb, leb, eqb}
use lib.ListN.{length, get_or}
use lib.Pow.{pow_mono, ones_lt}
use borrow.Author.Tests.{ltb-true, ltb-false, leb-true}
use Rattle.sale.specs.Lists.{below, keep, every}
use Rattle.sale.specs.Ways.{nominated, ways}
use Rattle.sale.specs.Price.{charge_limit, paid_games, game_price, charge}
use Rattle.sale.specs.Checks.{Operands, marks_fit, operand_code, way_count, price_of}
use Rattle.sale.specs.Bounds.{Playable}
use Rattle.house.proofs.Refusals.{and_true, OperandsAccepted, operands_accepted}

-- ---- at least one way

below_has : (n m : ℕ) → m < n → Memᴰ m (below n)
unfolding below
below_has zero m h = absurd (omega arith)
below_has (suc n) m h = go (ltb m n) refl (below_has n m)
  where
    go : (less : Bool) → ltb m n ≡ less → (m < n → Memᴰ m (below n)) → Memᴰ m (below (suc n))
    go true e rest = Memᴰ.append_left (n ∷ []) (rest (ltb-true m n e))
    go false e rest = Memᴰ.append_right (below n) (Memᴰ.head (omega (arith, ltb-false m n e)))

some_kept : (f : ℕ → Bool) (xs : List ℕ) (x : ℕ) → Memᴰ x xs → f x ≡ true → 1 ≤ length (keep f xs)
unfolding keep
some_kept f [] x among passes = elim among [ ]
some_kept f (y ∷ ys) x (Memᴰ.head same) passes = rw (ap f (sym same) ∙ passes) (omega arith)
some_kept f (y ∷ ys) x (Memᴰ.tail later) passes = go (f y) (some_kept f ys x later passes)
  where
    go : (t : Bool) → 1 ≤ length (keep f ys) → 1 ≤ length (cond t (y ∷ keep f ys) (keep f ys))
    go true rest = omega arith
    go false rest = rest

pub some_way : (g types : ℕ) → (types ≡ 0 → ⊥) → types < 2 ^ g → 1 ≤ length (ways g types)
unfolding ways nominated
some_way g types some few =
    let top = leading_top g types (omega arith) few in
    let k = top.0 in
    let bit : types / 2 ^ k ≡ 1 = div-eq_of_lt-le (2 ^ k) (omega (arith, top.2)) (omega (arith, top.3, pow-suc 2 k)) in
    let most : 2 ^ suc k ≤ 2 ^ g = pow_mono (omega (arith, top.1)) in
    some_kept (λ m. nominated types (ones m)) (below (2 ^ g)) (2 ^ suc k - 1)
    (below_has (2 ^ g) (2 ^ suc k - 1) (le_trans (ones_lt (suc k)) most))
    (rw (ones-ones (suc k), bit))

-- ---- the marks

every_le : (g : ℕ) (xs : List ℕ) → every (λ m. leb m g) xs ≡ true → (n : ℕ) → get_or xs n 0 ≤ g
unfolding every
every_le g [] e n = omega arith
every_le g (x ∷ xs) e zero = leb-true x g (and_true _ _ e).0
every_le g (x ∷ xs) e (suc n) = every_le g xs (and_true (leb x g) _ e).1 n

pub mark_within : (g : ℕ) (marks : List ℕ) → marks_fit g marks ≡ true → (n : ℕ) → get_or marks n 0 ≤ g
unfolding marks_fit
mark_within g marks e =
    let counted = eqb (length marks) 80 in
    let named = every (λ m. leb m g) marks in
    every_le g marks (and_true counted named (and_true (counted && named) _ e).0).1

-- ---- at least one paid game

paid_games_some : (games : ℕ) → 1 ≤ games → 1 ≤ paid_games games
unfolding paid_games
paid_games_some games some = go (ltb games 50) refl (ltb games 100)
  where
    go : (few : Bool) → ltb games 50 ≡ few → (most : Bool) → 1 ≤ cond few games (cond most (games - 1) (games - 2))
    go true e most = some
    go false e true = omega (arith, ltb-false games 50 e)
    go false e false = omega (arith, ltb-false games 50 e)

-- ---- the bounds

module _ (o : Operands) (a : OperandsAccepted o) where
  one_game_within : price_of o ≤ charge_limit
  unfolding charge
  one_game_within =
      let price = price_of o in
      let once : price * 1 ≤ price * paid_games o.games = mul-le-mul_left price (paid_games_some o.games a.some_games) in
      omega (arith, once, a.charge, mul-one price)

  stake_within : o.stake ≤ charge_limit
  unfolding game_price
  stake_within =
      let one : o.stake * 1 ≤ o.stake * way_count o = mul-le-mul_left o.stake (some_way o.groups o.types a.some_types a.few_types) in
      omega (arith, one, one_game_within, mul-one o.stake)

pub playable : (o : Operands) → operand_code o ≡ 0 → Playable o
playable o e =
    let a = operands_accepted o e in
    let most : 2 ^ o.groups ≤ 2 ^ 8 = pow_mono a.few_groups in
    record {
      kind = a.kind;
      some_games = a.some_games;
      few_games = a.few_games;
      groups = a.few_groups;
      types = omega (arith, a.few_types, most);
      eighty = a.eighty;
      marks = record { few = λ n. le_trans (mark_within o.groups o.marks a.marks n) a.few_groups };
      stake = stake_within o a;
      one_game = one_game_within o a;
      charge = a.charge;
    }
