-- The major prizes of a game: what a loop over them has so far, with one prize more; the figures of a round, which follow the rule; the state that its
-- rounds end in, which pays what the rule pays; and what prizes are raised by. A member of ps is a `List.Memᴰ p ps`.
use mathlib.Core.Path.{◌≡◌, refl, sym, ap, ◌∙◌, subst}
use mathlib.Core.List.{List, [], ◌∷◌, ◌++◌, map, map-append, Memᴰ}
use Prim.Native.Nat.{ℕ, zero, suc, ◌+◌, ◌*◌, ◌-◌, ◌≤◌, ◌<◌, ◌^◌}
use native.Mathlib.Nat.{le_of_suc-le-suc, mul-div_cancel, le_trans, mul-le-mul_right, le_of_lt}
use native.Mathlib.Numerals.{add-one}
use native.Mathlib.Omega.{arith}
use lib.Dec.{ltb, leb}
use lib.ListN.{length, take, drop, get_or, length-append, length-take}
use Rattle.std.proofs.lemmas.List.{map-id, take-append-drop}
use Rattle.std.proofs.lemmas.List.Recursion.{is_sum_by}
use Rattle.std.proofs.lemmas.List.Sums.{sum-map}
use Rattle.std.specs.List.{sum_by}
use Rattle.std.specs.List as List_std
use lib.Seq.{take-suc}
use borrow.Author.Tests.{lt-ltb, le-ltb, le-leb, lt-leb}
use Rattle.sale.specs.Lists.{sum, keep}
use Rattle.prizes.specs.Prize.{major_floor}
use Rattle.prizes.specs.Cut.{majors_limit}
use Rattle.prizes.specs.Rounds.{first_cut, uncut, pay_under, next_below, cut_below, Pays, Listed, AllRaised, Raisable}
use Rattle.prizes.specs.declared.cut.Cut.{Cut}
use Rattle.sale.proofs.KeepLaws.{keep_append, length_keep_le, sum_within, sum_keep_split, member_le_sum}
use Rattle.sale.proofs.WayLaws.{sum_append}
use Rattle.prizes.proofs.CutPayouts.{payout_uncut}
use Rattle.prizes.proofs.CutStates.{StateOf, next_cut, state_first, state_step, state_pays, next_count_grows, next_count_le}

-- an element is a member
pub member_at : (xs : List ℕ) (i d : ℕ) → i < length xs → Memᴰ (get_or xs i d) xs
member_at [] i d h = absurd (omega arith)
member_at (x ∷ xs) zero d h = Memᴰ.head refl
member_at (x ∷ xs) (suc i) d h = Memᴰ.tail (member_at xs i d (le_of_suc-le-suc h))

-- ---- loops over a list, by the part that they have passed

take_more : (xs : List ℕ) (i : ℕ) → i < length xs → take (i + 1) xs ≡ take i xs ++ (get_or xs i 0 ∷ [])
take_more xs i h = rw add-one (take-suc xs i 0 h)

-- the rule book's sum is std's
pub sum_std : (xs : List ℕ) → sum xs ≡ List_std.sum xs
unfolding sum
sum_std = is_sum_by sum (λ x. x) refl (λ _ _. refl)

-- a part of a list
part_le : (f : ℕ → ℕ) (xs : List ℕ) (i : ℕ) → sum (map f (take i xs)) ≤ sum (map f xs)
part_le f xs i =
    omega (
      arith,
      ap (λ (l : List ℕ). sum (map f l)) (sym (take-append-drop i xs)) ∙ ap sum (map-append f (take i xs) (drop i xs))
          ∙ sum_append (map f (take i xs)) (map f (drop i xs)),
    )

-- the figures of a round
module _ (bound : ℕ) where
  count_append : (xs ys : List ℕ) → (cut_below bound (xs ++ ys)).count ≡ (cut_below bound xs).count + (cut_below bound ys).count
  count_append xs ys =
      ap length (keep_append (λ p. ltb p bound) xs ys)
      ∙ length-append (keep (λ p. ltb p bound) xs) (keep (λ p. ltb p bound) ys)

  base_append : (xs ys : List ℕ) → (cut_below bound (xs ++ ys)).base ≡ (cut_below bound xs).base + (cut_below bound ys).base
  base_append xs ys =
      ap sum (keep_append (λ p. leb bound p) xs ys)
      ∙ sum_append (keep (λ p. leb bound p) xs) (keep (λ p. leb bound p) ys)

  floored_one : (x : ℕ) → x < bound → cut_below bound (x ∷ []) ≡ record { below = bound; count = 1; base = 0 }
  unfolding keep sum
  floored_one x h = rw (lt-ltb x bound h, lt-leb bound x h) refl

  shared_one : (x : ℕ) → bound ≤ x → cut_below bound (x ∷ []) ≡ record { below = bound; count = 0; base = x + 0 }
  unfolding keep sum
  shared_one x h = rw (le-ltb x bound h, le-leb bound x h) refl

  module _ (xs : List ℕ) (i : ℕ) (inside : i < length xs) where
    pub floored_more : get_or xs i 0 < bound →
        ((cut_below bound (take (i + 1) xs)).count ≡ (cut_below bound (take i xs)).count + 1)
        × ((cut_below bound (take (i + 1) xs)).base ≡ (cut_below bound (take i xs)).base)
    floored_more h =
        let one = floored_one (get_or xs i 0) h in
        rw (take_more xs i inside) (
          count_append (take i xs) (get_or xs i 0 ∷ []) ∙ ap (λ (c : Cut). (cut_below bound (take i xs)).count + c.count) one,
          omega (arith, base_append (take i xs) (get_or xs i 0 ∷ []), ap (λ (c : Cut). c.base) one),
        )

    pub shared_more : bound ≤ get_or xs i 0 →
        ((cut_below bound (take (i + 1) xs)).count ≡ (cut_below bound (take i xs)).count)
        × ((cut_below bound (take (i + 1) xs)).base ≡ (cut_below bound (take i xs)).base + get_or xs i 0)
    shared_more h =
        let one = shared_one (get_or xs i 0) h in
        rw (take_more xs i inside) (
          omega (arith, count_append (take i xs) (get_or xs i 0 ∷ []), ap (λ (c : Cut). c.count) one),
          omega (arith, base_append (take i xs) (get_or xs i 0 ∷ []), ap (λ (c : Cut). c.base) one),
        )

  -- no more are floored than there are, and no more shared
  pub count_le : (xs : List ℕ) → (cut_below bound xs).count ≤ length xs
  count_le xs = length_keep_le (λ p. ltb p bound) xs

  pub base_le : (xs : List ℕ) → (cut_below bound xs).base ≤ sum xs
  base_le xs = omega (arith, sum_keep_split (λ p. leb bound p) xs)

-- ---- the rounds

module _ (prizes : List ℕ) (l : Listed prizes) where
  positive : (p : ℕ) → Memᴰ p prizes → 0 < p
  positive p m = omega (arith, (l.each p m).large)

  -- all prizes together fit
  pub listed_small : sum (map (λ p. p) prizes) ≤ 250 * 2 ^ 40
  listed_small =
      le_trans (sum_within (λ p. p) (2 ^ 40) prizes (λ p m. le_of_lt (l.each p m).small)) (mul-le-mul_right (2 ^ 40) l.few)

  pub total_small : sum prizes ≤ 250 * 2 ^ 40
  total_small = omega (arith, listed_small, ap sum (map-id prizes))

  pub total_fits : List_std.sum prizes < 2 ^ 64
  total_fits = omega (arith, sum_std prizes, total_small)

  -- and those above a bound are a part of them
  pub rest_small : (bound : ℕ) → (cut_below bound prizes).base ≤ 250 * 2 ^ 40
  rest_small bound = omega (arith, total_small, base_le bound prizes)

  pub part_small : (i : ℕ) → sum (take i prizes) ≤ 250 * 2 ^ 40
  part_small i =
      omega (arith, listed_small, part_le (λ p. p) prizes i, ap sum (map-id (take i prizes)))

  -- a state that the rule's rounds come to
  pub record Follows (c : Cut) : Type 0 where
    pub rounds : ℕ
    pub state : StateOf prizes rounds c

  pub first_follows : (total : ℕ) → total ≡ sum prizes → Follows (first_cut total)
  first_follows total e = subst (λ (n : ℕ). Follows (first_cut n)) (sym e) (record { rounds = 0; state = state_first prizes })

  module _ (c : Cut) (follows : Follows c) (next : Cut) (round : next ≡ cut_below (next_below c) prizes) where
    pub round_follows : Follows next
    round_follows =
        subst Follows (sym round)
        (record { rounds = suc follows.rounds; state = state_step prizes follows.rounds c follows.state positive })

    counted : next.count ≡ (next_cut prizes c).count
    counted = ap (λ (x : Cut). x.count) round

    -- a round floors more, and no more than there are
    pub round_grows : (next.count ≡ c.count → ⊥) → (c.count < next.count) × (next.count ≤ length prizes)
    round_grows more =
        let grows : c.count ≤ (next_cut prizes c).count = next_count_grows prizes follows.rounds c follows.state positive in
        (omega (arith, counted), omega (arith, counted, next_count_le prizes c))

    -- or is the last, and the state before it pays what the rule pays
    pub last_pays : majors_limit < sum prizes → next.count ≡ c.count → Pays c prizes
    last_pays past same =
        record {
          each =
              λ p m. state_pays prizes follows.rounds c follows.state positive (sym counted ∙ same) past p m (l.each p m).large;
        }

  -- prizes that do not pass the limit are paid as they are
  pub uncut_pays : sum prizes ≤ majors_limit → Pays uncut prizes
  unfolding pay_under
  uncut_pays within =
      record {
        each =
            λ p m.
            let most : p ≤ majors_limit = le_trans (member_le_sum prizes p m) within in
            rw (le-leb major_floor p (l.each p m).large, le-ltb p 0 (omega arith), le-leb p majors_limit most)
            (mul-div_cancel p (omega arith) ∙ sym (payout_uncut prizes p within));
      }

-- ---- what prizes are raised by

-- the rule book's sum of it is std's
pub sum_raised : (cut : Cut) (ps : List ℕ) → sum (map (λ p. pay_under cut p - major_floor) ps) ≡ sum_by (λ p. pay_under cut p - major_floor) ps
sum_raised cut ps = sum_std (map (λ p. pay_under cut p - major_floor) ps) ∙ sum-map (λ p. pay_under cut p - major_floor) ps

-- and it fits
pub raised_fits : {cut : Cut} {ps : List ℕ} → AllRaised cut ps → sum_by (λ p. pay_under cut p - major_floor) ps < 2 ^ 64
raised_fits {cut} {ps} r =
    omega (
      arith,
      sum_raised cut ps,
      sum_within (λ p. pay_under cut p - major_floor) majors_limit ps (λ p m. omega (arith, r.most p m)),
      mul-le-mul_right majors_limit r.few,
    )

-- prizes of a table, from a place on and so many
pub part_from : (table : List ℕ) (from many : ℕ) → take (from + many - from) (drop from table) ≡ take many (drop from table)
part_from table from many = ap (λ n. take n (drop from table)) (omega arith)

pub part_raised : {cut : Cut} {table : List ℕ} {from many : ℕ} → Raisable cut table from many → AllRaised cut (take (from + many - from) (drop from table))
part_raised {cut} {table} {from} {many} r =
    subst (AllRaised cut) (sym (part_from table from many))
    (record { few = omega (arith, length-take many (drop from table), r.inside); small = r.small; least = r.least; most = r.most })
