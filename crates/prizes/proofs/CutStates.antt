-- The state that the code keeps, F as the prizes below a bound with the size of F and B, follows the rule round by round, and pays what the
-- rule pays once a round floors no more. A member of ps is a `List.Memᴰ p ps`.
use mathlib.Core.Path.{◌≡◌, refl, sym, ap, ◌∙◌}
use mathlib.Core.Bool.{Bool, true, false, cond, not, ◌||◌}
use mathlib.Core.List.{List, Memᴰ}
use Prim.Native.Nat.{ℕ, suc, ◌+◌, ◌*◌, ◌-◌, ◌/◌, ◌%◌, ◌≤◌, ◌<◌, max}
use native.Mathlib.Nat.{mul-add, mul_left_comm, suc-mul, mul-add-div, le-div_iff_mul-le, div-add-mod, mul-le-mul_left, le-max_left, le_trans}
use native.Mathlib.Omega.{arith}
use lib.Dec.{ltb, leb}
use lib.ListN.{length}
use borrow.Author.Tests.{ltb-true, ltb-false, lt-ltb, le-ltb, le-leb, lt-leb, leb-true, leb-false}
use Rattle.sale.specs.Lists.{sum, keep}
use Rattle.prizes.specs.Prize.{major_floor}
use Rattle.prizes.specs.Cut.{majors_limit, Floored, floor_count, cut_base, joins, round_of, rounds, floored_of, cut_prize, payout}
use Rattle.prizes.specs.Rounds.{first_cut, shareable, pay_under, next_below}
use Rattle.prizes.specs.declared.cut.Cut.{Cut}
use Rattle.sale.proofs.KeepLaws.{Agree, ltb_same, leb_not_ltb, keep_agree, keep_none, keep_all, length_keep_le, kept_le_sum}
use Rattle.prizes.proofs.CutRounds.{floor_count_agree, cut_base_agree, count_grows, stable_by_count, stable_floored}

-- m × b / a rounded up is the sum of the two parts that the code computes
ceil : (a b m : ℕ) → 0 < a → m * (b / a) + (m * (b % a) + (a - 1)) / a ≡ (m * b + (a - 1)) / a
ceil a b m pos =
    sym
    (ap (λ (x : ℕ). x / a)
    (let parts : m * b ≡ a * (m * (b / a)) + m * (b % a) =
    ap (λ (x : ℕ). m * x) (sym (div-add-mod b a)) ∙ mul-add m _ _ ∙ ap (λ (x : ℕ). x + m * (b % a)) (mul_left_comm m a (b / a)) in
    omega arith)
    ∙ mul-add-div pos (m * (b / a)) (m * (b % a) + (a - 1)))

-- p is below n / a rounded up exactly where p × a < n
below_ceil : (a n p : ℕ) → 0 < a → ltb (p * a) n ≡ ltb p ((n + (a - 1)) / a)
below_ceil a n p pos =
    ltb_same (p * a) n p ((n + (a - 1)) / a)
    (λ h. (le-div_iff_mul-le pos).1 (omega (arith, suc-mul p a)))
    (λ h. omega (arith, (le-div_iff_mul-le pos).0 h, suc-mul p a))

-- the bound of the next round, unless the one before it is larger
ceiling : Cut → ℕ
ceiling c =
    cond (leb 250 c.count) (c.base + 1)
    (major_floor * (c.base / shareable c) + (major_floor * (c.base % shareable c) + (shareable c - 1)) / shareable c)

-- the rule's test, with B and the size of F as the state has them
joins_under : Cut → ℕ → Bool
joins_under c p = ltb (p * majors_limit) (major_floor * c.base + p * (major_floor * c.count))

-- of a prize that is a part of B
joins_ceiling : (c : Cut) (p : ℕ) → 0 < p → p ≤ c.base → joins_under c p ≡ ltb p (ceiling c)
unfolding ceiling joins_under
joins_ceiling c p pos le = go (leb 250 c.count) refl
  where
    go : (t : Bool) → leb 250 c.count ≡ t → joins_under c p ≡ ltb p (ceiling c)
    go true e =
        let taken : p * majors_limit ≤ p * (major_floor * c.count) = mul-le-mul_left p (omega (arith, leb-true 250 c.count e)) in
        rw e
        (lt-ltb (p * majors_limit) (major_floor * c.base + p * (major_floor * c.count)) (omega arith)
        ∙ sym (lt-ltb p (c.base + 1) (omega arith)))
    go false e =
        let few : c.count < 250 = leb-false 250 c.count e in
        let some_left : 0 < shareable c = omega arith in
        let parts : majors_limit ≡ shareable c + major_floor * c.count = omega arith in
        let products : p * majors_limit ≡ p * shareable c + p * (major_floor * c.count) =
        ap (λ (x : ℕ). p * x) parts ∙ mul-add p (shareable c) (major_floor * c.count) in
        rw e
        (ltb_same (p * majors_limit) (major_floor * c.base + p * (major_floor * c.count)) (p * shareable c) (major_floor * c.base)
        (λ h. omega arith)
        (λ h. omega arith)
        ∙ below_ceil (shareable c) (major_floor * c.base) p some_left
        ∙ ap (λ (x : ℕ). ltb p x) (sym (ceil (shareable c) c.base major_floor some_left)))

ltb_max : (p a x : ℕ) → a ≤ p → ltb p x ≡ ltb p (max a x)
ltb_max p a x h = ltb_same p x p (max a x) (λ k. omega arith) (λ k. omega arith)

-- a round on the state is a round of the rule
round_test : (c : Cut) (p : ℕ) → 0 < p → (c.below ≤ p → p ≤ c.base) →
    (ltb p c.below || joins_under c p) ≡ ltb p (next_below c)
unfolding next_below ceiling
round_test c p pos part = go (ltb p c.below) refl
  where
    go : (t : Bool) → ltb p c.below ≡ t → (ltb p c.below || joins_under c p) ≡ ltb p (next_below c)
    go true e = rw e (sym (lt-ltb p (next_below c) (le_trans (ltb-true p c.below e) (le-max_left c.below (ceiling c)))))
    go false e =
        let high : c.below ≤ p = ltb-false p c.below e in
        rw e (joins_ceiling c p pos (part high) ∙ ltb_max p c.below (ceiling c) high)

-- c is the state after n rounds on the major prizes ps
pub record StateOf (ps : List ℕ) (n : ℕ) (c : Cut) : Type 0 where
  pub floors : (p : ℕ) → Memᴰ p ps → rounds n ps p ≡ ltb p c.below
  pub count : c.count ≡ floor_count (rounds n ps) ps
  pub base : c.base ≡ cut_base (rounds n ps) ps

-- the state after one more round, by a pass over the prizes
abbrev pub next_cut : List ℕ → Cut → Cut
next_cut ps c =
    record {
      below = next_below c;
      count = length (keep (λ p. ltb p (next_below c)) ps);
      base = sum (keep (λ p. leb (next_below c) p) ps);
    }

pub state_first : (ps : List ℕ) → StateOf ps 0 (first_cut (sum ps))
unfolding rounds floor_count cut_base
state_first ps =
    record {
      floors = λ p m. sym (le-ltb p 0 (omega arith));
      count = ap length (sym (keep_none ps));
      base = ap sum (sym (keep_all ps));
    }

-- a prize outside F is a part of B
pub outside_le_base : (ps : List ℕ) (f : Floored) (p : ℕ) → Memᴰ p ps → f p ≡ false → p ≤ cut_base f ps
unfolding cut_base
outside_le_base ps f p m h = kept_le_sum (λ x. not (f x)) ps p m (ap not h)

-- the size of F never passes that of ps, which bounds the loop that runs the rounds
pub next_count_le : (ps : List ℕ) (c : Cut) → (next_cut ps c).count ≤ length ps
next_count_le ps c = length_keep_le (λ p. ltb p (next_below c)) ps

module _ (ps : List ℕ) (n : ℕ) (c : Cut) (s : StateOf ps n c) (positive : (p : ℕ) → Memᴰ p ps → 0 < p) where
  next_floors : (p : ℕ) → Memᴰ p ps → rounds (suc n) ps p ≡ ltb p (next_below c)
  unfolding rounds round_of joins joins_under
  next_floors p m =
      rw (s.floors p m, ← s.count, ← s.base)
      (round_test c p (positive p m)
      (λ h. rw s.base (outside_le_base ps (rounds n ps) p m (s.floors p m ∙ le-ltb p c.below h))))

  -- one more round on the state is one more round of the rule
  pub state_step : StateOf ps (suc n) (next_cut ps c)
  unfolding floor_count cut_base
  state_step =
      record {
        floors = next_floors;
        count = ap length (keep_agree _ _ ps (λ p m. sym (next_floors p m)));
        base = ap sum (keep_agree _ _ ps (λ p m. leb_not_ltb p (next_below c) ∙ ap not (sym (next_floors p m))));
      }

  pub next_count_grows : c.count ≤ (next_cut ps c).count
  next_count_grows =
      let after : (next_cut ps c).count ≡ floor_count (rounds (suc n) ps) ps = state_step.count in
      omega (arith, s.count, count_grows n ps)

  module _ (same : (next_cut ps c).count ≡ c.count) where
    last_round : Agree ps (floored_of ps) (rounds n ps)
    last_round =
        let after : (next_cut ps c).count ≡ floor_count (rounds (suc n) ps) ps = state_step.count in
        stable_floored n ps (stable_by_count n ps (omega (arith, s.count)))

    -- where a round floors no more, the state has F
    pub state_stop : (p : ℕ) → Memᴰ p ps → floored_of ps p ≡ ltb p c.below
    state_stop p m = last_round p m ∙ s.floors p m

    -- and pays what the rule pays
    pub state_pays : majors_limit < sum ps → (p : ℕ) → Memᴰ p ps → major_floor ≤ p → pay_under c p ≡ payout ps p
    unfolding pay_under payout cut_prize
    state_pays over p m major =
        rw (
          le-leb major_floor p major,
          lt-leb (sum ps) majors_limit over,
          state_stop p m,
          floor_count_agree ps (floored_of ps) (rounds n ps) last_round,
          cut_base_agree ps (floored_of ps) (rounds n ps) last_round,
          ← s.count,
          ← s.base,
        )
        (go (ltb p c.below) refl)
      where
        go : (t : Bool) → ltb p c.below ≡ t →
            cond t major_floor (cond (leb p c.base) (p * shareable c / c.base) (shareable c))
            ≡ cond t major_floor (p * shareable c / c.base)
        go true h = refl
        go false h =
            rw (le-leb p c.base (rw s.base (outside_le_base ps (rounds n ps) p m (s.floors p m ∙ h))))
