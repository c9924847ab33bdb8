-- The laws of a settled game: an award for each entry, the awards are the prizes and the shares, no pool gains or loses a cent unaccounted
-- for, a guarantee once reached stays, and the bounds of each amount. Each is shown of one jackpot by the two cases, won or not, and added.
use mathlib.Core.Path.{◌≡◌, refl, ap, ◌∙◌}
use mathlib.Core.Bool.{Bool, true, false, cond, ◌||◌}
use mathlib.Core.List.{List, [], ◌∷◌, ◌++◌, map, zip_with, Memᴰ}
use Prim.Native.Nat.{ℕ, suc, ◌+◌, ◌*◌, ◌≤◌}
use native.Mathlib.Nat.{le_trans, mul-le-mul_right}
use native.Mathlib.Omega.{arith}
use lib.Dec.{eqb}
use lib.ListN.{length, length-map}
use borrow.Author.Tests.{leb-true, leb-false, eqb-true, eq-eqb}
use Rattle.sale.specs.Lists.{sum, keep, any, member}
use Rattle.sale.specs.Ways.{sizes, ways}
use Rattle.prizes.specs.Prize.{major_floor, is_major}
use Rattle.prizes.specs.Cut.{majors_limit, payout}
use Rattle.prizes.specs.Jackpots.{guarantee_of_six, guarantee_of_eight, pooled, contribution, contributed, jackpot_won, jackpot_shares, seed_of, reseeded, repaid_of, repaid}
use Rattle.prizes.specs.Settle.{Entry, prizes_by, way_prizes, winner_of, paid_for, majors_of, prizes_of, all_prizes_of, settle_jackpot, settle}
use Rattle.prizes.specs.Bounds.{feature_limit}
use Rattle.sale.specs.Kinds.{jackpot_by}
use Rattle.prizes.specs.declared.draw.Draw.{Draw}
use Rattle.prizes.specs.declared.jackpot.Jackpot.{Jackpot}
use Rattle.prizes.proofs.CutPayouts.{payout_minor}
use Rattle.sale.proofs.KeepLaws.{sum_within}
use Rattle.prizes.proofs.LuckyLastLaws.{feature_within}
use Rattle.prizes.proofs.ShareLaws.{won_shares, no_shares, length_shares}

-- lists of one length added by element
length_added : (xs ys : List ℕ) → length xs ≡ length ys → length (zip_with ◌+◌ xs ys) ≡ length ys
unfolding zip_with
length_added [] [] same = refl
length_added [] (y ∷ ys) same = omega arith
length_added (x ∷ xs) [] same = omega arith
length_added (x ∷ xs) (y ∷ ys) same = let rest : length xs ≡ length ys = omega arith in ap suc (length_added xs ys rest)

sum_added : (xs ys : List ℕ) → length xs ≡ length ys → sum (zip_with ◌+◌ xs ys) ≡ sum xs + sum ys
unfolding zip_with sum
sum_added [] [] same = refl
sum_added [] (y ∷ ys) same = omega arith
sum_added (x ∷ xs) [] same = omega arith
sum_added (x ∷ xs) (y ∷ ys) same = let rest : length xs ≡ length ys = omega arith in omega (arith, sum_added xs ys rest)

-- a fourth of the paid stakes at the most
pub contribution_within : (paid : ℕ) → 4 * contribution paid ≤ paid
unfolding contribution
contribution_within paid = omega arith

pub seed_within : (won : Bool) (guarantee : ℕ) (j : Jackpot) → seed_of won guarantee j ≤ guarantee
unfolding seed_of
seed_within true guarantee j = omega arith
seed_within false guarantee j = omega arith

module _ (guarantee paid : ℕ) (before : Jackpot) where
  abbrev grown : Jackpot
  grown = contributed paid before

  paid_back : (won : Bool) → repaid_of (repaid (reseeded won guarantee grown)) ≡ 0
  unfolding reseeded repaid
  paid_back true = omega arith
  paid_back false = omega arith

  balance : (won : Bool) (shares : ℕ) →
      (won ≡ true → shares ≡ grown.primary) →
      (won ≡ false → shares ≡ 0) →
      pooled (repaid (reseeded won guarantee grown)) + shares + repaid_of (reseeded won guarantee grown)
      ≡ pooled before + contribution paid + seed_of won guarantee grown
  unfolding contribution contributed seed_of reseeded repaid
  balance true shares all none = omega (arith, all refl)
  balance false shares all none = omega (arith, none refl)

  kept : (won : Bool) → guarantee ≤ before.primary → guarantee ≤ (repaid (reseeded won guarantee grown)).primary
  unfolding contributed seed_of reseeded repaid
  kept true enough = omega arith
  kept false enough = omega arith

  owed : (won : Bool) →
      (repaid (reseeded won guarantee grown)).debt + repaid_of (reseeded won guarantee grown)
      ≡ before.debt + seed_of won guarantee grown
  unfolding contributed seed_of reseeded repaid
  owed true = omega arith
  owed false = omega arith

-- one jackpot's part of a game
module _ (j guarantee : ℕ) (draw : Draw) (before : Jackpot) (es : List Entry) where
  abbrev won : Bool
  won = jackpot_won (map (winner_of j draw) es)

  -- reimbursement, which comes last, has paid all it can: either the pool is empty or nothing is owed
  pub jackpot_paid_back : repaid_of (settle_jackpot j guarantee draw before es).after ≡ 0
  unfolding settle_jackpot
  jackpot_paid_back = paid_back guarantee (paid_for j es) before won

  -- an amount for each entry
  pub jackpot_shares_count : length (settle_jackpot j guarantee draw before es).shares ≡ length es
  unfolding settle_jackpot
  jackpot_shares_count =
      length_shares (contributed (paid_for j es) before).primary (map (winner_of j draw) es)
      ∙ length-map es (winner_of j draw)

  -- the pools after, the shares and what is paid back are the pools before, the contributions and the seed
  pub jackpot_balance :
      pooled (settle_jackpot j guarantee draw before es).after
      + sum (settle_jackpot j guarantee draw before es).shares
      + (settle_jackpot j guarantee draw before es).repaid
      ≡ pooled before
      + (settle_jackpot j guarantee draw before es).contributions
      + (settle_jackpot j guarantee draw before es).seed
  unfolding settle_jackpot
  jackpot_balance =
      balance
      guarantee
      (paid_for j es)
      before
      won
      (sum (jackpot_shares (contributed (paid_for j es) before).primary (map (winner_of j draw) es)))
      (won_shares (contributed (paid_for j es) before).primary (map (winner_of j draw) es))
      (no_shares (contributed (paid_for j es) before).primary (map (winner_of j draw) es))

  -- the debt after and what is paid back are the debt before and the seed
  pub jackpot_debt :
      (settle_jackpot j guarantee draw before es).after.debt + (settle_jackpot j guarantee draw before es).repaid
      ≡ before.debt + (settle_jackpot j guarantee draw before es).seed
  unfolding settle_jackpot
  jackpot_debt = owed guarantee (paid_for j es) before won

  -- a primary that is at least its guarantee stays so
  pub jackpot_guarantee_kept :
      guarantee ≤ before.primary → guarantee ≤ (settle_jackpot j guarantee draw before es).after.primary
  unfolding settle_jackpot
  jackpot_guarantee_kept = kept guarantee (paid_for j es) before won

  pub jackpot_seed_within : (settle_jackpot j guarantee draw before es).seed ≤ guarantee
  unfolding settle_jackpot
  jackpot_seed_within = seed_within won guarantee (contributed (paid_for j es) before)

  pub jackpot_contributions_within : 4 * (settle_jackpot j guarantee draw before es).contributions ≤ paid_for j es
  unfolding settle_jackpot
  jackpot_contributions_within = contribution_within (paid_for j es)

-- no entry plays for both jackpots
one_jackpot : (x paid : ℕ) → cond (eqb x 6) paid 0 + cond (eqb x 8) paid 0 ≤ paid
one_jackpot x paid = go (eqb x 6) refl
  where
    eight : (t : Bool) → cond t paid 0 ≤ paid
    eight true = omega arith
    eight false = omega arith

    go : (t : Bool) → eqb x 6 ≡ t → cond t paid 0 + cond (eqb x 8) paid 0 ≤ paid
    go true same = rw (eqb-true x 6 same) (omega arith)
    go false other = omega (arith, eight (eqb x 8))

-- the stakes that contribute are paid stakes, each once
pub paid_within : (es : List Entry) → paid_for 6 es + paid_for 8 es ≤ sum (map (λ e. e.paid) es)
unfolding paid_for sum
paid_within [] = omega arith
paid_within (e ∷ es) = omega (arith, one_jackpot (jackpot_by e.terms (sizes e.marks)) e.paid, paid_within es)

-- the whole game
module _ (draw : Draw) (six eight : Jackpot) (es : List Entry) where
  abbrev prizes : List ℕ
  prizes = map (all_prizes_of (majors_of draw es) draw) es

  abbrev shares_of_six : List ℕ
  shares_of_six = (settle_jackpot 6 guarantee_of_six draw six es).shares

  abbrev shares_of_eight : List ℕ
  shares_of_eight = (settle_jackpot 8 guarantee_of_eight draw eight es).shares

  six_count : length shares_of_six ≡ length es
  six_count = jackpot_shares_count 6 guarantee_of_six draw six es

  eight_count : length shares_of_eight ≡ length es
  eight_count = jackpot_shares_count 8 guarantee_of_eight draw eight es

  shares_alike : length shares_of_six ≡ length shares_of_eight
  shares_alike = omega (arith, six_count, eight_count)

  shares_count : length (zip_with ◌+◌ shares_of_six shares_of_eight) ≡ length es
  shares_count = length_added shares_of_six shares_of_eight shares_alike ∙ eight_count

  prizes_alike : length prizes ≡ length (zip_with ◌+◌ shares_of_six shares_of_eight)
  prizes_alike = omega (arith, length-map es (all_prizes_of (majors_of draw es) draw), shares_count)

  -- an award for each entry
  pub awards_count : length (settle draw six eight es).awards ≡ length es
  unfolding settle
  awards_count = length_added prizes (zip_with ◌+◌ shares_of_six shares_of_eight) prizes_alike ∙ shares_count

  -- the awards are the prizes and the shares
  pub awards_sum : sum (settle draw six eight es).awards ≡ (settle draw six eight es).prizes + (settle draw six eight es).shares
  unfolding settle
  awards_sum =
      omega (
        arith,
        sum_added prizes (zip_with ◌+◌ shares_of_six shares_of_eight) prizes_alike,
        sum_added shares_of_six shares_of_eight shares_alike,
      )

  -- the pools after, the shares and what is paid back are the pools before, the contributions and the seeds
  pub pools_balance :
      pooled (settle draw six eight es).six
      + pooled (settle draw six eight es).eight
      + (settle draw six eight es).shares
      + (settle draw six eight es).repaid
      ≡ pooled six + pooled eight + (settle draw six eight es).contributions + (settle draw six eight es).seeds
  unfolding settle
  pools_balance =
      omega (arith, jackpot_balance 6 guarantee_of_six draw six es, jackpot_balance 8 guarantee_of_eight draw eight es)

  -- the debts after and what is paid back are the debts before and the seeds
  pub debts_balance :
      (settle draw six eight es).six.debt + (settle draw six eight es).eight.debt + (settle draw six eight es).repaid
      ≡ six.debt + eight.debt + (settle draw six eight es).seeds
  unfolding settle
  debts_balance =
      omega (arith, jackpot_debt 6 guarantee_of_six draw six es, jackpot_debt 8 guarantee_of_eight draw eight es)

  -- a primary that is at least its guarantee stays so
  pub six_guarantee_kept : guarantee_of_six ≤ six.primary → guarantee_of_six ≤ (settle draw six eight es).six.primary
  unfolding settle
  six_guarantee_kept = jackpot_guarantee_kept 6 guarantee_of_six draw six es

  pub eight_guarantee_kept : guarantee_of_eight ≤ eight.primary → guarantee_of_eight ≤ (settle draw six eight es).eight.primary
  unfolding settle
  eight_guarantee_kept = jackpot_guarantee_kept 8 guarantee_of_eight draw eight es

  -- the bounds
  pub contributions_within : 4 * (settle draw six eight es).contributions ≤ sum (map (λ e. e.paid) es)
  unfolding settle
  contributions_within =
      omega (
        arith,
        jackpot_contributions_within 6 guarantee_of_six draw six es,
        jackpot_contributions_within 8 guarantee_of_eight draw eight es,
        paid_within es,
      )

  pub seeds_within : (settle draw six eight es).seeds ≤ guarantee_of_six + guarantee_of_eight
  unfolding settle
  seeds_within =
      omega (arith, jackpot_seed_within 6 guarantee_of_six draw six es, jackpot_seed_within 8 guarantee_of_eight draw eight es)

-- the second half of a test is enough
or_right : (t u : Bool) → u ≡ true → (t || u) ≡ true
or_right true u held = refl
or_right false u held = held

-- membership, as a test: of what is in the list, of either part of a longer list, and of what passes a test
pub member_of : {x : ℕ} {xs : List ℕ} → Memᴰ x xs → member x xs ≡ true
unfolding member any
member_of {x} (Memᴰ.head {x = y} {xs = ys} same) = rw (eq-eqb x y same)
member_of {x} (Memᴰ.tail {x = y} {xs = ys} later) = or_right (eqb x y) (any (eqb x) ys) (member_of later)

pub member_left : (x : ℕ) (xs ys : List ℕ) → member x xs ≡ true → member x (xs ++ ys) ≡ true
unfolding member any
member_left x [] ys m = cc
member_left x (z ∷ xs) ys m = go (eqb x z) m (λ later. member_left x xs ys later)
  where
    go : (t : Bool) → (t || any (eqb x) xs) ≡ true → (any (eqb x) xs ≡ true → any (eqb x) (xs ++ ys) ≡ true) →
        (t || any (eqb x) (xs ++ ys)) ≡ true
    go true first later = refl
    go false first later = later first

pub member_right : (x : ℕ) (xs ys : List ℕ) → member x ys ≡ true → member x (xs ++ ys) ≡ true
unfolding member any
member_right x [] ys m = m
member_right x (z ∷ xs) ys m = or_right (eqb x z) (any (eqb x) (xs ++ ys)) (member_right x xs ys m)

pub member_keep : (f : ℕ → Bool) (x : ℕ) (xs : List ℕ) → member x xs ≡ true → f x ≡ true → member x (keep f xs) ≡ true
unfolding member any keep
member_keep f x [] m passes = m
member_keep f x (y ∷ ys) m passes = go (eqb x y) refl m (λ later. member_keep f x ys later passes)
  where
    later_kept : (t : Bool) → any (eqb x) (keep f ys) ≡ true → any (eqb x) (cond t (y ∷ keep f ys) (keep f ys)) ≡ true
    later_kept true held = or_right (eqb x y) (any (eqb x) (keep f ys)) held
    later_kept false held = held

    go : (t : Bool) → eqb x y ≡ t → (t || any (eqb x) ys) ≡ true → (any (eqb x) ys ≡ true → any (eqb x) (keep f ys) ≡ true) →
        any (eqb x) (cond (f y) (y ∷ keep f ys) (keep f ys)) ≡ true
    go true same first later = rw (← eqb-true x y same, passes, eq-eqb x x refl)
    go false other first later = later_kept (f y) (later first)

-- a prize for each way
pub way_prizes_count : (draw : Draw) (e : Entry) → length (way_prizes draw e) ≡ length (ways e.terms.groups e.terms.types)
unfolding prizes_by
way_prizes_count draw e = length-map (ways e.terms.groups e.terms.types) _

-- an entry whose ways pay so much each at the most
pub prizes_of_within : (majors : List ℕ) (draw : Draw) (e : Entry) (most : ℕ) →
    ((p : ℕ) → member p (way_prizes draw e) ≡ true → payout majors p ≤ most) →
    prizes_of majors draw e ≤ length (ways e.terms.groups e.terms.types) * most
unfolding prizes_of
prizes_of_within majors draw e most each =
    rw (← way_prizes_count draw e) (sum_within (payout majors) most (way_prizes draw e) (λ p m. each p (member_of m)))

-- a major prize of an entry is among those of the game
pub entry_major : (draw : Draw) (e : Entry) (es : List Entry) (p : ℕ) → Memᴰ e es →
    member p (way_prizes draw e) ≡ true → is_major p ≡ true → member p (majors_of draw es) ≡ true
unfolding majors_of
entry_major draw e [] p among m major = elim among [ ]
entry_major draw e (x ∷ es) p (Memᴰ.head same) m major =
    member_left p (keep is_major (way_prizes draw x)) (majors_of draw es)
    (member_keep is_major p (way_prizes draw x) (rw same at m) major)
entry_major draw e (x ∷ es) p (Memᴰ.tail later) m major =
    member_right p (keep is_major (way_prizes draw x)) (majors_of draw es) (entry_major draw e es p later m major)

-- where a game's major prizes pay no more than the limit each
module _ (cut_within : (ps : List ℕ) (p : ℕ) → member p ps ≡ true → major_floor ≤ p → payout ps p ≤ majors_limit) where
  -- then so do all prizes
  pub way_within : (draw : Draw) (es : List Entry) (e : Entry) → Memᴰ e es →
      (p : ℕ) → member p (way_prizes draw e) ≡ true → payout (majors_of draw es) p ≤ majors_limit
  way_within draw es e among p m = go (is_major p) refl
    where
      go : (t : Bool) → is_major p ≡ t → payout (majors_of draw es) p ≤ majors_limit
      go true major = cut_within (majors_of draw es) p (entry_major draw e es p among m major) (leb-true major_floor p major)
      go false minor = omega (arith, payout_minor (majors_of draw es) p (leb-false major_floor p minor), leb-false major_floor p minor)

  -- an entry's prizes are within the limit for each of its ways
  pub entry_within : (draw : Draw) (es : List Entry) (e : Entry) → Memᴰ e es →
      prizes_of (majors_of draw es) draw e ≤ length (ways e.terms.groups e.terms.types) * majors_limit
  entry_within draw es e among = prizes_of_within (majors_of draw es) draw e majors_limit (way_within draw es e among)

  -- and the game's within that of each entry, of which none has more than so many ways, or a feature stake above so much
  pub prizes_within : (draw : Draw) (six eight : Jackpot) (es : List Entry) (most stake : ℕ) →
      ((e : Entry) → Memᴰ e es → length (ways e.terms.groups e.terms.types) ≤ most) →
      ((e : Entry) → Memᴰ e es → e.feature ≤ stake) →
      (settle draw six eight es).prizes ≤ length es * (most * majors_limit + feature_limit stake)
  unfolding settle all_prizes_of
  prizes_within draw six eight es most stake few small =
      sum_within (all_prizes_of (majors_of draw es) draw) (most * majors_limit + feature_limit stake) es each
    where
      each : (e : Entry) → Memᴰ e es → all_prizes_of (majors_of draw es) draw e ≤ most * majors_limit + feature_limit stake
      each e among =
          omega (
            arith,
            le_trans (entry_within draw es e among) (mul-le-mul_right majors_limit (few e among)),
            feature_within draw e.marks e.feature,
            small e among,
          )
