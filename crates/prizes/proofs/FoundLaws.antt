-- Laws on the pass over a ticket's ways: what is added one way after the other is what the ways add together, and over all groups the walk finds the prizes
-- that the rule names.
use Prim.Native.Nat.{ℕ, suc, ◌+◌, ◌*◌, ◌/◌, ◌%◌, ◌≤◌, ◌<◌, ◌^◌}
use mathlib.Core.Path.{◌≡◌, refl, sym, ap, ap₂, ◌∙◌, subst}
use mathlib.Core.Bool.{Bool, true, false, cond}
use mathlib.Core.List.{List, [], ◌∷◌, ◌++◌, map, map-map, map-append}
use native.Mathlib.Nat.{zero-add, add-zero, add-suc, suc-add, mul-add, mul_assoc, mul-le-mul_right}
use native.Mathlib.Omega.{arith}
use lib.Dec.{eqb}
use lib.ListN.{length, drop, get_or, set, length-append, length-map, length-drop}
use lib.Seq.{sets, get_or-drop}
use Rattle.sale.specs.Lists.{sum, keep}
use Rattle.sale.specs.Ways.{ways, mask_sum}
use Rattle.prizes.specs.Prize.{is_major, prize}
use Rattle.prizes.specs.Settle.{prizes_by, full_by}
use Rattle.sale.specs.Noting.{AllNoted, way_figures}
use Rattle.prizes.specs.Found.{size_in, hits_in, group_sizes, group_hits, Groups, prize_in, sure_of, majors_among, Room, Behind, JoinedWays, FoundWith}
use Rattle.prizes.specs.Finding.{NotesWay}
use Rattle.prizes.specs.declared.found.Finding.{Finding}
use Rattle.prizes.specs.declared.found.Found.{Found}
use Rattle.prizes.specs.declared.majors.Majors.{Majors}
use Rattle.sale.specs.declared.terms.Terms.{Terms}
use Rattle.sale.proofs.KeepLaws.{keep_append}
use Rattle.sale.proofs.WayLaws.{sum_append, keep_map, ways_few, next}

-- ---- stores one behind the other

pub sets_append : (xs ys l : List ℕ) (i : ℕ) → sets (sets l i xs) (i + length xs) ys ≡ sets l i (xs ++ ys)
sets_append [] ys l i = ap (λ (n : ℕ). sets l n ys) (add-zero i)
sets_append (x ∷ xs) ys l i =
    ap (λ (n : ℕ). sets (sets (set l i x) (suc i) xs) n ys) (add-suc i (length xs) ∙ sym (suc-add i (length xs)))
    ∙ sets_append xs ys (set l i x) (suc i)

pub behind_both : {these those : List ℕ} {majors majors₁ majors₂ : Majors} → Behind these majors majors₁ → Behind those majors₁ majors₂ → Behind (these ++ those) majors majors₂
behind_both {these} {those} {majors} b k =
    record {
      count = omega (arith, b.count, k.count, length-append these those);
      stored =
          k.stored ∙ ap₂ (λ (l : List ℕ) (n : ℕ). sets l n those) b.stored b.count
          ∙ sets_append these those majors.prizes majors.count;
    }

-- ---- the figures of ways

module _ (t : Terms) where
  abbrev sure_cents : List ℕ → ℕ
  sure_cents pairs = sum (map (λ x. sure_of (prize_in t.kind t.stake x)) pairs)

  abbrev full_count : List ℕ → ℕ
  full_count pairs = length (keep (λ x. eqb (hits_in x) (size_in x)) pairs)

  abbrev majors_in : List ℕ → List ℕ
  majors_in pairs = majors_among t.kind t.stake pairs

  pub no_ways : (found : Found) (majors : Majors) → JoinedWays t [] found majors found majors
  unfolding sum keep
  no_ways found majors =
      record { sure = omega arith; full = omega arith; behind = record { count = omega arith; stored = refl } }

  -- one way: it is a major prize or not
  module _ (pair : ℕ) where
    abbrev full_one : ℕ
    full_one = cond (eqb (hits_in pair) (size_in pair)) 1 0

    one_full : full_count (pair ∷ []) ≡ full_one
    unfolding keep
    one_full = go (eqb (hits_in pair) (size_in pair))
      where
        go : (b : Bool) → length (cond b (pair ∷ []) []) ≡ cond b 1 0
        go true = refl
        go false = refl

    pub way_added : (found : Found) {found' : Found} {sure full : ℕ} → found' ≡ record { sure = found.sure + sure; full = found.full + full }
        → sure ≡ sure_of (prize_in t.kind t.stake pair) → full ≡ full_one
        → found' ≡ record { sure = found.sure + sure_of (prize_in t.kind t.stake pair); full = found.full + full_one }
    way_added found e s f = e ∙ (λ i. record { sure = found.sure + s i; full = found.full + f i })

    module _ {found : Found} {majors : Majors} {found' : Found}
        (added : found' ≡ record { sure = found.sure + sure_of (prize_in t.kind t.stake pair); full = found.full + full_one }) where
      one_joined : {these : List ℕ} {majors' : Majors} → majors_in (pair ∷ []) ≡ these → Behind these majors majors'
          → JoinedWays t (pair ∷ []) found majors found' majors'
      unfolding sum
      one_joined {these} {majors'} same b =
          record {
            sure = ap (λ (x : Found). x.sure) added ∙ ap (λ n. found.sure + n) (sym (add-zero (sure_of (prize_in t.kind t.stake pair))));
            full = ap (λ (x : Found). x.full) added ∙ ap (λ n. found.full + n) (sym one_full);
            behind = subst (λ (l : List ℕ). Behind l majors majors') (sym same) b;
          }

      pub way_minor : is_major (prize_in t.kind t.stake pair) ≡ false → JoinedWays t (pair ∷ []) found majors found' majors
      unfolding keep
      way_minor minor =
          let none : majors_in (pair ∷ []) ≡ [] = rw minor in
          one_joined none (record { count = omega arith; stored = refl })

      pub way_major : {majors' : Majors} → is_major (prize_in t.kind t.stake pair) ≡ true
          → majors'.count ≡ majors.count + 1 → majors'.prizes ≡ set majors.prizes majors.count (prize_in t.kind t.stake pair)
          → JoinedWays t (pair ∷ []) found majors found' majors'
      unfolding keep
      way_major major count stored =
          let some : majors_in (pair ∷ []) ≡ prize_in t.kind t.stake pair ∷ [] = rw major in
          one_joined some (record { count = count; stored = stored })

  -- the ways of two calls
  module _ (xs ys : List ℕ) {found found₁ : Found} {majors majors₁ : Majors} (j : JoinedWays t xs found majors found₁ majors₁) where
    pub ways_both : {found₂ : Found} {majors₂ : Majors} → JoinedWays t ys found₁ majors₁ found₂ majors₂ → JoinedWays t (xs ++ ys) found majors found₂ majors₂
    ways_both {majors₂ = majors₂} k =
        let cents : sure_cents (xs ++ ys) ≡ sure_cents xs + sure_cents ys =
        ap sum (map-append (λ x. sure_of (prize_in t.kind t.stake x)) xs ys)
        ∙ sum_append (map (λ x. sure_of (prize_in t.kind t.stake x)) xs) (map (λ x. sure_of (prize_in t.kind t.stake x)) ys) in
        let matches : full_count (xs ++ ys) ≡ full_count xs + full_count ys =
        ap length (keep_append (λ x. eqb (hits_in x) (size_in x)) xs ys)
        ∙ length-append (keep (λ x. eqb (hits_in x) (size_in x)) xs) (keep (λ x. eqb (hits_in x) (size_in x)) ys) in
        let these : majors_in (xs ++ ys) ≡ majors_in xs ++ majors_in ys =
        ap (keep is_major) (map-append (prize_in t.kind t.stake) xs ys)
        ∙ keep_append is_major (map (prize_in t.kind t.stake) xs) (map (prize_in t.kind t.stake) ys) in
        record {
          sure = omega (arith, j.sure, k.sure, cents);
          full = omega (arith, j.full, k.full, matches);
          behind = subst (λ (l : List ℕ). Behind l majors majors₂) (sym these) (behind_both j.behind k.behind);
        }

-- the ways of a walk, noted one after the other
pub ways_noted : (pairs : List ℕ) (s t : Finding) → AllNoted NotesWay pairs s t
    → JoinedWays s.terms pairs s.found s.majors.now t.found t.majors.now × (t.majors.ghost_name ≡ s.majors.ghost_name)
unfolding AllNoted
ways_noted [] s t e =
    subst (λ (u : Finding). JoinedWays s.terms [] s.found s.majors.now u.found u.majors.now × (u.majors.ghost_name ≡ s.majors.ghost_name)) (sym e)
    (no_ways s.terms s.found s.majors.now, refl)
ways_noted (x ∷ xs) s t (next, one, others) =
    let (joined, same) = ways_noted xs next t others in (
      ways_both s.terms (x ∷ []) xs one.joined
          (subst (λ (u : Terms). JoinedWays u xs next.found next.majors.now t.found t.majors.now) one.terms joined),
      same ∙ one.same_majors,
    )

-- ---- over all groups

bit_le : (m n : ℕ) → m % 2 * n ≤ n
bit_le m n = let bit : m % 2 ≤ 1 = omega arith in omega (arith, mul-le-mul_right n bit)

-- what a way takes of the groups has what it takes of their sizes and of their hits
mask_sum_split : (m : ℕ) (gs : List ℕ) → mask_sum m gs ≡ mask_sum m (map size_in gs) * 4096 + mask_sum m (map hits_in gs)
unfolding mask_sum
mask_sum_split m [] = refl
mask_sum_split m (x ∷ xs) =
    let whole : x ≡ x / 4096 * 4096 + x % 4096 = omega arith in
    let parts : m % 2 * x ≡ m % 2 * (x / 4096) * 4096 + m % 2 * (x % 4096) =
    ap (λ n. m % 2 * n) whole ∙ mul-add (m % 2) (x / 4096 * 4096) (x % 4096)
    ∙ ap (λ n. n + m % 2 * (x % 4096)) (sym (mul_assoc (m % 2) (x / 4096) 4096)) in
    omega (arith, mask_sum_split (m / 2) xs)

mask_sum_few : (m : ℕ) (gs : List ℕ) → ((k : ℕ) → hits_in (get_or gs k 0) ≤ 255) → mask_sum m (map hits_in gs) ≤ 255 * length gs
unfolding mask_sum
mask_sum_few m [] few = omega arith
mask_sum_few m (x ∷ xs) few = omega (arith, bit_le m (hits_in x), few 0, mask_sum_few (m / 2) xs (λ k. few (suc k)))

module _ (table : List ℕ) (g : Groups table) (m : ℕ) where
  hits_few : mask_sum m (group_hits table) < 4096
  hits_few =
      omega (
        arith,
        mask_sum_few m (drop 1 table) (λ k. subst (λ n. hits_in n ≤ 255) (sym (get_or-drop 1 table k 0)) (g.hits (1 + k))),
        length-drop 1 table,
        g.long,
      )

  way_size : size_in (mask_sum m (drop 1 table)) ≡ mask_sum m (group_sizes table)
  way_size = omega (arith, mask_sum_split m (drop 1 table), hits_few)

  way_hits : hits_in (mask_sum m (drop 1 table)) ≡ mask_sum m (group_hits table)
  way_hits = omega (arith, mask_sum_split m (drop 1 table), hits_few)

module _ (t : Terms) (table : List ℕ) (g : Groups table) where
  abbrev all : List ℕ
  all = way_figures t.groups t.types table

  abbrev way_pair : ℕ → ℕ
  way_pair m = mask_sum m (drop 1 table)

  same_prize : ◌≡◌ {A = ℕ → ℕ} (λ m. prize_in t.kind t.stake (way_pair m))
      (λ m. prize t.kind t.stake (mask_sum m (group_sizes table)) (mask_sum m (group_hits table)))
  same_prize i m = prize t.kind t.stake (way_size table g m i) (way_hits table g m i)

  same_full : ◌≡◌ {A = ℕ → Bool} (λ m. eqb (hits_in (way_pair m)) (size_in (way_pair m)))
      (λ m. eqb (mask_sum m (group_hits table)) (mask_sum m (group_sizes table)))
  same_full i m = eqb (way_hits table g m i) (way_size table g m i)

  -- the prizes of the walk are those of the rule
  found_prizes : map (prize_in t.kind t.stake) all ≡ prizes_by t (group_sizes table) (group_hits table)
  unfolding prizes_by
  found_prizes =
      map-map (prize_in t.kind t.stake) way_pair (ways t.groups t.types)
      ∙ ap (λ (f : ℕ → ℕ). map f (ways t.groups t.types)) same_prize

  found_full : length (keep (λ x. eqb (hits_in x) (size_in x)) all) ≡ full_by t (group_sizes table) (group_hits table)
  unfolding full_by
  found_full =
      ap length (keep_map (λ x. eqb (hits_in x) (size_in x)) way_pair (ways t.groups t.types))
      ∙ length-map (keep (λ m. eqb (hits_in (way_pair m)) (size_in (way_pair m))) (ways t.groups t.types)) way_pair
      ∙ ap (λ (f : ℕ → Bool). length (keep f (ways t.groups t.types))) same_full

  found_sure : sum (map (λ x. sure_of (prize_in t.kind t.stake x)) all) ≡ sum (map sure_of (prizes_by t (group_sizes table) (group_hits table)))
  found_sure = ap sum (sym (map-map sure_of (prize_in t.kind t.stake) all) ∙ ap (map sure_of) found_prizes)

  -- so that what it finds is what the rule names
  pub found_with : {majors : Majors} {found' : Found} {majors' : Majors}
      → JoinedWays t (way_figures t.groups t.types table) (record { sure = 0; full = 0 }) majors found' majors'
      → FoundWith t (group_sizes table) (group_hits table) majors found' majors'
  found_with {majors} {found'} {majors'} j =
      record {
        found =
            λ i. record {
              sure = (j.sure ∙ zero-add (sum (map (λ x. sure_of (prize_in t.kind t.stake x)) all)) ∙ found_sure) i;
              full = (j.full ∙ zero-add (length (keep (λ x. eqb (hits_in x) (size_in x)) all)) ∙ found_full) i;
            };
        behind = subst (λ (l : List ℕ). Behind (keep is_major l) majors majors') found_prizes j.behind;
      }

-- a ticket has no more ways than there are masks
pub start_room : (g types before : ℕ) → g ≤ 8 → before < 2 ^ 32 → Room (length (ways g types)) (record { sure = 0; full = 0 }) before
start_room g types before few small =
    let ways_le : length (ways g types) ≤ 255 = ways_few types few in
    record { sure = omega arith; full = omega arith; majors = omega arith }
