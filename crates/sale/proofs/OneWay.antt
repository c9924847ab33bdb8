-- A ticket's one way takes all its groups: of fewer groups there would be two ways at the least, the lowest ones and those one further on. So what it
-- selects are the numbers of all groups.
use mathlib.Core.Path.{◌≡◌, refl, sym, ap, ap₂, ◌∙◌}
use mathlib.Core.Bool.{Bool, true, false, cond, false≢true}
use mathlib.Core.List.{List, [], ◌∷◌, ◌++◌, map}
use Prim.Native.Nat.{ℕ, zero, suc, ◌+◌, ◌*◌, ◌-◌, ◌^◌, ◌≤◌, ◌<◌}
use native.Mathlib.Nat.{pow-suc}
use native.Mathlib.Omega.{arith}
use lib.Dec.{leb}
use lib.Count.{ones, ones-ones, ones-le}
use lib.Pow.{pow_pos, pow_mono, suc_ones}
use lib.ListN.{length, take, length-append}
use borrow.Author.Tests.{leb-true, leb-false}
use Rattle.sale.specs.Lists.{sum, below, keep}
use Rattle.sale.specs.Ways.{nominated, ways, mask_sum, way_sizes}
use Rattle.sale.proofs.KeepLaws.{keep_append}
use Rattle.sale.proofs.WayLaws.{mask_sum_none, mask_sum_with}
use Rattle.sale.proofs.WalkLaws.{ones_without}

-- ---- how many numbers below another pass a test

module _ (p : ℕ → Bool) where
  abbrev count : ℕ → ℕ
  count n = length (keep p (below n))

  count_suc : (n : ℕ) → count (suc n) ≡ count n + cond (p n) 1 0
  unfolding below keep
  count_suc n = ap length (keep_append p (below n) (n ∷ [])) ∙ length-append (keep p (below n)) _ ∙ go (p n)
    where
      go : (t : Bool) → count n + length (cond t (n ∷ []) []) ≡ count n + cond t 1 0
      go true = refl
      go false = refl

  count_passed : (n : ℕ) → p n ≡ true → count (suc n) ≡ count n + 1
  count_passed n passes = count_suc n ∙ ap (λ t. count n + cond t 1 0) passes

  count_rises : (n more : ℕ) → count n ≤ count (n + more)
  count_rises n zero = let same : count (n + 0) ≡ count n = ap count (omega arith) in omega (arith, same)
  count_rises n (suc more) =
      let same : count (n + suc more) ≡ count (suc (n + more)) = ap count (omega arith) in
      omega (arith, same, count_suc (n + more), count_rises n more)

  count_mono : (n k : ℕ) → n ≤ k → count n ≤ count k
  count_mono n k h = let same : count (n + (k - n)) ≡ count k = ap count (omega arith) in omega (arith, same, count_rises n (k - n))

  two_pass : (a b n : ℕ) → a < b → b < n → p a ≡ true → p b ≡ true → 2 ≤ count n
  two_pass a b n h k first second =
      omega (arith, count_passed a first, count_passed b second, count_mono (suc a) b h, count_mono (suc b) n k)

  -- where there are some, one of them
  record Passing (n : ℕ) : Type 0 where
    number : ℕ
    small : number < n
    passes : p number ≡ true

  some_passes : (n : ℕ) → 1 ≤ count n → Passing n
  unfolding below keep
  some_passes zero h = absurd (omega arith)
  some_passes (suc n) h = go (p n) refl (λ earlier. some_passes n earlier)
    where
      go : (t : Bool) → p n ≡ t → (1 ≤ count n → Passing n) → Passing (suc n)
      go true e before = record { number = n; small = omega arith; passes = e }
      go false e before =
          let none : count (suc n) ≡ count n + 0 = count_suc n ∙ ap (λ t. count n + cond t 1 0) e in
          let found = before (omega (arith, h, none)) in
          record { number = found.number; small = omega (arith, found.small); passes = found.passes }

nothing_in : (xs : List ℕ) → length xs ≡ 0 → xs ≡ []
nothing_in [] e = refl
nothing_in (x ∷ xs) e = absurd (omega arith)

-- ---- one way

module _ (g types : ℕ) (one : length (ways g types) ≡ 1) where
  abbrev is_way : ℕ → Bool
  is_way m = nominated types (ones m)

  abbrev all : ℕ
  all = 2 ^ g - 1

  below_all : count is_way (suc all) ≡ 1
  unfolding ways
  below_all = ap (count is_way) (suc_ones g) ∙ one

  -- two masks of k groups
  first_of : (k : ℕ) → nominated types k ≡ true → is_way (2 ^ k - 1) ≡ true
  first_of k named = ap (nominated types) (ones-ones k) ∙ named

  second_of : (k : ℕ) → nominated types k ≡ true → is_way ((2 ^ k - 1) * 2) ≡ true
  second_of k named = ap (nominated types) (ones_without (2 ^ k - 1) ∙ ones-ones k) ∙ named

  fewer_groups : (k : ℕ) → 1 ≤ k → k < g → nominated types k ≡ true → ⊥
  fewer_groups k some few named =
      let least : 2 ^ 1 ≤ 2 ^ k = pow_mono some in
      let most : 2 ^ suc k ≤ 2 ^ g = pow_mono few in
      let two : 2 ≤ count is_way (suc all) =
      two_pass is_way (2 ^ k - 1) ((2 ^ k - 1) * 2) (suc all) (omega (arith, least)) (omega (arith, least, most, pow-suc 2 k, suc_ones g)) (first_of k named) (second_of k named) in
      absurd (omega (arith, two, below_all))

  some_groups_lem : (k : ℕ) → nominated types k ≡ true → 1 ≤ k
  unfolding nominated
  some_groups_lem zero named = absurd (false≢true named)
  some_groups_lem (suc k) named = omega arith

  -- so it is that of all groups
  all_named : nominated types g ≡ true
  all_named = go (some_passes is_way (suc all) (omega (arith, below_all)))
    where
      go : Passing is_way (suc all) → nominated types g ≡ true
      go found = by (leb g (ones found.number)) refl
        where
          inside : found.number < 2 ^ g
          inside = omega (arith, found.small, suc_ones g)

          by : (t : Bool) → leb g (ones found.number) ≡ t → nominated types g ≡ true
          by true e =
              let same : g ≡ ones found.number = omega (arith, leb-true g (ones found.number) e, ones-le g found.number inside) in
              ap (nominated types) same ∙ found.passes
          by false e = absurd (fewer_groups (ones found.number) (some_groups_lem (ones found.number) found.passes) (leb-false g (ones found.number) e) found.passes)

  pub one_way : ways g types ≡ all ∷ []
  unfolding ways keep below
  one_way =
      ap (λ n. keep is_way (below n)) (sym (suc_ones g))
      ∙ keep_append is_way (below all) (all ∷ [])
      ∙ ap₂ ◌++◌ (nothing_in (keep is_way (below all)) none) (ap (λ t. cond t (all ∷ []) []) (first_of g all_named))
    where
      none : length (keep is_way (below all)) ≡ 0
      none = omega (arith, count_passed is_way all (first_of g all_named), below_all)

-- ---- what it selects

all_groups : (g : ℕ) (xs : List ℕ) → mask_sum (2 ^ g - 1) xs ≡ sum (take g xs)
unfolding mask_sum sum
all_groups zero xs = mask_sum_none xs
all_groups (suc g) [] = refl
all_groups (suc g) (x ∷ xs) =
    let more : 2 ^ suc g - 1 ≡ (2 ^ g - 1) * 2 + 1 = omega (arith, pow-suc 2 g, pow_pos g) in
    ap (λ m. mask_sum m (x ∷ xs)) more ∙ mask_sum_with (2 ^ g - 1) 0 (x ∷ xs)
    ∙ omega (arith, all_groups g xs)

pub one_way_size : (g types : ℕ) (sizes : List ℕ) → length (ways g types) ≡ 1 → way_sizes g types sizes ≡ sum (take g sizes) ∷ []
unfolding way_sizes
one_way_size g types sizes one =
    ap (map (λ m. mask_sum m sizes)) (one_way g types one) ∙ ap (λ n. n ∷ []) (all_groups g sizes)
