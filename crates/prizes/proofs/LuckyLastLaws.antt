-- Laws of Lucky Last: the last of twenty balls, a ticket's numbers from the sizes of its groups, mark by mark, and the most that the feature pays.
use mathlib.Core.Path.{◌≡◌, refl, sym, ap, ◌∙◌}
use mathlib.Core.Bool.{Bool, true, false, cond, not, ◌&&◌, false≢true}
use mathlib.Core.List.{List, [], ◌∷◌}
use Prim.Native.Nat.{ℕ, zero, suc, ◌+◌, ◌*◌, ◌/◌, ◌≤◌}
use native.Mathlib.Nat.{mul-zero, mul-le-mul_right}
use native.Mathlib.Omega.{arith}
use lib.Dec.{leb, eqb}
use lib.ListN.{length, get_or}
use borrow.Author.Tests.{leb-true}
use Rattle.sale.specs.Lists.{sum, keep, every}
use Rattle.sale.specs.Ways.{size_of, by_group, sizes, size_word}
use Rattle.prizes.specs.Hits.{last_of}
use Rattle.prizes.specs.LuckyLast.{lucky_last_row, lucky_last_cents, numbers_marked, hits_last, lucky_last_prize}
use Rattle.prizes.specs.Bounds.{KeptSizes, feature_limit}
use Rattle.prizes.specs.Found.{word_bytes}
use Rattle.prizes.specs.declared.draw.Draw.{Draw}
use Rattle.sale.proofs.MarkLaws.{length_by_group, figure_le}
use Rattle.prizes.proofs.HitLaws.{word_bytes_lem}

-- ---- the last ball

pub last_at : (balls : List ℕ) (n : ℕ) → length balls ≡ n + 1 → get_or balls n 0 ≡ last_of balls
unfolding last_of
last_at [] n long = absurd (omega arith)
last_at (b ∷ []) zero long = refl
last_at (b ∷ []) (suc n) long = absurd (omega arith)
last_at (b ∷ c ∷ balls) zero long = absurd (omega arith)
last_at (b ∷ c ∷ balls) (suc n) long = last_at (c ∷ balls) n (omega arith)

-- ---- the numbers of a ticket

-- one mark more
counted : (m k : ℕ) (marks : List ℕ) → size_of (m ∷ marks) k ≡ cond (eqb k m) 1 0 + size_of marks k
unfolding size_of keep
counted m k marks = go (eqb k m) (keep (eqb k) marks)
  where
    go : (same : Bool) (kept : List ℕ) → length (cond same (m ∷ kept) kept) ≡ cond same 1 0 + length kept
    go true kept = omega arith
    go false kept = omega arith

marked_more : (m : ℕ) (marks : List ℕ) → numbers_marked (m ∷ marks) ≡ cond (eqb m 0) 0 1 + numbers_marked marks
unfolding numbers_marked keep
marked_more m marks = go (eqb m 0) (keep (λ n. not (eqb n 0)) marks)
  where
    go : (none : Bool) (kept : List ℕ) → length (cond (not none) (m ∷ kept) kept) ≡ cond none 0 1 + length kept
    go true kept = omega arith
    go false kept = omega arith

-- it is in one of the eight groups, or in none
one_group : (m : ℕ) → m ≤ 8 → sum (by_group (λ k. cond (eqb k m) 1 0)) ≡ cond (eqb m 0) 0 1
unfolding sum by_group
one_group zero h = refl
one_group (suc zero) h = refl
one_group (suc (suc zero)) h = refl
one_group (suc (suc (suc zero))) h = refl
one_group (suc (suc (suc (suc zero)))) h = refl
one_group (suc (suc (suc (suc (suc zero))))) h = refl
one_group (suc (suc (suc (suc (suc (suc zero)))))) h = refl
one_group (suc (suc (suc (suc (suc (suc (suc zero))))))) h = refl
one_group (suc (suc (suc (suc (suc (suc (suc (suc zero)))))))) h = refl
one_group (suc (suc (suc (suc (suc (suc (suc (suc (suc m))))))))) h = absurd (omega arith)

-- so the groups' sizes together are the numbers that are marked
pub all_marked : (marks : List ℕ) → ((n : ℕ) → get_or marks n 0 ≤ 8) → sum (sizes marks) ≡ numbers_marked marks
unfolding sum by_group size_of numbers_marked keep
all_marked [] few = refl
all_marked (m ∷ marks) few =
    omega (
      arith,
      counted m 1 marks,
      counted m 2 marks,
      counted m 3 marks,
      counted m 4 marks,
      counted m 5 marks,
      counted m 6 marks,
      counted m 7 marks,
      counted m 8 marks,
      marked_more m marks,
      one_group m (few 0),
      all_marked marks (λ n. few (suc n)),
    )

-- as the word of a row tells them
pub numbers_of_word : {word : ℕ} (marks : List ℕ) → KeptSizes word marks → sum (word_bytes 8 word) ≡ numbers_marked marks
numbers_of_word marks kept =
    ap (λ w. sum (word_bytes 8 w)) kept.same
    ∙ ap sum (bytes_back (word_bytes_lem (sizes marks) (λ i. omega (arith, figure_le marks i, kept.few.few))))
    ∙ all_marked marks kept.groups.few
  where
    bytes_back : word_bytes (length (sizes marks)) (size_word (sizes marks)) ≡ sizes marks → word_bytes 8 (size_word (sizes marks)) ≡ sizes marks
    bytes_back back = ap (λ n. word_bytes n (size_word (sizes marks))) (sym (length_by_group (size_of marks))) ∙ back

-- ---- the prize

pub last_missed : (draw : Draw) (marks : List ℕ) (stake : ℕ) → hits_last draw marks ≡ false → lucky_last_prize draw marks stake ≡ 0
unfolding lucky_last_prize
last_missed draw marks stake missed = rw missed

pub last_hit : (draw : Draw) (marks : List ℕ) (stake : ℕ) → hits_last draw marks ≡ true →
    lucky_last_prize draw marks stake ≡ lucky_last_cents (numbers_marked marks) * (stake / 100)
unfolding lucky_last_prize
last_hit draw marks stake hit = rw hit

-- no stake, no prize
pub nothing_staked : (draw : Draw) (marks : List ℕ) → lucky_last_prize draw marks 0 ≡ 0
unfolding lucky_last_prize
nothing_staked draw marks = go (hits_last draw marks)
  where
    go : (hit : Bool) → cond hit (lucky_last_cents (numbers_marked marks) * (0 / 100)) 0 ≡ 0
    go true = mul-zero (lucky_last_cents (numbers_marked marks))
    go false = refl

-- no cell of a row is above the most of them
cell_most : (most : ℕ) (row : List ℕ) → every (λ cents. leb cents most) row ≡ true → (n : ℕ) → get_or row n 0 ≤ most
unfolding every
cell_most most [] all n = omega arith
cell_most most (cents ∷ row) all n = go (leb cents most) refl all (λ rest k. cell_most most row rest k) n
  where
    go : (t : Bool) → leb cents most ≡ t → (t && every (λ x. leb x most) row) ≡ true
        → (every (λ x. leb x most) row ≡ true → (k : ℕ) → get_or row k 0 ≤ most)
        → (k : ℕ) → get_or (cents ∷ row) k 0 ≤ most
    go true here rest later zero = leb-true cents most here
    go true here rest later (suc k) = later rest k
    go false here rest later k = absurd (false≢true rest)

pub cents_most : (numbers : ℕ) → lucky_last_cents numbers ≤ 6000
unfolding lucky_last_cents lucky_last_row every
cents_most numbers = cell_most 6000 (0 ∷ lucky_last_row) refl numbers

-- 60 dollars for each dollar at the most
pub feature_within : (draw : Draw) (marks : List ℕ) (stake : ℕ) → lucky_last_prize draw marks stake ≤ feature_limit stake
unfolding lucky_last_prize
feature_within draw marks stake = go (hits_last draw marks)
  where
    go : (hit : Bool) → cond hit (lucky_last_cents (numbers_marked marks) * (stake / 100)) 0 ≤ feature_limit stake
    go true =
        let most : lucky_last_cents (numbers_marked marks) * (stake / 100) ≤ 6000 * (stake / 100) =
        mul-le-mul_right (stake / 100) (cents_most (numbers_marked marks)) in
        omega (arith, most)
    go false = omega arith
