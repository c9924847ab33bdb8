-- Laws on the one look that a sale takes at its ways: ways noted one after the other make the survey of them, and a test of every way's size is one of
-- the smallest and of the largest.
use Prim.Native.Nat.{ℕ, ◌+◌, ◌≤◌, ◌<◌, min, max}
use mathlib.Core.Path.{◌≡◌, refl, sym, ap, ap₂, ◌∙◌}
use mathlib.Core.Bool.{Bool, true, false, ◌&&◌}
use mathlib.Core.List.{List, [], ◌∷◌, ◌++◌}
use native.Mathlib.Nat.{add-zero, zero-add}
use native.Mathlib.Omega.{arith}
use lib.Dec.{leb}
use lib.ListN.{length, get_or, take, set, length-map}
use lib.Seq.{take_all}
use Rattle.std.proofs.lemmas.List.{take_more, take_more_set}
use borrow.Author.Tests.{le-leb, lt-leb, leb-true, leb-false}
use Rattle.sale.specs.Lists.{every}
use Rattle.sale.specs.Kinds.{within}
use Rattle.sale.specs.Ways.{ways, mask_sum, way_sizes}
use Rattle.sale.specs.Noting.{AllNoted}
use Rattle.sale.specs.Passes.{noted, survey_from, survey_of, Unfilled, Notes}
use Rattle.sale.specs.declared.survey.Survey.{Survey}
use Rattle.sale.proofs.WayLaws.{ways_few}

-- ---- the table of the sizes, filled place by place

pub sizes_more : (sizes items : List ℕ) (k : ℕ) → length sizes ≡ 8 → length items ≡ 8 → k < 8 → take k items ≡ take k sizes
    → take (k + 1) (set items k (get_or sizes k 0)) ≡ take (k + 1) sizes
sizes_more sizes items k all long inside before =
    take_more_set items k (get_or sizes k 0) (omega arith)
    ∙ ap (λ (l : List ℕ). l ++ (get_or sizes k 0 ∷ [])) before
    ∙ sym (take_more sizes k 0 (omega arith))

pub sizes_all : (sizes items : List ℕ) (k : ℕ) → length sizes ≡ 8 → length items ≡ 8 → 8 ≤ k → take k items ≡ take k sizes → items ≡ sizes
sizes_all sizes items k all long past same = sym (take_all k items (omega arith)) ∙ same ∙ take_all k sizes (omega arith)

-- ---- the ways of a walk, noted one after the other

pub survey_noted : (xs : List ℕ) (s t : Survey) → AllNoted Notes xs s t → t ≡ survey_from s xs
unfolding AllNoted survey_from
survey_noted [] s t e = e
survey_noted (x ∷ xs) s t (next, e, others) = survey_noted xs next t others ∙ ap (λ r. survey_from r xs) e

survey_count : (s : Survey) (xs : List ℕ) → (survey_from s xs).count ≡ s.count + length xs
unfolding survey_from
survey_count s [] = sym (add-zero s.count)
survey_count s (x ∷ xs) = omega (arith, survey_count (noted s x) xs)

-- ---- over all groups

pub surveyed_count : (g types : ℕ) (sizes : List ℕ) → (survey_of (way_sizes g types sizes)).count ≡ length (ways g types)
unfolding way_sizes
surveyed_count g types sizes =
    let xs = way_sizes g types sizes in
    survey_count (record { count = 0; least = 255; most = 0 }) xs ∙ zero-add (length xs) ∙ length-map (ways g types) (λ m. mask_sum m sizes)

-- the survey that the walk starts with has room for them
pub start_unfilled : {g : ℕ} → g ≤ 8 → (types : ℕ) → Unfilled (record { count = 0; least = 255; most = 0 }) (length (ways g types))
start_unfilled few types = record { room = omega (arith, ways_few types few) }

-- ---- tests of every size

and_true : (a : Bool) → a && true ≡ a
and_true true = refl
and_true false = refl

and_assoc : (a b c : Bool) → (a && b) && c ≡ a && (b && c)
and_assoc true b c = refl
and_assoc false b c = refl

leb_min : (lo a b : ℕ) → leb lo (min a b) ≡ leb lo a && leb lo b
leb_min lo a b = go (leb lo a) refl (leb lo b) refl
  where
    go : (s : Bool) → leb lo a ≡ s → (t : Bool) → leb lo b ≡ t → leb lo (min a b) ≡ s && t
    go true e true d = le-leb lo (min a b) (omega (arith, leb-true lo a e, leb-true lo b d))
    go true e false d = lt-leb lo (min a b) (omega (arith, leb-false lo b d))
    go false e t d = lt-leb lo (min a b) (omega (arith, leb-false lo a e))

max_leb : (hi a b : ℕ) → leb (max a b) hi ≡ leb a hi && leb b hi
max_leb hi a b = go (leb a hi) refl (leb b hi) refl
  where
    go : (s : Bool) → leb a hi ≡ s → (t : Bool) → leb b hi ≡ t → leb (max a b) hi ≡ s && t
    go true e true d = le-leb (max a b) hi (omega (arith, leb-true a hi e, leb-true b hi d))
    go true e false d = lt-leb (max a b) hi (omega (arith, leb-false b hi d))
    go false e t d = lt-leb (max a b) hi (omega (arith, leb-false a hi e))

module _ (lo hi : ℕ) where
  -- the test of what was taken in so far
  abbrev passes : Survey → Bool
  passes s = leb lo s.least && leb s.most hi

  passes_noted : (s : Survey) (x : ℕ) → passes (noted s x) ≡ passes s && (leb lo x && leb x hi)
  passes_noted s x =
      ap₂ ◌&&◌ (leb_min lo s.least x) (max_leb hi s.most x) ∙ go (leb lo s.least) (leb lo x) (leb s.most hi) (leb x hi)
    where
      go : (a b c d : Bool) → (a && b) && (c && d) ≡ (a && c) && (b && d)
      go false b c d = refl
      go true true true d = refl
      go true true false d = refl
      go true false true d = refl
      go true false false d = refl

  survey_passes : (s : Survey) (xs : List ℕ) → passes (survey_from s xs) ≡ passes s && within lo hi xs
  unfolding survey_from within every
  survey_passes s [] = sym (and_true (passes s))
  survey_passes s (x ∷ xs) =
      survey_passes (noted s x) xs ∙ ap (λ b. b && within lo hi xs) (passes_noted s x)
      ∙ and_assoc (passes s) (leb lo x && leb x hi) (within lo hi xs)

-- of every list, where the first number is a byte
pub within_survey : (lo hi : ℕ) → lo ≤ 255 → (xs : List ℕ) → within lo hi xs ≡ leb lo (survey_of xs).least && leb (survey_of xs).most hi
within_survey lo hi byte xs =
    ap (λ b. b && within lo hi xs) (sym (ap₂ ◌&&◌ (le-leb lo 255 byte) (le-leb 0 hi (omega arith))))
    ∙ sym (survey_passes lo hi (record { count = 0; least = 255; most = 0 }) xs)
