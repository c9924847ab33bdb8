-- Laws on lists that are kept in part, changed by element and summed: what a sum over some tickets is, and how a sum falls apart.
use Prim.Native.Nat.{ℕ, ◌+◌}
use mathlib.Core.Path.{◌≡◌, refl, sym, ap, ap₂, ◌∙◌}
use mathlib.Core.Bool.{Bool, true, false, cond, ◌&&◌, ◌||◌}
use mathlib.Core.List.{List, [], ◌∷◌, ◌++◌, map, map-map, map-append}
use native.Mathlib.Nat.{add-zero}
use native.Mathlib.Omega.{arith}
use Rattle.sale.specs.Lists.{sum, keep, any}
use Rattle.house.proofs.Ledger.{All}
pub use Rattle.sale.proofs.WayLaws.{keep_map}

module _ {A : Type 0} where
  pub all_of : {P : A → Type 0} → ((x : A) → P x) → (xs : List A) → All P xs
  all_of h [] = tt
  all_of h (x ∷ xs) = (h x, all_of h xs)

  pub all_from : {P Q : A → Type 0} → ((x : A) → P x → Q x) → (xs : List A) → All P xs → All Q xs
  all_from h [] each = tt
  all_from h (x ∷ xs) each = (h x each.0, all_from h xs each.1)

  pub keep_same : (p q : A → Bool) (xs : List A) → All (λ x. p x ≡ q x) xs → keep p xs ≡ keep q xs
  unfolding keep
  keep_same p q [] each = refl
  keep_same p q (x ∷ xs) each =
      let rest : keep p xs ≡ keep q xs = keep_same p q xs each.1 in
      λ i. cond (each.0 i) (x ∷ rest i) (rest i)

  pub keep_keep : (p q : A → Bool) (xs : List A) → keep p (keep q xs) ≡ keep (λ x. q x && p x) xs
  unfolding keep
  keep_keep p q [] = refl
  keep_keep p q (x ∷ xs) = go (q x) (keep_keep p q xs)
    where
      go : (t : Bool) →
          keep p (keep q xs) ≡ keep (λ y. q y && p y) xs →
          keep p (cond t (x ∷ keep q xs) (keep q xs))
          ≡ cond (t && p x) (x ∷ keep (λ y. q y && p y) xs) (keep (λ y. q y && p y) xs)
      go true rest = λ i. cond (p x) (x ∷ rest i) (rest i)
      go false rest = rest

  -- what is not kept adds nothing
  pub sum_kept : (f : A → ℕ) (p : A → Bool) → ((x : A) → p x ≡ false → f x ≡ 0) → (xs : List A) →
      sum (map f (keep p xs)) ≡ sum (map f xs)
  unfolding sum keep
  sum_kept f p none [] = refl
  sum_kept f p none (x ∷ xs) = go (p x) refl (sum_kept f p none xs)
    where
      go : (t : Bool) → p x ≡ t →
          sum (map f (keep p xs)) ≡ sum (map f xs) →
          sum (map f (cond t (x ∷ keep p xs) (keep p xs))) ≡ f x + sum (map f xs)
      go true kept rest = ap (λ n. f x + n) rest
      go false dropped rest = omega (arith, none x dropped)

  pub sum_picked : (f : A → ℕ) (p : A → Bool) (xs : List A) →
      sum (map f (keep p xs)) ≡ sum (map (λ x. cond (p x) (f x) 0) xs)
  unfolding sum keep
  sum_picked f p [] = refl
  sum_picked f p (x ∷ xs) = go (p x) (sum_picked f p xs)
    where
      go : (t : Bool) →
          sum (map f (keep p xs)) ≡ sum (map (λ y. cond (p y) (f y) 0) xs) →
          sum (map f (cond t (x ∷ keep p xs) (keep p xs))) ≡ cond t (f x) 0 + sum (map (λ y. cond (p y) (f y) 0) xs)
      go true rest = ap (λ n. f x + n) rest
      go false rest = omega arith

  -- a figure of each element that falls into two
  pub sum_parts : (f g h : A → ℕ) (xs : List A) → All (λ x. f x ≡ g x + h x) xs →
      sum (map f xs) ≡ sum (map g xs) + sum (map h xs)
  unfolding sum
  sum_parts f g h [] each = refl
  sum_parts f g h (x ∷ xs) each = omega (arith, each.0, sum_parts f g h xs each.1)

  pub all_kept_lem : (P : A → Type 0) (p : A → Bool) (xs : List A) → All P xs → All P (keep p xs)
  unfolding keep
  all_kept_lem P p [] each = tt
  all_kept_lem P p (x ∷ xs) each = go (p x) (all_kept_lem P p xs each.1)
    where
      go : (t : Bool) → All P (keep p xs) → All P (cond t (x ∷ keep p xs) (keep p xs))
      go true rest = (each.0, rest)
      go false rest = rest

  pub keep_none : (p : A → Bool) (xs : List A) → All (λ x. p x ≡ false) xs → keep p xs ≡ []
  unfolding keep
  keep_none p [] each = refl
  keep_none p (x ∷ xs) each = ap (λ t. cond t (x ∷ keep p xs) (keep p xs)) each.0 ∙ keep_none p xs each.1

  pub any_none : (p : A → Bool) (xs : List A) → All (λ x. p x ≡ false) xs → any p xs ≡ false
  unfolding any
  any_none p [] each = refl
  any_none p (x ∷ xs) each = ap (λ t. t || any p xs) each.0 ∙ any_none p xs each.1

module _ {A B : Type 0} where
  pub map_same : (f g : A → B) (xs : List A) → All (λ x. f x ≡ g x) xs → map f xs ≡ map g xs
  map_same f g [] each = refl
  map_same f g (x ∷ xs) each =
      let rest : map f xs ≡ map g xs = map_same f g xs each.1 in
      λ i. each.0 i ∷ rest i

pub sum_append : (xs ys : List ℕ) → sum (xs ++ ys) ≡ sum xs + sum ys
unfolding sum
sum_append [] ys = omega arith
sum_append (x ∷ xs) ys = omega (arith, sum_append xs ys)

pub sum_snoc : {A : Type 0} (f : A → ℕ) (xs : List A) (x : A) → sum (map f (xs ++ (x ∷ []))) ≡ sum (map f xs) + f x
unfolding sum
sum_snoc f xs x = ap sum (map-append f xs (x ∷ [])) ∙ sum_append (map f xs) (f x ∷ []) ∙ ap (λ n. sum (map f xs) + n) (add-zero (f x))

-- ---- elements that change

module _ {A : Type 0} (f : A → ℕ) (change : A → A) where
  -- a figure that the change does not touch
  pub sum_unmoved : ((x : A) → f (change x) ≡ f x) → (xs : List A) → sum (map f (map change xs)) ≡ sum (map f xs)
  sum_unmoved same xs =
      ap sum (map-map f change xs ∙ map_same (λ x. f (change x)) f xs (all_of same xs))

  -- one that falls by another figure of some of the elements
  pub sum_moved : (g : A → ℕ) (p : A → Bool) (xs : List A) →
      All (λ x. f x ≡ f (change x) + cond (p x) (g x) 0) xs →
      sum (map f xs) ≡ sum (map f (map change xs)) + sum (map g (keep p xs))
  sum_moved g p xs each =
      sum_parts f (λ x. f (change x)) (λ x. cond (p x) (g x) 0) xs each
      ∙ ap₂ ◌+◌ (ap sum (sym (map-map f change xs))) (sym (sum_picked g p xs))
