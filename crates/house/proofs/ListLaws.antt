-- Laws of lists: what is kept of what was kept before, and what holds of every element.
use mathlib.Core.Path.{◌≡◌, refl, ap}
use mathlib.Core.Bool.{Bool, true, false, cond, not}
use mathlib.Core.List.{List, [], ◌∷◌, ◌++◌, map}
use Rattle.sale.specs.Lists.{keep}
use Rattle.house.proofs.Ledger.{All}
pub use Rattle.sale.proofs.KeepLaws.{keep_append}

-- either way of a choice
pub cond_either : {A : Type 0} {x y : A} (P : A → Type 0) (b : Bool) → P x → P y → P (cond b x y)
cond_either P true p q = p
cond_either P false p q = q

module _ {A : Type 0} where
  pub keep_snoc : (f : A → Bool) (xs : List A) (x : A) → f x ≡ true → keep f (xs ++ (x ∷ [])) ≡ keep f xs ++ (x ∷ [])
  unfolding keep
  keep_snoc f xs x e = rw (keep_append f xs (x ∷ []), e)

  pub All-append : (P : A → Type 0) (xs ys : List A) → All P xs → All P ys → All P (xs ++ ys)
  All-append P [] ys p q = q
  All-append P (x ∷ xs) ys p q = (p.0, All-append P xs ys p.1 q)

  pub All-map :
      {B : Type 0} (P : A → Type 0) (Q : B → Type 0) (f : A → B)
      → ((x : A) → P x → Q (f x))
      → (xs : List A)
      → All P xs
      → All Q (map f xs)
  All-map P Q f h [] p = tt
  All-map P Q f h (x ∷ xs) p = (h x p.0, All-map P Q f h xs p.1)

  pub map_self : (xs : List A) → map (λ x. x) xs ≡ xs
  map_self [] = refl
  map_self (x ∷ xs) = ap (◌∷◌ x) (map_self xs)

  -- a change that some value does not see
  pub map_unseen : {B : Type 0} (g : A → B) (f : A → A) → ((x : A) → g (f x) ≡ g x) → (xs : List A) → map g (map f xs) ≡ map g xs
  map_unseen g f h [] = refl
  map_unseen g f h (x ∷ xs) = rw (h x) (ap (◌∷◌ (g x)) (map_unseen g f h xs))

  -- what was dropped before a change would be dropped after it
  pub keep_map_keep :
      {B : Type 0} (f : A → Bool) (g : B → Bool) (h : A → B)
      → ((x : A) → f x ≡ false → g (h x) ≡ false)
      → (xs : List A)
      → keep g (map h (keep f xs)) ≡ keep g (map h xs)
  unfolding keep
  keep_map_keep f g h stays [] = refl
  keep_map_keep f g h stays (x ∷ xs) = go (f x) refl (keep_map_keep f g h stays xs)
    where
      go :
          (b : Bool)
          → f x ≡ b
          → keep g (map h (keep f xs)) ≡ keep g (map h xs)
          → keep g (map h (cond b (x ∷ keep f xs) (keep f xs))) ≡ keep g (map h (x ∷ xs))
      go true e rest = rw rest
      go false e rest = rw (stays x e) rest

  -- what is kept of those that include all of it
  pub keep_within :
      (f g : A → Bool)
      → ((x : A) → f x ≡ false → g x ≡ false)
      → (xs : List A)
      → keep g (keep f xs) ≡ keep g xs
  keep_within f g stays xs = rw (map_self (keep f xs), map_self xs) at (keep_map_keep f g (λ x. x) stays xs)

  -- where the elements of a test change into what is dropped, the others are kept
  pub keep_changed :
      (p test : A → Bool) (f : A → A)
      → ((x : A) → test x ≡ true → p (f x) ≡ false)
      → (xs : List A)
      → All (λ x. p x ≡ true) xs
      → keep p (map (λ x. cond (test x) (f x) x) xs) ≡ keep (λ x. not (test x)) xs
  unfolding keep
  keep_changed p test f drops [] all = refl
  keep_changed p test f drops (x ∷ xs) (here, all) = go (test x) refl (keep_changed p test f drops xs all)
    where
      rest : List A
      rest = keep p (map (λ x. cond (test x) (f x) x) xs)

      go :
          (b : Bool)
          → test x ≡ b
          → rest ≡ keep (λ x. not (test x)) xs
          → cond (p (cond b (f x) x)) (cond b (f x) x ∷ rest) rest ≡ cond (not b) (x ∷ keep (λ x. not (test x)) xs) (keep (λ x. not (test x)) xs)
      go true e same = rw (drops x e) same
      go false e same = rw here (ap (λ ys. x ∷ ys) same)
