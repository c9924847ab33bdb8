-- Laws of `keep` and `sum`, by induction on the list: of tests that agree on its members, of a test that lets more through, and of the two
-- parts that a test splits a sum into.
use mathlib.Core.Path.{◌≡◌, refl, sym, ap, ◌∙◌}
use mathlib.Core.Bool.{Bool, true, false, cond, not, ◌&&◌, false≢true}
use mathlib.Core.List.{List, [], ◌∷◌, ◌++◌, map, Memᴰ}
use Prim.Native.Nat.{ℕ, suc, ◌+◌, ◌*◌, ◌≤◌, ◌<◌}
use native.Mathlib.Nat.{le_refl, suc-mul, zero-mul}
use native.Mathlib.Omega.{arith}
use lib.Dec.{ltb, leb}
use lib.ListN.{length}
use borrow.Author.Tests.{lt-ltb, ltb-true, ltb-false, le-leb, lt-leb}
use Rattle.sale.specs.Lists.{sum, keep}

pub and_right : (a b : Bool) → a && b ≡ true → b ≡ true
and_right true b e = e
and_right false b e = absurd (false≢true e)

-- two comparisons that hold together are the same test
pub ltb_same : (a b x y : ℕ) → (a < b → x < y) → (x < y → a < b) → ltb a b ≡ ltb x y
ltb_same a b x y there back = go (ltb a b) refl (ltb x y) refl
  where
    go : (s : Bool) → ltb a b ≡ s → (t : Bool) → ltb x y ≡ t → ltb a b ≡ ltb x y
    go true e true d = e ∙ sym d
    go true e false d = absurd (false≢true (sym d ∙ lt-ltb x y (there (ltb-true a b e))))
    go false e true d = absurd (false≢true (sym e ∙ lt-ltb a b (back (ltb-true x y d))))
    go false e false d = e ∙ sym d

pub leb_not_ltb : (a b : ℕ) → leb b a ≡ not (ltb a b)
leb_not_ltb a b = go (ltb a b) refl
  where
    go : (t : Bool) → ltb a b ≡ t → leb b a ≡ not (ltb a b)
    go true e = lt-leb b a (ltb-true a b e) ∙ ap not (sym e)
    go false e = le-leb b a (ltb-false a b e) ∙ ap not (sym e)

module _ {A : Type 0} where
  -- two tests agree on the members of a list
  abbrev pub Agree : List A → (A → Bool) → (A → Bool) → Type 0
  Agree xs f g = (x : A) → Memᴰ x xs → f x ≡ g x

  -- on the members of a list, what passes the first test passes the second
  abbrev pub Within : List A → (A → Bool) → (A → Bool) → Type 0
  Within xs f g = (x : A) → Memᴰ x xs → f x ≡ true → g x ≡ true

  pub keep_agree : (f g : A → Bool) (xs : List A) → Agree xs f g → keep f xs ≡ keep g xs
  unfolding keep
  keep_agree f g [] same = refl
  keep_agree f g (x ∷ xs) same = cc (same x (Memᴰ.head refl), keep_agree f g xs (λ y m. same y (Memᴰ.tail m)))

  pub length_keep_le : (f : A → Bool) (xs : List A) → length (keep f xs) ≤ length xs
  unfolding keep
  length_keep_le f [] = le_refl 0
  length_keep_le f (x ∷ xs) = go (f x) (keep f xs) (length_keep_le f xs)
    where
      go : (t : Bool) (l : List A) → length l ≤ length xs → length (cond t (x ∷ l) l) ≤ suc (length xs)
      go true l h = omega arith
      go false l h = omega arith

  pub keep_append : (f : A → Bool) (xs ys : List A) → keep f (xs ++ ys) ≡ keep f xs ++ keep f ys
  unfolding keep
  keep_append f [] ys = refl
  keep_append f (x ∷ xs) ys = rw (keep_append f xs ys) (go (f x))
    where
      go : (b : Bool) → cond b (x ∷ (keep f xs ++ keep f ys)) (keep f xs ++ keep f ys) ≡ cond b (x ∷ keep f xs) (keep f xs) ++ keep f ys
      go true = refl
      go false = refl

  -- the step of the two laws below
  wider : (s t : Bool) (x : A) (l m : List A) → (s ≡ true → t ≡ true) → length l ≤ length m →
      length (cond s (x ∷ l) l) ≤ length (cond t (x ∷ m) m)
  wider true true x l m h k = omega arith
  wider true false x l m h k = absurd (false≢true (h refl))
  wider false true x l m h k = omega arith
  wider false false x l m h k = k

  tight : (s t : Bool) (x : A) (l m : List A) → (s ≡ true → t ≡ true) → length l ≤ length m →
      length (cond t (x ∷ m) m) ≤ length (cond s (x ∷ l) l) → (t ≡ s) × (length m ≤ length l)
  tight true true x l m h k e = (refl, omega arith)
  tight true false x l m h k e = absurd (false≢true (h refl))
  tight false true x l m h k e = absurd (omega arith)
  tight false false x l m h k e = (refl, e)

  -- a test that lets more through keeps at least as many
  pub keep_wider : (f g : A → Bool) (xs : List A) → Within xs f g → length (keep f xs) ≤ length (keep g xs)
  unfolding keep
  keep_wider f g [] sub = le_refl 0
  keep_wider f g (x ∷ xs) sub =
      wider (f x) (g x) x (keep f xs) (keep g xs) (sub x (Memᴰ.head refl)) (keep_wider f g xs (λ y m. sub y (Memᴰ.tail m)))

  -- and if it keeps no more, then the two tests agree
  pub keep_tight : (f g : A → Bool) (xs : List A) → Within xs f g → length (keep g xs) ≤ length (keep f xs) → Agree xs g f
  unfolding keep
  keep_tight f g [] sub e = λ y m. elim m [ ]
  keep_tight f g (x ∷ xs) sub e = step (keep_tight f g xs (λ y m. sub y (Memᴰ.tail m)))
    where
      both : (g x ≡ f x) × (length (keep g xs) ≤ length (keep f xs))
      both =
          tight (f x) (g x) x (keep f xs) (keep g xs) (sub x (Memᴰ.head refl))
          (keep_wider f g xs (λ y m. sub y (Memᴰ.tail m))) e

      step : (length (keep g xs) ≤ length (keep f xs) → Agree xs g f) → Agree (x ∷ xs) g f
      step below y (Memᴰ.head q) = ap g q ∙ both.0 ∙ ap f (sym q)
      step below y (Memᴰ.tail m) = below both.1 y m

  pub keep_none : (xs : List A) → keep (λ x. false) xs ≡ []
  unfolding keep
  keep_none [] = refl
  keep_none (x ∷ xs) = keep_none xs

  pub keep_all : (xs : List A) → keep (λ x. true) xs ≡ xs
  unfolding keep
  keep_all [] = refl
  keep_all (x ∷ xs) = ap (λ (l : List A). x ∷ l) (keep_all xs)

-- a test splits a sum in two
pub sum_keep_split : (f : ℕ → Bool) (xs : List ℕ) → sum (keep f xs) + sum (keep (λ x. not (f x)) xs) ≡ sum xs
unfolding keep sum
sum_keep_split f [] = refl
sum_keep_split f (x ∷ xs) = go (f x) (keep f xs) (keep (λ y. not (f y)) xs) (sum_keep_split f xs)
  where
    go : (t : Bool) (l m : List ℕ) → sum l + sum m ≡ sum xs → sum (cond t (x ∷ l) l) + sum (cond (not t) (x ∷ m) m) ≡ x + sum xs
    go true l m e = omega arith
    go false l m e = omega arith

-- a number that is kept is at most the sum of those that are kept
pub kept_le_sum : (f : ℕ → Bool) (xs : List ℕ) (p : ℕ) → Memᴰ p xs → f p ≡ true → p ≤ sum (keep f xs)
unfolding keep sum
kept_le_sum f [] p m h = elim m [ ]
kept_le_sum f (x ∷ xs) p (Memᴰ.head q) h = rw (ap f (sym q) ∙ h) (omega arith)
kept_le_sum f (x ∷ xs) p (Memᴰ.tail m) h = go (f x) (keep f xs) (kept_le_sum f xs p m h)
  where
    go : (t : Bool) (l : List ℕ) → p ≤ sum l → p ≤ sum (cond t (x ∷ l) l)
    go true l e = omega arith
    go false l e = e

pub member_le_sum : (xs : List ℕ) (p : ℕ) → Memᴰ p xs → p ≤ sum xs
member_le_sum xs p m = rw keep_all at (kept_le_sum (λ x. true) xs p m refl)

-- a sum of values, each within a bound
pub sum_within : {A : Type 0} (f : A → ℕ) (most : ℕ) (xs : List A) →
    ((x : A) → Memᴰ x xs → f x ≤ most) → sum (map f xs) ≤ length xs * most
unfolding sum
sum_within f most [] each = omega (arith, zero-mul most)
sum_within f most (x ∷ xs) each =
    omega (
      arith,
      each x (Memᴰ.head refl),
      sum_within f most xs (λ y m. each y (Memᴰ.tail m)),
      suc-mul (length xs) most,
    )
