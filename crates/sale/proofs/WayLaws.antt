-- Laws on the ways of a ticket: how many there are at the most, and the figures that a walk which leaves or takes each group carries.
use Prim.Native.Nat.{ℕ, zero, suc, ◌+◌, ◌*◌, ◌-◌, ◌/◌, ◌^◌, ◌≤◌, ◌<◌}
use mathlib.Core.Path.{◌≡◌, refl, sym, ap, ◌∙◌, subst}
use mathlib.Core.Bool.{Bool, true, false, cond}
use mathlib.Core.List.{List, [], ◌∷◌, ◌++◌, map, map-append}
use native.Mathlib.Nat.{pow-suc, one-mul, zero-mul, zero-add, add-zero, add_assoc, add-mul, mul_assoc, mul_right_comm, mul-add-mod_self_right, mul-add-div_right, mul-mod_left, mul-div_cancel, zero-lt-suc, pos_of_ne-zero, lt_of_lt_of_le, sub-le}
use native.Mathlib.Omega.{arith}
use lib.ListN.{length, get_or, drop}
use lib.Count.{ones, ones_in}
use lib.Pow.{pow_pos, pow_mono, suc_ones}
use Rattle.sale.specs.Lists.{sum, below, keep}
use Rattle.sale.specs.Ways.{nominated, ways, mask_sum}
use Rattle.sale.specs.Bounds.{Place}
use Rattle.sale.specs.Noting.{Figures, Carried}

-- ---- lengths as sums, and choices

module _ {A : Type 0} where
  pub length_keep : (p : A → Bool) (xs : List A) → length (keep p xs) ≡ sum (map (λ x. cond (p x) 1 0) xs)
  unfolding sum keep
  length_keep p [] = refl
  length_keep p (x ∷ xs) = go (p x) (keep p xs) (length_keep p xs)
    where
      go : (b : Bool) (ys : List A) {n : ℕ} → length ys ≡ n → length (cond b (x ∷ ys) ys) ≡ cond b 1 0 + n
      go true ys e = omega arith
      go false ys e = omega arith

module _ {A B : Type 0} where
  pub keep_map : (p : B → Bool) (g : A → B) (xs : List A) → keep p (map g xs) ≡ map g (keep (λ x. p (g x)) xs)
  unfolding keep
  keep_map p g [] = refl
  keep_map p g (x ∷ xs) = go (p (g x)) (keep (λ y. p (g y)) xs) (keep_map p g xs)
    where
      go : (b : Bool) (ys : List A) {zs : List B} → zs ≡ map g ys → cond b (g x ∷ zs) zs ≡ map g (cond b (x ∷ ys) ys)
      go true ys e = ap (λ l. g x ∷ l) e
      go false ys e = e

-- ---- sums over masks

pub sum_append : (xs ys : List ℕ) → sum (xs ++ ys) ≡ sum xs + sum ys
unfolding sum
sum_append [] ys = sym (zero-add (sum ys))
sum_append (x ∷ xs) ys = ap (λ n. x + n) (sum_append xs ys) ∙ sym (add_assoc x (sum xs) (sum ys))

-- f summed over the numbers below n
up_to : (ℕ → ℕ) → ℕ → ℕ
up_to f n = sum (map f (below n))

up_to_suc : (f : ℕ → ℕ) (n : ℕ) → up_to f (suc n) ≡ up_to f n + f n
unfolding up_to sum below
up_to_suc f n =
    ap sum (map-append f (below n) (n ∷ [])) ∙ sum_append (map f (below n)) (f n ∷ [])
    ∙ ap (λ k. up_to f n + k) (add-zero (f n))

-- the masks that begin with m: the lower half leaves the next group, and the upper half takes it
module _ (m n : ℕ) where
  pub lower : m * 2 * 2 ^ n ≡ m * 2 ^ suc n
  lower = mul_right_comm m 2 (2 ^ n) ∙ mul_assoc m (2 ^ n) 2 ∙ ap (λ k. m * k) (sym (pow-suc 2 n))

  pub middle : (m * 2 + 1) * 2 ^ n ≡ m * 2 * 2 ^ n + 2 ^ n
  middle = add-mul (m * 2) 1 (2 ^ n) ∙ ap (λ k. m * 2 * 2 ^ n + k) (one-mul (2 ^ n))

  pub upper : m * 2 ^ suc n + 2 ^ suc n ≡ (m * 2 + 1) * 2 ^ n + 2 ^ n
  upper = omega (arith, lower, middle, pow-suc 2 n)

pub tally_le : (t : Bool) → cond t 1 0 ≤ 1
tally_le true = omega arith
tally_le false = omega arith

-- mask 0 is no way, so that there are fewer ways than masks
fewer : (f : ℕ → ℕ) → f 0 ≡ 0 → ((n : ℕ) → f n ≤ 1) → (n : ℕ) → up_to f (suc n) ≤ n
unfolding up_to sum below
fewer f none one zero = omega (arith, none)
fewer f none one (suc n) = omega (arith, up_to_suc f (suc n), fewer f none one n, one (suc n))

pub ways_lt : (g types : ℕ) → length (ways g types) < 2 ^ g
unfolding ways up_to nominated ones ones_in
ways_lt g types =
    omega (
      arith,
      length_keep (λ m. nominated types (ones m)) (below (2 ^ g)),
      fewer (λ m. cond (nominated types (ones m)) 1 0) refl (λ m. tally_le (nominated types (ones m))) (2 ^ g - 1),
      ap (up_to (λ m. cond (nominated types (ones m)) 1 0)) (suc_ones g),
      pow_pos g,
    )

pub ways_few : {g : ℕ} (types : ℕ) → g ≤ 8 → length (ways g types) ≤ 255
ways_few {g} types h = omega (arith, ways_lt g types, small)
  where
    small : 2 ^ g ≤ 2 ^ 8
    small = pow_mono {j = 8} h

-- ---- the figures that the walk carries

pub mask_sum_none : (xs : List ℕ) → mask_sum 0 xs ≡ 0
unfolding mask_sum
mask_sum_none [] = refl
mask_sum_none (x ∷ xs) = omega (arith, zero-mul x, mask_sum_none xs)

pub mask_sum_with : (m n : ℕ) (xs : List ℕ) → mask_sum (m * 2 + 1) (drop n xs) ≡ mask_sum m (drop (suc n) xs) + get_or xs n 0
unfolding mask_sum
mask_sum_with m zero [] = refl
mask_sum_with m zero (x ∷ xs) =
    ap (λ k. k * x + mask_sum ((m * 2 + 1) / 2) xs) (mul-add-mod_self_right m 2 1)
    ∙ ap (λ k. 1 * x + mask_sum k xs) (mul-add-div_right (zero-lt-suc 1) m 1 ∙ add-zero m) ∙ omega (arith, one-mul x)
mask_sum_with m (suc n) [] = refl
mask_sum_with m (suc n) (x ∷ xs) = mask_sum_with m n xs

pub mask_sum_without : (m n : ℕ) (xs : List ℕ) → mask_sum (m * 2) (drop n xs) ≡ mask_sum m (drop (suc n) xs)
unfolding mask_sum
mask_sum_without m zero [] = refl
mask_sum_without m zero (x ∷ xs) =
    ap (λ k. k * x + mask_sum (m * 2 / 2) xs) (mul-mod_left m 2)
    ∙ ap (λ k. 0 * x + mask_sum k xs) (mul-div_cancel m (zero-lt-suc 1)) ∙ omega (arith, zero-mul x)
mask_sum_without m (suc n) [] = refl
mask_sum_without m (suc n) (x ∷ xs) = mask_sum_without m n xs

-- ---- the steps of the walk, in the code's terms

pub start_place : {g : ℕ} → g ≤ 8 → Place g 0
start_place {g} h = record { groups = h; chosen = pow_pos (8 - g) }

pub start_carried : (g : ℕ) (table : List ℕ) → Carried g 0 0 table
start_carried g table = record { added = sym (mask_sum_none (drop (suc g) table)); small = omega arith }

-- where no group is left, what is carried is all that the mask takes
pub carried_all : {left m figure : ℕ} {table : List ℕ} → left ≡ 0 → Carried left m figure table → figure ≡ mask_sum m (drop 1 table)
carried_all {m = m} {table = table} none c = c.added ∙ ap (λ k. mask_sum m (drop (suc k) table)) none

pub mask_lt : {left m : ℕ} → Place left m → m < 2 ^ 8
mask_lt {left} p = lt_of_lt_of_le p.chosen (pow_mono {j = 8} (sub-le 8 left))

pub place_end : {left m : ℕ} → left ≡ 0 → Place left m → Place 0 m
place_end {m = m} none p = subst (λ k. Place k m) none p

module _ {left : ℕ} (some : left ≡ 0 → ⊥) where
  pub next : suc (left - 1) ≡ left
  next = omega (arith, pos_of_ne-zero some)

  doubled : left ≤ 8 → 2 ^ (8 - (left - 1)) ≡ 2 ^ (8 - left) * 2
  doubled h =
      let e : 8 - (left - 1) ≡ suc (8 - left) = omega (arith, pos_of_ne-zero some) in
      ap (λ k. 2 ^ k) e ∙ pow-suc 2 (8 - left)

  pub place_with : {m : ℕ} → Place left m → Place (left - 1) (m * 2 + 1)
  place_with p = record { groups = omega arith; chosen = omega (arith, doubled p.groups) }

  pub place_without : {m : ℕ} → Place left m → Place (left - 1) (m * 2)
  place_without p = record { groups = omega arith; chosen = omega (arith, doubled p.groups) }

  module _ {m figure : ℕ} {table : List ℕ} where
    pub carried_with : left ≤ 8 → Figures table → Carried left m figure table → Carried (left - 1) (m * 2 + 1) (figure + get_or table left 0) table
    carried_with few f c =
        record {
          added =
              ap (λ k. k + get_or table left 0) c.added ∙ sym (mask_sum_with m left table)
              ∙ ap (λ k. mask_sum (m * 2 + 1) (drop k table)) (sym next);
          small = omega (arith, c.small, f.small left, pos_of_ne-zero some);
        }

    pub carried_without : left ≤ 8 → Carried left m figure table → Carried (left - 1) (m * 2) figure table
    carried_without few c =
        record {
          added = c.added ∙ sym (mask_sum_without m left table) ∙ ap (λ k. mask_sum (m * 2) (drop k table)) (sym next);
          small = omega (arith, c.small, pos_of_ne-zero some);
        }
