-- Laws of lists in general that the rows lean on: a run of stores read back, a list without an element, the chunks of a list, a block moved down
-- within a list, and a list built by index.
use Prim.Native.Nat.{ℕ, zero, suc, ◌+◌, ◌-◌, ◌*◌, ◌≤◌, ◌<◌}
use mathlib.Core.Path.{◌≡◌, refl, sym, ap, ◌∙◌, subst}
use mathlib.Core.Logic.{◌⊎◌, inl, inr, ⊎_elim}
use mathlib.Core.Bool.{Bool, true, false}
use mathlib.Core.List.{List, [], ◌∷◌, ◌++◌, map}
use native.Mathlib.Nat.{zero-mul, add-suc, suc-add, add-zero, not-suc-le-zero, le_of_suc-le-suc, eq-or-lt_of_le}
use native.Mathlib.Numerals.{add-one}
use native.Mathlib.Omega.{arith}
use lib.Dec.{eqb, ltb}
use borrow.Author.Tests.{eqb-true, eqb-false, ltb-true, ltb-false}
use lib.ListN.{length, get_or, set, take, drop, length-set, length-append, length-map, length-drop, get_or-append}
use lib.Seq.{sets, get_or-set_same, get_or-set_other, get_or-take, get_or-drop, take-suc, drop-drop, get_or-append_seam, drop_at, length-take-le}
use borrow.Rule.Slice.PartMut.{mid_of, post_of, put_mid}
use Rattle.std.specs.List.{CopiedTo, SameBelow, SameFrom}
use Rattle.std.proofs.lemmas.List.{get_or-append-add}
use Rattle.std.specs.Simd.{first_chunks}
use Rattle.sale.specs.Lists.{below}
use Rattle.house.specs.View.{without}

module _ {A : Type 0} where
  -- an index outside the run holds what it held
  pub get_or_sets_before : (vs l : List A) (i j : ℕ) (d : A) → j < i → get_or (sets l i vs) j d ≡ get_or l j d
  get_or_sets_before [] l i j d h = refl
  get_or_sets_before (v ∷ vs) l i j d h =
      get_or_sets_before vs (set l i v) (suc i) j d (omega arith) ∙ get_or-set_other l i j v d (λ e. omega arith)

  pub get_or_sets_after : (vs l : List A) (i j : ℕ) (d : A) → i + length vs ≤ j → get_or (sets l i vs) j d ≡ get_or l j d
  get_or_sets_after [] l i j d h = refl
  get_or_sets_after (v ∷ vs) l i j d h =
      get_or_sets_after vs (set l i v) (suc i) j d (omega arith) ∙ get_or-set_other l i j v d (λ e. omega arith)

  -- and one inside it what was stored
  pub get_or_sets_at : (vs l : List A) (i k : ℕ) (d : A) → i + length vs ≤ length l → k < length vs
      → get_or (sets l i vs) (i + k) d ≡ get_or vs k d
  get_or_sets_at [] l i k d h b = absurd (omega arith)
  get_or_sets_at (v ∷ vs) l i zero d h b =
      ap (λ n. get_or (sets (set l i v) (suc i) vs) n d) (add-zero i)
      ∙ get_or_sets_before vs (set l i v) (suc i) i d (omega arith)
      ∙ get_or-set_same l i v d (omega arith)
  get_or_sets_at (v ∷ vs) l i (suc k) d h b =
      ap (λ n. get_or (sets (set l i v) (suc i) vs) n d) (add-suc i k ∙ sym (suc-add i k))
      ∙ get_or_sets_at vs (set l i v) (suc i) k d (simp length-set (omega arith)) (omega arith)

  sets_snoc : (vs l : List A) (i : ℕ) (v : A) → sets l i (vs ++ (v ∷ [])) ≡ set (sets l i vs) (i + length vs) v
  sets_snoc [] l i v = ap (λ n. set l n v) (sym (add-zero i))
  sets_snoc (u ∷ vs) l i v =
      sets_snoc vs (set l i u) (suc i) v
      ∙ ap (λ n. set (sets (set l i u) (suc i) vs) n v) (suc-add i (length vs) ∙ sym (add-suc i (length vs)))

  -- one store more of a run
  pub sets_more : (s l : List A) (i k : ℕ) (d : A) → k < length s
      → set (sets l i (take k s)) (i + k) (get_or s k d) ≡ sets l i (take (k + 1) s)
  sets_more s l i k d h =
      ap (λ n. set (sets l i (take k s)) (i + n) (get_or s k d)) (sym (length-take-le k s (omega arith)))
      ∙ sym (sets_snoc (take k s) l i (get_or s k d))
      ∙ ap (sets l i) (sym (take-suc s k d h))
      ∙ ap (λ n. sets l i (take n s)) (sym (add-one k))

  -- a list cut at a place, read before and behind it
  get_or_before : (l rest : List A) (at j : ℕ) (d : A) → at ≤ length l → j < at → get_or (take at l ++ rest) j d ≡ get_or l j d
  get_or_before l rest at j d h b =
      get_or-append (take at l) rest d j (omega (arith, length-take-le at l h)) ∙ get_or-take at l j d b

  get_or_behind : (l rest : List A) (at k : ℕ) (d : A) → at ≤ length l → get_or (take at l ++ rest) (at + k) d ≡ get_or rest k d
  get_or_behind l rest at k d h =
      sym (get_or-drop at (take at l ++ rest) k d) ∙ ap (λ r. get_or r k d) (drop_at (take at l) rest at (length-take-le at l h))

  -- a list without an element
  module _ (i : ℕ) (l : List A) (h : i < length l) where
    pub length_without : length (without i l) ≡ length l - 1
    unfolding without
    length_without =
        length-append (take i l) (drop (suc i) l)
        ∙ omega (arith, length-take-le i l (omega arith), length-drop (suc i) l)

    pub without_before : (j : ℕ) (d : A) → j < i → get_or (without i l) j d ≡ get_or l j d
    unfolding without
    without_before j d b = get_or_before l (drop (suc i) l) i j d (omega arith) b

    pub without_behind : (j : ℕ) (d : A) → i ≤ j → get_or (without i l) j d ≡ get_or l (suc j) d
    unfolding without
    without_behind j d b =
        let place : j ≡ i + (j - i) = omega arith in
        let next : suc i + (j - i) ≡ suc j = omega arith in
        ap (λ n. get_or (without i l) n d) place
        ∙ get_or_behind l (drop (suc i) l) i (j - i) d (omega arith)
        ∙ get_or-drop (suc i) l (j - i) d
        ∙ ap (λ n. get_or l n d) next

  -- the chunks of n elements: each is what stands from its place on
  pub length_chunks : (n k : ℕ) (l : List A) → length (first_chunks n k l) ≡ k
  length_chunks n zero l = refl
  length_chunks n (suc k) l = ap suc (length_chunks n k (drop n l))

  pub chunk_at : (n k i : ℕ) (l d : List A) → i < k → get_or (first_chunks n k l) i d ≡ take n (drop (i * n) l)
  chunk_at n zero i l d h = absurd (not-suc-le-zero h)
  chunk_at n (suc k) zero l d h = ap (λ m. take n (drop m l)) (sym (zero-mul n))
  chunk_at n (suc k) (suc i) l d h =
      let next : n + i * n ≡ suc i * n = omega arith in
      chunk_at n k i (drop n l) d (le_of_suc-le-suc h) ∙ ap (take n) (drop-drop (i * n) n l) ∙ ap (λ m. take n (drop m l)) next

equal_by : (j i : ℕ) (test : Bool) → eqb j i ≡ test → (j ≡ i) ⊎ (j ≡ i → ⊥)
equal_by j i true e = inl (eqb-true j i e)
equal_by j i false e = inr (eqb-false j i e)

pub equal_or_not : (j i : ℕ) → (j ≡ i) ⊎ (j ≡ i → ⊥)
equal_or_not j i = equal_by j i (eqb j i) refl

earlier_by : (j i : ℕ) (test : Bool) → ltb j i ≡ test → (j < i) ⊎ (i ≤ j)
earlier_by j i true e = inl (ltb-true j i e)
earlier_by j i false e = inr (ltb-false j i e)

pub earlier_or_not : (j i : ℕ) → (j < i) ⊎ (i ≤ j)
earlier_or_not j i = earlier_by j i (ltb j i) refl

-- what stood up to an end has moved down by w, to a place: below the place nothing has changed, nor behind the part where it now stands
pub record ClosedUp (w place end : ℕ) (l l' : List ℕ) : Type 0 where
  pub long : length l' ≡ length l
  pub before : (k : ℕ) → k < place → get_or l' k 0 ≡ get_or l k 0
  pub moved : (k : ℕ) → place ≤ k → k + w < end → get_or l' k 0 ≡ get_or l (k + w) 0
  pub behind : (k : ℕ) → place ≤ k → end ≤ k + w → get_or l' k 0 ≡ get_or l k 0

-- after `l[place..end].copy_within(w.., 0)`
pub closes_up : (w place end : ℕ) (l part : List ℕ) → place + w ≤ end → end ≤ length l → length part ≡ length (mid_of place (end - place) l)
    → CopiedTo (mid_of place (end - place) l) part w 0 (length (mid_of place (end - place) l) - w)
    × SameBelow (mid_of place (end - place) l) part 0 × SameFrom (mid_of place (end - place) l) part (0 + (length (mid_of place (end - place) l) - w))
    → ClosedUp w place end l (put_mid place (end - place) l part)
closes_up w place end l part h h' same (copied, none, kept) =
    let mid : List ℕ = mid_of place (end - place) l in
    let post : List ℕ = post_of place (end - place) l in
    let rest : length (drop place l) ≡ length l - place = length-drop place l in
    let cut : length (mid_of place (end - place) l) ≡ end - place = length-take-le (end - place) (drop place l) (omega arith) in
    let left : length (post_of place (end - place) l) ≡ length (drop place l) - (end - place) = length-drop (end - place) (drop place l) in
    -- an index from the place on, in the part that was lent and in the list as it was
    let lent : (k : ℕ) → place ≤ k → k < end → get_or (put_mid place (end - place) l part) k 0 ≡ get_or part (k - place) 0 =
    λ k b c.
    let here : k ≡ place + (k - place) = omega arith in
    ap (λ j. get_or (put_mid place (end - place) l part) j 0) here
    ∙ get_or_behind l (part ++ post) place (k - place) 0 (omega arith)
    ∙ get_or-append part post 0 (k - place) (omega arith) in
    let held : (j : ℕ) → j < end - place → get_or mid j 0 ≡ get_or l (place + j) 0 =
    λ j b. get_or-take (end - place) (drop place l) j 0 b ∙ get_or-drop place l j 0 in
    record {
      long =
          length-append (take place l) (part ++ post)
          ∙ omega (arith, length-append part (post_of place (end - place) l), length-take-le place l (omega arith));
      before = λ k b. get_or_before l (part ++ post) place k 0 (omega arith) b;
      moved = λ k b c.
          let source : w + (k - place - 0) ≡ w + (k - place) = omega arith in
          let there : place + (w + (k - place)) ≡ k + w = omega arith in
          lent k b (omega arith)
          ∙ copied (k - place) 0 (omega arith) (omega arith)
          ∙ ap (λ j. get_or mid j 0) source
          ∙ held (w + (k - place)) (omega arith)
          ∙ ap (λ j. get_or l j 0) there;
      behind = λ k b c.
          let here : place + (k - place) ≡ k = omega arith in
          ⊎_elim
          (λ inside. lent k b inside ∙ kept (k - place) 0 (omega arith) ∙ held (k - place) (omega arith) ∙ ap (λ j. get_or l j 0) here)
          (λ outside.
          let apart : k - place ≡ length part + (k - end) = omega arith in
          let beyond : place + (end - place + (k - end)) ≡ k = omega arith in
          ap (λ j. get_or (put_mid place (end - place) l part) j 0) (sym here)
          ∙ get_or_behind l (part ++ post) place (k - place) 0 (omega arith)
          ∙ ap (λ j. get_or (part ++ post) j 0) apart
          ∙ get_or-append-add part post (k - end) 0
          ∙ get_or-drop (end - place) (drop place l) (k - end) 0
          ∙ get_or-drop place l (end - place + (k - end)) 0
          ∙ ap (λ j. get_or l j 0) beyond)
          (earlier_or_not k end);
    }

length_below : (n : ℕ) → length (below n) ≡ n
unfolding below
length_below zero = refl
length_below (suc n) = length-append (below n) (n ∷ []) ∙ omega (arith, length_below n)

get_or_below : (n i : ℕ) → i < n → get_or (below n) i 0 ≡ i
unfolding below
get_or_below zero i h = absurd (omega arith)
get_or_below (suc n) i h =
    let e : length (below n) ≡ n = length_below n in
    let last : i ≡ n → get_or (below n ++ (n ∷ [])) i 0 ≡ i =
    λ p. ap (λ k. get_or (below n ++ (n ∷ [])) k 0) (p ∙ sym e) ∙ get_or-append_seam (below n) n [] 0 ∙ sym p in
    let earlier : i < n → get_or (below n ++ (n ∷ [])) i 0 ≡ i =
    λ b. get_or-append (below n) (n ∷ []) 0 i (omega arith) ∙ get_or_below n i b in
    ⊎_elim last earlier (eq-or-lt_of_le (le_of_suc-le-suc h))

module _ {A B : Type 0} (f : A → B) where
  pub get_or_map : (l : List A) (i : ℕ) (a : A) (b : B) → i < length l → get_or (map f l) i b ≡ f (get_or l i a)
  get_or_map [] i a b h = absurd (not-suc-le-zero h)
  get_or_map (x ∷ xs) zero a b h = refl
  get_or_map (x ∷ xs) (suc i) a b h = get_or_map xs i a b (le_of_suc-le-suc h)

-- the list of f's values below n
module _ {A : Type 0} (f : ℕ → A) (n : ℕ) where
  pub length_table : length (map f (below n)) ≡ n
  length_table = length-map (below n) f ∙ length_below n

  pub get_or_table : (i : ℕ) (d : A) → i < n → get_or (map f (below n)) i d ≡ f i
  get_or_table i d h =
      get_or_map f (below n) i 0 d (subst (λ k. i < k) (sym (length_below n)) h) ∙ ap f (get_or_below n i h)
