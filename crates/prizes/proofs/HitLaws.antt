-- The table of a ticket's groups, from the words of their sizes and of their hits: the bytes of both stand at their places. A word of hits is added up
-- ball by ball: byte by byte the counts of two lists of marks add up, and no byte runs over, as twenty balls are drawn.
use mathlib.Core.Path.{◌≡◌, refl, sym, ap, ap₂, ◌∙◌, subst}
use mathlib.Core.List.{List, [], ◌∷◌, ◌++◌, map, map-append, zip_with}
use Prim.Native.Nat.{ℕ, zero, suc, ◌+◌, ◌*◌, ◌-◌, ◌/◌, ◌%◌, ◌^◌, ◌≤◌, ◌<◌}
use native.Mathlib.Numerals.{add-one}
use native.Mathlib.Omega.{arith}
use lib.Dec.{eqb}
use lib.ListN.{length, get_or, take, drop, set, length-append, length-take, length-map, get_or-eq_default, get_or-map}
use lib.Seq.{take_all, take-suc}
use Rattle.std.specs.Int.{w64, byte_at, bytes_low_first, to_le_bytes}
use Rattle.std.proofs.Math.Nat.{div-div-eq-div-mul, pow-suc}
use Rattle.std.proofs.lemmas.List.{take_more, take_more_set}
use Rattle.sale.specs.Lists.{keep}
use Rattle.sale.specs.Ways.{mark_of, size_of, by_group, size_word}
use Rattle.prizes.specs.Hits.{hits_of, hits}
use Rattle.sale.specs.Bounds.{Grouping}
use Rattle.prizes.specs.Found.{size_in, hits_in, group_sizes, group_hits, Groups, word_bytes, group_table, GroupsOf}
use Rattle.prizes.specs.declared.draw.Draw.{Draw}
use Rattle.sale.proofs.KeepLaws.{keep_append}
use Rattle.sale.proofs.MarkLaws.{size_le, figure_le, length_by_group, by_group_le, word_fits}

pub mark_at : (marks : List ℕ) (n : ℕ) → 1 ≤ n → get_or marks (n - 1) 0 ≡ mark_of marks n
unfolding mark_of
mark_at marks zero h = absurd (omega arith)
mark_at marks (suc i) h = ap (λ (j : ℕ). get_or marks j 0) (omega arith)

pub no_mark_at_zero : (marks : List ℕ) {n : ℕ} → n < 1 → 0 ≡ mark_of marks n
unfolding mark_of
no_mark_at_zero marks {n = zero} h = refl
no_mark_at_zero marks {n = suc i} h = absurd (omega arith)

pub no_mark_beyond : (marks : List ℕ) {n : ℕ} → length marks < n → 0 ≡ mark_of marks n
unfolding mark_of
no_mark_beyond marks h = sym (get_or-eq_default (0 ∷ marks) 0 h)

-- one ball more
pub hits_step : (marks balls : List ℕ) (i : ℕ) → i < length balls →
    map (mark_of marks) (take (i + 1) balls) ≡ map (mark_of marks) (take i balls) ++ (mark_of marks (get_or balls i 0) ∷ [])
hits_step marks balls i h = rw (add-one, take-suc balls i 0) (map-append (mark_of marks) (take i balls) _)

-- the bytes that a word was made of
pub word_bytes_lem : (xs : List ℕ) → ((i : ℕ) → get_or xs i 0 < 256) → word_bytes (length xs) (size_word xs) ≡ xs
unfolding size_word
word_bytes_lem [] small = refl
word_bytes_lem (x ∷ xs) small =
    let here : (size_word xs * 256 + x) % 256 ≡ x = omega (arith, small 0) in
    let rest : (size_word xs * 256 + x) / 256 ≡ size_word xs = omega (arith, small 0) in
    ap₂ (λ n k. n ∷ word_bytes (length xs) k) here rest ∙ ap (λ (l : List ℕ). x ∷ l) (word_bytes_lem xs (λ i. small (suc i)))

pub mark_few : (marks : List ℕ) → Grouping marks → (n : ℕ) → mark_of marks n < 9
unfolding mark_of
mark_few marks g zero = omega arith
mark_few marks g (suc n) = omega (arith, g.few n)

-- ---- hits counted in one word

size_append : (xs ys : List ℕ) (k : ℕ) → size_of (xs ++ ys) k ≡ size_of xs k + size_of ys k
unfolding size_of
size_append xs ys k = ap length (keep_append (eqb k) xs ys) ∙ length-append (keep (eqb k) xs) (keep (eqb k) ys)

abbrev count_word : List ℕ → ℕ
count_word xs = size_word (by_group (size_of xs))

-- byte by byte the counts of two lists add up
word_append : (xs ys : List ℕ) → count_word (xs ++ ys) ≡ count_word xs + count_word ys
unfolding size_word by_group
word_append xs ys =
    omega (
      arith,
      size_append xs ys 1,
      size_append xs ys 2,
      size_append xs ys 3,
      size_append xs ys 4,
      size_append xs ys 5,
      size_append xs ys 6,
      size_append xs ys 7,
      size_append xs ys 8,
    )

-- what one mark adds
abbrev pub units : List ℕ
units = 0 ∷ 256 ^ 0 ∷ 256 ^ 1 ∷ 256 ^ 2 ∷ 256 ^ 3 ∷ 256 ^ 4 ∷ 256 ^ 5 ∷ 256 ^ 6 ∷ 256 ^ 7 ∷ []

unit_at : (m : ℕ) → m < 9 → get_or units m 0 ≡ count_word (m ∷ [])
unfolding size_word by_group size_of keep
unit_at zero h = refl
unit_at (suc zero) h = refl
unit_at (suc (suc zero)) h = refl
unit_at (suc (suc (suc zero))) h = refl
unit_at (suc (suc (suc (suc zero)))) h = refl
unit_at (suc (suc (suc (suc (suc zero))))) h = refl
unit_at (suc (suc (suc (suc (suc (suc zero)))))) h = refl
unit_at (suc (suc (suc (suc (suc (suc (suc zero))))))) h = refl
unit_at (suc (suc (suc (suc (suc (suc (suc (suc zero)))))))) h = refl
unit_at (suc (suc (suc (suc (suc (suc (suc (suc (suc m))))))))) h = absurd (omega arith)

-- after so many balls: the counts of their marks in a word, which fit it
module _ (marks balls : List ℕ) where
  abbrev first : ℕ → List ℕ
  first i = map (mark_of marks) (take i balls)

  pub record Drawn (i word : ℕ) : Type 0 where
    pub within : i ≤ 20
    pub counts : word ≡ count_word (map (mark_of marks) (take i balls))

  pub drawn_none : Drawn 0 0
  unfolding size_word by_group size_of keep
  drawn_none = record { within = omega arith; counts = refl }

  pub drawn_more : {i word m : ℕ} → Drawn i word → i < 20 → length balls ≡ 20 → m ≡ mark_of marks (get_or balls i 0) → m < 9 → Drawn (i + 1) (word + get_or units m 0)
  drawn_more {i} {word} {m} d more twenty mark small =
      record {
        within = omega arith;
        counts =
            ap₂ ◌+◌ d.counts (unit_at m small) ∙ sym (word_append (first i) (m ∷ [])) ∙ ap (λ k. count_word (first i ++ (k ∷ []))) mark
            ∙ ap count_word (sym (hits_step marks balls i (omega arith)));
      }

  pub drawn_fits : {i word : ℕ} → Drawn i word → word < 2 ^ 64
  drawn_fits {i} {word} d =
      rw d.counts
      (word_fits (by_group (size_of (first i)))
      (λ k. omega (arith, figure_le (first i) k, length-map (take i balls) (mark_of marks), length-take i balls, d.within))
      (omega (arith, length_by_group (size_of (first i)))))

  pub drawn_all : {word : ℕ} → length balls ≡ 20 → Drawn 20 word → word ≡ count_word (map (mark_of marks) balls)
  drawn_all twenty d = d.counts ∙ ap (λ (l : List ℕ). count_word (map (mark_of marks) l)) (take_all 20 balls (omega arith))

-- ---- the table of groups

-- std's bytes of a word are these
byte_std : (i word : ℕ) → byte_at i word ≡ word / 256 ^ i % 256
byte_std zero word = omega arith
byte_std (suc i) word = refl

bytes_std : (k i word : ℕ) → bytes_low_first i k word ≡ word_bytes k (word / 256 ^ i)
bytes_std zero i word = refl
bytes_std (suc k) i word =
    let next : word / 256 ^ i / 256 ≡ word / 256 ^ suc i = div-div-eq-div-mul word (256 ^ i) 256 ∙ ap (λ n. word / n) (sym (pow-suc 256 i)) in
    ap₂ (λ n (l : List ℕ). n ∷ l) (byte_std i word) (bytes_std k (suc i) word ∙ ap (word_bytes k) (sym next))

pub word_bytes_std : (word : ℕ) → to_le_bytes w64 word ≡ word_bytes 8 word
word_bytes_std word = bytes_std 8 0 word ∙ ap (word_bytes 8) (omega arith)

abbrev paired : List ℕ → List ℕ → List ℕ
paired xs ys = zip_with (λ size hits. size * 4096 + hits) xs ys

paired_at : (xs ys : List ℕ) (k : ℕ) → length xs ≡ length ys → k < length xs → get_or (paired xs ys) k 0 ≡ get_or xs k 0 * 4096 + get_or ys k 0
unfolding zip_with
paired_at [] ys k e h = absurd (omega arith)
paired_at (x ∷ xs) [] k e h = absurd (omega arith)
paired_at (x ∷ xs) (y ∷ ys) zero e h = refl
paired_at (x ∷ xs) (y ∷ ys) (suc k) e h = paired_at xs ys k (omega arith) (omega arith)

-- the pairs of a table that has so many of them: one more, from the bytes of both words
module _ (sizes hits : ℕ) where
  abbrev pairs : List ℕ
  pairs = drop 1 (group_table sizes hits)

  eight_pairs : length pairs ≡ 8
  unfolding zip_with
  eight_pairs = refl

  pub pairs_more : {size hit : List ℕ} (items : List ℕ) (k : ℕ) {pair : ℕ} → size ≡ to_le_bytes w64 sizes → hit ≡ to_le_bytes w64 hits → length items ≡ 8 → k < 8
      → take k items ≡ take k pairs → pair ≡ get_or size k 0 * 4096 + get_or hit k 0 → take (k + 1) (set items k pair) ≡ take (k + 1) pairs
  pairs_more items k {pair} s h long inside before here =
      take_more_set items k pair (omega arith)
      ∙ ap₂ (λ (l : List ℕ) (n : ℕ). l ++ (n ∷ [])) before
      (here
      ∙ ap₂ (λ (xs ys : List ℕ). get_or xs k 0 * 4096 + get_or ys k 0) (s ∙ word_bytes_std sizes) (h ∙ word_bytes_std hits)
      ∙ sym (paired_at (word_bytes 8 sizes) (word_bytes 8 hits) k refl inside))
      ∙ sym (take_more pairs k 0 (omega (arith, eight_pairs)))

  pub pairs_all : (items : List ℕ) (k : ℕ) → length items ≡ 8 → 8 ≤ k → take k items ≡ take k pairs → 0 ∷ items ≡ group_table sizes hits
  pairs_all items k long all same =
      ap (λ (l : List ℕ). 0 ∷ l) (sym (take_all k items (omega arith)) ∙ same ∙ take_all k pairs (omega (arith, eight_pairs)))

sizes_back : (xs ys : List ℕ) → length xs ≡ length ys → ((k : ℕ) → get_or ys k 0 < 256) → map size_in (paired xs ys) ≡ xs
unfolding zip_with
sizes_back [] ys e few = refl
sizes_back (x ∷ xs) [] e few = absurd (omega arith)
sizes_back (x ∷ xs) (y ∷ ys) e few =
    let here : (x * 4096 + y) / 4096 ≡ x = omega (arith, few 0) in
    ap₂ (λ n (l : List ℕ). n ∷ l) here (sizes_back xs ys (omega arith) (λ k. few (suc k)))

hits_back : (xs ys : List ℕ) → length xs ≡ length ys → ((k : ℕ) → get_or ys k 0 < 256) → map hits_in (paired xs ys) ≡ ys
unfolding zip_with
hits_back [] [] e few = refl
hits_back [] (y ∷ ys) e few = absurd (omega arith)
hits_back (x ∷ xs) [] e few = absurd (omega arith)
hits_back (x ∷ xs) (y ∷ ys) e few =
    let here : (x * 4096 + y) % 4096 ≡ y = omega (arith, few 0) in
    ap₂ (λ n (l : List ℕ). n ∷ l) here (hits_back xs ys (omega arith) (λ k. few (suc k)))

byte_lt : (n word k : ℕ) → get_or (word_bytes n word) k 0 < 256
byte_lt zero word k = omega arith
byte_lt (suc n) word zero = omega arith
byte_lt (suc n) word (suc k) = byte_lt n (word / 256) k

module _ (sizes hit : ℕ) where
  sizes_apart : group_sizes (group_table sizes hit) ≡ word_bytes 8 sizes
  sizes_apart = sizes_back (word_bytes 8 sizes) (word_bytes 8 hit) refl (byte_lt 8 hit)

  hits_apart : group_hits (group_table sizes hit) ≡ word_bytes 8 hit
  hits_apart = hits_back (word_bytes 8 sizes) (word_bytes 8 hit) refl (byte_lt 8 hit)

  -- a figure of the groups is a byte at each place, and at place 0 too
  at_place : (f : ℕ → ℕ) → f 0 ≡ 0 → (word : ℕ) → map f (drop 1 (group_table sizes hit)) ≡ word_bytes 8 word → (k : ℕ)
      → f (get_or (group_table sizes hit) k 0) ≤ 255
  at_place f none word e zero = omega arith
  at_place f none word e (suc k) =
      let table = group_table sizes hit in
      let here : get_or (map f (drop 1 table)) k 0 ≡ f (get_or (drop 1 table) k 0) =
      ap (λ n. get_or (map f (drop 1 table)) k n) (sym none) ∙ get_or-map f (drop 1 table) k 0 in
      omega (arith, sym here ∙ ap (λ (l : List ℕ). get_or l k 0) e, byte_lt 8 word k)

  table_groups : Groups (group_table sizes hit)
  unfolding zip_with
  table_groups =
      record { long = refl; sizes = at_place size_in refl sizes sizes_apart; hits = at_place hits_in refl hit hits_apart }

hits_few : (draw : Draw) (marks : List ℕ) → length draw.balls ≡ 20 → (k : ℕ) → hits_of draw marks k ≤ 20
unfolding hits_of
hits_few draw marks twenty k = omega (arith, size_le (map (mark_of marks) draw.balls) k, length-map draw.balls (mark_of marks))

-- the groups of a ticket, from the words of their sizes and of their hits
pub groups_of : (sizes : ℕ) (draw : Draw) (marks : List ℕ) → length draw.balls ≡ 20 → GroupsOf sizes draw marks (group_table sizes (size_word (hits draw marks)))
groups_of sizes draw marks twenty =
    let hit = size_word (hits draw marks) in
    record {
      groups = table_groups sizes hit;
      sizes = sizes_apart sizes hit;
      hits =
          hits_apart sizes hit
          ∙ ap (λ n. word_bytes n hit) (sym (length_by_group (hits_of draw marks)))
          ∙ word_bytes_lem (hits draw marks) (λ k. omega (arith, by_group_le (hits_of draw marks) 20 (hits_few draw marks twenty) k));
    }

-- as the code finds them
pub groups_by : {sizes : ℕ} {draw : Draw} {marks : List ℕ} {word : ℕ} {pairs : List ℕ} → length draw.balls ≡ 20
    → word ≡ size_word (hits draw marks) → pairs ≡ group_table sizes word → GroupsOf sizes draw marks pairs
groups_by {sizes} {draw} {marks} twenty w p =
    subst (GroupsOf sizes draw marks) (sym (p ∙ ap (group_table sizes) w)) (groups_of sizes draw marks twenty)

pub groups_kept : (sizes : ℕ) (draw : Draw) (marks : List ℕ) {word : ℕ} {pairs : List ℕ} → length draw.balls ≡ 20
    → word ≡ size_word (hits draw marks) → pairs ≡ group_table sizes word → Groups pairs
groups_kept sizes draw marks twenty w p = (groups_by {sizes = sizes} {draw = draw} {marks = marks} twenty w p).groups
