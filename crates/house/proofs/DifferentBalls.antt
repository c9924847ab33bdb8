-- The balls in are different numbers from 1 to 80, in every house that commands reach: so it is of every ledger. Then each ball is one of the 80 numbers, and no number is counted for two balls: hits are numbers drawn, by induction on the balls.
use Prim.Native.Nat.{ℕ, zero, suc, ◌+◌, ◌≤◌, ◌<◌}
use native.Mathlib.Omega.{arith}
use mathlib.Core.Path.{◌≡◌, refl, sym, ap, ap₂, subst⁻¹, ◌∙◌}
use mathlib.Core.Bool.{Bool, true, false, cond, ◌&&◌, ◌||◌}
use mathlib.Core.Logic.{⊎_elim}
use mathlib.Core.List.{List, [], ◌∷◌, map, map-map, map-append}
use lib.Dec.{leb, eqb}
use lib.ListN.{length, get_or, length-map, length-append}
use lib.Seq.{ext_get_or}
use borrow.Author.Tests.{leb-true, eq-eqb, ne_eqb}
use Rattle.sale.specs.Lists.{below, keep, every, any, member}
use Rattle.sale.specs.Ways.{mark_of, size_of}
use Rattle.prizes.specs.Hits.{draw_of, hits_of}
use Rattle.sale.proofs.KeepLaws.{keep_append, length_keep_le}
use Rattle.house.specs.Model.{Model}
use Rattle.house.specs.Commands.{ball, code_of, balls_with}
use Rattle.house.specs.Balance.{Reached}
use Rattle.house.specs.Draws.{Different, DifferentBalls, numbers_of, drawn_of, HitsDrawn}
use Rattle.house.proofs.Ledger.{All}
use Rattle.house.proofs.Refusals.{and_true}
use Rattle.house.proofs.MoneyLaws.{all_from, keep_map, keep_keep}
use Rattle.house.proofs.RowLists.{length_table, get_or_table, equal_or_not}
use Rattle.house.proofs.OrderlyLedgers.{ball_differs}
use Rattle.house.proofs.Theorem.{reached_booked}
use Rattle.house.proofs.ReachedHouses.{reached_sure}

-- ---- the balls of every reached house

-- In every reached house the balls in are different numbers from 1 to 80,
pub balls_differ : (m : Model) → Reached m → DifferentBalls m.balls
balls_differ m r =
    let b = (reached_booked m r).1 in
    subst⁻¹ (λ (h : Model). DifferentBalls h.balls) b.house b.orderly.balls.differ

-- and so are those of a game that its twentieth ball settles.
pub draw_differs : (m : Model) (b : ℕ) → Reached m → code_of m (ball b) ≡ 0 → DifferentBalls (balls_with b m)
draw_differs m b r e = ball_differs m b e (balls_differ m r)

-- ---- hits

-- how many of the numbers 1 to n pass a test
abbrev one : Bool → ℕ
one t = cond t 1 0

abbrev count : (ℕ → Bool) → ℕ → ℕ
count f n = length (keep f (map suc (below n)))

count_more : (f : ℕ → Bool) (n : ℕ) → count f (suc n) ≡ count f n + one (f (suc n))
unfolding below keep
count_more f n =
    ap (λ l. length (keep f l)) (map-append suc (below n) (n ∷ []))
    ∙ ap length (keep_append f (map suc (below n)) (suc n ∷ []))
    ∙ length-append (keep f (map suc (below n))) (keep f (suc n ∷ []))
    ∙ ap (λ k. count f n + k) (go (f (suc n)))
  where
    go : (t : Bool) → length (cond t (suc n ∷ []) []) ≡ one t
    go true = refl
    go false = refl

-- a test p on the numbers that are b or pass q, where b does not pass q
module _ (p q : ℕ → Bool) (b : ℕ) (new : q b ≡ false) where
  abbrev both : ℕ → Bool
  both x = p x && (eqb x b || q x)

  abbrev old : ℕ → Bool
  old x = p x && q x

  other_same : (x : ℕ) → (x ≡ b → ⊥) → both x ≡ old x
  other_same x other = rw (ne_eqb x b other)

  one_more : (x : ℕ) → x ≡ b → (one (both x) ≡ one (p b)) × (one (old x) ≡ 0)
  one_more x e = rw (e, eq-eqb b b refl, new) (go (p b))
    where
      go : (t : Bool) → (one (t && true) ≡ one t) × (one (t && false) ≡ 0)
      go true = (refl, refl)
      go false = (refl, refl)

  count_outside : (n : ℕ) → n < b → count both n ≡ count old n
  unfolding below keep
  count_outside zero h = refl
  count_outside (suc n) h =
      count_more both n
      ∙ ap₂ (λ k t. k + one t) (count_outside n (omega arith)) (other_same (suc n) (λ e. omega arith))
      ∙ sym (count_more old n)

  count_inside : (n : ℕ) → 1 ≤ b → b ≤ n → count both n ≡ one (p b) + count old n
  count_inside zero h k = absurd (omega arith)
  count_inside (suc n) h k = ⊎_elim here (λ e. later e (count_inside n h (omega arith))) (equal_or_not (suc n) b)
    where
      here : suc n ≡ b → count both (suc n) ≡ one (p b) + count old (suc n)
      here e = omega (arith, count_more both n, count_more old n, count_outside n (omega arith), (one_more (suc n) e).0, (one_more (suc n) e).1)

      later : (suc n ≡ b → ⊥) → count both n ≡ one (p b) + count old n → count both (suc n) ≡ one (p b) + count old (suc n)
      later e before =
          let same : one (both (suc n)) ≡ one (old (suc n)) = ap one (other_same (suc n) e) in
          omega (arith, count_more both n, count_more old n, before, same)

-- balls that pass a test are numbers that pass it and are drawn
count_none : (p : ℕ → Bool) (n : ℕ) → count (λ x. p x && false) n ≡ 0
unfolding below keep
count_none p zero = refl
count_none p (suc n) = omega (arith, count_more (λ x. p x && false) n, count_none p n, go (p (suc n)))
  where
    go : (t : Bool) → one (t && false) ≡ 0
    go true = refl
    go false = refl

kept_none : (p : ℕ → Bool) → length (keep p []) ≡ 0
unfolding keep
kept_none p = refl

kept_more : (p : ℕ → Bool) (b : ℕ) (bs : List ℕ) → length (keep p (b ∷ bs)) ≡ one (p b) + length (keep p bs)
unfolding keep
kept_more p b bs = go (p b)
  where
    go : (t : Bool) → length (cond t (b ∷ keep p bs) (keep p bs)) ≡ one t + length (keep p bs)
    go true = omega arith
    go false = omega arith

drawn_counted :
    (p : ℕ → Bool) (balls : List ℕ)
    → every (λ b. leb 1 b && leb b 80) balls ≡ true
    → Different balls
    → length (keep p balls) ≡ count (λ n. p n && member n balls) 80
unfolding every member any
drawn_counted p [] numbers different = kept_none p ∙ sym (count_none p 80)
drawn_counted p (b ∷ bs) numbers (new, rest) =
    let here = and_true (leb 1 b && leb b 80) (every (λ n. leb 1 n && leb n 80) bs) numbers in
    let range = and_true (leb 1 b) (leb b 80) here.0 in
    kept_more p b bs
    ∙ ap (λ k. one (p b) + k) (drawn_counted p bs here.1 rest)
    ∙ sym (count_inside p (λ n. any (eqb n) bs) b new 80 (leb-true 1 b range.0) (leb-true b 80 range.1))

-- the marks are those of the numbers 1 to 80, in their order
marks_of_numbers : (marks : List ℕ) → length marks ≡ 80 → map (mark_of marks) (map suc (below 80)) ≡ marks
unfolding mark_of
marks_of_numbers marks eighty =
    map-map (mark_of marks) suc (below 80)
    ∙ ext_get_or 0 (map (λ i. get_or marks i 0) (below 80)) marks
    (length_table (λ i. get_or marks i 0) 80 ∙ sym eighty)
    (λ i h. get_or_table (λ i. get_or marks i 0) 80 i 0 (omega (arith, length_table (λ i. get_or marks i 0) 80)))

-- The law: where the balls are different numbers from 1 to 80, a group's hits are how many of its numbers are drawn, and at most its size.
pub hits_drawn : (balls marks : List ℕ) (k : ℕ) → DifferentBalls balls → length marks ≡ 80 → HitsDrawn balls marks k
unfolding hits_of size_of numbers_of
hits_drawn balls marks k draw eighty =
    let p : ℕ → Bool = λ n. eqb k (mark_of marks n) in
    let size : size_of marks k ≡ length (numbers_of marks k) =
    ap (λ l. length (keep (eqb k) l)) (sym (marks_of_numbers marks eighty))
    ∙ ap length (keep_map (eqb k) (mark_of marks) (map suc (below 80)))
    ∙ length-map (keep p (map suc (below 80))) (mark_of marks) in
    let hits : hits_of (draw_of balls) marks k ≡ length (drawn_of balls marks k) =
    ap length (keep_map (eqb k) (mark_of marks) balls)
    ∙ length-map (keep p balls) (mark_of marks)
    ∙ drawn_counted p balls draw.numbers draw.different
    ∙ ap length (sym (keep_keep (λ n. member n balls) p (map suc (below 80)))) in
    record {
      hits = hits;
      size = size;
      most = omega (arith, hits, size, length_keep_le (λ n. member n balls) (numbers_of marks k));
    }

-- So it is of every ticket that a twentieth ball settles.
pub hits_settled :
    (m : Model) (b : ℕ)
    → Reached m
    → code_of m (ball b) ≡ 0
    → All (λ t. (k : ℕ) → HitsDrawn (balls_with b m) t.operands.marks k) m.live
hits_settled m b r e =
    all_from
    (λ t kept k. hits_drawn (balls_with b m) t.operands.marks k (draw_differs m b r e) kept.fixed.playable.eighty)
    m.live
    (reached_sure m r).kept
