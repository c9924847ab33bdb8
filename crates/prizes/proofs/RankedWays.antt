-- The winning ways in the order in which the odd cents go to them: `ranked_rearranged`, they are the same ways, and `ranked_sorted`, none ranks before one that
-- stands ahead of it. So the ways of a ticket stand together, right behind those that rank before them: `first_own`.
use mathlib.Core.Path.{◌≡◌, refl, sym, ap, ◌∙◌}
use mathlib.Core.Bool.{Bool, true, false, cond, false≢true}
use mathlib.Core.List.{List, [], ◌∷◌}
use Prim.Native.Nat.{ℕ, zero, suc, ◌+◌, ◌-◌, ◌<◌, min}
use native.Mathlib.Numerals.{add-one}
use native.Mathlib.Omega.{arith}
use lib.Dec.{eqb}
use lib.ListN.{length, take, replicate, get_or, length-append}
use borrow.Author.Tests.{eqb-true, eq-eqb, ne_eqb}
use Rattle.std.specs.Prelude.{IsPermutation, IsSortedBy}
use Rattle.std.specs.List.{AllByRecursion}
use Rattle.std.proofs.lemmas.Bool.Decides.{nat_tests}
use Rattle.std.proofs.lemmas.List.Sorted.{IsPermutation-refl, IsPermutation-trans, IsPermutation-cons, IsPermutation-middle}
use Rattle.sale.specs.Lists.{keep}
use Rattle.sale.proofs.KeepLaws.{keep_append}
use Rattle.prizes.specs.Jackpots.{Winner, WinningWay, each_way, ranks_before, rank_among, ranked}

-- ---- the order

before_not_behind : (v w : WinningWay) → ranks_before v w ≡ true → ranks_before w v ≡ false
before_not_behind v w e = grind (arith, nat_tests)

not_before_trans : (u v w : WinningWay) → ranks_before u v ≡ false → ranks_before v w ≡ false → ranks_before u w ≡ false
not_before_trans u v w e d = grind (arith, nat_tests)

module _ {A : Type 0} {P Q : A → Type 0} where
  pub all_map : ((x : A) → P x → Q x) → (xs : List A) → AllByRecursion P xs → AllByRecursion Q xs
  all_map f [] all = tt
  all_map f (x ∷ xs) (p, all) = (f x p, all_map f xs all)

-- what holds of each way holds of each once they are ranked
module _ (P : WinningWay → Type 0) where
  all_among : (w : WinningWay) (vs : List WinningWay) → P w → AllByRecursion P vs → AllByRecursion P (rank_among w vs)
  unfolding rank_among
  all_among w [] p all = (p, tt)
  all_among w (v ∷ vs) p (q, all) = go (ranks_before v w) (all_among w vs p all)
    where
      go : (t : Bool) → AllByRecursion P (rank_among w vs) → AllByRecursion P (cond t (v ∷ rank_among w vs) (w ∷ v ∷ vs))
      go true rest = (q, rest)
      go false rest = (p, (q, all))

  pub all_ranked : (ws : List WinningWay) → AllByRecursion P ws → AllByRecursion P (ranked ws)
  unfolding ranked
  all_ranked [] all = tt
  all_ranked (w ∷ ws) (p, all) = all_among w (ranked ws) p (all_ranked ws all)

-- none ranks before one that stands ahead of it
abbrev pub Ranked : List WinningWay → Type 0
Ranked [] = Unit {0}
Ranked (v ∷ vs) = AllByRecursion (λ u. ranks_before u v ≡ false) vs × Ranked vs

ranked_among : (w : WinningWay) (vs : List WinningWay) → Ranked vs → Ranked (rank_among w vs)
unfolding rank_among
ranked_among w [] order = (tt, tt)
ranked_among w (v ∷ vs) (behind, order) = go (ranks_before v w) refl (ranked_among w vs order)
  where
    go : (t : Bool) → ranks_before v w ≡ t → Ranked (rank_among w vs) → Ranked (cond t (v ∷ rank_among w vs) (w ∷ v ∷ vs))
    go true e rest = (all_among (λ u. ranks_before u v ≡ false) w vs (before_not_behind v w e) behind, rest)
    go false e rest =
        ((e, all_map (λ u d. not_before_trans u v w d e) vs behind), (behind, order))

pub in_ranks : (ws : List WinningWay) → Ranked (ranked ws)
unfolding ranked
in_ranks [] = tt
in_ranks (w ∷ ws) = ranked_among w (ranked ws) (in_ranks ws)

-- and so of neighbours, which is what a sort is
neighbours : (vs : List WinningWay) → Ranked vs → (k : ℕ) (d : WinningWay) → suc k < length vs → ranks_before (get_or vs (suc k) d) (get_or vs k d) ≡ false
neighbours [] order k d h = absurd (omega arith)
neighbours (a ∷ []) order k d h = absurd (omega arith)
neighbours (a ∷ b ∷ vs) (behind, order) zero d h = behind.0
neighbours (a ∷ b ∷ vs) (behind, order) (suc k) d h = neighbours (b ∷ vs) order k d (omega arith)

pub ranked_sorted : (ws : List WinningWay) → IsSortedBy ranks_before (ranked ws)
ranked_sorted ws k d low high =
    ap (λ n. ranks_before (get_or (ranked ws) n d) (get_or (ranked ws) k d)) (add-one k) ∙ neighbours (ranked ws) (in_ranks ws) k d (omega arith)

-- ---- the same ways

among_rearranged : (w : WinningWay) (vs : List WinningWay) → IsPermutation (w ∷ vs) (rank_among w vs)
unfolding rank_among
among_rearranged w [] = IsPermutation-refl (w ∷ [])
among_rearranged w (v ∷ vs) = go (ranks_before v w) (among_rearranged w vs)
  where
    go : (t : Bool) → IsPermutation (w ∷ vs) (rank_among w vs) → IsPermutation (w ∷ v ∷ vs) (cond t (v ∷ rank_among w vs) (w ∷ v ∷ vs))
    go true rest = IsPermutation-trans _ _ _ (IsPermutation-middle (w ∷ []) v vs) (IsPermutation-cons v _ _ rest)
    go false rest = IsPermutation-refl (w ∷ v ∷ vs)

pub ranked_rearranged : (ws : List WinningWay) → IsPermutation ws (ranked ws)
unfolding ranked
ranked_rearranged [] = IsPermutation-refl []
ranked_rearranged (w ∷ ws) =
    IsPermutation-trans _ _ _ (IsPermutation-cons w _ _ (ranked_rearranged ws)) (among_rearranged w (ranked ws))

-- ---- how many ways pass a test

abbrev pub one_if : Bool → ℕ
one_if test = cond test 1 0

module _ (f : WinningWay → Bool) where
  abbrev pub passing : List WinningWay → ℕ
  passing vs = length (keep f vs)

  pub passing_more : (v : WinningWay) (vs : List WinningWay) → passing (v ∷ vs) ≡ one_if (f v) + passing vs
  unfolding keep
  passing_more v vs = go (f v)
    where
      go : (t : Bool) → length (cond t (v ∷ keep f vs) (keep f vs)) ≡ one_if t + length (keep f vs)
      go true = omega arith
      go false = omega arith

  passing_among : (w : WinningWay) (vs : List WinningWay) → passing (rank_among w vs) ≡ passing (w ∷ vs)
  unfolding rank_among
  passing_among w [] = refl
  passing_among w (v ∷ vs) = go (ranks_before v w) (passing_among w vs)
    where
      go : (t : Bool) → passing (rank_among w vs) ≡ passing (w ∷ vs) → passing (cond t (v ∷ rank_among w vs) (w ∷ v ∷ vs)) ≡ passing (w ∷ v ∷ vs)
      go true rest =
          omega (arith, rest, passing_more v (rank_among w vs), passing_more w vs, passing_more w (v ∷ vs), passing_more v vs)
      go false rest = refl

  pub passing_ranked : (ws : List WinningWay) → passing (ranked ws) ≡ passing ws
  unfolding ranked
  passing_ranked [] = refl
  passing_ranked (w ∷ ws) =
      passing_among w (ranked ws) ∙ omega (arith, passing_more w (ranked ws), passing_more w ws, passing_ranked ws)

  passing_none : (vs : List WinningWay) → AllByRecursion (λ u. f u ≡ false) vs → passing vs ≡ 0
  unfolding keep
  passing_none [] none = refl
  passing_none (v ∷ vs) (no', none) = omega (arith, passing_more v vs, ap one_if no', passing_none vs none)

  -- of the ways of one ticket all pass or none
  passing_same : (n : ℕ) (v : WinningWay) → passing (replicate n v) ≡ cond (f v) n 0
  unfolding keep
  passing_same zero v = go (f v)
    where
      go : (t : Bool) → 0 ≡ cond {A = ℕ} t 0 0
      go true = refl
      go false = refl
  passing_same (suc n) v = omega (arith, passing_more v (replicate n v), passing_same n v, go (f v))
    where
      go : (t : Bool) → one_if t + cond t n 0 ≡ cond t (suc n) 0
      go true = omega arith
      go false = omega arith

  -- of tickets from a place on
  abbrev pub passing_in : ℕ → List Winner → ℕ
  passing_in place [] = 0
  passing_in place (w ∷ ws) = cond (f (record { place = place; stake = w.stake })) w.count 0 + passing_in (suc place) ws

  pub passing_each : (place : ℕ) (ws : List Winner) → passing (each_way place ws) ≡ passing_in place ws
  unfolding each_way keep
  passing_each place [] = refl
  passing_each place (w ∷ ws) =
      let way : WinningWay = record { place = place; stake = w.stake } in
      ap length (keep_append f (replicate w.count way) (each_way (suc place) ws))
      ∙ omega (
        arith,
        length-append (keep f (replicate w.count way)) (keep f (each_way (suc place) ws)),
        passing_same w.count way,
        passing_each (suc place) ws,
      )

-- ---- the first ways

module _ (x : WinningWay) where
  -- the ways of x's ticket have its stake
  abbrev pub Own : WinningWay → Type 0
  Own v = v.place ≡ x.place → v.stake ≡ x.stake

  abbrev own : WinningWay → Bool
  own v = eqb v.place x.place

  abbrev ahead : WinningWay → Bool
  ahead v = ranks_before v x

  own_not_ahead : (v : WinningWay) → Own v → v.place ≡ x.place → ranks_before v x ≡ false
  own_not_ahead v mine same = let stake = mine same in grind (arith, nat_tests)

  -- behind one of the ticket's own no way ranks before it
  behind_own : (u v : WinningWay) → v.place ≡ x.place → v.stake ≡ x.stake → ranks_before u v ≡ false → ranks_before u x ≡ false
  behind_own u v same stake e = grind (arith, nat_tests)

  -- and behind a later one there is neither
  behind_later : (u v : WinningWay) → Own v → (v.place ≡ x.place → ⊥) → ranks_before v x ≡ false → ranks_before u v ≡ false → ranks_before u x ≡ false
  behind_later u v mine other later e = grind (arith, nat_tests)

  not_own_later : (u v : WinningWay) → Own u → (v.place ≡ x.place → ⊥) → ranks_before v x ≡ false → ranks_before u v ≡ false → own u ≡ false
  not_own_later u v mine other later e =
      ne_eqb u.place x.place (λ same. let stake = mine same in false≢true (sym e ∙ grind (arith, nat_tests)))

  later_ones : (v : WinningWay) → (v.place ≡ x.place → ⊥) → ranks_before v x ≡ false → (vs : List WinningWay)
      → AllByRecursion (λ u. ranks_before u v ≡ false) vs → AllByRecursion Own vs → AllByRecursion (λ u. own u ≡ false) vs
  later_ones v other later [] behind mine = tt
  later_ones v other later (u ∷ vs) (b, behind) (m, mine) = (not_own_later u v m other later b, later_ones v other later vs behind mine)

  -- of the first ways so many are the ticket's own as those that rank before them leave
  pub first_own : (n : ℕ) (vs : List WinningWay) → Ranked vs → AllByRecursion Own vs
      → passing own (take n vs) ≡ min (n - passing ahead vs) (passing own vs)
  unfolding keep
  first_own zero vs order mine = omega arith
  first_own (suc n) [] order mine = omega arith
  first_own (suc n) (v ∷ vs) (behind, order) (mine, rest) = go (ahead v) refl (own v) refl (first_own n vs order rest)
    where
      go : (a : Bool) → ahead v ≡ a → (o : Bool) → own v ≡ o
          → passing own (take n vs) ≡ min (n - passing ahead vs) (passing own vs)
          → passing own (v ∷ take n vs) ≡ min (suc n - passing ahead (v ∷ vs)) (passing own (v ∷ vs))
      go true e true d earlier = absurd (false≢true (sym (own_not_ahead v mine (eqb-true v.place x.place d)) ∙ e))
      go true e false d earlier =
          omega (arith, earlier, passing_more own v (take n vs), passing_more own v vs, passing_more ahead v vs, ap one_if e, ap one_if d)
      go false e true d earlier =
          let same : v.place ≡ x.place = eqb-true v.place x.place d in
          let none : passing ahead vs ≡ 0 = passing_none ahead vs (all_map (λ u k. behind_own u v same (mine same) k) vs behind) in
          omega (arith, earlier, none, passing_more own v (take n vs), passing_more own v vs, passing_more ahead v vs, ap one_if e, ap one_if d)
      go false e false d earlier =
          let other : v.place ≡ x.place → ⊥ = λ same. false≢true (sym d ∙ eq-eqb v.place x.place same) in
          let none : passing ahead vs ≡ 0 = passing_none ahead vs (all_map (λ u k. behind_later u v mine other e k) vs behind) in
          let gone : passing own vs ≡ 0 = passing_none own vs (later_ones v other e vs behind rest) in
          omega (arith, earlier, none, gone, passing_more own v (take n vs), passing_more own v vs, passing_more ahead v vs, ap one_if e, ap one_if d)
