-- "Odd cents go to winning ways by stake, larger first, equal stakes by ticket number": of two tickets the one with the larger stake, or of equal stakes the
-- first, has a cent for each of its ways before the other has one, and none has more than that. How many it has is told by how many ways rank before its own.
use mathlib.Core.Path.{◌≡◌, refl, sym, ap, subst, ◌∙◌}
use mathlib.Core.Bool.{Bool, true, false, cond, false≢true}
use mathlib.Core.List.{List, [], ◌∷◌, ◌++◌, map}
use Prim.Native.Nat.{ℕ, zero, suc, ◌+◌, ◌-◌, ◌≤◌, ◌<◌, min}
use native.Mathlib.Nat.{zero-add}
use native.Mathlib.Omega.{arith}
use lib.Dec.{eqb, ltb, leb}
use lib.ListN.{length, take, replicate, get_or, length-append, length-take, length-replicate}
use borrow.Author.Tests.{eqb-true, eq-eqb, ne_eqb}
use Rattle.std.specs.List.{AllByRecursion}
use Rattle.std.proofs.lemmas.Bool.Decides.{nat_tests}
use Rattle.std.proofs.lemmas.List.Sorted.{length_permutation}
use Rattle.sale.specs.Lists.{sum, keep}
use Rattle.prizes.specs.Jackpots.{Winner, WinningWay, each_way, ranks_before, ranked, odd_cents_at}
use Rattle.prizes.proofs.RankedWays.{all_map, all_ranked, in_ranks, one_if, passing, passing_more, passing_ranked, passing_in, passing_each, Own, first_own, ranked_rearranged}

abbrev pub no_winner : Winner
no_winner = record { count = 0; stake = 0 }

-- the ticket's ways at a place
abbrev pub way_of : List Winner → ℕ → WinningWay
way_of ws i = record { place = i; stake = (get_or ws i no_winner).stake }

abbrev winner : List Winner → ℕ → Winner
winner ws i = get_or ws i no_winner

-- ---- the ways of tickets from a place on

module _ (P : WinningWay → Type 0) where
  all_same : (n : ℕ) (v : WinningWay) → P v → AllByRecursion P (replicate n v)
  all_same zero v p = tt
  all_same (suc n) v p = (p, all_same n v p)

  all_both : (vs us : List WinningWay) → AllByRecursion P vs → AllByRecursion P us → AllByRecursion P (vs ++ us)
  all_both [] us all more = more
  all_both (v ∷ vs) us (p, all) more = (p, all_both vs us all more)

  all_first : (n : ℕ) (vs : List WinningWay) → AllByRecursion P vs → AllByRecursion P (take n vs)
  all_first zero vs all = tt
  all_first (suc n) [] all = tt
  all_first (suc n) (v ∷ vs) (p, all) = (p, all_first n vs all)

abbrev Placed : ℕ → ℕ → WinningWay → Type 0
Placed from to v = (from ≤ v.place) × (v.place < to)

each_placed : (place to : ℕ) (ws : List Winner) → place + length ws ≤ to → AllByRecursion (Placed place to) (each_way place ws)
unfolding each_way
each_placed place to [] h = tt
each_placed place to (w ∷ ws) h =
    all_both (Placed place to) (replicate w.count (record { place = place; stake = w.stake })) (each_way (suc place) ws)
    (all_same (Placed place to) w.count (record { place = place; stake = w.stake }) (omega arith, omega arith))
    (all_map (λ v p. (omega (arith, p.0), p.1)) (each_way (suc place) ws) (each_placed (suc place) to ws (omega arith)))

each_own : (x : WinningWay) (place : ℕ) (ws : List Winner) (i : ℕ) → x.place ≡ place + i → x.stake ≡ (winner ws i).stake
    → AllByRecursion (Own x) (each_way place ws)
unfolding each_way
each_own x place [] i at stake = tt
each_own x place (w ∷ ws) zero at stake =
    all_both (Own x) (replicate w.count (record { place = place; stake = w.stake })) (each_way (suc place) ws)
    (all_same (Own x) w.count (record { place = place; stake = w.stake }) (λ e. sym stake))
    (all_map (λ v p e. absurd (omega (arith, p.0))) (each_way (suc place) ws) (each_placed (suc place) (suc place + length ws) ws (omega arith)))
each_own x place (w ∷ ws) (suc i) at stake =
    all_both (Own x) (replicate w.count (record { place = place; stake = w.stake })) (each_way (suc place) ws)
    (all_same (Own x) w.count (record { place = place; stake = w.stake }) (λ e. absurd (omega arith)))
    (each_own x (suc place) ws i (omega arith) stake)

-- those at one place are the ways of the ticket there
none_at : (n place : ℕ) (ws : List Winner) → n < place → passing_in (λ v. eqb v.place n) place ws ≡ 0
none_at n place [] h = refl
none_at n place (w ∷ ws) h =
    omega (arith, ap (λ t. cond t w.count 0) (ne_eqb place n (λ e. omega arith)), none_at n (suc place) ws (omega arith))

own_ways : (n place : ℕ) (ws : List Winner) (i : ℕ) → n ≡ place + i → passing_in (λ v. eqb v.place n) place ws ≡ (winner ws i).count
own_ways n place [] i at = refl
own_ways n place (w ∷ ws) zero at =
    omega (arith, ap (λ t. cond t w.count 0) (eq-eqb place n (omega arith)), none_at n (suc place) ws (omega arith))
own_ways n place (w ∷ ws) (suc i) at =
    omega (arith, ap (λ t. cond t w.count 0) (ne_eqb place n (λ e. omega arith)), own_ways n (suc place) ws i (omega arith))

-- ---- a ticket's odd cents

-- how many ways rank before its own
abbrev pub ahead_of : List Winner → ℕ → ℕ
ahead_of ws i = length (keep (λ v. ranks_before v (way_of ws i)) (each_way 0 ws))

module _ (odd : ℕ) (ws : List Winner) where
  pub odd_cents_left : (i : ℕ) → odd_cents_at odd ws i ≡ min (odd - ahead_of ws i) (winner ws i).count
  unfolding odd_cents_at
  odd_cents_left i =
      let x : WinningWay = way_of ws i in
      let all : List WinningWay = each_way 0 ws in
      let first = first_own x odd (ranked all) (in_ranks all) (all_ranked (Own x) all (each_own x 0 ws i (omega arith) refl)) in
      let own : passing (λ v. eqb v.place i) (ranked all) ≡ (winner ws i).count =
      passing_ranked (λ v. eqb v.place i) all ∙ passing_each (λ v. eqb v.place i) 0 ws ∙ own_ways i 0 ws i (omega arith) in
      omega (arith, first, own, passing_ranked (λ v. ranks_before v x) all)

  -- no more than one for each of its ways
  pub one_at_most : (i : ℕ) → odd_cents_at odd ws i ≤ (winner ws i).count
  one_at_most i = omega (arith, odd_cents_left i)

-- two tests of which no way passes both, and a third that each of them passes
two_within : (f g h : WinningWay → Bool) (vs : List WinningWay) → AllByRecursion (λ v. one_if (f v) + one_if (g v) ≤ one_if (h v)) vs
    → passing f vs + passing g vs ≤ passing h vs
unfolding keep
two_within f g h [] each = omega arith
two_within f g h (v ∷ vs) (e, each) = omega (arith, e, passing_more f v vs, passing_more g v vs, passing_more h v vs, two_within f g h vs each)

module _ (odd : ℕ) (ws : List Winner) (i k : ℕ) where
  abbrev Served : Type 0
  Served = 0 < odd_cents_at odd ws k → odd_cents_at odd ws i ≡ (winner ws i).count

  served_by : ranks_before (way_of ws i) (way_of ws k) ≡ true → Served
  served_by before some =
      let all : List WinningWay = each_way 0 ws in
      let x : WinningWay = way_of ws i in
      let y : WinningWay = way_of ws k in
      let more : passing (λ v. ranks_before v x) all + passing (λ v. eqb v.place i) all ≤ passing (λ v. ranks_before v y) all =
      two_within (λ v. ranks_before v x) (λ v. eqb v.place i) (λ v. ranks_before v y) all
      (all_map (λ v mine. one_of v mine) all (each_own x 0 ws i (omega arith) refl)) in
      omega (arith, more, odd_cents_left odd ws i, odd_cents_left odd ws k, passing_each (λ v. eqb v.place i) 0 ws, own_ways i 0 ws i (omega arith))
    where
      one_of : (v : WinningWay) → Own (way_of ws i) v → one_if (ranks_before v (way_of ws i)) + one_if (eqb v.place i) ≤ one_if (ranks_before v (way_of ws k))
      one_of v mine = grind (arith, nat_tests)

  -- a ticket with a smaller stake has no odd cent before each way of this one has its own
  pub larger_first : (winner ws k).stake < (winner ws i).stake → 0 < odd_cents_at odd ws k → odd_cents_at odd ws i ≡ (winner ws i).count
  larger_first larger = served_by (grind (arith, nat_tests))

  -- nor has a later ticket with an equal stake
  pub earlier_first : (winner ws i).stake ≡ (winner ws k).stake → i < k → 0 < odd_cents_at odd ws k → odd_cents_at odd ws i ≡ (winner ws i).count
  earlier_first equal earlier = served_by (grind (arith, nat_tests))

-- ---- all odd cents

-- how many ways win
abbrev pub winning_ways : List Winner → ℕ
winning_ways ws = sum (map (λ w. w.count) ws)

-- a figure of each place, together
abbrev pub sum_at : (ℕ → ℕ) → ℕ → List Winner → ℕ
sum_at figure place [] = 0
sum_at figure place (w ∷ ws) = figure place + sum_at figure (suc place) ws

sum_both : (f g h : ℕ → ℕ) → ((n : ℕ) → h n ≡ f n + g n) → (place : ℕ) (ws : List Winner)
    → sum_at h place ws ≡ sum_at f place ws + sum_at g place ws
sum_both f g h both place [] = refl
sum_both f g h both place (w ∷ ws) = omega (arith, both place, sum_both f g h both (suc place) ws)

sum_none : (place : ℕ) (ws : List Winner) → sum_at (λ n. 0) place ws ≡ 0
sum_none place [] = refl
sum_none place (w ∷ ws) = omega (arith, sum_none (suc place) ws)

-- a way stands at one place
past : (n place : ℕ) (ws : List Winner) → n < place → sum_at (λ m. one_if (eqb n m)) place ws ≡ 0
past n place [] h = refl
past n place (w ∷ ws) h = omega (arith, ap one_if (ne_eqb n place (λ e. omega arith)), past n (suc place) ws (omega arith))

once : (n place : ℕ) (ws : List Winner) → place ≤ n → n < place + length ws → sum_at (λ m. one_if (eqb n m)) place ws ≡ 1
once n place [] low high = absurd (omega arith)
once n place (w ∷ ws) low high = go (eqb n place) refl (λ later. once n (suc place) ws later (omega arith))
  where
    go : (t : Bool) → eqb n place ≡ t → (suc place ≤ n → sum_at (λ m. one_if (eqb n m)) (suc place) ws ≡ 1)
        → one_if (eqb n place) + sum_at (λ m. one_if (eqb n m)) (suc place) ws ≡ 1
    go true e later = omega (arith, ap one_if e, past n (suc place) ws (omega (arith, eqb-true n place e)))
    go false e later =
        let other : n ≡ place → ⊥ = λ same. false≢true (sym e ∙ eq-eqb n place same) in
        omega (arith, ap one_if e, later (omega (arith, other)))

sum_of_places : (vs : List WinningWay) (place : ℕ) (ws : List Winner) → AllByRecursion (Placed place (place + length ws)) vs
    → sum_at (λ n. passing (λ v. eqb v.place n) vs) place ws ≡ length vs
unfolding keep
sum_of_places [] place ws all = sum_none place ws
sum_of_places (v ∷ vs) place ws ((low, high), all) =
    omega (
      arith,
      sum_both (λ n. one_if (eqb v.place n)) (λ n. passing (λ u. eqb u.place n) vs) (λ n. passing (λ u. eqb u.place n) (v ∷ vs))
          (λ n. passing_more (λ u. eqb u.place n) v vs) place ws,
      once v.place place ws low high,
      sum_of_places vs place ws all,
    )

length_each : (place : ℕ) (ws : List Winner) → length (each_way place ws) ≡ winning_ways ws
unfolding each_way sum
length_each place [] = refl
length_each place (w ∷ ws) =
    let way : WinningWay = record { place = place; stake = w.stake } in
    omega (
      arith,
      length-append (replicate w.count way) (each_way (suc place) ws),
      length-replicate w.count way,
      length_each (suc place) ws,
    )

-- an odd cent for each way while there are any
pub odd_cents_together : (odd : ℕ) (ws : List Winner) → sum_at (odd_cents_at odd ws) 0 ws ≡ min odd (winning_ways ws)
unfolding odd_cents_at
odd_cents_together odd ws =
    let all : List WinningWay = each_way 0 ws in
    let placed = all_first (Placed 0 (length ws)) odd (ranked all)
    (all_ranked (Placed 0 (length ws)) all (each_placed 0 (length ws) ws (omega arith))) in
    let at_zero : 0 + length ws ≡ length ws = omega arith in
    omega (
      arith,
      sum_of_places (take odd (ranked all)) 0 ws (subst (λ n. AllByRecursion (Placed 0 n) (take odd (ranked all))) (sym at_zero) placed),
      length-take odd (ranked all),
      length_permutation all (ranked all) (ranked_rearranged all),
      length_each 0 ws,
    )

-- ---- ticket by ticket

-- the winning ways with at least a stake, and those with a larger one
abbrev pub ways_from : ℕ → List Winner → ℕ
ways_from stake ws = sum (map (λ w. cond (leb stake w.stake) w.count 0) ws)

abbrev pub ways_above : ℕ → List Winner → ℕ
ways_above stake ws = sum (map (λ w. cond (ltb stake w.stake) w.count 0) ws)

passing_parts : (f : WinningWay → Bool) (place : ℕ) (vs ws : List Winner)
    → passing_in f place (vs ++ ws) ≡ passing_in f place vs + passing_in f (place + length vs) ws
passing_parts f place [] ws = let here : place ≡ place + 0 = omega arith in omega (arith, ap (λ n. passing_in f n ws) here)
passing_parts f place (v ∷ vs) ws =
    let there : suc place + length vs ≡ place + suc (length vs) = omega arith in
    omega (arith, passing_parts f (suc place) vs ws, ap (λ n. passing_in f n ws) there)

-- of one ticket more
pub passing_one_more : (f : WinningWay → Bool) (vs : List Winner) (w : Winner)
    → passing f (each_way 0 (vs ++ (w ∷ []))) ≡ passing f (each_way 0 vs) + cond (f (record { place = length vs; stake = w.stake })) w.count 0
passing_one_more f vs w =
    omega (
      arith,
      passing_each f 0 (vs ++ (w ∷ [])),
      passing_each f 0 vs,
      passing_parts f 0 vs (w ∷ []),
      ap (λ n. passing_in f n (w ∷ [])) (zero-add (length vs)),
    )

module _ (x : WinningWay) where
  -- of the tickets before a place those with at least its stake rank before it
  ahead_earlier : (place : ℕ) (ws : List Winner) → place + length ws ≤ x.place → passing_in (λ v. ranks_before v x) place ws ≡ ways_from x.stake ws
  unfolding sum
  ahead_earlier place [] h = refl
  ahead_earlier place (w ∷ ws) h =
      let before : ranks_before (record { place = place; stake = w.stake }) x ≡ leb x.stake w.stake = grind (arith, nat_tests) in
      omega (arith, ap (λ t. cond t w.count 0) before, ahead_earlier (suc place) ws (omega arith))

  -- and of those after it the ones with a larger stake
  ahead_later : (place : ℕ) (ws : List Winner) → x.place < place → passing_in (λ v. ranks_before v x) place ws ≡ ways_above x.stake ws
  unfolding sum
  ahead_later place [] h = refl
  ahead_later place (w ∷ ws) h =
      let before : ranks_before (record { place = place; stake = w.stake }) x ≡ ltb x.stake w.stake = grind (arith, nat_tests) in
      omega (arith, ap (λ t. cond t w.count 0) before, ahead_later (suc place) ws (omega arith))

  not_ahead : ranks_before x x ≡ false
  not_ahead = grind (arith, nat_tests)

-- the odd cents of a ticket that stands between others
pub odd_cents_between : (odd : ℕ) (front : List Winner) (w : Winner) (ws : List Winner)
    → odd_cents_at odd (front ++ (w ∷ ws)) (length front) ≡ min (odd - (ways_from w.stake front + ways_above w.stake ws)) w.count
odd_cents_between odd front w ws =
    let i : ℕ = length front in
    let x : WinningWay = record { place = i; stake = w.stake } in
    let ahead : WinningWay → Bool = λ v. ranks_before v x in
    let here : get_or (front ++ (w ∷ ws)) i no_winner ≡ w = get_or_push_front front w ws in
    let counted : passing ahead (each_way 0 (front ++ (w ∷ ws))) ≡ ways_from w.stake front + ways_above w.stake ws =
    omega (
      arith,
      passing_each ahead 0 (front ++ (w ∷ ws)),
      passing_parts ahead 0 front (w ∷ ws),
      ahead_earlier x 0 front (omega arith),
      ap (λ n. passing_in ahead n (w ∷ ws)) (zero-add i),
      ap (λ t. cond t w.count 0) (not_ahead x),
      ahead_later x (suc i) ws (omega arith),
    ) in
    odd_cents_left odd (front ++ (w ∷ ws)) i
    ∙ (λ k. min (odd - passing (λ v. ranks_before v (record { place = i; stake = (here k).stake })) (each_way 0 (front ++ (w ∷ ws)))) (here k).count)
    ∙ ap (λ n. min (odd - n) w.count) counted
  where
    get_or_push_front : (vs : List Winner) (v : Winner) (us : List Winner) → get_or (vs ++ (v ∷ us)) (length vs) no_winner ≡ v
    get_or_push_front [] v us = refl
    get_or_push_front (u ∷ vs) v us = get_or_push_front vs v us
