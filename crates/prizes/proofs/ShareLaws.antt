-- The shares of a jackpot's primary: each share as the code computes it, all of them within the primary, fewer odd cents than winning ways, and
-- so all of the primary paid out. Each rounded quotient is held between its bounds, times the stakes.
use mathlib.Core.Path.{◌≡◌, refl, sym, ap, ap₂, ◌∙◌}
use mathlib.Core.Bool.{Bool, true, false, cond}
use mathlib.Core.List.{List, [], ◌∷◌, ◌++◌, map}
use Prim.Native.Nat.{ℕ, zero, suc, ◌+◌, ◌*◌, ◌-◌, ◌/◌, ◌%◌, ◌≤◌, ◌<◌, min}
use native.Mathlib.Nat.{add-mul, mul-add, mul_assoc, mul_left_comm, mul_right_comm, zero-mul, le_trans, le_of_mul-le-mul_right, lt_of_mul-lt-mul_right, mul-le-mul_left, div-mul-le_self, div-add-mod', lt-div-mul-add, mul-add-div_right}
use native.Mathlib.Omega.{arith}
use lib.ListN.{length, get_or, length-map, length-append}
use lib.Dec.{leb}
use Rattle.std.proofs.lemmas.List.{append_assoc}
use borrow.Author.Tests.{ltb-true}
use Rattle.sale.specs.Lists.{sum}
use Rattle.prizes.specs.Jackpots.{Winner, winning_stakes, share_of, odd_cents, odd_cents_at, shares_with, shares_from, jackpot_won, jackpot_shares}
use Rattle.prizes.proofs.OddCents.{no_winner, ahead_of, odd_cents_left, ways_from, ways_above, odd_cents_between, sum_at, odd_cents_together}
pub use Rattle.prizes.proofs.OddCents.{winning_ways}

-- the rounded shares of all winning ways
abbrev pub whole_shares : ℕ → ℕ → List Winner → ℕ
whole_shares p s ws = sum (map (λ w. w.count * share_of p s w.stake) ws)

-- the quotient first, then the rest: the same share, with smaller products
pub share_by_parts : (p s stake : ℕ) → 0 < s → p / s * stake + p % s * stake / s ≡ share_of p s stake
unfolding share_of
share_by_parts p s stake pos =
    sym (mul-add-div_right pos (p / s * stake) (p % s * stake))
    ∙ ap (λ n. n / s) (rw (mul_right_comm (p / s) stake s, ← add-mul, div-add-mod' p s))

module _ (p s : ℕ) (pos : 0 < s) where
  -- so many ways of one stake: their shares are within the primary's part that their stakes are of all
  share_below : (count stake : ℕ) → count * share_of p s stake * s ≤ p * (count * stake)
  unfolding share_of
  share_below count stake =
      rw (mul_assoc count, mul_left_comm p count stake)
      (mul-le-mul_left count (div-mul-le_self (p * stake) s))

  -- and less than one cent for each way under it
  share_above : (count stake : ℕ) → p * (count * stake) + count ≤ count * share_of p s stake * s + count * s
  unfolding share_of
  share_above count stake =
      let one : p * stake + 1 ≤ p * stake / s * s + s = omega (arith, lt-div-mul-add {a = p * stake} pos) in
      let all : count * (p * stake + 1) ≤ count * (p * stake / s * s + s) = mul-le-mul_left count one in
      omega (arith, all, mul-add count (p * stake) 1, mul-add count (p * stake / s * s) s, mul_left_comm p count stake, mul_assoc count (p * stake / s) s)

  -- a ticket's shares are within the primary
  pub ticket_within : (count stake : ℕ) → count * stake ≤ s → count * share_of p s stake ≤ p
  ticket_within count stake part =
      le_of_mul-le-mul_right (le_trans (share_below count stake) (mul-le-mul_left p part)) pos

  shares_below : (ws : List Winner) → whole_shares p s ws * s ≤ p * winning_stakes ws
  unfolding sum winning_stakes
  shares_below [] = omega (arith, zero-mul s)
  shares_below (w ∷ ws) =
      omega (
        arith,
        share_below w.count w.stake,
        shares_below ws,
        add-mul (w.count * share_of p s w.stake) (whole_shares p s ws) s,
        mul-add p (w.count * w.stake) (winning_stakes ws),
      )

  shares_above : (ws : List Winner) → p * winning_stakes ws + winning_ways ws ≤ (whole_shares p s ws + winning_ways ws) * s
  unfolding sum winning_stakes
  shares_above [] = omega (arith, zero-mul s)
  shares_above (w ∷ ws) =
      omega (
        arith,
        share_above w.count w.stake,
        shares_above ws,
        add-mul (w.count * share_of p s w.stake) w.count s,
        add-mul (w.count * share_of p s w.stake + w.count) (whole_shares p s ws + winning_ways ws) s,
        mul-add p (w.count * w.stake) (winning_stakes ws),
      )

-- all of them: the shares, and an odd cent for each way while there are any
sum_shares_with : (odd_at : ℕ → ℕ) (place p s : ℕ) (ws : List Winner)
    → sum (shares_with odd_at place p s ws) ≡ whole_shares p s ws + sum_at odd_at place ws
unfolding sum shares_with
sum_shares_with odd_at place p s [] = refl
sum_shares_with odd_at place p s (w ∷ ws) = omega (arith, sum_shares_with odd_at (suc place) p s ws)

pub sum_shares_from : (odd p s : ℕ) (ws : List Winner) → sum (shares_from odd p s ws) ≡ whole_shares p s ws + min odd (winning_ways ws)
unfolding shares_from
sum_shares_from odd p s ws =
    omega (arith, sum_shares_with (odd_cents_at odd ws) 0 p s ws, odd_cents_together odd ws)

length_shares_with : (odd_at : ℕ → ℕ) (place p s : ℕ) (ws : List Winner) → length (shares_with odd_at place p s ws) ≡ length ws
unfolding shares_with
length_shares_with odd_at place p s [] = refl
length_shares_with odd_at place p s (w ∷ ws) = ap suc (length_shares_with odd_at (suc place) p s ws)

pub length_shares_from : (odd p s : ℕ) (ws : List Winner) → length (shares_from odd p s ws) ≡ length ws
unfolding shares_from
length_shares_from odd p s ws = length_shares_with (odd_cents_at odd ws) 0 p s ws

-- the ticket at a place gets its share, with what the ways that rank before its own leave of the odd cents
share_placed : (odd_at : ℕ → ℕ) (place p s : ℕ) (ws : List Winner) (i n : ℕ) → i < length ws → n ≡ place + i
    → get_or (shares_with odd_at place p s ws) i 0 ≡ (get_or ws i no_winner).count * share_of p s (get_or ws i no_winner).stake + odd_at n
unfolding shares_with
share_placed odd_at place p s [] i n h at = absurd (omega arith)
share_placed odd_at place p s (w ∷ ws) zero n h at =
    let here : place ≡ n = omega arith in ap (λ m. w.count * share_of p s w.stake + odd_at m) here
share_placed odd_at place p s (w ∷ ws) (suc i) n h at = share_placed odd_at (suc place) p s ws i n (omega arith) (omega arith)

pub share_at : (odd p s : ℕ) (ws : List Winner) (i : ℕ) → i < length ws
    → get_or (shares_from odd p s ws) i 0
    ≡ (get_or ws i no_winner).count * share_of p s (get_or ws i no_winner).stake + min (odd - ahead_of ws i) (get_or ws i no_winner).count
unfolding shares_from
share_at odd p s ws i h =
    share_placed (odd_cents_at odd ws) 0 p s ws i i h (omega arith)
    ∙ ap (λ n. (get_or ws i no_winner).count * share_of p s (get_or ws i no_winner).stake + n) (odd_cents_left odd ws i)

-- the shares ticket by ticket, from how many ways of the tickets before them have at least so large a stake
unfoldable pub shares_behind : (ℕ → ℕ) → ℕ → ℕ → ℕ → List Winner → List ℕ
shares_behind before odd p s [] = []
shares_behind before odd p s (w ∷ ws) =
    (w.count * share_of p s w.stake + min (odd - (before w.stake + ways_above w.stake ws)) w.count)
    ∷ shares_behind (λ x. before x + cond (leb x w.stake) w.count 0) odd p s ws

one_more : (f : Winner → ℕ) (vs : List Winner) (w : Winner) → sum (map f (vs ++ (w ∷ []))) ≡ sum (map f vs) + f w
unfolding sum
one_more f [] w = omega arith
one_more f (v ∷ vs) w = omega (arith, one_more f vs w)

module _ (odd p s : ℕ) where
  behind_front : (front ws : List Winner)
      → shares_with (odd_cents_at odd (front ++ ws)) (length front) p s ws ≡ shares_behind (λ x. ways_from x front) odd p s ws
  unfolding shares_with shares_behind
  behind_front front [] = refl
  behind_front front (w ∷ ws) =
      ap₂ (λ (n : ℕ) (l : List ℕ). (w.count * share_of p s w.stake + n) ∷ l) (odd_cents_between odd front w ws)
      ((λ k. shares_with (odd_cents_at odd (sym (append_assoc front (w ∷ []) ws) k)) (longer k) p s ws)
      ∙ behind_front (front ++ (w ∷ [])) ws
      ∙ (λ k. shares_behind (λ x. more x k) odd p s ws))
    where
      longer : suc (length front) ≡ length (front ++ (w ∷ []))
      longer = omega (arith, length-append front (w ∷ []))

      more : (x : ℕ) → ways_from x (front ++ (w ∷ [])) ≡ ways_from x front + cond (leb x w.stake) w.count 0
      more x = one_more (λ v. cond (leb x v.stake) v.count 0) front w

  pub shares_in_turn : (ws : List Winner) → shares_from odd p s ws ≡ shares_behind (λ x. 0) odd p s ws
  unfolding shares_from sum
  shares_in_turn ws = behind_front [] ws

-- where no way wins there are no winning stakes
no_ways : (ws : List Winner) → winning_ways ws ≡ 0 → winning_stakes ws ≡ 0
unfolding sum winning_stakes
no_ways [] none = refl
no_ways (w ∷ ws) none =
    let first : w.count ≡ 0 = omega arith in
    let rest : winning_ways ws ≡ 0 = omega arith in
    rw (first, zero-mul) (omega (arith, no_ways ws rest))

some_way : (ws : List Winner) → 0 < winning_stakes ws → 0 < winning_ways ws
some_way ws pos = go (winning_ways ws) refl
  where
    go : (n : ℕ) → winning_ways ws ≡ n → 0 < n
    go zero none = omega (arith, no_ways ws none)
    go (suc n) some = omega arith

module _ (p : ℕ) (ws : List Winner) (pos : 0 < winning_stakes ws) where
  -- the rounded shares are within the primary
  pub whole_within : whole_shares p (winning_stakes ws) ws ≤ p
  whole_within = le_of_mul-le-mul_right (shares_below p (winning_stakes ws) pos ws) pos

  under_one_each : p * winning_stakes ws < (whole_shares p (winning_stakes ws) ws + winning_ways ws) * winning_stakes ws
  under_one_each = omega (arith, shares_above p (winning_stakes ws) pos ws, some_way ws pos)

  -- there are fewer odd cents than winning ways, so that one cent to a way is enough
  pub odd_few : odd_cents p (winning_stakes ws) ws < winning_ways ws
  unfolding odd_cents
  odd_few = omega (arith, some_way ws pos, lt_of_mul-lt-mul_right (winning_stakes ws) under_one_each)

  -- with the odd cents the shares are the primary
  all_shared : sum (shares_from (odd_cents p (winning_stakes ws) ws) p (winning_stakes ws) ws) ≡ p
  unfolding odd_cents
  all_shared =
      omega
      (arith, sum_shares_from (odd_cents p (winning_stakes ws) ws) p (winning_stakes ws) ws, whole_within, odd_few)

sum_none : (ws : List Winner) → sum (map (λ w. 0) ws) ≡ 0
unfolding sum
sum_none [] = refl
sum_none (w ∷ ws) = omega (arith, sum_none ws)

-- a won jackpot's shares are together exactly the primary
pub won_shares : (p : ℕ) (ws : List Winner) → jackpot_won ws ≡ true → sum (jackpot_shares p ws) ≡ p
unfolding jackpot_shares
won_shares p ws won = rw won (all_shared p ws (ltb-true 0 (winning_stakes ws) (unfold jackpot_won in won)))

-- a ticket gets its rounded shares and its odd cents
pub share_with_odd : (p : ℕ) (ws : List Winner) → jackpot_won ws ≡ true → (i : ℕ) → i < length ws
    → get_or (jackpot_shares p ws) i 0
    ≡ (get_or ws i no_winner).count * share_of p (winning_stakes ws) (get_or ws i no_winner).stake + odd_cents_at (odd_cents p (winning_stakes ws) ws) ws i
unfolding jackpot_shares shares_from
share_with_odd p ws won i h =
    rw won (share_placed (odd_cents_at (odd_cents p (winning_stakes ws) ws) ws) 0 p (winning_stakes ws) ws i i h (omega arith))

-- one that nobody won pays nothing
pub no_shares : (p : ℕ) (ws : List Winner) → jackpot_won ws ≡ false → sum (jackpot_shares p ws) ≡ 0
unfolding jackpot_shares
no_shares p ws none = rw none (sum_none ws)

-- one amount for each ticket
pub length_shares : (p : ℕ) (ws : List Winner) → length (jackpot_shares p ws) ≡ length ws
unfolding jackpot_shares
length_shares p ws = go (jackpot_won ws)
  where
    go : (t : Bool) →
        length (cond t (shares_from (odd_cents p (winning_stakes ws) ws) p (winning_stakes ws) ws) (map (λ w. 0) ws)) ≡ length ws
    go true = length_shares_from (odd_cents p (winning_stakes ws) ws) p (winning_stakes ws) ws
    go false = length-map ws (λ w. 0)
