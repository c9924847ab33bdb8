-- A number in decimal: its last digit stands behind those of its tenth, a number below 10 ^ k has at most k digits, and they are what std prints, so that each is ASCII.
use Prim.Native.Nat.{ℕ, zero, suc, ◌+◌, ◌*◌, ◌/◌, ◌%◌, ◌^◌, ◌≤◌, ◌<◌}
use native.Mathlib.Nat.{pow-suc}
use native.Mathlib.Omega.{arith}
use mathlib.Core.Path.{◌≡◌, refl, sym, ap, subst}
use mathlib.Core.Bool.{Bool, true, false}
use mathlib.Core.List.{[], ◌∷◌, ◌++◌}
use lib.Dec.{ltb}
use lib.ListN.{length, length-append}
use Rattle.std.specs.Fmt as Fmt
use Rattle.std.specs.Str.{IsAscii}
use Rattle.std.proofs.lemmas.Fmt.{AppendsLastDigit, decimal_from_appends, length-decimal-le_succ, IsAscii-decimal}
use borrow.Author.Tests.{lt-ltb, le-ltb, ltb-true, ltb-false}
use Rattle.text.specs.Lines.{digits_within, decimal, figure, four_figures}

-- as many places as one likes, if there are enough
more_places : (j k n : ℕ) → n < j → n < k → digits_within j n ≡ digits_within k n
unfolding digits_within
more_places zero k n fits fits' = absurd (omega arith)
more_places (suc j) zero n fits fits' = absurd (omega arith)
more_places (suc j) (suc k) n fits fits' =
    go (ltb n 10) refl (λ large. more_places j k (n / 10) (omega arith) (omega arith))
  where
    go : (small : Bool) → ltb n 10 ≡ small → (10 ≤ n → digits_within j (n / 10) ≡ digits_within k (n / 10)) → digits_within (suc j) n ≡ digits_within (suc k) n
    go true e same = rw e
    go false e same = rw e (ap (λ d. d ++ ((48 + n % 10) ∷ [])) (same (ltb-false n 10 e)))

pub decimal_small : (n : ℕ) → n < 10 → decimal n ≡ (48 + n) ∷ []
unfolding decimal digits_within
decimal_small n small = rw (lt-ltb n 10 small)

pub decimal_large : (n : ℕ) → 10 ≤ n → decimal n ≡ decimal (n / 10) ++ ((48 + n % 10) ∷ [])
unfolding decimal digits_within
decimal_large n large =
    rw (le-ltb n 10 large)
    (ap (λ d. d ++ ((48 + n % 10) ∷ [])) (more_places n (suc (n / 10)) (n / 10) (omega arith) (omega arith)))

-- a number below 10 ^ k has at most k digits
pub decimal_long : (k n : ℕ) → n < 10 ^ k → 1 ≤ k → length (decimal n) ≤ k
decimal_long zero n fits some = absurd (omega arith)
decimal_long (suc k) n fits some = go (ltb n 10) refl
    (λ large. decimal_long k (n / 10) (omega (arith, pow-suc 10 k)) (tens k large (omega (arith, pow-suc 10 k))))
  where
    -- a number of ten or more has a second place
    tens : (k : ℕ) → 10 ≤ n → n < 10 * 10 ^ k → 1 ≤ k
    tens zero large fits = absurd (omega arith)
    tens (suc k) large fits = omega arith

    go : (small : Bool) → ltb n 10 ≡ small → (10 ≤ n → length (decimal (n / 10)) ≤ k) → length (decimal n) ≤ suc k
    go true e shorter = rw (decimal_small n (ltb-true n 10 e)) (omega arith)
    go false e shorter =
        let large = ltb-false n 10 e in
        rw (decimal_large n large) (omega (arith, shorter large, length-append (decimal (n / 10)) ((48 + n % 10) ∷ [])))

pub figure_long : (n end : ℕ) → length (figure n end) ≡ length (decimal n) + 1
unfolding figure
figure_long n end = length-append (decimal n) (end ∷ [])

pub four_long :
    (a b c d end : ℕ)
    → length (four_figures a b c d end) ≡ length (figure a 32) + length (figure b 32) + length (figure c 32) + length (figure d end)
unfolding four_figures
four_long a b c d end = simp length-append (omega arith)

appends : AppendsLastDigit digits_within
unfolding digits_within
appends = record { one = λ k n small. rw (lt-ltb n 10 small); more = λ k n large. rw (le-ltb n 10 large) }

pub as_printed : (n : ℕ) → n < 2 ^ 64 → decimal n ≡ Fmt.decimal n
unfolding decimal
as_printed n fits = decimal_from_appends digits_within appends (suc n) n fits (omega (arith, length-decimal-le_succ n fits))

pub decimal_ascii : (n : ℕ) → n < 2 ^ 64 → IsAscii (decimal n)
decimal_ascii n fits = subst IsAscii (sym (as_printed n fits)) (IsAscii-decimal n fits)
