-- The test by which a prize joins the floored is the document's own inequality over the integers, p × A < 20,000 × B, where
-- A = 5,000,000 - 20,000 × size of F may be below zero.
use mathlib.Core.Path.{◌≡◌, refl, sym, ap, ◌∙◌}
use mathlib.Core.Bool.{Bool, true, false}
use Prim.Native.Nat.{ℕ, zero, suc, ◌+◌, ◌*◌, ◌-◌, ◌≤◌, ◌<◌}
use native.Mathlib.Nat.{mul-add, mul-zero}
use native.Mathlib.Omega.{arith}
use mathlib.Core.List.{List}
use lib.Dec.{ltb}
use lib.IntN.{pos, neg_ℤ, ◌-ℤ◌, ◌*ℤ◌, sub_ℕ}
use lib.Signed.{lt_z}
use borrow.Author.Tests.{lt-ltb, ltb-true, ltb-false}
use Rattle.prizes.specs.Prize.{major_floor}
use Rattle.prizes.specs.Cut.{majors_limit, Floored, floor_count, cut_base, joins}
use Rattle.sale.proofs.KeepLaws.{ltb_same}

-- -x < n
neg_lt : (x n : ℕ) → lt_z (neg_ℤ (pos x)) (pos n) ≡ ltb 0 (n + x)
neg_lt zero n = ltb_same 0 n 0 (n + 0) (λ h. omega arith) (λ h. omega arith)
neg_lt (suc x) n = sym (lt-ltb 0 (n + suc x) (omega arith))

-- p × (a - d) < n, with p × d brought to the other side
signed_test : (p a d n : ℕ) → lt_z (pos p *ℤ (pos a -ℤ pos d)) (pos n) ≡ ltb (p * a) (n + p * d)
signed_test p a zero n =
    ltb_same (p * (a + 0)) n (p * a) (n + p * 0)
    (λ h. omega (arith, mul-add p a 0, mul-zero p))
    (λ h. omega (arith, mul-add p a 0, mul-zero p))
signed_test p a (suc d) n = go (ltb a (suc d)) refl
  where
    go : (t : Bool) → ltb a (suc d) ≡ t → lt_z (pos p *ℤ sub_ℕ a (suc d)) (pos n) ≡ ltb (p * a) (n + p * suc d)
    go true e =
        let less : a < suc d = ltb-true a (suc d) e in
        let parts : suc d ≡ suc (suc d - suc a) + a = omega arith in
        let products : p * suc d ≡ p * suc (suc d - suc a) + p * a = ap (λ (x : ℕ). p * x) parts ∙ mul-add p _ a in
        rw e
        (neg_lt (p * suc (suc d - suc a)) n
        ∙ ltb_same 0 (n + p * suc (suc d - suc a)) (p * a) (n + p * suc d) (λ h. omega arith) (λ h. omega arith))
    go false e =
        let more : suc d ≤ a = ltb-false a (suc d) e in
        let parts : a ≡ (a - suc d) + suc d = omega arith in
        let products : p * a ≡ p * (a - suc d) + p * suc d = ap (λ (x : ℕ). p * x) parts ∙ mul-add p _ (suc d) in
        rw e (ltb_same (p * (a - suc d)) n (p * a) (n + p * suc d) (λ h. omega arith) (λ h. omega arith))

-- "Every p outside F with p × A < 20,000 × B joins F", A = 5,000,000 - 20,000 × size of F
pub joins_signed : (ps : List ℕ) (f : Floored) (p : ℕ) →
    joins ps f p ≡ lt_z (pos p *ℤ (pos majors_limit -ℤ pos major_floor *ℤ pos (floor_count f ps))) (pos major_floor *ℤ pos (cut_base f ps))
unfolding joins
joins_signed ps f p = sym (signed_test p majors_limit (major_floor * floor_count f ps) (major_floor * cut_base f ps))
