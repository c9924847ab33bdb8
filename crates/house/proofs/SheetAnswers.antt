-- The sheet's answers are the house's, where a command's number or cents are found by another way; and both start alike: a fresh sheet is that of
-- a fresh ledger, whose till balances.
use Prim.Native.Nat.{ℕ, ◌+◌}
use mathlib.Core.Path.{◌≡◌, refl, sym, ap, ap₂, ◌∙◌}
use mathlib.Core.Bool.{Bool, true, false, cond}
use mathlib.Core.List.{[], ◌∷◌}
use lib.Dec.{eqb}
use lib.ListN.{length, length-append, length-map}
use Rattle.sale.specs.Lists.{sum}
use Rattle.sale.specs.Checks.{Operands, charge_of}
use Rattle.house.specs.Model.{Model, fresh}
use Rattle.house.specs.Commands.{replies, sell, cancel, ball, claim, expire, transfer, collect, call_off, has_ticket, expiring, reply}
use Rattle.house.specs.Till.{till_of}
use Rattle.house.specs.Sheet.{sheet_reply}
use Rattle.house.specs.Balance.{Balanced}
use Rattle.house.proofs.Ledger.{Orderly, house_of, line_of, sheet_for}
use Rattle.house.proofs.SheetFigures.{cancel_total, claim_total, late_dues_lem, settlements_alike, stakes_alike}
use Rattle.house.proofs.SheetSteps.{twentieth_alike}

module _ (m : Model) (orderly : Orderly m) where
  pub sold_reply : (o : Operands) → reply (house_of m) (sell o) ≡ sheet_reply (sheet_for m) (sell o)
  unfolding reply sheet_reply
  sold_reply o = ap (λ n. replies (n + 1) (charge_of o)) (orderly.issued ∙ sym (length-map m.live (line_of m.game)))

  pub cancelled_reply : (n : ℕ) → has_ticket n (house_of m).live ≡ true → reply (house_of m) (cancel n) ≡ sheet_reply (sheet_for m) (cancel n)
  unfolding reply sheet_reply
  cancelled_reply n here = ap (replies n) (sym (cancel_total m n orderly here))

  pub ball_reply : (b : ℕ) → reply (house_of m) (ball b) ≡ sheet_reply (sheet_for m) (ball b)
  unfolding reply sheet_reply
  ball_reply b =
      let balls = length-append m.balls (b ∷ []) in
      let last = sym (twentieth_alike m b) in
      let game = sym (settlements_alike m b orderly) in
      λ i. replies (balls i) (cond (last i) ((game i).prizes + (game i).shares) 0)

  pub claimed_reply : (n : ℕ) → has_ticket n (house_of m).live ≡ true → reply (house_of m) (claim n) ≡ sheet_reply (sheet_for m) (claim n)
  unfolding reply sheet_reply
  claimed_reply n here = ap (replies n) (sym (claim_total m n orderly here))

  pub collected_reply : (n : ℕ) → has_ticket n (house_of m).live ≡ true → reply (house_of m) (collect n) ≡ sheet_reply (sheet_for m) (collect n)
  unfolding reply sheet_reply
  collected_reply n here =
      ap₂ (λ n due. replies (n + 1) due) (orderly.issued ∙ sym (length-map m.live (line_of m.game))) (sym (claim_total m n orderly here))

  pub called_off_reply : reply (house_of m) call_off ≡ sheet_reply (sheet_for m) call_off
  unfolding reply sheet_reply
  called_off_reply = ap (replies m.game) (sym (stakes_alike m orderly))

pub expired_reply : (m : Model) → reply (house_of m) expire ≡ sheet_reply (sheet_for m) expire
unfolding reply sheet_reply
expired_reply m =
    ap₂ replies (sym (ap length (late_dues_lem m) ∙ length-map (expiring (house_of m)) (λ t. t.due))) (ap sum (sym (late_dues_lem m)))

pub transferred_reply : (m : Model) (j cents : ℕ) → reply (house_of m) (transfer j cents) ≡ sheet_reply (sheet_for m) (transfer j cents)
unfolding reply sheet_reply
transferred_reply m j cents = ap (λ n. replies j (n + cents)) (go (eqb j 6))
  where
    go : (six : Bool) → (cond six m.six m.eight).primary ≡ cond six m.six.primary m.eight.primary
    go true = refl
    go false = refl

pub balanced_fresh : Balanced (till_of fresh)
unfolding till_of sum
balanced_fresh = refl
