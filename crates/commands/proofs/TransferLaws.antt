-- Transfer's table by tests on the struct, and the room that a reached house's primaries have.
use Prim.Native.Nat.{ℕ, ◌+◌, ◌<◌, ◌^◌}
use native.Mathlib.Omega.{arith}
use mathlib.Core.Path.{◌≡◌, refl, sym, ap, ◌∙◌}
use mathlib.Core.Bool.{Bool, true, false, cond, not, ◌||◌}
use mathlib.Core.List.{List}
use lib.Dec.{ltb, eqb}
use borrow.Author.Tests.{eqb-true}
use Rattle.std.specs.Prelude.{None, Some, Result, Ok, Err, ok_or}
use Rattle.refusals.specs.Refusal.{refusal_number, code_in}
use Rattle.refusals.specs.declared.refusal.Refusal.{Refusal}
use Rattle.refusals.specs.declared.refusal.Refusal.TheVariants.{UnknownJackpot}
use Rattle.sale.specs.Kinds.{number_of, jackpot_named, jackpot_operand}
use Rattle.sale.specs.Checks.{first_met}
use Rattle.sale.specs.declared.terms.JackpotKind.{JackpotKind}
use Rattle.sale.specs.declared.terms.JackpotKind.TheVariants.{Six, Eight}
use Rattle.prizes.specs.declared.jackpot.Jackpot.{Jackpot}
use Rattle.house.specs.Model.{with_transferred}
use Rattle.house.specs.Commands.{transfer, rows_of, code_of, with_primary, transferred, act, reply}
use Rattle.house.specs.View.{view}
use Rattle.house.specs.Parts.{Comes, Carried}
use Rattle.house.specs.declared.state.House.{House}
use Rattle.house.proofs.ReachedHouses.{Sure, reached_sure}
use Rattle.house.proofs.ViewLaws.{carried_done, view_drawing}

-- what an operand says of Transfer's second row, and that it is the number of the jackpot that it names
abbrev number_found : Result JackpotKind Refusal → ℕ
number_found (Ok kind) = number_of kind
number_found (Err refusal) = 0

abbrev found_by : Bool → Bool → Result JackpotKind Refusal
found_by six eight = ok_or (cond six (Some Six) (cond eight (Some Eight) None)) UnknownJackpot

named : (j : ℕ) (kind : JackpotKind) (six eight : Bool) → eqb j 6 ≡ six → eqb j 8 ≡ eight → Ok kind ≡ found_by six eight → (number_of kind ≡ j) × ((six || eight) ≡ true)
named j kind true eight s e found = (ap number_found found ∙ sym (eqb-true j 6 s), refl)
named j kind false true s e found = (ap number_found found ∙ sym (eqb-true j 8 e), refl)
named j kind false false s e found = cc

unnamed : (refusal : Refusal) (six eight : Bool) → Err refusal ≡ found_by six eight → (refusal_number refusal ≡ 28) × ((six || eight) ≡ false)
unnamed refusal true eight found = cc
unnamed refusal false true found = cc
unnamed refusal false false found = (ap code_in found, refl)

module _ (j : ℕ) where
  pub operand_named : (kind : JackpotKind) → Ok kind ≡ jackpot_operand j → number_of kind ≡ j
  unfolding jackpot_named
  operand_named kind found = (named j kind (eqb j 6) (eqb j 8) refl refl found).0

  pub operand_known : (kind : JackpotKind) → Ok kind ≡ jackpot_operand j → (eqb j 6 || eqb j 8) ≡ true
  unfolding jackpot_named
  operand_known kind found = (named j kind (eqb j 6) (eqb j 8) refl refl found).1

  pub operand_unnamed : (refusal : Refusal) → Err refusal ≡ jackpot_operand j → (refusal_number refusal ≡ 28) × ((eqb j 6 || eqb j 8) ≡ false)
  unfolding jackpot_named
  operand_unnamed refusal found = unnamed refusal (eqb j 6) (eqb j 8) found

pub transfer_code :
    (h : House) (words marks : List ℕ) (j cents : ℕ)
    → code_of (view h words marks) (transfer j cents)
    ≡ cond (eqb h.day 0) 4 (cond (not (eqb j 6 || eqb j 8)) 28 (cond (not (eqb h.drawn 0)) 6 (cond (eqb cents 0 || ltb h.counters.unclaimed cents) 29 0)))
unfolding code_of rows_of first_met view
transfer_code h words marks j cents = rw (view_drawing h words marks)

-- what a primary can take in
pub record Room (h : House) : Type 0 where
  pub six : h.six.primary < 2 ^ 62
  pub eight : h.eight.primary < 2 ^ 62

pub room : (h : House) → Comes h → Room h
unfolding view
room h comes =
    let sure : Sure (view h comes.words comes.marks) = reached_sure (view h comes.words comes.marks) comes.reached in
    record { six = omega (arith, sure.fit.six); eight = omega (arith, sure.fit.eight) }

-- the house with such pools, and with less unclaimed
abbrev pub with_pools : House → Jackpot → Jackpot → ℕ → House
with_pools h six eight cents = record h { six = six; eight = eight; counters = with_transferred cents h.counters }

pub transfer_done :
    (h : House) (words marks : List ℕ) (j cents : ℕ) (next : House) (number primary : ℕ)
    → code_of (view h words marks) (transfer j cents) ≡ 0
    → next
    ≡ with_pools h (cond (eqb j 6) (with_primary h.six (h.six.primary + cents)) h.six)
    (cond (eqb j 6) h.eight (with_primary h.eight (h.eight.primary + cents))) cents
    → number ≡ j
    → primary ≡ (cond (eqb j 6) h.six h.eight).primary + cents
    → Carried h words marks (transfer j cents) next words marks (record { code = 0; number = number; cents = primary })
unfolding act reply transferred view
transfer_done h words marks j cents next number primary coded after n k =
    carried_done h words marks (transfer j cents) next words marks _ coded (ap (λ x. view x words marks) after)
    (λ i. record { code = 0; number = n i; cents = k i })
