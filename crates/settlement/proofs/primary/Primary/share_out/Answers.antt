-- `settlement::primary::Primary::share_out` meets its contract: what nobody won pays nothing, and what was won is paid whole.
use Prim.Native.Nat.{◌+◌, ◌<◌}
use mathlib.Core.Path.{sym, ap, subst, ◌∙◌}
use mathlib.Core.List.{zip_with}
use native.Mathlib.Omega.{arith}
use lib.ListN.{length}
use Rattle.sale.specs.Kinds.{number_of}
use Rattle.prizes.proofs.ShareLaws.{won_shares, no_shares}
use Rattle.settlement.specs.Passing.{full_of}
use Rattle.settlement.specs.Sharing.{winners_in}
use Rattle.settlement.proofs.SharingLaws.{length_winners, not_won, is_won, shares_if_won, shares_if_not}
use Rattle.settlement.proofs.primary.Primary.share_out.Goals as goal

pub returns-then-self-eq0 : goal.returns-then-self-eq0
returns-then-self-eq0 c =
    let primary = c.args.self.now in
    let winners = winners_in primary.rows.now (full_of primary.ways.now) (number_of primary.jackpot) (length primary.ways.now) in
    let none = sym primary.shared.total ∙ c.if-self-eq0.true in
    record {
      together = sym (no_shares primary.cents winners (not_won winners none));
      each = shares_if_not primary.cents c.args.paid.now winners none
          (omega (arith, c.requires.places, length_winners primary.rows.now (full_of primary.ways.now) (number_of primary.jackpot) (length primary.ways.now)));
    }

pub returns : goal.returns
returns c =
    let primary = c.args.self.now in
    let winners = winners_in primary.rows.now (full_of primary.ways.now) (number_of primary.jackpot) (length primary.ways.now) in
    let some : 0 < primary.stakes = omega (arith, c.if-self-eq0.false) in
    record {
      together = sym (won_shares primary.cents winners (is_won winners (subst (λ n. 0 < n) primary.shared.total some)));
      each = c.add_shares.ensures
          ∙ ap (zip_with ◌+◌ c.args.paid.now) (sym (shares_if_won winners primary.cents c.odd_cents.result primary.stakes primary.shared.total some c.odd_cents.ensures));
    }
