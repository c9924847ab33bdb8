-- `settlement::shares::settle_jackpot` meets its contract: the walks over the rows find the stakes, winners and shares of the game's entries, and the
-- pools move as the definition says.
use Prim.Native.Nat.{ℕ, ◌+◌, ◌*◌, ◌/◌, ◌≤◌, ◌<◌, ◌^◌}
use mathlib.Core.Path.{◌≡◌, refl, sym, ap, subst⁻¹, ◌∙◌}
use mathlib.Core.List.{List, zip_with}
use native.Mathlib.Omega.{arith}
use Rattle.sale.specs.Lists.{sum}
use Rattle.sale.specs.Price.{charge_limit}
use Rattle.prizes.specs.Jackpots.{jackpot_shares}
use Rattle.sale.specs.Kinds.{number_of}
use Rattle.settlement.specs.Passing.{full_of}
use Rattle.settlement.specs.Sharing.{stakes_in, winners_in, Shareable}
use Rattle.settlement.specs.Drawn.{Matched}
use Rattle.settlement.specs.declared.drawn_game.DrawnGame.{DrawnGame}
use Rattle.settlement.specs.declared.ways.TicketWays.{TicketWays}
use Rattle.settlement.proofs.SharingLaws.{entered, matched_count, stakes_within, grown_roomy, guarantee_within, shared_out}
use borrow.Author.Rules.{rules}
use Rattle.settlement.proofs.shares.settle_jackpot.Goals as goal

-- a jackpot's stakes in the rows
paid_few : (g : DrawnGame) (ways : List TicketWays) (j paid : ℕ) → Matched g ways → paid ≡ stakes_in g.rows.now g.game j g.live → paid ≤ 200 * charge_limit
paid_few g ways j paid matches here =
    let entries = entered g (full_of ways) matches in
    omega (arith, here, entries.few, stakes_within g.rows.now g.game (full_of ways) g.live entries j g.live (omega arith))

pub contributed-grown-requires : goal.contributed-grown-requires
contributed-grown-requires c =
    let args = c.args in
    let few = paid_few args.game.now args.ways.now (number_of args.stakes.jackpot) args.stakes.paid c.requires.matches (ap (λ r. r.paid) c.requires.stakes) in
    search rules

pub invariant_of-primary : goal.invariant_of-primary
invariant_of-primary c =
    let args = c.args in
    let game = args.game.now in
    let few = paid_few game args.ways.now (number_of args.stakes.jackpot) args.stakes.paid c.requires.matches (ap (λ r. r.paid) c.requires.stakes) in
    record {
      shared = subst⁻¹ (λ n. Shareable game.rows.now (full_of args.ways.now) (number_of args.stakes.jackpot) n c.contributed-grown.result.primary args.stakes.winning)
          (matched_count game args.ways.now c.requires.matches)
          (record {
            entered = entered game (full_of args.ways.now) c.requires.matches;
            total = ap (λ r. r.winning) c.requires.stakes;
            pool = (grown_roomy args.stakes.paid args.before c.contributed-grown.result c.contributed-grown.ensures few c.requires.pools).0;
          });
    }

pub share_out-shares-requires : goal.share_out-shares-requires
share_out-shares-requires c =
    let count = matched_count c.args.game.now c.args.ways.now c.requires.matches in
    record { places = c.requires.places ∙ sym count; room = λ i b. c.requires.room i (omega (arith, count)) }

pub reseeded-next-requires : goal.reseeded-next-requires
reseeded-next-requires c =
    let args = c.args in
    let few = paid_few args.game.now args.ways.now (number_of args.stakes.jackpot) args.stakes.paid c.requires.matches (ap (λ r. r.paid) c.requires.stakes) in
    record {
      room = (grown_roomy args.stakes.paid args.before c.contributed-grown.result c.contributed-grown.ensures few c.requires.pools).1;
      limit = subst⁻¹ (λ n. n < 2 ^ 63) c.guarantee_of-guarantee.ensures (guarantee_within (number_of args.stakes.jackpot));
    }

pub returns : goal.returns
returns c =
    let args = c.args in
    let game = args.game.now in
    let count = matched_count game args.ways.now c.requires.matches in
    let grown = c.contributed-grown.result in
    shared_out game (full_of args.ways.now) c.requires.matches (number_of args.stakes.jackpot) args.before grown c.reseeded-next.result args.paid.now c.share_out-shares.new.paid
    (record { after = c.repaid.result; shares = c.share_out-shares.result; contributions = 25 * (args.stakes.paid / 100); seed = c.seed.result; repaid = c.repayment.result })
    args.stakes.paid args.stakes.winning c.guarantee_of-guarantee.result
    (ap (λ r. r.paid) c.requires.stakes) (ap (λ r. r.winning) c.requires.stakes) c.contributed-grown.ensures c.guarantee_of-guarantee.ensures c.reseeded-next.ensures
    c.repaid.ensures
    (c.share_out-shares.ensures.together ∙ (λ k. sum (jackpot_shares grown.primary (winners_in game.rows.now (full_of args.ways.now) (number_of args.stakes.jackpot) (count k)))))
    refl c.seed.ensures c.repayment.ensures
    (c.share_out-shares.ensures.each
    ∙ (λ k. zip_with ◌+◌ args.paid.now (jackpot_shares grown.primary (winners_in game.rows.now (full_of args.ways.now) (number_of args.stakes.jackpot) (count k)))))
