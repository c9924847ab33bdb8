-- "At the twentieth ball, in this order: contributions; prizes and cuts; each full match shares the primary [..]. If there was a winner: the
-- secondary moves into the primary, and the house adds a seed [..]. Last, reimbursement pays the house [..]": one game, from the tickets that run in
-- it to what each of them is due. And of Lucky Last: "Feature prizes are neither capped, major nor cut".
use Rattle.std.specs.Prelude.{ℕ, ◌+◌, Bool, cond, eqb, length}
use mathlib.Core.List.{List, [], ◌∷◌, ◌++◌, map, zip_with}
use Rattle.sale.specs.Lists.{sum, keep}
use Rattle.sale.specs.Kinds.{jackpot_by}
use Rattle.sale.specs.Ways.{sizes, ways, mask_sum}
use Rattle.prizes.specs.Hits.{hits}
use Rattle.prizes.specs.Prize.{prize, is_major}
use Rattle.prizes.specs.Cut.{payout}
use Rattle.prizes.specs.LuckyLast.{lucky_last_prize}
use Rattle.prizes.specs.Jackpots.{guarantee_of_six, guarantee_of_eight, contribution, contributed, Winner, jackpot_won, jackpot_shares, seed_of, reseeded, repaid_of, repaid}
use Rattle.prizes.specs.declared.draw.Draw.{Draw}
use Rattle.sale.specs.declared.terms.Terms.{Terms}
use Rattle.prizes.specs.declared.jackpot.Jackpot.{Jackpot}

-- a ticket that runs in the game, with its paid stakes for it, which are 0 for a free game, and the feature stake that it plays for, free game or not: 0
-- where it has no feature
pub record Entry : Type 0 where
  pub terms : Terms
  pub marks : List ℕ
  pub paid : ℕ
  pub feature : ℕ

-- the prize of each way, before any cut, from the sizes and hits of the groups
unfoldable pub prizes_by : Terms → List ℕ → List ℕ → List ℕ
prizes_by t sizes hits =
    map (λ m. prize t.kind t.stake (mask_sum m sizes) (mask_sum m hits)) (ways t.groups t.types)

-- the ways that match every number they select
unfoldable pub full_by : Terms → List ℕ → List ℕ → ℕ
full_by t sizes hits = length (keep (λ m. eqb (mask_sum m hits) (mask_sum m sizes)) (ways t.groups t.types))

abbrev pub way_prizes : Draw → Entry → List ℕ
way_prizes draw e = prizes_by e.terms (sizes e.marks) (hits draw e.marks)

abbrev pub full_matches : Draw → Entry → ℕ
full_matches draw e = full_by e.terms (sizes e.marks) (hits draw e.marks)

abbrev pub plays_for : ℕ → Entry → Bool
plays_for j e = eqb (jackpot_by e.terms (sizes e.marks)) j

unfoldable pub winner_of : ℕ → Draw → Entry → Winner
winner_of j draw e = record { count = cond (plays_for j e) (full_matches draw e) 0; stake = e.terms.stake }

-- the paid stakes that contribute to a jackpot
unfoldable pub paid_for : ℕ → List Entry → ℕ
paid_for j es = sum (map (λ e. cond (plays_for j e) e.paid 0) es)

-- all major prizes of a game
unfoldable pub majors_of : Draw → List Entry → List ℕ
majors_of draw [] = []
majors_of draw (e ∷ es) = keep is_major (way_prizes draw e) ++ majors_of draw es

-- a ticket's prizes as cut, each way by itself
unfoldable pub prizes_of : List ℕ → Draw → Entry → ℕ
prizes_of majors draw e = sum (map (payout majors) (way_prizes draw e))

-- and its feature prize beside them, whole
unfoldable pub all_prizes_of : List ℕ → Draw → Entry → ℕ
all_prizes_of majors draw e = prizes_of majors draw e + lucky_last_prize draw e.marks e.feature

-- one jackpot's part of a game
pub record JackpotResult : Type 0 where
  pub shares : List ℕ
  pub contributions : ℕ
  pub seed : ℕ
  pub repaid : ℕ
  pub after : Jackpot

unfoldable pub settle_jackpot : ℕ → ℕ → Draw → Jackpot → List Entry → JackpotResult
settle_jackpot j guarantee draw before es =
    let paid = paid_for j es in
    let grown = contributed paid before in
    let winners = map (winner_of j draw) es in
    let next = reseeded (jackpot_won winners) guarantee grown in
    record {
      shares = jackpot_shares grown.primary winners;
      contributions = contribution paid;
      seed = seed_of (jackpot_won winners) guarantee grown;
      repaid = repaid_of next;
      after = repaid next;
    }

-- a settled game: what each entry is due, in the entries' order, the totals, and the jackpots after it
pub record Settled : Type 0 where
  pub awards : List ℕ
  pub prizes : ℕ
  pub shares : ℕ
  pub contributions : ℕ
  pub seeds : ℕ
  pub repaid : ℕ
  pub six : Jackpot
  pub eight : Jackpot

unfoldable pub settle : Draw → Jackpot → Jackpot → List Entry → Settled
settle draw six eight es =
    let majors = majors_of draw es in
    let prizes = map (all_prizes_of majors draw) es in
    let s = settle_jackpot 6 guarantee_of_six draw six es in
    let e = settle_jackpot 8 guarantee_of_eight draw eight es in
    record {
      awards = zip_with ◌+◌ prizes (zip_with ◌+◌ s.shares e.shares);
      prizes = sum prizes;
      shares = sum s.shares + sum e.shares;
      contributions = s.contributions + e.contributions;
      seeds = s.seed + e.seed;
      repaid = s.repaid + e.repaid;
      six = s.after;
      eight = e.after;
    }
