-- "Feature prizes are neither capped, major nor cut": a game with features is settled as the same game without them, and each entry's award has its
-- feature prize, whole, beside it. No major prize, cut, share or pool moves.
use mathlib.Core.Path.{◌≡◌, refl, sym, ap, ap₂, ◌∙◌}
use mathlib.Core.Bool.{cond}
use mathlib.Core.List.{List, [], ◌∷◌, ◌++◌, map, map-map, zip_with}
use Prim.Native.Nat.{ℕ, ◌+◌}
use native.Mathlib.Nat.{add_right_comm}
use native.Mathlib.Omega.{arith}
use Rattle.sale.specs.Lists.{sum, keep}
use Rattle.prizes.specs.Prize.{is_major}
use Rattle.prizes.specs.LuckyLast.{lucky_last_prize}
use Rattle.prizes.specs.Jackpots.{guarantee_of_six, guarantee_of_eight, contribution, contributed, Winner, jackpot_won, jackpot_shares, seed_of, reseeded, repaid_of, repaid}
use Rattle.prizes.specs.Settle.{Entry, way_prizes, plays_for, winner_of, paid_for, majors_of, prizes_of, all_prizes_of, JackpotResult, settle_jackpot, Settled, settle}
use Rattle.prizes.specs.declared.draw.Draw.{Draw}
use Rattle.prizes.specs.declared.jackpot.Jackpot.{Jackpot}
use Rattle.prizes.proofs.LuckyLastLaws.{nothing_staked}

-- the same entry without its feature
abbrev pub plain : Entry → Entry
plain e = record { terms = e.terms; marks = e.marks; paid = e.paid; feature = 0 }

pub record Beside (draw : Draw) (es : List Entry) (with' without : Settled) : Type 0 where
  pub awards : with'.awards ≡ zip_with ◌+◌ without.awards (map (λ e. lucky_last_prize draw e.marks e.feature) es)
  pub prizes : with'.prizes ≡ without.prizes + sum (map (λ e. lucky_last_prize draw e.marks e.feature) es)
  pub shares : with'.shares ≡ without.shares
  pub contributions : with'.contributions ≡ without.contributions
  pub seeds : with'.seeds ≡ without.seeds
  pub repaid : with'.repaid ≡ without.repaid
  pub six : with'.six ≡ without.six
  pub eight : with'.eight ≡ without.eight

module _ (draw : Draw) where
  abbrev feature_of : Entry → ℕ
  feature_of e = lucky_last_prize draw e.marks e.feature

  -- no feature prize is a major prize
  majors_plain : (es : List Entry) → majors_of draw (map plain es) ≡ majors_of draw es
  unfolding majors_of
  majors_plain [] = refl
  majors_plain (e ∷ es) = ap (λ (l : List ℕ). keep is_major (way_prizes draw e) ++ l) (majors_plain es)

  -- an entry's other prizes, and its feature prize beside them
  prizes_beside : (majors : List ℕ) (e : Entry) → all_prizes_of majors draw e ≡ all_prizes_of majors draw (plain e) + feature_of e
  unfolding all_prizes_of prizes_of
  prizes_beside majors e = omega (arith, nothing_staked draw e.marks)

  module _ (j : ℕ) (es : List Entry) where
    paid_plain : paid_for j (map plain es) ≡ paid_for j es
    unfolding paid_for
    paid_plain = ap sum (map-map (λ e. cond (plays_for j e) e.paid 0) plain es)

    winners_plain : map (winner_of j draw) (map plain es) ≡ map (winner_of j draw) es
    unfolding winner_of
    winners_plain = map-map (winner_of j draw) plain es

    -- no jackpot looks at a feature
    jackpot_plain : (guarantee : ℕ) (before : Jackpot) → settle_jackpot j guarantee draw before es ≡ settle_jackpot j guarantee draw before (map plain es)
    unfolding settle_jackpot
    jackpot_plain guarantee before = ap₂ by (sym paid_plain) (sym winners_plain)
      where
        by : ℕ → List Winner → JackpotResult
        by paid winners =
            let grown = contributed paid before in
            let next = reseeded (jackpot_won winners) guarantee grown in
            record {
              shares = jackpot_shares grown.primary winners;
              contributions = contribution paid;
              seed = seed_of (jackpot_won winners) guarantee grown;
              repaid = repaid_of next;
              after = repaid next;
            }

-- figures in two parts, of which one is joined after others
parts_joined : (a f : Entry → ℕ) (es : List Entry) (others : List ℕ)
    → zip_with ◌+◌ (map (λ e. a e + f e) es) others ≡ zip_with ◌+◌ (zip_with ◌+◌ (map a es) others) (map f es)
unfolding zip_with
parts_joined a f [] others = refl
parts_joined a f (e ∷ es) [] = refl
parts_joined a f (e ∷ es) (x ∷ others) = λ i. add_right_comm (a e) (f e) x i ∷ parts_joined a f es others i

parts_added : (a f : Entry → ℕ) (es : List Entry) → sum (map (λ e. a e + f e) es) ≡ sum (map a es) + sum (map f es)
unfolding sum
parts_added a f [] = refl
parts_added a f (e ∷ es) = omega (arith, parts_added a f es)

same_figures : (f g : Entry → ℕ) → ((e : Entry) → f e ≡ g e) → (es : List Entry) → map f es ≡ map g es
same_figures f g same [] = refl
same_figures f g same (e ∷ es) = λ i. same e i ∷ same_figures f g same es i

-- the whole game
pub features_beside : (draw : Draw) (six eight : Jackpot) (es : List Entry)
    → Beside draw es (settle draw six eight es) (settle draw six eight (map plain es))
unfolding settle
features_beside draw six eight es =
    record {
      awards =
          ap₂ (λ (paid others : List ℕ). zip_with ◌+◌ paid others) split shares_same
          ∙ parts_joined others (feature_of draw) es _
          ∙ ap (λ (paid : List ℕ). zip_with ◌+◌ (zip_with ◌+◌ paid (zip_with ◌+◌ sixth.shares eighth.shares)) (map (feature_of draw) es)) back;
      prizes = ap sum split ∙ parts_added others (feature_of draw) es ∙ ap (λ (paid : List ℕ). sum paid + sum (map (feature_of draw) es)) back;
      shares = ap₂ (λ (s e : JackpotResult). sum s.shares + sum e.shares) for_six for_eight;
      contributions = ap₂ (λ (s e : JackpotResult). s.contributions + e.contributions) for_six for_eight;
      seeds = ap₂ (λ (s e : JackpotResult). s.seed + e.seed) for_six for_eight;
      repaid = ap₂ (λ (s e : JackpotResult). s.repaid + e.repaid) for_six for_eight;
      six = ap (λ (s : JackpotResult). s.after) for_six;
      eight = ap (λ (e : JackpotResult). e.after) for_eight;
    }
  where
    sixth : JackpotResult
    sixth = settle_jackpot 6 guarantee_of_six draw six (map plain es)

    eighth : JackpotResult
    eighth = settle_jackpot 8 guarantee_of_eight draw eight (map plain es)

    for_six : settle_jackpot 6 guarantee_of_six draw six es ≡ settle_jackpot 6 guarantee_of_six draw six (map plain es)
    for_six = jackpot_plain draw 6 es guarantee_of_six six

    for_eight : settle_jackpot 8 guarantee_of_eight draw eight es ≡ settle_jackpot 8 guarantee_of_eight draw eight (map plain es)
    for_eight = jackpot_plain draw 8 es guarantee_of_eight eight

    shares_same :
        zip_with ◌+◌ (settle_jackpot 6 guarantee_of_six draw six es).shares (settle_jackpot 8 guarantee_of_eight draw eight es).shares
        ≡ zip_with ◌+◌ (settle_jackpot 6 guarantee_of_six draw six (map plain es)).shares (settle_jackpot 8 guarantee_of_eight draw eight (map plain es)).shares
    shares_same = ap₂ (λ (s e : JackpotResult). zip_with ◌+◌ s.shares e.shares) for_six for_eight

    others : Entry → ℕ
    others e = all_prizes_of (majors_of draw es) draw (plain e)

    split : map (all_prizes_of (majors_of draw es) draw) es ≡ map (λ e. all_prizes_of (majors_of draw es) draw (plain e) + feature_of draw e) es
    split = same_figures _ _ (prizes_beside draw (majors_of draw es)) es

    back : map (λ e. all_prizes_of (majors_of draw es) draw (plain e)) es ≡ map (all_prizes_of (majors_of draw (map plain es)) draw) (map plain es)
    back =
        sym (map-map (all_prizes_of (majors_of draw es) draw) plain es)
        ∙ ap (λ (majors : List ℕ). map (all_prizes_of majors draw) (map plain es)) (sym (majors_plain draw es))
