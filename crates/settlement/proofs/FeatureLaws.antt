-- Lucky Last in a drawn game: the feature prize of a ticket by its row, its bound, and that the feature prizes joined to the payouts of the ways are
-- all prizes of the game, ticket by ticket.
use Prim.Native.Nat.{ℕ, ◌+◌, ◌≤◌, ◌<◌, ◌^◌}
use mathlib.Core.Path.{◌≡◌, refl, sym, ap, ◌∙◌}
use mathlib.Core.Bool.{Bool, true, false, cond}
use mathlib.Core.List.{List, [], ◌∷◌, map, zip_with}
use native.Mathlib.Omega.{arith}
use lib.ListN.{length, get_or, length-map}
use Rattle.sale.specs.Lists.{sum, keep}
use Rattle.sale.specs.Price.{charge_limit}
use Rattle.sale.specs.Checks.{feature_stake}
use Rattle.sale.specs.Bounds.{Playable}
use Rattle.prizes.specs.LuckyLast.{lucky_last_prize}
use Rattle.prizes.specs.Settle.{Entry, majors_of, prizes_of, all_prizes_of}
use Rattle.prizes.specs.Bounds.{KeptSizes, feature_limit}
use Rattle.prizes.specs.declared.draw.Draw.{Draw}
use Rattle.prizes.proofs.LuckyLastLaws.{nothing_staked, feature_within}
use Rattle.house.specs.Tickets.{Ticket, runs_in, entry_of}
use Rattle.house.specs.View.{row_at, marks_at, ticket_from, ticket_in}
use Rattle.house.specs.declared.rows.Row.{Row}
use Rattle.house.proofs.Bounded.{feature_stake_within}
use Rattle.house.proofs.RowLaws.{row_feature}
use Rattle.settlement.specs.Settling.{spread, entries_of, payouts_in, feature_at, prizes_in}
use Rattle.settlement.specs.Drawn.{drawn_tickets, PaidOut, Prized}
use Rattle.settlement.specs.declared.drawn_game.DrawnGame.{DrawnGame}
use Rattle.settlement.specs.declared.ways.TicketWays.{TicketWays}
use Rattle.house.proofs.RowLists.{length_table}
use Rattle.settlement.specs.Passing.{Sold}
use Rattle.settlement.proofs.SpreadLaws.{spread_entries, spread_added}
use Rattle.settlement.proofs.TablePlaces.{spread_within}

-- ---- one ticket, from its row

module _ (w : Row) (own : List ℕ) where
  abbrev ticket : Ticket
  ticket = ticket_from w own

  pub feature_narrow : Playable ticket.operands → w.feature < 2 ^ 32
  feature_narrow p = omega (arith, row_feature w.feature, feature_stake_within ticket.operands p)

  pub kept_sizes : Sold ticket → KeptSizes w.sizes own
  kept_sizes sold =
      record {
        few = record { few = omega (arith, sold.playable.eighty) };
        groups = sold.playable.marks;
        same = sold.sized;
      }

  module _ (game : ℕ) (draw : Draw) where
    pub feature_rests : runs_in game ticket ≡ false → 0 ≡ feature_at game draw ticket
    unfolding feature_at
    feature_rests rests = rw rests

    pub feature_runs : runs_in game ticket ≡ true → lucky_last_prize draw own w.feature ≡ feature_at game draw ticket
    unfolding feature_at
    feature_runs runs = rw runs (ap (lucky_last_prize draw own) (sym (row_feature w.feature)))

    pub no_feature : w.feature ≡ 0 → 0 ≡ feature_at game draw ticket
    no_feature none = go (runs_in game ticket) refl
      where
        go : (runs : Bool) → runs_in game ticket ≡ runs → 0 ≡ feature_at game draw ticket
        go true e = sym (nothing_staked draw own) ∙ ap (lucky_last_prize draw own) (sym none) ∙ feature_runs e
        go false e = feature_rests e

-- the ticket at a place of the rows, which has no feature
pub no_feature_at : (words marks : List ℕ) (i game : ℕ) (draw : Draw) → (row_at words i).feature ≡ 0 → feature_at game draw (ticket_in words marks i) ≡ 0
no_feature_at words marks i game draw none = sym (no_feature (row_at words i) (marks_at marks i) game draw none)

pub feature_at_within : (game : ℕ) (draw : Draw) (t : Ticket) → Playable t.operands → feature_at game draw t ≤ feature_limit charge_limit
unfolding feature_at
feature_at_within game draw t p = go (runs_in game t)
  where
    go : (runs : Bool) → cond runs (lucky_last_prize draw t.operands.marks (feature_stake t.operands.feature)) 0 ≤ feature_limit charge_limit
    go true =
        omega (
          arith,
          feature_within draw t.operands.marks (feature_stake t.operands.feature),
          feature_stake_within t.operands p,
        )
    go false = omega arith

-- ---- all tickets

added_maps : {A : Type 0} (f g : A → ℕ) (xs : List A) → zip_with ◌+◌ (map f xs) (map g xs) ≡ map (λ x. f x + g x) xs
unfolding zip_with
added_maps f g [] = refl
added_maps f g (x ∷ xs) = ap (◌∷◌ (f x + g x)) (added_maps f g xs)

sum_maps : {A : Type 0} (f g : A → ℕ) (xs : List A) → sum (map f xs) ≤ sum (map (λ x. f x + g x) xs)
unfolding sum
sum_maps f g [] = omega arith
sum_maps f g (x ∷ xs) = omega (arith, sum_maps f g xs)

module _ (game : ℕ) (draw : Draw) (ts : List Ticket) where
  abbrev feature_of : Entry → ℕ
  feature_of e = lucky_last_prize draw e.marks e.feature

  abbrev features_in : List ℕ
  features_in = map feature_of (entries_of game ts)

  features_spread : map (feature_at game draw) ts ≡ spread game features_in ts
  unfolding feature_at
  features_spread = sym (spread_entries game feature_of ts)

  all_prizes : zip_with ◌+◌ (payouts_in game draw ts) features_in ≡ prizes_in game draw ts
  unfolding payouts_in prizes_in all_prizes_of
  all_prizes = added_maps (prizes_of (majors_of draw (entries_of game ts)) draw) feature_of (entries_of game ts)

  alike : length (payouts_in game draw ts) ≡ length features_in
  unfolding payouts_in
  alike = length-map (entries_of game ts) _ ∙ sym (length-map (entries_of game ts) feature_of)

  -- the feature prizes joined to the payouts
  pub prizes_joined : zip_with ◌+◌ (spread game (payouts_in game draw ts) ts) (map (feature_at game draw) ts) ≡ spread game (prizes_in game draw ts) ts
  prizes_joined =
      ap (zip_with ◌+◌ (spread game (payouts_in game draw ts) ts)) features_spread
      ∙ sym (spread_added game (payouts_in game draw ts) features_in ts alike)
      ∙ ap (λ (figures : List ℕ). spread game figures ts) all_prizes

module _ (g : DrawnGame) where
  abbrev payouts : List ℕ
  payouts = payouts_in g.game g.draw (drawn_tickets g)

  payouts_within : sum payouts ≤ sum (prizes_in g.game g.draw (drawn_tickets g))
  unfolding payouts_in prizes_in all_prizes_of
  payouts_within =
      let es : List Entry = entries_of g.game (drawn_tickets g) in
      sum_maps (prizes_of (majors_of g.draw es) g.draw) (λ e. lucky_last_prize g.draw e.marks e.feature) es

  payouts_count : length payouts ≡ length (keep (runs_in g.game) (drawn_tickets g))
  unfolding payouts_in
  payouts_count = length-map (entries_of g.game (drawn_tickets g)) _ ∙ length-map (keep (runs_in g.game) (drawn_tickets g)) (entry_of g.game)

  module _ {ways : List TicketWays} {paid : List ℕ} (out : PaidOut g ways paid) where
    -- what a ticket's ways are paid leaves room for its feature prize
    pub payouts_fit : sum (prizes_in g.game g.draw (drawn_tickets g)) < 2 ^ 62 → (i : ℕ) → i < g.live → get_or paid i 0 < 2 ^ 63
    payouts_fit room i inside =
        omega (
          arith,
          payouts_within,
          length_table (ticket_in g.rows.now g.marks.now) g.live,
          spread_within g.game paid payouts (drawn_tickets g) out.payouts payouts_count i (omega (arith, length_table (ticket_in g.rows.now g.marks.now) g.live)),
        )

    pub prized : {paid' : List ℕ} → paid' ≡ zip_with ◌+◌ paid (map (feature_at g.game g.draw) (drawn_tickets g)) → Prized g ways paid'
    prized joined =
        record {
          prizes =
              joined
              ∙ ap (λ (l : List ℕ). zip_with ◌+◌ l (map (feature_at g.game g.draw) (drawn_tickets g))) out.payouts
              ∙ prizes_joined g.game g.draw (drawn_tickets g);
          matches = out.matches;
        }
