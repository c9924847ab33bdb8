-- The walks over the rows in which a jackpot is shared, one row more at a time; the bounds that keep them within 64 bits; and that they come to
-- the same stakes and shares as the entries of the game, since a ticket that does not run pays and wins nothing.
use Prim.Native.Nat.{ℕ, zero, suc, ◌+◌, ◌-◌, ◌*◌, ◌/◌, ◌≤◌, ◌<◌, ◌^◌, min}
use native.Mathlib.Nat.{add-zero, mul-one, mul-le-mul, mul-le-mul_left, zero-mul}
use native.Mathlib.Numerals.{add-one}
use native.Mathlib.Omega.{arith}
use mathlib.Core.Path.{◌≡◌, refl, sym, ap, ap₂, subst, subst⁻¹, ◌∙◌}
use mathlib.Core.Bool.{Bool, true, false, cond}
use mathlib.Core.List.{List, [], ◌∷◌, ◌++◌, map, map-map, map-append, zip_with}
use lib.Dec.{eqb, ltb, leb}
use lib.ListN.{length, set, get_or, take, length-map, length-take}
use lib.Seq.{take-suc, take-length}
use Rattle.std.specs.List as List_std
use Rattle.std.specs.List.{range_with_len}
use Rattle.std.proofs.lemmas.List.FromFn.{sum_by-map-range_with_len_more}
use borrow.Author.Tests.{ltb-true, ltb-false, lt-ltb, eq-eqb, ne_eqb}
use Rattle.sale.specs.Lists.{sum, keep, below}
use Rattle.sale.specs.Price.{charge_limit, charge, game_price}
use Rattle.sale.specs.Checks.{price_of, feature_stake}
use Rattle.prizes.specs.Bounds.{Roomy, Sharing}
use Rattle.prizes.specs.Jackpots.{Winner, WinningWay, each_way, ranks_before, winning_stake, winning_stakes, share_of, odd_cents, shares_from, jackpot_won, jackpot_shares, contribution, contributed, seed_of, reseeded, repaid_of, repaid}
use Rattle.prizes.proofs.OddCents.{no_winner, ways_above, passing_one_more}
use Rattle.prizes.proofs.ShareLaws.{whole_shares, ticket_within, whole_within, length_shares_from, length_shares, share_at, shares_behind, shares_in_turn}
use Rattle.sale.specs.Ways.{sizes, ways, mask_sum}
use Rattle.prizes.specs.Hits.{hits}
use Rattle.prizes.specs.Settle.{Entry, full_by, full_matches, plays_for, winner_of, paid_for, settle_jackpot}
use Rattle.prizes.specs.declared.draw.Draw.{Draw}
use Rattle.prizes.specs.declared.jackpot.Jackpot.{Jackpot}
use Rattle.sale.proofs.KeepLaws.{length_keep_le}
use Rattle.sale.proofs.WayLaws.{ways_few}
use Rattle.house.specs.Tickets.{Ticket, runs_in, ticket_price, paid_stakes, entry_of}
use Rattle.house.specs.View.{row_at, marks_at, ticket_from, ticket_in, Affordable}
use Rattle.settlement.specs.Settling.{entries_of, spread, full_in, guarantee_of}
use Rattle.settlement.specs.Passing.{Sold, full_of, no_ways}
use Rattle.settlement.specs.Drawn.{drawn_tickets, Matched, PoolsFit, SharedOut}
use Rattle.settlement.specs.declared.drawn_game.DrawnGame.{DrawnGame}
use Rattle.house.specs.declared.rows.Row.{Row}
use Rattle.settlement.specs.declared.shares.Part.{Part}
use Rattle.settlement.specs.declared.ways.TicketWays.{TicketWays}
use Rattle.sale.specs.Kinds.{number_of}
use Rattle.sale.specs.declared.terms.JackpotKind.{JackpotKind}
use Rattle.settlement.specs.declared.figures.Stakes.{Stakes}
use Rattle.settlement.specs.Sharing.{paid_at, paid_in, stakes_at, stakes_in, winner_from, winner_at, winners_in, ways_ahead, stakes_of, Entered, Shareable}
use Rattle.house.proofs.ListLaws.{cond_either}
use Rattle.settlement.proofs.TablePlaces.{tables_alike}
use Rattle.settlement.proofs.JoinedTables.{joined_to, joined_none, joined_place, joined_step, joined_whole}
use Rattle.settlement.proofs.SpreadLaws.{spread_runs, spread_rests, spread_entries, spread_added, length_spread, sum_spread}
use Rattle.house.proofs.MoneyLaws.{sum_snoc}
use Rattle.house.proofs.RowLists.{get_or_map, length_table, get_or_table}

-- ---- one row's paid stakes

module _ (game : ℕ) (t : Ticket) where
  game_paid_most : ticket_price t ≤ charge_limit → paid_stakes game (game + 1) t ≤ charge_limit
  unfolding paid_stakes charge
  game_paid_most within =
      let price = ticket_price t in
      let once : price * (min (game + 1) t.free - min game t.free) ≤ price * 1 = mul-le-mul_left price (omega arith) in
      omega (arith, once, mul-one price)

none_by : (b : Bool) → cond {A = ℕ} b 0 0 ≡ 0
none_by true = refl
none_by false = refl

-- a choice of a figure or none is within what the figure is within
within_by : (b : Bool) {n most : ℕ} → n ≤ most → cond b n 0 ≤ most
within_by true h = h
within_by false h = omega arith

module _ (words : List ℕ) (game i : ℕ) where
  -- from the row that was read
  pub paid_of_row :
      (w : Row)
      → w ≡ row_at words i
      → (own : ℕ)
      → ((marks : List ℕ) → own ≡ cond (runs_in game (ticket_from w marks)) (paid_stakes game (game + 1) (ticket_from w marks)) 0)
      → own ≡ paid_at words game i
  unfolding paid_at
  paid_of_row w read own asked =
      let mine : List ℕ = marks_at [] i in
      asked mine ∙ ap (λ v. cond (runs_in game (ticket_from v mine)) (paid_stakes game (game + 1) (ticket_from v mine)) 0) read

  -- all that the ticket stakes on a game, or nothing
  pub paid_at_within : Affordable (row_at words i) → paid_at words game i ≤ charge_limit
  unfolding paid_at
  paid_at_within affordable = within_by (runs_in game (ticket_in words [] i)) (game_paid_most game (ticket_in words [] i) affordable.within)

-- ---- one row more

module _ (words : List ℕ) (game : ℕ) where
  pub paid_none : paid_in words game 0 ≡ 0
  unfolding paid_in below sum
  paid_none = refl

  pub paid_more : (i : ℕ) → paid_in words game (i + 1) ≡ paid_in words game i + paid_at words game i
  unfolding paid_in below
  paid_more i = ap (λ n. sum (map (paid_at words game) (below n))) (add-one i) ∙ sum_snoc (paid_at words game) (below i) i

  module _ (j : ℕ) where
    pub stakes_none : stakes_in words game j 0 ≡ 0
    unfolding stakes_in below sum
    stakes_none = refl

    pub stakes_more : (i : ℕ) → stakes_in words game j (i + 1) ≡ stakes_in words game j i + cond (eqb (row_at words i).jackpot j) (paid_at words game i) 0
    unfolding stakes_in stakes_at below
    stakes_more i =
        ap (λ n. sum (map (stakes_at words game j) (below n))) (add-one i) ∙ sum_snoc (stakes_at words game j) (below i) i

  module _ (full : List ℕ) (live : ℕ) (entered : Entered words full live) where
    pub paid_within : (i : ℕ) → i ≤ live → paid_in words game i ≤ i * charge_limit
    paid_within zero h = omega (arith, paid_none)
    paid_within (suc i) h =
        rw (← add-one i) (omega (arith, paid_more i, paid_within i (omega arith), paid_at_within words game i (entered.within i (omega arith))))

    pub stakes_within : (j i : ℕ) → i ≤ live → stakes_in words game j i ≤ i * charge_limit
    stakes_within j zero h = omega (arith, stakes_none j)
    stakes_within j (suc i) h =
        rw (← add-one i)
        (omega (
          arith,
          stakes_more j i,
          stakes_within j i (omega arith),
          within_by (eqb (row_at words i).jackpot j) (paid_at_within words game i (entered.within i (omega arith))),
        ))

module _ (words full : List ℕ) (j : ℕ) where
  pub winners_none : winners_in words full j 0 ≡ []
  unfolding winners_in below
  winners_none = refl

  pub winners_more : (i : ℕ) → winners_in words full j (i + 1) ≡ winners_in words full j i ++ (winner_at words full j i ∷ [])
  unfolding winners_in below
  winners_more i =
      ap (λ n. map (winner_at words full j) (below n)) (add-one i) ∙ map-append (winner_at words full j) (below i) (i ∷ [])

  pub length_winners : (n : ℕ) → length (winners_in words full j n) ≡ n
  unfolding winners_in
  length_winners n = length_table (winner_at words full j) n

  pub winner_placed : (n i : ℕ) → i < n → get_or (winners_in words full j n) i no_winner ≡ winner_at words full j i
  unfolding winners_in
  winner_placed n i h = get_or_table (winner_at words full j) n i no_winner h

  -- a figure of each winner, summed
  module _ (f : Winner → ℕ) where
    pub figures_none : sum (map f (winners_in words full j 0)) ≡ 0
    unfolding sum
    figures_none = ap (λ ws. sum (map f ws)) winners_none

    pub figures_more : (i : ℕ) → sum (map f (winners_in words full j (i + 1))) ≡ sum (map f (winners_in words full j i)) + f (winner_at words full j i)
    figures_more i =
        ap (λ ws. sum (map f ws)) (winners_more i) ∙ sum_snoc f (winners_in words full j i) (winner_at words full j i)

    -- std's sum over the places is that of the winners at them
    pub figures_ranged : (n : ℕ) → List_std.sum (map (λ i. f (winner_at words full j i)) (range_with_len 0 n)) ≡ sum (map f (winners_in words full j n))
    figures_ranged zero = sym figures_none
    figures_ranged (suc n) =
        subst (λ k. List_std.sum (map (λ i. f (winner_at words full j i)) (range_with_len 0 k)) ≡ sum (map f (winners_in words full j k))) (add-one n)
        (sum_by-map-range_with_len_more (λ k. k) (λ i. f (winner_at words full j i)) 0 n n (omega arith)
        ∙ ap (λ k. k + f (winner_at words full j n)) (figures_ranged n)
        ∙ sym (figures_more n))

    -- those of the first rows are within those of more rows
    pub figures_rise : (i n : ℕ) → i ≤ n → sum (map f (winners_in words full j i)) ≤ sum (map f (winners_in words full j n))
    figures_rise i zero h =
        let same : i ≡ 0 = omega arith in
        subst (λ k. sum (map f (winners_in words full j i)) ≤ sum (map f (winners_in words full j k))) same (omega arith)
    figures_rise i (suc n) h = go (ltb i (suc n)) refl (figures_rise i n)
      where
        go :
            (b : Bool)
            → ltb i (suc n) ≡ b
            → (i ≤ n → sum (map f (winners_in words full j i)) ≤ sum (map f (winners_in words full j n)))
            → sum (map f (winners_in words full j i)) ≤ sum (map f (winners_in words full j (suc n)))
        go true e rises =
            let before : i ≤ n = omega (arith, ltb-true i (suc n) e) in
            rw (← add-one n) (omega (arith, rises before, figures_more n))
        go false e rises =
            let same : i ≡ suc n = omega (arith, ltb-false i (suc n) e) in
            subst (λ k. sum (map f (winners_in words full j i)) ≤ sum (map f (winners_in words full j k))) same (omega arith)

    -- and each is within them all
    pub figure_within : (n i : ℕ) → i < n → f (winner_at words full j i) ≤ sum (map f (winners_in words full j n))
    figure_within n i h =
        omega (arith, figures_rise (i + 1) n (omega arith), figures_more i)

  pub winning_none : winning_stakes (winners_in words full j 0) ≡ 0
  unfolding winning_stakes
  winning_none = figures_none winning_stake

  pub winning_more : (i : ℕ) → winning_stakes (winners_in words full j (i + 1)) ≡ winning_stakes (winners_in words full j i) + (winner_at words full j i).count * (winner_at words full j i).stake
  unfolding winning_stakes
  winning_more i = figures_more winning_stake i

  -- the ways that rank before a way: std's sum over the places is that of the winners at them
  module _ (x : WinningWay) where
    abbrev pub ahead_here : ℕ → ℕ
    ahead_here i = cond (ranks_before (record { place = i; stake = (winner_at words full j i).stake }) x) (winner_at words full j i).count 0

    abbrev pub ahead_among : ℕ → ℕ
    ahead_among n = length (keep (λ v. ranks_before v x) (each_way 0 (winners_in words full j n)))

    ahead_none : ahead_among 0 ≡ 0
    unfolding each_way keep
    ahead_none = ap (λ ws. length (keep (λ v. ranks_before v x) (each_way 0 ws))) winners_none

    ahead_more : (i : ℕ) → ahead_among (i + 1) ≡ ahead_among i + ahead_here i
    ahead_more i =
        ap (λ ws. length (keep (λ v. ranks_before v x) (each_way 0 ws))) (winners_more i)
        ∙ passing_one_more (λ v. ranks_before v x) (winners_in words full j i) (winner_at words full j i)
        ∙ ap (λ n. ahead_among i + cond (ranks_before (record { place = n; stake = (winner_at words full j i).stake }) x) (winner_at words full j i).count 0) (length_winners i)

    pub ahead_ranged : (n : ℕ) → List_std.sum (map ahead_here (range_with_len 0 n)) ≡ ahead_among n
    ahead_ranged zero = sym ahead_none
    ahead_ranged (suc n) =
        subst (λ k. List_std.sum (map ahead_here (range_with_len 0 k)) ≡ ahead_among k) (add-one n)
        (sum_by-map-range_with_len_more (λ k. k) ahead_here 0 n n (omega arith)
        ∙ ap (λ k. k + ahead_here n) (ahead_ranged n)
        ∙ sym (ahead_more n))

  -- ---- bounds

  module _ (live : ℕ) (entered : Entered words full live) where
    winners_few : (i : ℕ) → i < live → (winner_at words full j i).count ≤ 255
    unfolding winner_at
    winners_few i h = within_by (eqb (row_at words i).jackpot j) (entered.ways i h)

    pub ahead_within : (x : WinningWay) (i : ℕ) → i ≤ live → ahead_among x i ≤ i * 255
    ahead_within x zero h = omega (arith, ahead_none x)
    ahead_within x (suc i) h =
        rw (← add-one i)
        (omega (
          arith,
          ahead_more x i,
          ahead_within x i (omega arith),
          within_by (ranks_before (record { place = i; stake = (winner_at words full j i).stake }) x) (winners_few i (omega arith)),
        ))

    winning_at_within : (i : ℕ) → i < live → (winner_at words full j i).count * (winner_at words full j i).stake ≤ 255 * charge_limit
    unfolding winner_at
    winning_at_within i h = mul-le-mul (winners_few i h) (entered.stakes i h)

    pub winning_within : (i : ℕ) → i ≤ live → winning_stakes (winners_in words full j i) ≤ i * (255 * charge_limit)
    winning_within zero h = omega (arith, winning_none)
    winning_within (suc i) h =
        rw (← add-one i) (omega (arith, winning_more i, winning_within i (omega arith), winning_at_within i (omega arith)))

  module _ (live primary stakes : ℕ) (shared : Shareable words full j live primary stakes) (some : 0 < stakes) where
    -- each ticket's winning ways among all of them
    pub sharing_at : (i : ℕ) → i < live → Sharing primary stakes (winner_at words full j i).count (winner_at words full j i).stake
    unfolding winning_stakes winner_at
    sharing_at i h =
        record {
          pool = omega (arith, shared.pool);
          limit = shared.entered.stakes i h;
          total = omega (arith, shared.total, shared.entered.few, winning_within live shared.entered live (omega arith));
          won = some;
          part = omega (arith, shared.total, figure_within winning_stake live i h);
          few = omega (arith, winners_few live shared.entered i h);
        }

    -- the rounded shares of the first rows are within the primary
    pub whole_so_far : (i : ℕ) → i ≤ live → whole_shares primary stakes (winners_in words full j i) ≤ primary
    whole_so_far i h =
        let all : whole_shares primary stakes (winners_in words full j live) ≤ primary =
        subst (λ s. whole_shares primary s (winners_in words full j live) ≤ primary) (sym shared.total)
        (whole_within primary (winners_in words full j live) (subst (λ s. 0 < s) shared.total some)) in
        omega (arith, all, figures_rise (λ w. w.count * share_of primary stakes w.stake) i live h)

    pub share_most : (i odd : ℕ) → i < live
        → (winner_at words full j i).count * share_of primary stakes (winner_at words full j i).stake + min odd (winner_at words full j i).count ≤ primary + 255
    share_most i odd h =
        omega (
          arith,
          winners_few live shared.entered i h,
          ticket_within primary stakes some (winner_at words full j i).count (winner_at words full j i).stake (sharing_at i h).part,
        )

-- ---- a jackpot's stakes, one row more

pub no_stakes : (words full : List ℕ) (game : ℕ) (j : JackpotKind) → stakes_of words full game j 0 ≡ record { jackpot = j; paid = 0; winning = 0 }
no_stakes words full game j = λ k. record { jackpot = j; paid = stakes_none words game (number_of j) k; winning = winning_none words full (number_of j) k }

-- from the row, the paid stakes and the full matches that were read
module _ (words full : List ℕ) (game : ℕ) (j : JackpotKind) (i : ℕ) (s : Stakes) (held : s ≡ stakes_of words full game j i) {w : Row} (read : w ≡ row_at words i)
    {own matches : ℕ} (paid : own ≡ paid_at words game i) (matched : matches ≡ get_or full i 0) where
  module _ (live : ℕ) (entered : Entered words full live) (h : i < live) where
    pub paid_room : s.paid + own < 2 ^ 64
    paid_room =
        omega (
          arith,
          ap (λ r. r.paid) held,
          entered.few,
          stakes_within words game full live entered (number_of j) i (omega arith),
          paid_at_within words game i (entered.within i h),
        )

    pub winning_room : s.winning + matches * w.stake < 2 ^ 64
    winning_room =
        let few : matches ≤ 255 = omega (arith, matched, entered.ways i h) in
        let stake : w.stake ≤ charge_limit = omega (arith, ap (λ (v : Row). v.stake) read, entered.stakes i h) in
        let most : matches * w.stake ≤ 255 * charge_limit = mul-le-mul few stake in
        omega (arith, ap (λ r. r.winning) held, entered.few, winning_within words full (number_of j) live entered i (omega arith))

  pub stakes_next : (r : Stakes) → r.jackpot ≡ s.jackpot
      → r.paid ≡ s.paid + cond (eqb w.jackpot (number_of s.jackpot)) own 0
      → r.winning ≡ s.winning + winning_stake (winner_from w matches (number_of s.jackpot))
      → r ≡ stakes_of words full game j (i + 1)
  unfolding winner_at
  stakes_next r same more won =
      let number : s.jackpot ≡ j = ap (λ r. r.jackpot) held in
      let paying : r.paid ≡ stakes_in words game (number_of j) (i + 1) =
      more ∙ (λ k. (held k).paid + cond (eqb (read k).jackpot (number_of (number k))) (paid k) 0) ∙ sym (stakes_more words game (number_of j) i) in
      let winning : r.winning ≡ winning_stakes (winners_in words full (number_of j) (i + 1)) =
      won ∙ (λ k. (held k).winning + winning_stake (winner_from (read k) (matched k) (number_of (number k)))) ∙ sym (winning_more words full (number_of j) i) in
      λ k. record { jackpot = (same ∙ number) k; paid = paying k; winning = winning k }

-- ---- one row's winning ways, from the row and the place of the table that were read

module _ (words : List ℕ) (ways : List TicketWays) (i : ℕ) (inside : i < length ways) where
  pub full_here : get_or (full_of ways) i 0 ≡ (get_or ways i no_ways).found.full
  full_here = get_or_map (λ w. w.found.full) ways i no_ways 0 inside

  module _ (j : ℕ) (w : Row) (read : w ≡ row_at words i) where
    pub plays_count : w.jackpot ≡ j → (get_or ways i no_ways).found.full ≡ (winner_at words (full_of ways) j i).count
    unfolding winner_at
    plays_count plays =
        sym full_here
        ∙ sym (ap (λ (b : Bool). cond b (get_or (full_of ways) i 0) 0) (ap (λ (v : Row). eqb v.jackpot j) (sym read) ∙ eq-eqb w.jackpot j plays))

    pub rests_count : (w.jackpot ≡ j → ⊥) → 0 ≡ (winner_at words (full_of ways) j i).count
    unfolding winner_at
    rests_count rests =
        sym (ap (λ (b : Bool). cond b (get_or (full_of ways) i 0) 0) (ap (λ (v : Row). eqb v.jackpot j) (sym read) ∙ ne_eqb w.jackpot j rests))

    pub stake_here : w.stake ≡ (winner_at words (full_of ways) j i).stake
    unfolding winner_at
    stake_here = ap (λ (v : Row). v.stake) read

-- ---- shares joined to what is paid

-- the shares of the first tickets
module _ (words full : List ℕ) (j odd p s live : ℕ) (ps : List ℕ) where
  abbrev winners : List Winner
  winners = winners_in words full j live

  abbrev pub given : ℕ → List ℕ
  given i = take i (shares_from odd p s winners)

  length_all : length (shares_from odd p s winners) ≡ live
  length_all = length_shares_from odd p s winners ∙ length_winners words full j live

  length_given : (i : ℕ) → i ≤ live → length (given i) ≡ i
  length_given i h = omega (arith, length-take i (shares_from odd p s winners), length_all)

  pub given_none : ps ≡ joined_to ps (given 0)
  given_none = sym (joined_none ps)

  -- what the next ticket is paid is as it was
  pub given_next : (paid : List ℕ) (i : ℕ) → i ≤ live → paid ≡ joined_to ps (given i) → get_or paid i 0 ≡ get_or ps i 0
  given_next paid i h e = joined_place ps (given i) e (length_given i h)

  -- and then its share is joined to it
  pub given_more : (paid : List ℕ) (i share : ℕ) → i < live → paid ≡ joined_to ps (given i)
      → share ≡ (winner_at words full j i).count * share_of p s (winner_at words full j i).stake + min (odd - ways_ahead winners i (winner_at words full j i).stake) (winner_at words full j i).count
      → set paid i (get_or paid i 0 + share) ≡ joined_to ps (given (i + 1))
  given_more paid i share h e shared =
      let here : get_or winners i no_winner ≡ winner_at words full j i = winner_placed words full j live i h in
      let own : get_or (shares_from odd p s winners) i 0 ≡ share =
      share_at odd p s winners i (omega (arith, length_winners words full j live))
      ∙ ap (λ (w : Winner). w.count * share_of p s w.stake + min (odd - ways_ahead winners i w.stake) w.count) here
      ∙ sym shared in
      joined_step ps (given i) e (length_given i (omega arith)) share
      ∙ ap (λ n. joined_to ps (given i ++ (n ∷ []))) (sym own)
      ∙ ap (joined_to ps) (sym (ap (λ n. take n (shares_from odd p s winners)) (add-one i) ∙ take-suc (shares_from odd p s winners) i 0 (omega (arith, length_all))))

  pub given_all : (paid : List ℕ) → paid ≡ joined_to ps (given live) → length ps ≡ live → paid ≡ zip_with ◌+◌ ps (shares_from odd p s winners)
  given_all paid e all =
      joined_whole ps (shares_from odd p s winners) (e ∙ ap (joined_to ps) (ap (λ n. take n (shares_from odd p s winners)) (sym length_all) ∙ take-length (shares_from odd p s winners))) length_all all

-- ---- the primary, won or not

module _ (ws : List Winner) where
  pub not_won : winning_stakes ws ≡ 0 → jackpot_won ws ≡ false
  unfolding jackpot_won
  not_won none = rw none

  pub is_won : 0 < winning_stakes ws → jackpot_won ws ≡ true
  unfolding jackpot_won
  is_won some = lt-ltb 0 (winning_stakes ws) some

  pub shares_if_won : (p odd s : ℕ) → s ≡ winning_stakes ws → 0 < s → odd ≡ odd_cents p s ws → jackpot_shares p ws ≡ shares_from odd p s ws
  unfolding jackpot_shares
  shares_if_won p odd s total some left =
      rw (is_won (subst (λ n. 0 < n) total some))
      (ap (λ n. shares_from (odd_cents p n ws) p n ws) (sym total) ∙ ap (λ n. shares_from n p s ws) (sym left))

-- nothing joined to each
pub zeros_joined : (xs : List ℕ) (ws : List Winner) → length xs ≤ length ws → zip_with ◌+◌ xs (map (λ w. 0) ws) ≡ xs
unfolding zip_with
zeros_joined [] ws h = refl
zeros_joined (x ∷ xs) [] h = absurd (omega arith)
zeros_joined (x ∷ xs) (w ∷ ws) h = cc (add-zero x, zeros_joined xs ws (omega arith))

pub shares_if_not : (p : ℕ) (xs : List ℕ) (ws : List Winner) → winning_stakes ws ≡ 0 → length xs ≤ length ws → xs ≡ zip_with ◌+◌ xs (jackpot_shares p ws)
unfolding jackpot_shares
shares_if_not p xs ws none few = rw (not_won ws none) (sym (zeros_joined xs ws few))

-- ---- room for one game's contributions

pub grown_roomy : (stakes : ℕ) (before grown : Jackpot) → grown ≡ contributed stakes before → stakes ≤ 200 * charge_limit
    → PoolsFit before
    → (grown.primary + 255 < 2 ^ 63) × Roomy grown
unfolding contributed
grown_roomy stakes before grown e few fits = subst⁻¹ (λ g. (g.primary + 255 < 2 ^ 63) × Roomy g) e (omega arith)

pub guarantee_within : (j : ℕ) → guarantee_of j < 2 ^ 63
guarantee_within j = cond_either (λ n. n < 2 ^ 63) (eqb j 6) (omega arith) (omega arith)

-- ---- the rows against the entries

module _ (game : ℕ) where
  -- a figure of each entry, summed over all tickets with nothing for those that do not run
  pub running_sum : (f : Entry → ℕ) (ts : List Ticket)
      → sum (map (λ t. cond (runs_in game t) (f (entry_of game t)) 0) ts) ≡ sum (map f (entries_of game ts))
  running_sum f ts =
      ap sum (sym (spread_entries game f ts))
      ∙ sum_spread game (map f (entries_of game ts)) ts (length-map (entries_of game ts) f ∙ length-map (keep (runs_in game) ts) (entry_of game))

  module _ (j : ℕ) (draw : Draw) where
    -- a ticket as a winner: one that does not run wins nothing
    abbrev pub winner_in : Ticket → Winner
    winner_in t = record { count = cond (runs_in game t) (winner_of j draw (entry_of game t)).count 0; stake = t.operands.stake }

    abbrev pub winners_of : List Ticket → List Winner
    winners_of ts = map (winner_of j draw) (entries_of game ts)

    -- a figure that is 0 for no winning way comes to the same over all tickets and over the entries
    pub winners_sum : (f : Winner → ℕ) → ((stake : ℕ) → f (record { count = 0; stake = stake }) ≡ 0) → (ts : List Ticket)
        → sum (map f (map winner_in ts)) ≡ sum (map f (winners_of ts))
    unfolding winner_of
    winners_sum f none ts =
        ap sum (each ts)
        ∙ running_sum (λ e. f (winner_of j draw e)) ts
        ∙ ap sum (sym (map-map f (winner_of j draw) (entries_of game ts)))
      where
        one : (t : Ticket) (b : Bool)
            → f (record { count = cond b (winner_of j draw (entry_of game t)).count 0; stake = t.operands.stake })
            ≡ cond b (f (winner_of j draw (entry_of game t))) 0
        one t true = refl
        one t false = none t.operands.stake

        each : (us : List Ticket) → map f (map winner_in us) ≡ map (λ t. cond (runs_in game t) (f (winner_of j draw (entry_of game t))) 0) us
        each [] = refl
        each (t ∷ us) = cc (one t (runs_in game t), each us)

    -- the shares of all tickets are those of the entries, spread, since a ticket that does not run has no way that ranks before another's
    shares_spread : (before : ℕ → ℕ) (odd p s : ℕ) (ts : List Ticket)
        → shares_behind before odd p s (map winner_in ts) ≡ spread game (shares_behind before odd p s (winners_of ts)) ts
    unfolding shares_behind spread keep winner_of
    shares_spread before odd p s [] = refl
    shares_spread before odd p s (t ∷ ts) = go (runs_in game t) refl (λ f. shares_spread f odd p s ts)
      where
        stake : ℕ
        stake = t.operands.stake

        above : ways_above stake (map winner_in ts) ≡ ways_above stake (winners_of ts)
        above = winners_sum (λ w. cond (ltb stake w.stake) w.count 0) (λ x. none_by (ltb stake x)) ts

        go : (b : Bool) → runs_in game t ≡ b
            → ((f : ℕ → ℕ) → shares_behind f odd p s (map winner_in ts) ≡ spread game (shares_behind f odd p s (winners_of ts)) ts)
            → shares_behind before odd p s (record { count = cond b (winner_of j draw (entry_of game t)).count 0; stake = stake } ∷ map winner_in ts)
            ≡ spread game (shares_behind before odd p s (map (winner_of j draw) (map (entry_of game) (cond b (t ∷ keep (runs_in game) ts) (keep (runs_in game) ts))))) (t ∷ ts)
        go true e rest =
            let count : ℕ = (winner_of j draw (entry_of game t)).count in
            ap₂ (λ (n : ℕ) (l : List ℕ). (count * share_of p s stake + min (odd - (before stake + n)) count) ∷ l) above
            (rest (λ x. before x + cond (leb x stake) count 0))
            ∙ sym (spread_runs game _ _ t ts e)
        go false e rest =
            let nothing : 0 * share_of p s stake + min (odd - (before stake + ways_above stake (map winner_in ts))) 0 ≡ 0 = omega (arith, zero-mul (share_of p s stake)) in
            let same : (x : ℕ) → before x + cond (leb x stake) 0 0 ≡ before x = λ x. omega (arith, none_by (leb x stake)) in
            ap₂ (λ (n : ℕ) (l : List ℕ). n ∷ l) nothing ((λ k. shares_behind (λ x. same x k) odd p s (map winner_in ts)) ∙ rest before)
            ∙ sym (spread_rests game (shares_behind before odd p s (winners_of ts)) t ts e)

module _ (game j : ℕ) (draw : Draw) where
  zeros_spread : (ts : List Ticket) → map (λ w. 0) (map (winner_in game j draw) ts) ≡ spread game (map (λ w. 0) (winners_of game j draw ts)) ts
  zeros_spread ts =
      same ts
      ∙ sym (ap (λ (figures : List ℕ). spread game figures ts) (map-map (λ w. 0) (winner_of j draw) (entries_of game ts)) ∙ spread_entries game (λ e. 0) ts)
    where
      same : (us : List Ticket) → map (λ w. 0) (map (winner_in game j draw) us) ≡ map (λ t. cond {A = ℕ} (runs_in game t) 0 0) us
      same [] = refl
      same (t ∷ us) = cc (none_by (runs_in game t), same us)

  module _ (ts : List Ticket) where
    abbrev all : List Winner
    all = map (winner_in game j draw) ts

    abbrev running : List Winner
    running = winners_of game j draw ts

    pub winning_same : winning_stakes all ≡ winning_stakes running
    unfolding winning_stakes
    winning_same = winners_sum game j draw winning_stake zero-mul ts

    odd_same : (p s : ℕ) → odd_cents p s all ≡ odd_cents p s running
    unfolding odd_cents
    odd_same p s =
        ap (λ n. p - n) (winners_sum game j draw (λ w. w.count * share_of p s w.stake) (λ stake. zero-mul (share_of p s stake)) ts)

    -- what each ticket gets of the primary, won or not
    pub jackpot_shares_spread : (p : ℕ) → jackpot_shares p all ≡ spread game (jackpot_shares p running) ts
    unfolding jackpot_shares jackpot_won
    jackpot_shares_spread p =
        rw (winning_same, odd_same p (winning_stakes running))
        (go (ltb 0 (winning_stakes running)) (winning_stakes running) (odd_cents p (winning_stakes running) running))
      where
        go : (won : Bool) (s odd : ℕ)
            → cond won (shares_from odd p s all) (map (λ w. 0) all)
            ≡ spread game (cond won (shares_from odd p s running) (map (λ w. 0) running)) ts
        go true s odd =
            shares_in_turn odd p s all ∙ shares_spread game j draw (λ x. 0) odd p s ts ∙ ap (λ (l : List ℕ). spread game l ts) (sym (shares_in_turn odd p s running))
        go false s odd = zeros_spread ts

-- ---- the rows of a drawn game, with its full matches

pub matched_count : (g : DrawnGame) (ways : List TicketWays) → Matched g ways → length ways ≡ g.live
matched_count g ways matches =
    sym (length-map ways (λ w. w.found.full)) ∙ ap length matches ∙ length_spread g.game _ (drawn_tickets g)
    ∙ length_table (ticket_in g.rows.now g.marks.now) g.live

module _ (g : DrawnGame) (full : List ℕ) (matches : full ≡ spread g.game (full_in g.game g.draw (drawn_tickets g)) (drawn_tickets g)) where
  abbrev words : List ℕ
  words = g.rows.now

  abbrev live : List Ticket
  live = drawn_tickets g

  abbrev ticket : ℕ → Ticket
  ticket = ticket_in g.rows.now g.marks.now

  full_at : (i : ℕ) → i < g.live
      → get_or full i 0 ≡ cond (runs_in g.game (ticket i)) (full_matches g.draw (entry_of g.game (ticket i))) 0
  unfolding full_in
  full_at i b =
      ap (λ l. get_or l i 0) (matches ∙ spread_entries g.game (full_matches g.draw) live)
      ∙ ap (λ l. get_or l i 0) (map-map (λ t. cond (runs_in g.game t) (full_matches g.draw (entry_of g.game t)) 0) ticket (below g.live))
      ∙ get_or_table (λ k. cond (runs_in g.game (ticket k)) (full_matches g.draw (entry_of g.game (ticket k))) 0) g.live i 0 b

  full_few : (i : ℕ) → i < g.live → get_or full i 0 ≤ 255
  unfolding full_by
  full_few i b = rw (full_at i b) (go (runs_in g.game (ticket i)))
    where
      go : (b : Bool) → cond b (full_matches g.draw (entry_of g.game (ticket i))) 0 ≤ 255
      go true =
          omega (
            arith,
            length_keep_le (λ m. eqb (mask_sum m (hits g.draw (ticket i).operands.marks)) (mask_sum m (sizes (ticket i).operands.marks))) (ways (ticket i).operands.groups (ticket i).operands.types),
            ways_few (ticket i).operands.types (g.sold.each i b).playable.groups,
          )
      go false = omega arith

  -- a ticket's price of a game is that of its operands
  price_sold : (t : Ticket) → Sold t → ticket_price t ≡ price_of t.operands
  price_sold t sold = ap (λ n. game_price t.operands.stake n (feature_stake t.operands.feature)) sold.counted

  pub entered : Entered g.rows.now full g.live
  entered =
      record {
        few = g.sold.few;
        within = λ i b.
            let sold = g.sold.each i b in
            record { within = omega (arith, price_sold (ticket i) sold, sold.playable.one_game) };
        stakes = λ i b. (g.sold.each i b).playable.stake;
        ways = full_few;
      }

  module _ (j : ℕ) where
    -- the paid stakes of the rows are those of the entries
    stakes_at_lem : (i : ℕ) → i < g.live
        → stakes_at words g.game j i
        ≡ cond (runs_in g.game (ticket i)) (cond (plays_for j (entry_of g.game (ticket i))) (paid_stakes g.game (g.game + 1) (ticket i)) 0) 0
    unfolding stakes_at paid_at runs_in paid_stakes
    stakes_at_lem i b = rw (← (g.sold.each i b).playing) (go (eqb (ticket i).jackpot j) (runs_in g.game (ticket i)) (paid_stakes g.game (g.game + 1) (ticket i)))
      where
        go : (plays runs : Bool) (n : ℕ) → cond plays (cond runs n 0) 0 ≡ cond runs (cond plays n 0) 0
        go true true n = refl
        go true false n = refl
        go false true n = refl
        go false false n = refl

    pub stakes_view : stakes_in words g.game j g.live ≡ paid_for j (entries_of g.game live)
    unfolding stakes_in paid_for
    stakes_view =
        ap sum (tables_alike (stakes_at words g.game j) (λ i. stakes_of (ticket i)) g.live stakes_at_lem)
        ∙ ap sum (sym (map-map stakes_of ticket (below g.live)))
        ∙ running_sum g.game (λ e. cond (plays_for j e) e.paid 0) live
      where
        stakes_of : Ticket → ℕ
        stakes_of t = cond (runs_in g.game t) (cond (plays_for j (entry_of g.game t)) (paid_stakes g.game (g.game + 1) t) 0) 0

    -- and so are the winning ways
    winner_at_lem : (i : ℕ) → i < g.live → winner_at words full j i ≡ winner_in g.game j g.draw (ticket i)
    unfolding winner_at winner_of
    winner_at_lem i b =
        ap (λ n. winner n)
        (rw (full_at i b, ← (g.sold.each i b).playing) (go (eqb (ticket i).jackpot j) (runs_in g.game (ticket i)) (full_matches g.draw (entry_of g.game (ticket i)))))
      where
        winner : ℕ → Winner
        winner n = record { count = n; stake = (ticket i).operands.stake }

        go : (plays runs : Bool) (n : ℕ) → cond plays (cond runs n 0) 0 ≡ cond runs (cond plays n 0) 0
        go true true n = refl
        go true false n = refl
        go false true n = refl
        go false false n = refl

    winners_view : winners_in words full j g.live ≡ map (winner_in g.game j g.draw) live
    unfolding winners_in
    winners_view =
        tables_alike (winner_at words full j) (λ i. winner_in g.game j g.draw (ticket i)) g.live winner_at_lem
        ∙ sym (map-map (winner_in g.game j g.draw) ticket (below g.live))

    pub winning_view : winning_stakes (winners_in words full j g.live) ≡ winning_stakes (winners_of g.game j g.draw live)
    winning_view = ap winning_stakes winners_view ∙ winning_same g.game j g.draw live

    pub shares_view : (p : ℕ) → jackpot_shares p (winners_in words full j g.live) ≡ spread g.game (jackpot_shares p (winners_of g.game j g.draw live)) live
    shares_view p = ap (jackpot_shares p) winners_view ∙ jackpot_shares_spread g.game j g.draw live p

    -- ---- the part of the game, from what the walks find

    module _
        (before grown next : Jackpot) (paid paid' : List ℕ) (r : Part) (stakes winning guarantee : ℕ)
        (staking : stakes ≡ stakes_in words g.game j g.live)
        (winners : winning ≡ winning_stakes (winners_in words full j g.live))
        (grows : grown ≡ contributed stakes before)
        (guaranteed : guarantee ≡ guarantee_of j)
        (seeded : next ≡ reseeded (ltb 0 winning) guarantee grown)
      where
        abbrev entries : List Entry
        entries = entries_of g.game live

        won_view : ltb 0 winning ≡ jackpot_won (winners_of g.game j g.draw live)
        unfolding jackpot_won
        won_view = ap (ltb 0) (winners ∙ winning_view)

        grown_view : grown ≡ contributed (paid_for j entries) before
        grown_view = grows ∙ ap (λ n. contributed n before) (staking ∙ stakes_view)

        next_view : next ≡ reseeded (jackpot_won (winners_of g.game j g.draw live)) (guarantee_of j) (contributed (paid_for j entries) before)
        next_view =
            seeded
            ∙ (λ i. reseeded (won_view i) (guaranteed i) (grown_view i))

        shares_here : jackpot_shares grown.primary (winners_in words full j g.live) ≡ spread g.game (jackpot_shares grown.primary (winners_of g.game j g.draw live)) live
        shares_here = shares_view grown.primary

        joined_view :
            paid' ≡ zip_with ◌+◌ paid (jackpot_shares grown.primary (winners_in words full j g.live))
            → (figures : List ℕ) → length figures ≡ length entries
            → paid ≡ spread g.game figures live
            → paid' ≡ spread g.game (zip_with ◌+◌ figures (jackpot_shares grown.primary (winners_of g.game j g.draw live))) live
        joined_view joined figures one e =
            let shares : List ℕ = jackpot_shares grown.primary (winners_of g.game j g.draw live) in
            let same : length figures ≡ length shares =
            one ∙ sym (length_shares grown.primary (winners_of g.game j g.draw live) ∙ length-map entries (winner_of j g.draw)) in
            joined
            ∙ ap (λ l. zip_with ◌+◌ l (jackpot_shares grown.primary (winners_in words full j g.live))) e
            ∙ ap (zip_with ◌+◌ (spread g.game figures live)) shares_here
            ∙ sym (spread_added g.game figures shares live same)

        sum_view : sum (jackpot_shares grown.primary (winners_in words full j g.live)) ≡ sum (jackpot_shares grown.primary (winners_of g.game j g.draw live))
        sum_view =
            ap sum shares_here
            ∙ sum_spread g.game (jackpot_shares grown.primary (winners_of g.game j g.draw live)) live
            (length_shares grown.primary (winners_of g.game j g.draw live) ∙ length-map entries (winner_of j g.draw) ∙ length-map (keep (runs_in g.game) live) (entry_of g.game))

        pub shared_out :
            r.after ≡ repaid next
            → r.shares ≡ sum (jackpot_shares grown.primary (winners_in words full j g.live))
            → r.contributions ≡ 25 * (stakes / 100)
            → r.seed ≡ seed_of (ltb 0 winning) guarantee grown
            → r.repaid ≡ repaid_of next
            → paid' ≡ zip_with ◌+◌ paid (jackpot_shares grown.primary (winners_in words full j g.live))
            → SharedOut g j before paid paid' r
        unfolding settle_jackpot contribution
        shared_out after shares contributions seed back joined =
            record {
              after = after ∙ ap repaid next_view;
              shares = shares ∙ sum_view ∙ ap (λ (p : Jackpot). sum (jackpot_shares p.primary (winners_of g.game j g.draw live))) grown_view;
              contributions = contributions ∙ ap (λ n. 25 * (n / 100)) (staking ∙ stakes_view);
              seed = seed ∙ (λ i. seed_of (won_view i) (guaranteed i) (grown_view i));
              repaid = back ∙ ap (λ n. repaid_of n) next_view;
              joined = λ figures one e.
                  joined_view joined figures one e
                  ∙ ap (λ (p : Jackpot). spread g.game (zip_with ◌+◌ figures (jackpot_shares p.primary (winners_of g.game j g.draw live))) live) grown_view;
            }
