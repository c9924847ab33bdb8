-- The figures of the sheet follow the till of the ledger. What each command moves is at most what was there: a sum over all tickets falls
-- apart into what stays and what is moved.
use Prim.Native.Nat.{ℕ, suc, ◌+◌, ◌-◌, ◌≤◌, min, max}
use mathlib.Core.Path.{◌≡◌, refl, sym, ap, ◌∙◌}
use mathlib.Core.Bool.{Bool, true, false, cond, ◌&&◌}
use mathlib.Core.List.{List, [], ◌∷◌, ◌++◌, map, map-map}
use native.Mathlib.Nat.{add-zero}
use native.Mathlib.Omega.{arith}
use lib.Dec.{ltb, eqb}
use lib.ListN.{length}
use Rattle.prizes.specs.Hits.{draw_of}
use Rattle.sale.specs.Lists.{sum, keep, member}
use Rattle.sale.specs.Checks.{Operands, price_of, charge_of}
use Rattle.sale.specs.Price.{charge, paid_games}
use Rattle.prizes.specs.Settle.{settle}
use Rattle.house.specs.Tickets.{Ticket, runs_in, is_live, paid_stakes, held_for, entry_of, with_due, with_stop}
use Rattle.house.specs.Model.{Model, Counters, next_game}
use Rattle.house.specs.Commands.{ticket_at, has_ticket, changed, still_live, finished_on, sold_ticket, cancel_stop, cancelled_ticket, refund_of, collected_ticket, reissued_ticket, awarded, running_in, stakes_drawn, settlement, is_expired, expiring}
use Rattle.house.specs.Till.{Figures, till_of}
use Rattle.house.specs.Sheet.{Line, line_entry, total_at, taken_off, playing, stakes_played, sheet_settlement, late_dues, too_late}
use Rattle.house.proofs.Ledger.{All, Kept, Orderly, line_of, sheet_for, house_of}
use Rattle.house.proofs.ListLaws.{cond_either}
use Rattle.house.proofs.MoneyLaws.{all_of, all_from, all_kept_lem, keep_same, keep_keep, sum_kept, sum_picked, sum_parts, map_same, keep_map, sum_unmoved, sum_moved, sum_snoc}
use Rattle.house.proofs.SpanLaws.{plays_left, stakes_split, stakes_none, held_none, stakes_of_game, held_drawn}
use Rattle.house.proofs.SheetLines.{taken_off_lem, late_alike}
use Rattle.house.proofs.Numbered.{alone}
use Rattle.house.proofs.LiveTickets.{closed_of, finished_on_keeps, running_live, next_game_least}

-- what some tickets are due, and what they hold
abbrev pub dues : List Ticket → ℕ
dues ts = sum (map (λ t. t.due) ts)

abbrev pub stakes_held : ℕ → List Ticket → ℕ
stakes_held game ts = sum (map (held_for game) ts)

-- a till from the counters and from what is owed, held and pooled
abbrev pub till_from : Counters → ℕ → ℕ → ℕ → Figures
till_from c owed held pool =
    record {
      taken = c.taken;
      seeds = c.seeds;
      paid = c.paid;
      refunded = c.refunded;
      owed = owed;
      held = held;
      unclaimed = c.unclaimed;
      pooled = pool;
      gained = c.gained;
      lost = c.lost;
    }

-- ---- closed tickets add nothing

pub live_owed : (game : ℕ) (ts : List Ticket) → dues (still_live game ts) ≡ dues ts
unfolding still_live
live_owed game ts = sum_kept (λ t. t.due) (is_live game) (λ t shut. (closed_of game t shut).due) ts

pub live_held : (game : ℕ) (ts : List Ticket) → stakes_held game (still_live game ts) ≡ stakes_held game ts
unfolding still_live
live_held game ts = sum_kept (held_for game) (is_live game) (λ t shut. held_none game t (closed_of game t shut).games) ts

pub till_of_house : (m : Model) → till_of (house_of m) ≡ till_of m
unfolding till_of
till_of_house m = λ i. till_from m.counters (live_owed m.game m.live i) (live_held m.game m.live i) (till_of m).pooled

-- ---- what Cancel, Claim and Collect move

-- a finishing day is no money
pub finished_due : (day game : ℕ) (t : Ticket) → (finished_on day game t).due ≡ t.due
finished_due = finished_on_keeps (λ t. t.due) (λ t day. refl)

pub finished_held : (day game now : ℕ) (t : Ticket) → held_for now (finished_on day game t) ≡ held_for now t
unfolding paid_stakes
finished_held day game now = finished_on_keeps (held_for now) (λ t d. refl) day game

-- a figure that a change of some tickets does not touch
unmoved : (f : Ticket → ℕ) (test : Ticket → Bool) (change : Ticket → Ticket) → ((t : Ticket) → f (change t) ≡ f t) → (ts : List Ticket) →
    sum (map f (map (λ t. cond (test t) (change t) t) ts)) ≡ sum (map f ts)
unmoved f test change same =
    sum_unmoved f (λ t. cond (test t) (change t) t) (λ t. cond_either (λ u. f u ≡ f t) (test t) (same t) refl)

-- what is summed over the tickets of a number is the live one's
one_ticket : (m : Model) (n : ℕ) (g : Ticket → ℕ) → Orderly m → has_ticket n (house_of m).live ≡ true →
    sum (map g (keep (λ t. eqb t.number n) m.live)) ≡ g (ticket_at n (house_of m).live)
unfolding sum still_live
one_ticket m n g orderly here =
    ap (λ ts. sum (map g ts)) (alone n (is_live m.game) 1 m.live orderly.numbers here) ∙ add-zero (g (ticket_at n (house_of m).live))

-- the sheet's total of the lines of a number is the figure of the live ticket
pub line_total : (m : Model) (n : ℕ) (f : Line → ℕ) (g : Ticket → ℕ) → Orderly m →
    All (λ t. f (line_of m.game t) ≡ g t) m.live →
    has_ticket n (house_of m).live ≡ true →
    total_at n f (map (line_of m.game) m.live) ≡ g (ticket_at n (house_of m).live)
unfolding total_at still_live
line_total m n f g orderly each here =
    ap (λ ls. sum (map f ls)) (keep_map (λ l. eqb l.number n) (line_of m.game) m.live)
    ∙ ap sum (map-map f (line_of m.game) mine)
    ∙ ap sum
    (map_same (λ t. f (line_of m.game t)) g mine
    (all_kept_lem (λ t. f (line_of m.game t) ≡ g t) (λ t. eqb t.number n) m.live each))
    ∙ one_ticket m n g orderly here
  where
    mine : List Ticket
    mine = keep (λ t. eqb t.number n) m.live

module _ (m : Model) (n : ℕ) where
  pub cancel_owed : dues (changed n (cancelled_ticket m) m.live) ≡ dues m.live
  unfolding changed
  cancel_owed =
      unmoved (λ t. t.due) (λ t. eqb t.number n) (cancelled_ticket m)
      (λ t. finished_due m.day m.game (with_stop t (min t.stop (cancel_stop m t))))
      m.live

  pub claim_held : stakes_held m.game (changed n (λ t. with_due t 0) m.live) ≡ stakes_held m.game m.live
  unfolding changed paid_stakes
  claim_held = unmoved (held_for m.game) (λ t. eqb t.number n) (λ t. with_due t 0) (λ t. refl) m.live

module _ (m : Model) (n : ℕ) (orderly : Orderly m) (here : has_ticket n (house_of m).live ≡ true) where
  pub cancel_total : total_at n (taken_off (sheet_for m)) (map (line_of m.game) m.live) ≡ refund_of n (house_of m)
  unfolding refund_of
  cancel_total =
      line_total m n (taken_off (sheet_for m)) (λ t. paid_stakes (cancel_stop m t) t.stop t) orderly
      (all_from (taken_off_lem m) m.live orderly.tickets) here

  pub claim_total : total_at n (λ l. l.due) (map (line_of m.game) m.live) ≡ (ticket_at n (house_of m).live).due
  claim_total = line_total m n (λ l. l.due) (λ t. t.due) orderly (all_of (λ t. refl) m.live) here

  -- a figure that a change of the number's ticket makes less
  figure_moved :
      (g : Ticket → ℕ) (f : Ticket → Ticket) (part : Ticket → ℕ)
      → ((t : Ticket) → g t ≡ g (f t) + part t)
      → sum (map g m.live) ≡ sum (map g (changed n f m.live)) + part (ticket_at n (house_of m).live)
  unfolding changed
  figure_moved g f part less =
      sum_moved g (λ t. cond (eqb t.number n) (f t) t) part (λ t. eqb t.number n) m.live (all_of (λ t. go t (eqb t.number n)) m.live)
      ∙ ap (λ k. sum (map g (changed n f m.live)) + k) (one_ticket m n part orderly here)
    where
      go : (t : Ticket) (b : Bool) → g t ≡ g (cond b (f t) t) + cond b (part t) 0
      go t true = less t
      go t false = omega arith

  -- what the house pays back was held
  pub cancel_held :
      stakes_held m.game m.live
      ≡ stakes_held m.game (changed n (cancelled_ticket m) m.live) + refund_of n (house_of m)
  unfolding refund_of paid_stakes
  cancel_held = figure_moved (held_for m.game) (cancelled_ticket m) refund part
    where
      refund : Ticket → ℕ
      refund t = paid_stakes (cancel_stop m t) t.stop t

      part : (t : Ticket) → held_for m.game t ≡ held_for m.game (cancelled_ticket m t) + refund t
      part t =
          let next : m.game ≤ next_game m = next_game_least m in
          let before : max t.first m.game ≤ cancel_stop m t = omega arith in
          stakes_split (max t.first m.game) (cancel_stop m t) t.stop t before
          ∙ ap (λ k. k + refund t) (sym (finished_held m.day m.game m.game (with_stop t (min t.stop (cancel_stop m t)))))

  -- what the house pays out was owed
  pub claim_owed :
      dues m.live
      ≡ dues (changed n (λ t. with_due t 0) m.live) + (ticket_at n (house_of m).live).due
  claim_owed = figure_moved (λ t. t.due) (λ t. with_due t 0) (λ t. t.due) (λ t. omega arith)

  pub collect_owed :
      dues m.live
      ≡ dues (changed n (collected_ticket m) m.live ++ (reissued_ticket m (ticket_at n (house_of m).live) ∷ []))
      + (ticket_at n (house_of m).live).due
  collect_owed =
      let t = ticket_at n (house_of m).live in
      let ends : (u : Ticket) → (collected_ticket m u).due ≡ 0 = λ u. finished_due m.day m.game (with_stop (with_due u 0) m.game) in
      figure_moved (λ u. u.due) (collected_ticket m) (λ u. u.due) (λ u. omega (arith, ends u))
      ∙ ap (λ k. k + t.due)
      (sym (sum_snoc (λ u. u.due) (changed n (collected_ticket m) m.live) (reissued_ticket m t) ∙ add-zero (dues (changed n (collected_ticket m) m.live))))

  -- the games that are reissued stay held
  pub collect_held :
      stakes_held m.game (changed n (collected_ticket m) m.live ++ (reissued_ticket m (ticket_at n (house_of m).live) ∷ []))
      ≡ stakes_held m.game m.live
  unfolding paid_stakes
  collect_held =
      sum_snoc (held_for m.game) (changed n (collected_ticket m) m.live) (reissued_ticket m (ticket_at n (house_of m).live))
      ∙ sym (figure_moved (held_for m.game) (collected_ticket m) (held_for m.game) (λ t. omega (arith, ended t)))
    where
      ended : (t : Ticket) → held_for m.game (collected_ticket m t) ≡ 0
      ended t =
          finished_held m.day m.game m.game (with_stop (with_due t 0) m.game)
          ∙ stakes_none (max t.first m.game) m.game (with_stop (with_due t 0) m.game) (omega arith)

-- ---- Sell

pub paid_games_within : (games : ℕ) → paid_games games ≤ games
unfolding paid_games
paid_games_within games = go (ltb games 50) (ltb games 100)
  where
    go : (few some : Bool) → cond few games (cond some (games - 1) (games - 2)) ≤ games
    go true some = omega arith
    go false true = omega arith
    go false false = omega arith

-- a span of so many games, of which so many are paid
paid_in_span : (first games paid : ℕ) → paid ≤ games → min (first + games) (first + paid) - min first (first + paid) ≡ paid
paid_in_span first games paid few = omega arith

-- a new ticket holds all that it was charged
pub sold_held : (m : Model) (o : Operands) → held_for m.game (sold_ticket m o) ≡ charge_of o
unfolding paid_stakes
sold_held m o =
    let next : m.game ≤ next_game m = next_game_least m in
    let first : max (next_game m) m.game ≡ next_game m = omega arith in
    ap (λ a. paid_stakes a (next_game m + o.games) (sold_ticket m o)) first
    ∙ ap (charge (price_of o))
    (paid_in_span (next_game m) o.games (paid_games o.games) (paid_games_within o.games))

-- ---- Expire

module _ (m : Model) where
  late_tickets : keep (λ t. is_live m.game t && is_expired m t) m.live ≡ expiring (house_of m)
  unfolding is_expired still_live
  late_tickets = sym (keep_keep (is_expired m) (is_live m.game) m.live)

  pub late_dues_lem : late_dues (sheet_for m) ≡ map (λ t. t.due) (expiring (house_of m))
  late_dues_lem =
      ap (map (λ l. l.due))
      (keep_map (too_late (sheet_for m)) (line_of m.game) m.live
      ∙ ap (map (line_of m.game))
      (keep_same
      (λ t. too_late (sheet_for m) (line_of m.game t))
      (λ t. is_live m.game t && is_expired m t)
      m.live
      (all_of (late_alike m) m.live)
      ∙ late_tickets))
      ∙ map-map (λ l. l.due) (line_of m.game) (expiring (house_of m))

  -- what expires was owed
  pub expire_owed :
      dues m.live
      ≡ dues (map (λ t. cond (is_expired m t) (with_due t 0) t) m.live) + dues (expiring (house_of m))
  expire_owed =
      sum_moved (λ t. t.due) (λ t. cond (is_expired m t) (with_due t 0) t) (λ t. t.due) (λ t. is_live m.game t && is_expired m t) m.live
      (all_of (λ t. go t (is_live m.game t) refl (is_expired m t)) m.live)
      ∙ ap
      (λ ts. dues (map (λ t. cond (is_expired m t) (with_due t 0) t) m.live) + dues ts)
      late_tickets
    where
      go : (t : Ticket) (live : Bool) → is_live m.game t ≡ live → (late : Bool) →
          t.due ≡ (cond late (with_due t 0) t).due + cond (live && late) t.due 0
      go t true alive true = omega arith
      go t true alive false = omega arith
      go t false shut true = omega (arith, (closed_of m.game t shut).due)
      go t false shut false = omega arith

  pub expire_held :
      stakes_held m.game (map (λ t. cond (is_expired m t) (with_due t 0) t) m.live)
      ≡ stakes_held m.game m.live
  unfolding paid_stakes
  expire_held = unmoved (held_for m.game) (is_expired m) (λ t. with_due t 0) (λ t. refl) m.live

-- ---- the twentieth ball

line_entry_lem : (game : ℕ) (t : Ticket) → Kept game t → line_entry game (line_of game t) ≡ entry_of game t
line_entry_lem game t kept =
    λ i.
    record {
      terms = (entry_of game t).terms;
      marks = t.operands.marks;
      paid = stakes_of_game game game t kept i;
      feature = (entry_of game t).feature;
    }

-- the sheet settles the entries that the house settles
pub entries_alike : (m : Model) → Orderly m →
    map (line_entry m.game) (playing (sheet_for m)) ≡ map (entry_of m.game) (running_in (house_of m))
entries_alike m orderly =
    ap (map (line_entry m.game))
    (keep_map (λ l. member m.game l.left) (line_of m.game) m.live
    ∙ ap (map (line_of m.game))
    (keep_same (λ t. member m.game (line_of m.game t).left) (runs_in m.game) m.live (all_of (plays_left m.game) m.live)))
    ∙ map-map (line_entry m.game) (line_of m.game) plays
    ∙ map_same (λ t. line_entry m.game (line_of m.game t)) (entry_of m.game) plays
    (all_from (line_entry_lem m.game) plays (all_kept_lem (Kept m.game) (runs_in m.game) m.live orderly.tickets))
    ∙ ap (map (entry_of m.game)) (sym (running_live m.game m.live))
  where
    plays : List Ticket
    plays = keep (runs_in m.game) m.live

pub settlements_alike : (m : Model) (b : ℕ) → Orderly m → sheet_settlement b (sheet_for m) ≡ settlement b (house_of m)
unfolding sheet_settlement settlement
settlements_alike m b orderly = ap (settle (draw_of (m.balls ++ (b ∷ []))) m.six m.eight) (entries_alike m orderly)

pub stakes_alike : (m : Model) → Orderly m → stakes_played (sheet_for m) ≡ stakes_drawn (house_of m)
stakes_alike m orderly =
    ap sum
    (sym (map-map (λ e. e.paid) (line_entry m.game) (playing (sheet_for m)))
    ∙ ap (map (λ e. e.paid)) (entries_alike m orderly)
    ∙ map-map (λ e. e.paid) (entry_of m.game) (running_in (house_of m)))

-- the paid stakes of the game were held
pub drawn_held : (game : ℕ) (ts : List Ticket) →
    stakes_held game ts
    ≡ stakes_held (game + 1) ts + sum (map (paid_stakes game (game + 1)) (keep (runs_in game) ts))
drawn_held game ts =
    sum_parts
    (held_for game)
    (held_for (game + 1))
    (λ t. cond (runs_in game t) (paid_stakes game (game + 1) t) 0)
    ts
    (all_of (held_drawn game) ts)
    ∙ ap (λ k. stakes_held (game + 1) ts + k) (sym (sum_picked (paid_stakes game (game + 1)) (runs_in game) ts))

module _ (game : ℕ) where
  -- the awards join the dues
  pub awarded_owed : (awards : List ℕ) (ts : List Ticket) → length awards ≡ length (keep (runs_in game) ts) →
      dues (awarded game awards ts) ≡ dues ts + sum awards
  unfolding awarded sum keep
  awarded_owed [] [] count = refl
  awarded_owed (a ∷ awards) [] count = absurd (omega arith)
  awarded_owed [] (t ∷ ts) count = go (runs_in game t) count (λ none. awarded_owed [] ts none)
    where
      go : (plays : Bool) → 0 ≡ length (cond plays (t ∷ keep (runs_in game) ts) (keep (runs_in game) ts)) →
          (0 ≡ length (keep (runs_in game) ts) → dues (awarded game [] ts) ≡ dues ts + 0) →
          t.due + dues (awarded game [] ts) ≡ t.due + dues ts + 0
      go true none rest = absurd (omega arith)
      go false none rest = omega (arith, rest none)
  awarded_owed (a ∷ awards) (t ∷ ts) count =
      go (runs_in game t) count (λ fewer. awarded_owed awards ts fewer) (λ all. awarded_owed (a ∷ awards) ts all)
    where
      go : (plays : Bool) → suc (length awards) ≡ length (cond plays (t ∷ keep (runs_in game) ts) (keep (runs_in game) ts)) →
          (length awards ≡ length (keep (runs_in game) ts) → dues (awarded game awards ts) ≡ dues ts + sum awards) →
          (suc (length awards) ≡ length (keep (runs_in game) ts) → dues (awarded game (a ∷ awards) ts) ≡ dues ts + (a + sum awards)) →
          dues (cond plays (with_due t (t.due + a) ∷ awarded game awards ts) (t ∷ awarded game (a ∷ awards) ts))
          ≡ t.due + dues ts + (a + sum awards)
      go true some fewer all =
          let rest : length awards ≡ length (keep (runs_in game) ts) = omega arith in
          omega (arith, fewer rest)
      go false some fewer all = omega (arith, all some)
