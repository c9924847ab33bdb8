-- The sheet after each accepted command is the sheet of the ledger after it, and the till stays in balance: command by command, from the
-- lines and from what each command moves.
use Prim.Native.Nat.{ℕ, ◌+◌, ◌-◌, ◌≤◌}
use mathlib.Core.Path.{◌≡◌, refl, sym, ap, ap₂, ◌∙◌}
use mathlib.Core.Bool.{Bool, true, false, cond, not}
use mathlib.Core.List.{List, [], ◌∷◌, ◌++◌, map, map-append}
use mathlib.Core.Logic.{◌⊎◌, inl, inr}
use native.Mathlib.Nat.{add-zero, add_assoc}
use native.Mathlib.Numerals.{add-one}
use native.Mathlib.Omega.{arith}
use lib.Dec.{eqb, eqb-suc-suc}
use lib.ListN.{length, length-append, length-map}
use borrow.Author.Tests.{eq-eqb, ne_eqb}
use Rattle.prizes.specs.Hits.{draw_of}
use Rattle.sale.specs.Lists.{sum, keep}
use Rattle.sale.specs.Checks.{Operands, charge_of}
use Rattle.prizes.specs.Jackpots.{pooled}
use Rattle.prizes.specs.Settle.{Settled}
use Rattle.house.specs.Tickets.{Ticket, runs_in, is_finished, paid_stakes, held_for, entry_of}
use Rattle.house.specs.Model.{Model, with_taken, with_paid, with_refunded, with_unclaimed, with_transferred, with_gained, with_lost, with_seeds}
use Rattle.house.specs.Commands.{open', sell, cancel, ball, claim, expire, transfer, collect, call_off, ticket_at, has_ticket, opened, sold, sold_ticket, cancelled, balls_with, settles, settlement, running_in, stakes_paid, stakes_drawn, awarded, finished_on, after_game, game_settled, game_called_off, ball_entered, claimed, expired, transferred, collected, with_primary}
use Rattle.house.specs.Till.{till_of}
use Rattle.house.specs.Sheet.{Sheet, sheet_with, game_with, pools_with, on_figure, new_line, moved, sheet_open, sheet_sell, sheet_cancel, stakes_played, sheet_settlement, sheet_settle, sheet_ball, twentieth, sheet_claim, sheet_expire, sheet_transfer, sheet_collect, sheet_call_off, primary_with}
use Rattle.house.specs.Balance.{Balanced}
use Rattle.house.proofs.Ledger.{Orderly, house_of, ended_tickets, cancelled_ledger, claimed_ledger, expired_ledger, collected_ledger, settled_ledger, called_off_ledger, line_of, sheet_for}
use Rattle.house.proofs.MoneyLaws.{sum_snoc, sum_unmoved}
use Rattle.house.proofs.SheetLines.{sold_line, cancelled_lines, claimed_lines, collected_lines, expired_lines, settled_lines, called_off_lines}
use Rattle.house.proofs.SheetFigures.{till_from, dues, stakes_held, sold_held, cancel_total, cancel_held, cancel_owed, claim_total, claim_owed, claim_held, collect_owed, collect_held, late_dues_lem, expire_owed, expire_held, finished_due, finished_held, awarded_owed, drawn_held, settlements_alike, stakes_alike}
use Rattle.house.proofs.LiveTickets.{awarded_keeps, running_live}
use Rattle.prizes.proofs.SettleLaws.{awards_count, awards_sum, pools_balance}

-- ---- Open

pub opened_sheet : (m : Model) (d : ℕ) → moved (open' d) (sheet_for m) ≡ sheet_for (opened d m)
unfolding moved sheet_open opened till_of
opened_sheet m d = refl

-- ---- Sell

module _ (m : Model) (o : Operands) where
  sold_owed : dues (m.live ++ (sold_ticket m o ∷ [])) ≡ dues m.live
  sold_owed = sum_snoc (λ t. t.due) m.live (sold_ticket m o) ∙ add-zero (dues m.live)

  sold_kept : stakes_held m.game (m.live ++ (sold_ticket m o ∷ [])) ≡ stakes_held m.game m.live + charge_of o
  sold_kept =
      sum_snoc (held_for m.game) m.live (sold_ticket m o)
      ∙ ap (λ n. stakes_held m.game m.live + n) (sold_held m o)

  pub sold_sheet : Orderly m → moved (sell o) (sheet_for m) ≡ sheet_for (sold o m)
  unfolding moved sheet_sell on_figure sold till_of
  sold_sheet orderly =
      λ i. sheet_with (lines i) (till_from (with_taken (charge_of o) m.counters) (sym sold_owed i) (sym sold_kept i) (till_of m).pooled) (sheet_for m)
    where
      lines : map (line_of m.game) m.live ++ (new_line o (sheet_for m) ∷ []) ≡ map (line_of m.game) (m.live ++ (sold_ticket m o ∷ []))
      lines =
          ap (λ l. map (line_of m.game) m.live ++ (l ∷ [])) (sold_line m o orderly.issued)
          ∙ sym (map-append (line_of m.game) m.live (sold_ticket m o ∷ []))

  pub sold_balance : Balanced (till_of m) → Balanced (till_of (sold o m))
  unfolding sold till_of
  sold_balance balance = omega (arith, balance, sold_owed, sold_kept)

-- ---- Cancel and Claim

-- what is taken off a sum that it is a part of
taken_off_sum : {whole rest part off : ℕ} → whole ≡ rest + part → off ≡ part → whole - off ≡ rest
taken_off_sum parts same = omega arith

module _ (m : Model) (n : ℕ) (orderly : Orderly m) (here : has_ticket n (house_of m).live ≡ true) where
  pub cancelled_sheet : moved (cancel n) (sheet_for m) ≡ sheet_for (cancelled_ledger n m)
  unfolding moved sheet_cancel on_figure cancelled till_of
  cancelled_sheet =
      let refund = cancel_total m n orderly here in
      λ i.
      sheet_with (cancelled_lines m n orderly.tickets i)
      (till_from (with_refunded (refund i) m.counters) (sym (cancel_owed m n) i) (taken_off_sum (cancel_held m n orderly here) refund i) (till_of m).pooled)
      (sheet_for m)

  pub cancelled_balance : Balanced (till_of m) → Balanced (till_of (cancelled_ledger n m))
  unfolding cancelled till_of
  cancelled_balance balance = omega (arith, balance, cancel_owed m n, cancel_held m n orderly here)

  pub claimed_sheet : moved (claim n) (sheet_for m) ≡ sheet_for (claimed_ledger n m)
  unfolding moved sheet_claim on_figure claimed till_of
  claimed_sheet =
      let due = claim_total m n orderly here in
      λ i.
      sheet_with (claimed_lines m.game n m.live i)
      (till_from (with_paid (due i) m.counters) (taken_off_sum (claim_owed m n orderly here) due i) (sym (claim_held m n) i) (till_of m).pooled)
      (sheet_for m)

  pub claimed_balance : Balanced (till_of m) → Balanced (till_of (claimed_ledger n m))
  unfolding claimed till_of
  claimed_balance balance = omega (arith, balance, claim_owed m n orderly here, claim_held m n)

-- ---- Collect

module _ (m : Model) (n : ℕ) (orderly : Orderly m) (here : has_ticket n (house_of m).live ≡ true) where
  pub collected_sheet : is_finished m.game (ticket_at n (house_of m).live) ≡ false → moved (collect n) (sheet_for m) ≡ sheet_for (collected_ledger n m)
  unfolding moved sheet_collect on_figure collected till_of
  collected_sheet running =
      let due = claim_total m n orderly here in
      λ i.
      sheet_with (collected_lines m n orderly here running i)
      (till_from (with_paid (due i) m.counters) (taken_off_sum (collect_owed m n orderly here) due i) (sym (collect_held m n orderly here) i) (till_of m).pooled)
      (sheet_for m)

  pub collected_balance : Balanced (till_of m) → Balanced (till_of (collected_ledger n m))
  unfolding collected till_of
  collected_balance balance = omega (arith, balance, collect_owed m n orderly here, collect_held m n orderly here)

-- ---- Expire

module _ (m : Model) where
  pub expired_sheet : moved expire (sheet_for m) ≡ sheet_for (expired_ledger m)
  unfolding moved sheet_expire on_figure expired till_of
  expired_sheet =
      let late = ap sum (late_dues_lem m) in
      λ i.
      sheet_with (expired_lines m i)
      (till_from (with_unclaimed (late i) m.counters) (taken_off_sum (expire_owed m) late i) (sym (expire_held m) i) (till_of m).pooled)
      (sheet_for m)

  pub expired_balance : Balanced (till_of m) → Balanced (till_of (expired_ledger m))
  unfolding expired till_of
  expired_balance balance = omega (arith, balance, expire_owed m, expire_held m)

-- ---- Transfer

-- a jackpot that is not 6 is 8
other_jackpot : (j : ℕ) → (j ≡ 6) ⊎ (j ≡ 8) → eqb j 8 ≡ not (eqb j 6)
other_jackpot j (inl six) =
    ne_eqb j 8 (λ eight. omega arith) ∙ ap not (sym (eq-eqb j 6 six))
other_jackpot j (inr eight) = eq-eqb j 8 eight ∙ ap not (sym (ne_eqb j 6 (λ six. omega arith)))

module _ (m : Model) (j cents : ℕ) where
  transferred_pooled :
      pooled (cond (eqb j 6) (with_primary m.six (m.six.primary + cents)) m.six)
      + pooled (cond (eqb j 6) m.eight (with_primary m.eight (m.eight.primary + cents)))
      ≡ pooled m.six + pooled m.eight + cents
  transferred_pooled = go (eqb j 6)
    where
      go : (six : Bool) →
          pooled (cond six (with_primary m.six (m.six.primary + cents)) m.six)
          + pooled (cond six m.eight (with_primary m.eight (m.eight.primary + cents)))
          ≡ pooled m.six + pooled m.eight + cents
      go true = omega arith
      go false = omega arith

  pub transferred_sheet : (j ≡ 6) ⊎ (j ≡ 8) → moved (transfer j cents) (sheet_for m) ≡ sheet_for (transferred j cents m)
  unfolding moved sheet_transfer on_figure transferred till_of
  transferred_sheet named =
      let eight = ap (λ b. cond b (primary_with cents m.eight) m.eight) (other_jackpot j named) ∙ go (eqb j 6) in
      λ i.
      pools_with (moved (transfer j cents) (sheet_for m)).six (eight i)
      (sheet_with (sheet_for m).lines
      (till_from (with_transferred cents m.counters) (till_of m).owed (till_of m).held (sym transferred_pooled i))
      (sheet_for m))
    where
      go : (six : Bool) →
          cond (not six) (primary_with cents m.eight) m.eight ≡ cond six m.eight (with_primary m.eight (m.eight.primary + cents))
      go true = refl
      go false = refl

  pub transferred_balance : cents ≤ m.counters.unclaimed → Balanced (till_of m) → Balanced (till_of (transferred j cents m))
  unfolding transferred till_of
  transferred_balance covered balance = omega (arith, balance, transferred_pooled)

-- ---- the end of a game

module _ (m : Model) (awards : List ℕ) where
  -- its awards join what is owed
  ended_owed : length awards ≡ length (keep (runs_in m.game) m.live) → dues (ended_tickets awards m) ≡ dues m.live + sum awards
  ended_owed each =
      sum_unmoved
      (λ t. t.due)
      (finished_on m.day (m.game + 1))
      (finished_due m.day (m.game + 1))
      (awarded m.game awards m.live)
      ∙ awarded_owed m.game awards m.live each

  -- and its paid stakes are held no more
  ended_held : stakes_held m.game m.live ≡ stakes_held (m.game + 1) (ended_tickets awards m) + stakes_drawn (house_of m)
  unfolding paid_stakes
  ended_held =
      drawn_held m.game m.live
      ∙ ap₂ ◌+◌
      (sym
      (sum_unmoved
      (held_for (m.game + 1))
      (finished_on m.day (m.game + 1))
      (finished_held m.day (m.game + 1) (m.game + 1))
      (awarded m.game awards m.live)
      ∙ ap sum (awarded_keeps (held_for (m.game + 1)) (λ t cents. refl) m.game awards m.live)))
      (ap (λ ts. sum (map (paid_stakes m.game (m.game + 1)) ts)) (sym (running_live m.game m.live)))

-- ---- Ball

-- the twentieth ball on the sheet is the one that settles
pub twentieth_alike : (m : Model) (b : ℕ) → twentieth (sheet_for m) ≡ settles b m
twentieth_alike m b =
    sym (eqb-suc-suc (length m.balls) 19)
    ∙ ap (λ n. eqb n 20) (sym (length-append m.balls (b ∷ []) ∙ add-one (length m.balls)))

module _ (m : Model) (b : ℕ) where
  abbrev result : Settled
  result = settlement b (house_of m)

  abbrev tickets_then : List Ticket
  tickets_then = ended_tickets result.awards m

  abbrev sheet_then : Sheet
  sheet_then = sheet_settle (sheet_settlement b (sheet_for m)) (stakes_played (sheet_for m)) (sheet_for m)

  -- an award for each ticket that runs
  awards_given : length result.awards ≡ length (keep (runs_in m.game) m.live)
  unfolding settlement
  awards_given =
      awards_count (draw_of (balls_with b m)) m.six m.eight (map (entry_of m.game) (running_in (house_of m)))
      ∙ length-map (running_in (house_of m)) (entry_of m.game)
      ∙ ap length (running_live m.game m.live)

  settled_owed : dues tickets_then ≡ dues m.live + (result.prizes + result.shares)
  unfolding settlement
  settled_owed =
      ended_owed m result.awards awards_given
      ∙ ap (λ n. dues m.live + n)
      (awards_sum (draw_of (balls_with b m)) m.six m.eight (map (entry_of m.game) (running_in (house_of m))))

  settled_held : stakes_held m.game m.live ≡ stakes_held (m.game + 1) tickets_then + stakes_drawn (house_of m)
  settled_held = ended_held m result.awards

  settled_pools :
      pooled result.six + pooled result.eight + result.shares + result.repaid
      ≡ pooled m.six + pooled m.eight + result.contributions + result.seeds
  unfolding settlement
  settled_pools =
      pools_balance (draw_of (balls_with b m)) m.six m.eight (map (entry_of m.game) (running_in (house_of m)))

  settled_sheet : Orderly m → sheet_then ≡ sheet_for (settled_ledger b m)
  unfolding sheet_settle on_figure game_settled till_of
  settled_sheet orderly =
      ap₂ (λ r stakes. sheet_settle r stakes (sheet_for m)) (settlements_alike m b orderly) (stakes_alike m orderly)
      ∙ (λ i.
      game_with (m.game + 1) []
      (pools_with result.six result.eight
      (sheet_with (settled_lines m.day m.game result.awards m.live orderly.tickets awards_given i)
      (till_from (counters i) (sym settled_owed i) (taken_off_sum settled_held refl i) (pools i))
      (sheet_for m))))
    where
      counters : with_seeds result.seeds (with_gained (stakes_drawn (house_of m) + result.repaid) (with_lost (result.contributions + result.prizes) m.counters))
          ≡ after_game (stakes_drawn (house_of m)) result m.counters
      counters = simp add_assoc

      pools : (till_of m).pooled + (result.contributions + result.seeds) - (result.shares + result.repaid) ≡ pooled result.six + pooled result.eight
      pools = omega (arith, settled_pools)

  pub settled_balance : Balanced (till_of m) → Balanced (till_of (settled_ledger b m))
  unfolding game_settled till_of
  settled_balance balance = omega (arith, balance, settled_owed, settled_held, settled_pools)

  -- the sheet at a ball that completes the draw, and at one that does not
  pub twentieth_sheet : Orderly m → settles b m ≡ true → moved (ball b) (sheet_for m) ≡ sheet_for (settled_ledger b m)
  unfolding moved sheet_ball
  twentieth_sheet orderly last = rw (twentieth_alike m b, last) (settled_sheet orderly)

  pub earlier_sheet : settles b m ≡ false → moved (ball b) (sheet_for m) ≡ sheet_for (ball_entered b m)
  unfolding moved sheet_ball ball_entered till_of
  earlier_sheet early = rw (twentieth_alike m b, early)

-- ---- a game called off

module _ (m : Model) where
  -- a stake for each ticket that runs
  stakes_each : length (stakes_paid (house_of m)) ≡ length (keep (runs_in m.game) m.live)
  stakes_each = length-map (running_in (house_of m)) (paid_stakes m.game (m.game + 1)) ∙ ap length (running_live m.game m.live)

  -- what was held for the game is owed
  pub called_off_owed : dues (ended_tickets (stakes_paid (house_of m)) m) ≡ dues m.live + stakes_drawn (house_of m)
  called_off_owed = ended_owed m (stakes_paid (house_of m)) stakes_each

  pub called_off_held : stakes_held m.game m.live ≡ stakes_held (m.game + 1) (ended_tickets (stakes_paid (house_of m)) m) + stakes_drawn (house_of m)
  called_off_held = ended_held m (stakes_paid (house_of m))

  pub called_off_sheet : Orderly m → moved call_off (sheet_for m) ≡ sheet_for (called_off_ledger m)
  unfolding moved sheet_call_off on_figure game_called_off till_of
  called_off_sheet orderly =
      let stakes = stakes_alike m orderly in
      λ i.
      game_with (m.game + 1) []
      (sheet_with (called_off_lines m orderly i)
      (till_from m.counters ((ap (λ cents. dues m.live + cents) stakes ∙ sym called_off_owed) i) (taken_off_sum called_off_held stakes i) (till_of m).pooled)
      (sheet_for m))

  pub called_off_balance : Balanced (till_of m) → Balanced (till_of (called_off_ledger m))
  unfolding game_called_off till_of
  called_off_balance balance = omega (arith, balance, called_off_owed, called_off_held)
