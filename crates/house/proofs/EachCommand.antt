-- Each command, where it is accepted: all that is shown of it, from the ledger before it to the ledger after it. One record, one clause a command;
-- what a clause needs of one command alone stands in the files that it cites.
use Prim.Native.Nat.{ℕ, ◌+◌, ◌^◌, ◌≤◌, ◌<◌, min}
use native.Mathlib.Omega.{arith}
use mathlib.Core.Path.{◌≡◌, refl, ap, ◌∙◌}
use mathlib.Core.Bool.{Bool, true, false, cond, not}
use mathlib.Core.List.{[], ◌∷◌, map}
use mathlib.Core.Logic.{⊎_elim}
use lib.Dec.{eqb}
use lib.ListN.{length, length-append}
use Rattle.prizes.specs.Hits.{draw_of}
use Rattle.prizes.specs.declared.jackpot.Jackpot.{Jackpot}
use Rattle.sale.specs.Lists.{keep}
use Rattle.sale.proofs.KeepLaws.{length_keep_le}
use Rattle.prizes.proofs.SettleLaws.{pools_balance}
use Rattle.house.specs.Tickets.{entry_of, with_due, with_stop}
use Rattle.house.specs.Model.{Model, live_limit}
use Rattle.house.specs.Commands.{Command, open', sell, cancel, ball, claim, expire, transfer, collect, call_off, Reply, still_live, changed, cancel_stop, cancelled_ticket, sold_ticket, code_of, opened, sold, cancelled, balls_with, settles, running_in, settlement, game_settled, ball_entered, claimed, is_expired, expired, transferred, has_ticket, ticket_at, reissued_ticket, collected, game_called_off, act, reply}
use Rattle.house.specs.Till.{till_of}
use Rattle.house.specs.Sheet.{moved, feed, sheet_reply}
use Rattle.house.specs.Claims.{Log, sheet_of}
use Rattle.house.specs.Balance.{Balanced}
use Rattle.house.proofs.Ledger.{Orderly, house_of, cancelled_ledger, claimed_ledger, expired_ledger, collected_ledger, settled_ledger, called_off_ledger, sheet_for}
use Rattle.house.proofs.ListLaws.{cond_either}
use Rattle.house.proofs.Refusals.{sell_accepted, cancel_accepted, ball_accepted, claim_accepted, transfer_accepted, collect_accepted, call_off_accepted}
use Rattle.house.proofs.CheckedOperands.{playable}
use Rattle.house.proofs.LiveTickets.{finished_on_keeps, sold_house_lem, cancelled_house, settled_house, claimed_house, expired_house_lem, collected_house, collected_live, called_off_house}
use Rattle.house.proofs.OrderlyLedgers.{orderly_with, orderly_changed, orderly_sold, orderly_collected, orderly_settled, orderly_called_off, orderly_entered, cancelled_kept, paid_kept}
use Rattle.house.proofs.SheetSteps.{opened_sheet, sold_sheet, sold_balance, cancelled_sheet, cancelled_balance, claimed_sheet, claimed_balance, collected_sheet, collected_balance, expired_sheet, expired_balance, transferred_sheet, transferred_balance, twentieth_sheet, earlier_sheet, settled_balance, called_off_owed, called_off_sheet, called_off_balance}
use Rattle.house.proofs.SheetAnswers.{sold_reply, cancelled_reply, ball_reply, claimed_reply, expired_reply, transferred_reply, collected_reply, called_off_reply}
use Rattle.house.proofs.LogLaws.{logged}
use Rattle.house.proofs.Won.{Told, told_open, told_sell, told_cancel, told_claim, told_expire, told_transfer, told_collect}
use Rattle.house.proofs.GamesTold.{told_early, told_settled, told_called_off}
use Rattle.house.proofs.Bounded.{Bounded, Fit, few_kept, fewer_kept, game_bounded, called_off_bounded, transferred_bounded}

-- a number and cents that fit the bytes of an answer
pub record Shown (r : Reply) : Type 0 where
  pub number : r.number < 2 ^ 32
  pub cents : r.cents < 2 ^ 64

-- a day of two bytes, if the command has a day; other operands that are answered are bounded by the house
abbrev pub ShortDay : Command → Type 0
ShortDay c = (d : ℕ) → c ≡ open' d → d < 65536

pub record Followed (m : Model) (log : Log) (c : Command) (house : Model) (answer : Reply) : Type 0 where
  -- the ledger after the command: the house is its live tickets
  pub ledger : Model
  pub drops : house ≡ house_of ledger
  pub orderly : Orderly ledger
  pub bounded : Bounded ledger
  pub balanced : Balanced (till_of ledger)
  -- the sheet, spans, awards and payments that the log tells
  pub told : Told ledger (logged c 0 ∷ log)
  -- the answer is the sheet's, and fits its bytes
  pub agrees : answer ≡ sheet_reply (sheet_for m) c
  pub shown : ShortDay c → Fit m → Fit ledger → Shown answer

module _ (m : Model) (log : Log) (ok : Orderly m) (told : Told m log) (b : Bounded m) (balance : Balanced (till_of m)) where
  -- the sheet that the log tells, one command on
  fed : (c : Command) (after : Model) → moved c (sheet_for m) ≡ sheet_for after → sheet_of (logged c 0 ∷ log) ≡ sheet_for after
  unfolding sheet_of feed
  fed c after sheet = ap (moved c) told.sheet ∙ sheet

  -- the prizes and shares of a settled game: shares come from the pools, contributions and seeds
  game_shown : (n : ℕ) → Fit m → Fit (settled_ledger n m) → (settlement n (house_of m)).prizes + (settlement n (house_of m)).shares < 2 ^ 64
  unfolding settlement game_settled till_of
  game_shown n before after =
      let pools = pools_balance (draw_of (balls_with n m)) m.six m.eight (map (entry_of m.game) (running_in (house_of m))) in
      omega (arith, pools, before.figures.pooled, after.figures.lost, after.figures.seeds)

  -- one ticket closes as the other opens
  collected_few : (n : ℕ) → has_ticket n (house_of m).live ≡ true → length (collected n (house_of m)).live ≤ live_limit
  collected_few n here =
      let others = keep (λ t. not (eqb t.number n)) (house_of m).live in
      omega (
        arith,
        ap length (collected_live m n),
        length-append others (reissued_ticket m (ticket_at n (house_of m).live) ∷ []),
        fewer_kept (λ t. eqb t.number n) (house_of m).live here,
        b.live,
      )

  pub followed : (c : Command) → code_of (house_of m) c ≡ 0 → Followed m log c (act (house_of m) c) (reply (house_of m) c)
  unfolding act opened sold cancelled ball_entered claimed expired transferred collected game_called_off changed still_live till_of reply sheet_reply
  followed (open' d) e =
      record {
        ledger = opened d m;
        drops = refl;
        orderly = orderly_with m (opened d m) ok refl refl ok.tickets ok.balls ok.games;
        bounded = omega arith;
        balanced = balance;
        told = told_open m log d told (fed (open' d) (opened d m) (opened_sheet m d));
        agrees = refl;
        shown = λ short before after. omega (arith, short d refl);
      }
  followed (sell o) e =
      let sale = sell_accepted (house_of m) o e in
      let drops = sold_house_lem m o (playable o sale.checked).some_games in
      record {
        ledger = sold o m;
        drops = drops;
        orderly = orderly_sold m o ok sale;
        bounded =
            omega (
              arith,
              sale.room,
              sale.numbered,
              (playable o sale.checked).charge,
              length-append (house_of m).live (sold_ticket m o ∷ []),
              ap (λ (h : Model). length h.live) drops,
            );
        balanced = sold_balance m o balance;
        told = told_sell m log o ok told (fed (sell o) (sold o m) (sold_sheet m o ok));
        agrees = sold_reply m ok o;
        shown = λ short before after. omega (arith, sale.numbered, (playable o sale.checked).charge);
      }
  followed (cancel n) e =
      let facts = cancel_accepted (house_of m) n e in
      let drops = cancelled_house m n in
      let few : length (cancelled n (house_of m)).live ≤ live_limit = few_kept _ _ (house_of m).live live_limit b.live in
      record {
        ledger = cancelled_ledger n m;
        drops = drops;
        orderly =
            orderly_changed m _ (λ t. eqb t.number n) (cancelled_ticket m) ok
            (λ t. finished_on_keeps (λ u. u.number) (λ u d. refl) m.day m.game (with_stop t (min t.stop (cancel_stop m t))))
            (λ t. cancelled_kept m t facts.opened);
        bounded = omega (arith, few, ap (λ (h : Model). length h.live) drops);
        balanced = cancelled_balance m n ok facts.here balance;
        told = told_cancel m log n told (fed (cancel n) (cancelled_ledger n m) (cancelled_sheet m n ok facts.here));
        agrees = cancelled_reply m ok n facts.here;
        shown = λ short before after. omega (arith, facts.issued, b.issued, after.figures.refunded);
      }
  followed (ball n) e = go (settles n m) refl
    where
      few : length (balls_with n m) < 2 ^ 32
      few = omega (arith, length-append m.balls (n ∷ []), ok.balls.few)

      go :
          (last : Bool)
          → settles n m ≡ last
          → Followed m log (ball n) (cond last (game_settled n (house_of m)) (ball_entered n (house_of m))) (reply (house_of m) (ball n))
      go true last =
          record {
            ledger = settled_ledger n m;
            drops = settled_house m n;
            orderly = orderly_settled m n ok (ball_accepted (house_of m) n e).opened;
            bounded = game_bounded m ok b n (ball_accepted (house_of m) n e).game;
            balanced = settled_balance m n balance;
            told = told_settled m log n ok told last (fed (ball n) (settled_ledger n m) (twentieth_sheet m n ok last));
            agrees = ball_reply m ok n;
            shown = λ short before after. record { number = few; cents = rw last (game_shown n before after) };
          }
      go false early =
          record {
            ledger = ball_entered n m;
            drops = refl;
            orderly = orderly_entered m n ok e early;
            bounded = omega arith;
            balanced = balance;
            told = told_early m log n told early (fed (ball n) (ball_entered n m) (earlier_sheet m n early));
            agrees = ball_reply m ok n;
            shown = λ short before after. record { number = few; cents = rw early (omega arith) };
          }
  followed (claim n) e =
      let facts = claim_accepted (house_of m) n e in
      let drops = claimed_house m n in
      let few : length (claimed n (house_of m)).live ≤ live_limit = few_kept _ _ (house_of m).live live_limit b.live in
      record {
        ledger = claimed_ledger n m;
        drops = drops;
        orderly = orderly_changed m _ (λ t. eqb t.number n) (λ t. with_due t 0) ok (λ t. refl) (paid_kept m.game 0);
        bounded = omega (arith, few, ap (λ (h : Model). length h.live) drops);
        balanced = claimed_balance m n ok facts.here balance;
        told = told_claim m log n ok told e (fed (claim n) (claimed_ledger n m) (claimed_sheet m n ok facts.here));
        agrees = claimed_reply m ok n facts.here;
        shown = λ short before after. omega (arith, facts.issued, b.issued, after.figures.paid);
      }
  followed expire e =
      let drops = expired_house_lem m in
      let few : length (expired (house_of m)).live ≤ live_limit = few_kept _ _ (house_of m).live live_limit b.live in
      record {
        ledger = expired_ledger m;
        drops = drops;
        orderly = orderly_changed m _ (is_expired m) (λ t. with_due t 0) ok (λ t. refl) (paid_kept m.game 0);
        bounded = omega (arith, few, ap (λ (h : Model). length h.live) drops);
        balanced = expired_balance m balance;
        told = told_expire m log told (fed expire (expired_ledger m) (expired_sheet m));
        agrees = expired_reply m;
        shown = λ short before after. omega (arith, length_keep_le (is_expired (house_of m)) (house_of m).live, b.live, after.figures.unclaimed);
      }
  followed (transfer j cents) e =
      let facts = transfer_accepted (house_of m) j cents e in
      record {
        ledger = transferred j cents m;
        drops = refl;
        orderly = orderly_with m (transferred j cents m) ok refl refl ok.tickets ok.balls ok.games;
        bounded = transferred_bounded m j cents b;
        balanced = transferred_balance m j cents facts.covered balance;
        told = told_transfer m log j cents told (fed (transfer j cents) (transferred j cents m) (transferred_sheet m j cents facts.jackpot));
        agrees = transferred_reply m j cents;
        shown = λ short before after.
            record {
              number = ⊎_elim (λ six. omega arith) (λ eight. omega arith) facts.jackpot;
              cents = cond_either (λ (p : Jackpot). p.primary + cents < 2 ^ 64) (eqb j 6)
                  (omega (arith, facts.covered, before.figures.unclaimed, before.six.primary))
                  (omega (arith, facts.covered, before.figures.unclaimed, before.eight.primary));
            };
      }
  followed (collect n) e =
      let facts = collect_accepted (house_of m) n e in
      let drops = collected_house m n facts.running in
      record {
        ledger = collected_ledger n m;
        drops = drops;
        orderly = orderly_collected m n ok b.game facts;
        bounded = omega (arith, collected_few n facts.here, facts.numbered, ap (λ (h : Model). length h.live) drops);
        balanced = collected_balance m n ok facts.here balance;
        told = told_collect m log n ok told e (fed (collect n) (collected_ledger n m) (collected_sheet m n ok facts.here facts.running));
        agrees = collected_reply m ok n facts.here;
        shown = λ short before after. omega (arith, facts.numbered, after.figures.paid);
      }
  followed call_off e =
      let facts = call_off_accepted (house_of m) e in
      record {
        ledger = called_off_ledger m;
        drops = called_off_house m;
        orderly = orderly_called_off m ok facts.opened;
        bounded = called_off_bounded m b facts.game;
        balanced = called_off_balance m balance;
        told = told_called_off m log told (fed call_off (called_off_ledger m) (called_off_sheet m ok));
        agrees = called_off_reply m ok;
        shown = λ short before after. omega (arith, facts.game, called_off_owed m, after.figures.owed);
      }
