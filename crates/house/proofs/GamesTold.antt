-- What the log tells of the ledger once a ball is in, and at the end of a game: by its twentieth ball each ticket that runs in it wins its award, and by a call-off
-- each is given back what it paid for it.
use Prim.Native.Nat.{ℕ, ◌+◌, ◌-◌, ◌≤◌, ◌<◌, max}
use native.Mathlib.Omega.{arith}
use mathlib.Core.Path.{◌≡◌, refl, sym, ◌∙◌, ap, subst⁻¹}
use mathlib.Core.Bool.{Bool, true, false, cond, ◌&&◌}
use mathlib.Core.List.{List, [], ◌∷◌, ◌++◌, map}
use lib.Dec.{ltb, leb, eqb}
use lib.ListN.{length, length-append, length-map}
use borrow.Author.Tests.{ltb-true, leb-true, eq-eqb, ne_eqb, eqb-true, eqb-false}
use Rattle.prizes.specs.Hits.{draw_of}
use Rattle.sale.specs.Lists.{keep, member}
use Rattle.house.specs.Tickets.{Ticket, runs_in, paid_stakes, is_finished, entry_of, with_due}
use Rattle.house.specs.Model.{Model}
use Rattle.house.specs.Commands.{ball, call_off, settles, ball_entered, game_settled, settlement, running_in, finished_on, game_called_off}
use Rattle.house.specs.Sheet.{Sheet, Line, playing, sheet_settlement}
use Rattle.house.specs.Claims.{Log, Logged, draws, drops, effect_of, effect_in, Progress, nineteen_in, progress_after, progress_of, game_of, Span, games_of, span_of, award_at, payments_after, payments}
use Rattle.house.proofs.Ledger.{house_of, settled_ledger, called_off_ledger, line_of, All, Orderly}
use Rattle.house.proofs.LiveTickets.{running_live, with_stake_back, called_off_tickets}
use Rattle.house.proofs.ListLaws.{All-map}
use Rattle.house.proofs.SheetFigures.{settlements_alike}
use Rattle.house.proofs.Refusals.{and_true}
use Rattle.house.proofs.AwardLaws.{awarded_at, awarded_by_number, playing_lines}
use Rattle.house.proofs.Won.{Dues, owed, moved, RunsBy, earned, stakes_by, TicketTold, progress_for, Told, tickets_same, game_told, After, finished_day_lem}
use Rattle.house.proofs.LogLaws.{logged, untouched, award_now, game_drawn, game_dropped}
use Rattle.prizes.proofs.SettleLaws.{awards_count}

-- ---- a ball before the twentieth

abbrev with_ball : ℕ → Log → Log
with_ball b log = logged (ball b) 0 ∷ log

pub told_early : (m : Model) (log : Log) (b : ℕ)
    → Told m log
    → settles b m ≡ false
    → After log (ball b) (ball_entered b m)
unfolding ball_entered effect_in effect_of progress_of progress_after payments payments_after
told_early m log b told early sheet =
    let size : length (m.balls ++ (b ∷ [])) ≡ length m.balls + 1 = length-append m.balls (b ∷ []) in
    let short : length (m.balls ++ (b ∷ [])) ≡ 20 → ⊥ = eqb-false (length (m.balls ++ (b ∷ []))) 20 early in
    let waits : nineteen_in (progress_for m) ≡ false = ne_eqb (length m.balls) 19 (λ last. short (omega arith)) in
    record {
      sheet = sheet;
      progress =
          ap (λ (p : Progress). progress_after p (draws b)) told.progress
          ∙ rw waits (λ i. record { game = m.game; balls = sym size i; issued = m.issued });
      tickets =
          tickets_same m.game log (with_ball b log) m.live
          (λ n. untouched n log (logged (ball b) 0) (ap nineteen_in told.progress ∙ waits)) told.tickets;
      once = told.once;
      unissued = told.unissued;
    }

-- ---- the end of the game

-- a ticket at the end of the game, which brings it so many cents where it runs in it
ended_told : (m : Model) (log : Log) (e : Logged) (cents : ℕ) (t : Ticket)
    → span_of t.number (e ∷ log) ≡ span_of t.number log
    → earned (stakes_by t) t.number (e ∷ log) ≡ earned (stakes_by t) t.number log + cond (member m.game (games_of (span_of t.number log))) cents 0
    → payments t.number (e ∷ log) ≡ payments t.number log
    → TicketTold m.game log t
    → TicketTold (m.game + 1) (e ∷ log) (cond (runs_in m.game t) (with_due t (t.due + cents)) t)
unfolding runs_in paid_stakes
ended_told m log e cents t span won paid f =
    go (runs_in m.game t) refl
    (won ∙ ap (λ (runs : Bool). earned (stakes_by t) t.number log + cond runs cents 0) (sym (f.runs m.game (omega arith))))
    f.dues
  where
    later : RunsBy (m.game + 1) (span_of t.number (e ∷ log)) t.first t.stop
    later = subst⁻¹ (λ (s : Span). RunsBy (m.game + 1) s t.first t.stop) span (λ g from. f.runs g (omega arith))

    begins : t.first ≤ (span_of t.number (e ∷ log)).first
    begins = subst⁻¹ (λ (s : Span). t.first ≤ s.first) span f.begins

    go : (runs : Bool)
        → (leb t.first m.game && ltb m.game t.stop) ≡ runs
        → earned (stakes_by t) t.number (e ∷ log) ≡ earned (stakes_by t) t.number log + cond runs cents 0
        → Dues t.due (earned (stakes_by t) t.number log) (t.stop - max t.first m.game) (payments t.number log)
        → TicketTold (m.game + 1) (e ∷ log) (cond runs (with_due t (t.due + cents)) t)
    go true runs more (owed is none) = record { runs = later; begins = begins; dues = owed (omega arith) (paid ∙ none) }
    go true runs more (moved is none) =
        let both = and_true _ _ runs in
        let low : t.first ≤ m.game = leb-true t.first m.game both.0 in
        let high : m.game < t.stop = ltb-true m.game t.stop both.1 in
        absurd (omega arith)
    go false idle more (owed is none) = record { runs = later; begins = begins; dues = owed (omega arith) (paid ∙ none) }
    go false idle more (moved is none) = record { runs = later; begins = begins; dues = moved is (omega arith) }

-- and all of them get their finishing days
all_finished : (m : Model) (log : Log) (ts : List Ticket)
    → All (TicketTold (m.game + 1) log) ts
    → All (TicketTold (m.game + 1) log) (map (finished_on m.day (m.game + 1)) ts)
all_finished m log ts =
    All-map (TicketTold (m.game + 1) log) (TicketTold (m.game + 1) log) (finished_on m.day (m.game + 1))
    (λ t. finished_day_lem (m.game + 1) log t (is_finished (m.game + 1) t && eqb t.finished_day 0) m.day) ts

-- ---- by the twentieth ball

-- a ticket then
settled_ticket : (m : Model) (log : Log) (e : Logged) (b : ℕ) (lines : List Line) (awards : List ℕ) (t : Ticket)
    → effect_in e ≡ draws b
    → game_of log ≡ m.game
    → nineteen_in (progress_of log) ≡ true
    → award_now b t.number log ≡ award_at t.number lines awards
    → TicketTold m.game log t
    → TicketTold (m.game + 1) (e ∷ log) (awarded_at m.game lines awards t)
settled_ticket m log e b lines awards t is game last award f =
    let after = game_drawn e log b t.number is last in
    let here : cond (member (game_of log) (games_of (span_of t.number log))) (award_now b t.number log) 0
    ≡ cond (member m.game (games_of (span_of t.number log))) (award_at t.number lines awards) 0 =
    λ i. cond (member (game i) (games_of (span_of t.number log))) (award i) 0 in
    ended_told m log e (award_at t.number lines awards) t after.0 (omega (arith, after.1, after.2 (stakes_by t), here)) after.3 f

-- as many awards as tickets of the ledger that run in the game
award_count : (m : Model) (b : ℕ) → length (settlement b (house_of m)).awards ≡ length (keep (runs_in m.game) m.live)
unfolding settlement
award_count m b =
    awards_count (draw_of (m.balls ++ (b ∷ []))) m.six m.eight (map (entry_of m.game) (running_in (house_of m)))
    ∙ length-map (running_in (house_of m)) (entry_of m.game)
    ∙ ap length (running_live m.game m.live)

pub told_settled : (m : Model) (log : Log) (b : ℕ)
    → Orderly m
    → Told m log
    → settles b m ≡ true
    → After log (ball b) (settled_ledger b m)
unfolding game_settled effect_in effect_of progress_of progress_after payments payments_after
told_settled m log b orderly told last sheet =
    let size : length (m.balls ++ (b ∷ [])) ≡ length m.balls + 1 = length-append m.balls (b ∷ []) in
    let twenty : length (m.balls ++ (b ∷ [])) ≡ 20 = eqb-true (length (m.balls ++ (b ∷ []))) 20 last in
    let completes : nineteen_in (progress_for m) ≡ true = eq-eqb (length m.balls) 19 (omega arith) in
    record {
      sheet = sheet;
      progress = ap (λ (p : Progress). progress_after p (draws b)) told.progress ∙ rw completes;
      tickets =
          subst⁻¹ (λ (us : List Ticket). All after (map (finished_on m.day (m.game + 1)) us))
          (awarded_by_number m.game 1 m.live orderly.numbers awards (award_count m b))
          (all_finished m (with_ball b log) (map (awarded_at m.game lines awards) m.live)
          (All-map (TicketTold m.game log) after (awarded_at m.game lines awards)
          (λ t. settled_ticket m log (logged (ball b) 0) b lines awards t refl (game_told m log told) (ap nineteen_in told.progress ∙ completes)
          (award t.number)) m.live told.tickets));
      once = told.once;
      unissued = told.unissued;
    }
  where
    awards : List ℕ
    awards = (settlement b (house_of m)).awards

    lines : List Line
    lines = map (line_of m.game) (keep (runs_in m.game) m.live)

    after : Ticket → Type 0
    after = TicketTold (m.game + 1) (with_ball b log)

    award : (n : ℕ) → award_now b n log ≡ award_at n lines awards
    award n =
        ap (λ (s : Sheet). award_at n (playing s) (sheet_settlement b s).awards) told.sheet
        ∙ (λ i. award_at n (playing_lines m.game m.live i) (settlements_alike m b orderly i).awards)

-- ---- or by a call-off

abbrev call : Logged
call = logged call_off 0

-- a ticket is given back what it paid for the game
called_off_ticket : (m : Model) (log : Log) (t : Ticket)
    → game_of log ≡ m.game
    → TicketTold m.game log t
    → TicketTold (m.game + 1) (call ∷ log) (with_stake_back m.game t)
unfolding effect_in effect_of
called_off_ticket m log t game f =
    let after = game_dropped call log t.number refl in
    let here : cond (member (game_of log) (games_of (span_of t.number log))) (stakes_by t (game_of log)) 0
    ≡ cond (member m.game (games_of (span_of t.number log))) (stakes_by t m.game) 0 =
    ap (λ (g : ℕ). cond (member g (games_of (span_of t.number log))) (stakes_by t g) 0) game in
    ended_told m log call (stakes_by t m.game) t after.0 (omega (arith, after.1, after.2 (stakes_by t), here)) after.3 f

pub told_called_off : (m : Model) (log : Log) → Told m log → After log call_off (called_off_ledger m)
unfolding game_called_off effect_in effect_of progress_of progress_after payments payments_after
told_called_off m log told sheet =
    record {
      sheet = sheet;
      progress = ap (λ (p : Progress). progress_after p drops) told.progress;
      tickets =
          subst⁻¹ (All (TicketTold (m.game + 1) (call ∷ log))) (called_off_tickets m)
          (all_finished m (call ∷ log) (map (with_stake_back m.game) m.live)
          (All-map (TicketTold m.game log) (TicketTold (m.game + 1) (call ∷ log)) (with_stake_back m.game)
          (λ t. called_off_ticket m log t (game_told m log told)) m.live told.tickets));
      once = told.once;
      unissued = told.unissued;
    }
