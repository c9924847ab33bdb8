-- What the log tells of the ledger: the sheet, the progress of the games, in which games each ticket runs, and that its due is everything its drawn
-- games won and its games called off give back, until a payment, a collection or an expiry moves the due, which happens once. Each command, refused or accepted,
-- keeps it so: a ball and the end of a game in GamesTold, the others here.
use Prim.Native.Nat.{ℕ, ◌+◌, ◌-◌, ◌≤◌, ◌<◌, min, max}
use native.Mathlib.Omega.{arith}
use mathlib.Core.Path.{◌≡◌, refl, sym, ◌∙◌, ap, ap₂, subst, subst⁻¹}
use mathlib.Core.Bool.{Bool, true, false, cond, not, ◌&&◌}
use mathlib.Core.Logic.{◌⊎◌, inl, inr}
use mathlib.Core.List.{List, [], ◌∷◌}
use lib.Dec.{ltb, leb, eqb}
use lib.ListN.{length}
use borrow.Author.Tests.{le-leb, le-ltb, ne_eqb, eqb-true, eqb-false}
use Rattle.sale.specs.Lists.{sum, keep, member}
use Rattle.sale.specs.Checks.{Operands}
use Rattle.house.specs.Tickets.{Ticket, games_left, paid_stakes, is_finished, is_live, with_due, with_stop, with_finished_day}
use Rattle.house.specs.Model.{Model, fresh, next_game}
use Rattle.house.specs.Commands.{Command, open', sell, cancel, claim, expire, transfer, collect, code_of, reply, opened, sold, cancelled, claimed, expired, transferred, still_live, changed, cancel_stop, is_expired, ticket_at, sold_ticket, cancelled_ticket, has_ticket, collected_ticket, reissued_ticket, collected}
use Rattle.house.specs.Sheet.{Sheet, stakes_of, total_at}
use Rattle.house.specs.Till.{till_of}
use Rattle.house.specs.Claims.{Log, Logged, sheet_of, Effect, nothing, issues, takes_off, reissues, effect_of, effect_in, Progress, progress_after, progress_of, game_of, next_of, Span, games_of, span_of, won_by, stake_in, given_back, payments_after, payments}
use Rattle.house.proofs.Ledger.{house_of, cancelled_ledger, claimed_ledger, expired_ledger, collected_ledger, sheet_for, All, Orderly}
use Rattle.house.proofs.LiveTickets.{found_due, next_game_least}
use Rattle.house.proofs.ListLaws.{All-map, All-append}
use Rattle.house.proofs.MoneyLaws.{all_of, all_from, map_same}
use Rattle.house.proofs.SpanLaws.{stakes_of_game}
use Rattle.house.proofs.SheetFigures.{line_total}
use Rattle.house.proofs.Refusals.{and_true, ClaimAccepted, claim_accepted, CollectAccepted, collect_accepted}
use Rattle.house.proofs.Numbered.{all_both, Within, row_within, found, only}
use Rattle.house.proofs.RowLists.{earlier_or_not}
use Rattle.house.proofs.RowLaws.{still_live_all}
use Rattle.house.proofs.LogLaws.{logged, and_false, span_has, games_cut, sheet_refused, effect_refused, SameTold, Untouched, untouched, gives_back, nothing_won, nothing_back, issued_span, taken_off_lem, number_paid, reissued_span, kept_span, number_collected}

-- a ticket's due: what it has won and is given back, and it was not paid; or nothing, since it was moved when no game was left
pub data Dues (due won left paid : ℕ) : Type 0 where
  owed : due ≡ won → paid ≡ 0 → Dues due won left paid
  moved : due ≡ 0 → left ≡ 0 → Dues due won left paid

-- from a game on, a ticket with such a first game and stop runs just where a span has the game
abbrev pub RunsBy : ℕ → Span → ℕ → ℕ → Type 0
RunsBy game s first stop = (g : ℕ) → game ≤ g → (leb first g && ltb g stop) ≡ member g (games_of s)

-- what a number with such stakes, game by game, has won and is given back
abbrev pub earned : (ℕ → ℕ) → ℕ → Log → ℕ
earned stakes n log = won_by n log + gives_back stakes n log

-- what the log tells of a ticket where the given game is the current one; its stakes are those that it pays, game by game
pub record Follows (game : ℕ) (log : Log) (number first stop due : ℕ) (stakes : ℕ → ℕ) : Type 0 where
  pub runs : RunsBy game (span_of number log) first stop
  -- a ticket begins no later than its span, before which it wins nothing; one that was reissued begins earlier
  pub begins : first ≤ (span_of number log).first
  pub dues : Dues due (earned stakes number log) (stop - max first game) (payments number log)

-- what a ticket pays for a game
abbrev pub stakes_by : Ticket → ℕ → ℕ
stakes_by t g = paid_stakes g (g + 1) t

abbrev pub TicketTold : ℕ → Log → Ticket → Type 0
TicketTold game log t = Follows game log t.number t.first t.stop t.due (stakes_by t)

abbrev pub progress_for : Model → Progress
progress_for m = record { game = m.game; balls = length m.balls; issued = m.issued }

pub record Told (m : Model) (log : Log) : Type 0 where
  pub sheet : sheet_of log ≡ sheet_for m
  pub progress : progress_of log ≡ progress_for m
  pub tickets : All (TicketTold m.game log) m.live
  pub once : (n : ℕ) → payments n log ≤ 1
  pub unissued : (n : ℕ) → m.issued < n → payments n log ≡ 0

-- ---- the fresh ledger

pub told_fresh : Told fresh []
unfolding sheet_of till_of progress_of payments keep sum
told_fresh = record { sheet = refl; progress = refl; tickets = tt; once = λ n. omega arith; unissued = λ n h. refl }

-- ---- a ticket of which the log tells the same after one command more

follows_same : {game : ℕ} {before log : Log} {number first stop due : ℕ} {stakes : ℕ → ℕ}
    → SameTold number before log
    → Follows game before number first stop due stakes
    → Follows game log number first stop due stakes
follows_same {game} {before} {log} {number} {first} {stop} {due} {stakes} same f =
    record {
      runs = subst⁻¹ (λ (s : Span). RunsBy game s first stop) same.span f.runs;
      begins = subst⁻¹ (λ (s : Span). first ≤ s.first) same.span f.begins;
      dues = go f.dues;
    }
  where
    go : Dues due (earned stakes number before) (stop - max first game) (payments number before)
        → Dues due (earned stakes number log) (stop - max first game) (payments number log)
    go (owed is none) = owed (is ∙ sym (ap₂ ◌+◌ same.won (same.given stakes))) (same.paid ∙ none)
    go (moved is none) = moved is none

-- the same of every ticket
pub tickets_same : (game : ℕ) (before log : Log) (ts : List Ticket)
    → ((n : ℕ) → SameTold n before log)
    → All (TicketTold game before) ts
    → All (TicketTold game log) ts
tickets_same game before log ts same =
    all_from {P = TicketTold game before} {Q = TicketTold game log} (λ t. follows_same (same t.number)) ts

-- a ticket of which the due is moved, or not
due_moved : (game : ℕ) (before log : Log) (t : Ticket) (goes : Bool)
    → span_of t.number log ≡ span_of t.number before
    → (goes ≡ true → games_left game t ≡ 0)
    → (goes ≡ false → SameTold t.number before log)
    → TicketTold game before t
    → TicketTold game log (cond goes (with_due t 0) t)
unfolding games_left paid_stakes
due_moved game before log t true span finished same f =
    record {
      runs = subst⁻¹ (λ (s : Span). RunsBy game s t.first t.stop) span f.runs;
      begins = subst⁻¹ (λ (s : Span). t.first ≤ s.first) span f.begins;
      dues = moved refl (finished refl);
    }
due_moved game before log t false span finished same f = follows_same (same refl) f

-- ---- a command without effect

module _ (m : Model) (log : Log) (e : Logged) (is : effect_in e ≡ nothing) (after : Model) (same : progress_for after ≡ progress_for m) where
  without_effect : (n : ℕ) → SameTold n log (e ∷ log)
  without_effect n = untouched n log e (subst⁻¹ (Untouched n log) is tt)

  told_without : sheet_of (e ∷ log) ≡ sheet_for after → All (TicketTold m.game (e ∷ log)) after.live → Told m log → Told after (e ∷ log)
  unfolding progress_of progress_after
  told_without sheet tickets told =
      record {
        sheet = sheet;
        progress = ap (progress_after (progress_of log)) is ∙ told.progress ∙ sym same;
        tickets = subst⁻¹ (λ (p : Progress). All (TicketTold p.game (e ∷ log)) after.live) same tickets;
        once = λ n. subst⁻¹ (λ (k : ℕ). k ≤ 1) (without_effect n).paid (told.once n);
        unissued = λ n h. (without_effect n).paid ∙ told.unissued n (subst (λ (p : Progress). p.issued < n) same h);
      }

  -- one that leaves the tickets
  told_unchanged : after.live ≡ m.live → sheet_of (e ∷ log) ≡ sheet_for after → Told m log → Told after (e ∷ log)
  told_unchanged tickets sheet told =
      told_without sheet
      (subst⁻¹ (All (TicketTold m.game (e ∷ log))) tickets (tickets_same m.game log (e ∷ log) m.live without_effect told.tickets)) told

pub told_refused : (m : Model) (log : Log) (c : Command) (code : ℕ)
    → (code ≡ 0 → ⊥)
    → Told m log
    → Told m (logged c code ∷ log)
told_refused m log c code refused told =
    told_unchanged m log (logged c code) (effect_refused c code log refused) m refl refl (sheet_refused c code log refused ∙ told.sheet) told

-- ---- the game that is current, and the next

module _ (m : Model) (log : Log) (told : Told m log) where
  pub game_told : game_of log ≡ m.game
  game_told = ap (λ (p : Progress). p.game) told.progress

  pub issued_told : (progress_of log).issued ≡ m.issued
  issued_told = ap (λ (p : Progress). p.issued) told.progress

  next_told : next_of log ≡ next_game m
  next_told = ap (λ (p : Progress). cond (eqb p.balls 0) p.game (p.game + 1)) told.progress ∙ go (eqb (length m.balls) 0)
    where
      go : (none : Bool) → cond none m.game (m.game + 1) ≡ cond (not none) (m.game + 1) m.game
      go true = refl
      go false = refl

-- ---- Open, Transfer and Expire

-- a ledger after a command, told where the sheet is its sheet
abbrev pub After : Log → Command → Model → Type 0
After log c after = sheet_of (logged c 0 ∷ log) ≡ sheet_for after → Told after (logged c 0 ∷ log)

pub told_open : (m : Model) (log : Log) (d : ℕ) → Told m log → After log (open' d) (opened d m)
unfolding opened effect_in effect_of
told_open m log d told sheet = told_unchanged m log (logged (open' d) 0) refl (opened d m) refl refl sheet told

pub told_transfer : (m : Model) (log : Log) (j cents : ℕ) → Told m log → After log (transfer j cents) (transferred j cents m)
unfolding transferred effect_in effect_of
told_transfer m log j cents told sheet =
    told_unchanged m log (logged (transfer j cents) 0) refl (transferred j cents m) refl refl sheet told

pub told_expire : (m : Model) (log : Log) → Told m log → After log expire (expired_ledger m)
unfolding expired effect_in effect_of is_expired
told_expire m log told sheet =
    told_without m log (logged expire 0) refl (expired_ledger m) refl sheet
    (All-map (TicketTold m.game log) (TicketTold m.game (logged expire 0 ∷ log)) (λ t. cond (is_expired m t) (with_due t 0) t)
    (λ t. due_moved m.game log (logged expire 0 ∷ log) t (is_expired m t) (same t.number).span
    (λ late. eqb-true (games_left m.game t) 0 (and_true _ _ late).0) (λ kept. same t.number)) m.live told.tickets) told
  where
    same : (n : ℕ) → SameTold n log (logged expire 0 ∷ log)
    same = without_effect m log (logged expire 0) refl m refl

-- ---- Claim

-- what a live ticket pays for a game is what its line pays
stake_told : (m : Model) (log : Log) (n g : ℕ)
    → Orderly m
    → Told m log
    → has_ticket n (house_of m).live ≡ true
    → stake_in n g log ≡ stakes_by (ticket_at n (house_of m).live) g
unfolding stake_in
stake_told m log n g orderly told here =
    ap (λ (s : Sheet). total_at n (λ l. stakes_of l (g ∷ [])) s.lines) told.sheet
    ∙ line_total m n (λ l. stakes_of l (g ∷ [])) (λ t. stakes_by t g) orderly
    (all_from (stakes_of_game m.game g) m.live orderly.tickets) here

-- so that is what it is given back
line_back : (m : Model) (log : Log) (n : ℕ)
    → Orderly m
    → Told m log
    → has_ticket n (house_of m).live ≡ true
    → gives_back (stakes_by (ticket_at n (house_of m).live)) n log ≡ given_back n log
unfolding given_back
line_back m log n orderly told here =
    ap sum (map_same (stakes_by (ticket_at n (house_of m).live)) (λ g. stake_in n g log) _ (all_of (λ g. sym (stake_told m log n g orderly told here)) _))

-- of a live ticket that is due something: that is everything it won and is given back, it was not paid before, and it is begun
pub record DueTold (game : ℕ) (log : Log) (n : ℕ) (t : Ticket) : Type 0 where
  pub won : t.due ≡ won_by n log + given_back n log
  pub unpaid : payments n log ≡ 0
  pub begun : t.first < game
  pub span_begun : (span_of n log).first < game

pub due_told : (m : Model) (log : Log) (n : ℕ)
    → Orderly m
    → Told m log
    → has_ticket n (house_of m).live ≡ true
    → ((ticket_at n (house_of m).live).due ≡ 0 → ⊥)
    → DueTold m.game log n (ticket_at n (house_of m).live)
unfolding still_live
due_told m log n orderly told has due = go dues' (earlier_or_not (span_of n log).first m.game)
  where
    t : Ticket
    t = ticket_at n (keep (is_live m.game) m.live)

    here : TicketTold m.game log t × (t.number ≡ n)
    here = found n (TicketTold m.game log) (is_live m.game) m.live told.tickets has

    follows : Follows m.game log n t.first t.stop t.due (stakes_by t)
    follows = subst (λ (k : ℕ). Follows m.game log k t.first t.stop t.due (stakes_by t)) here.1 here.0

    dues' : Dues t.due (won_by n log + given_back n log) (t.stop - max t.first m.game) (payments n log)
    dues' =
        subst (λ (cents : ℕ). Dues t.due (won_by n log + cents) (t.stop - max t.first m.game) (payments n log)) (line_back m log n orderly told has)
        follows.dues

    go : Dues t.due (won_by n log + given_back n log) (t.stop - max t.first m.game) (payments n log)
        → ((span_of n log).first < m.game) ⊎ (m.game ≤ (span_of n log).first)
        → DueTold m.game log n t
    go (owed is none) (inl earlier) = record { won = is; unpaid = none; begun = omega (arith, follows.begins); span_begun = earlier }
    go (owed is none) (inr later) =
        let current : game_of log ≤ (span_of n log).first = omega (arith, game_told m log told) in
        absurd (due (omega (arith, is, nothing_won n log current, sym (line_back m log n orderly told has), nothing_back n log current (stakes_by t))))
    go (moved is none) when = absurd (due is)

-- so of the ticket that a claim is accepted for: it is finished, and a house has live tickets alone, so that something is due
pub claim_due : (m : Model) (log : Log) (n : ℕ)
    → Orderly m
    → Told m log
    → code_of (house_of m) (claim n) ≡ 0
    → ((ticket_at n (house_of m).live).due ≡ won_by n log + given_back n log) × (payments n log ≡ 0)
claim_due m log n orderly told accept =
    let facts = claim_accepted (house_of m) n accept in
    let some = found_due (house_of m) n (still_live_all m.game m.live) facts.here facts.finished in
    let due = due_told m log n orderly told facts.here (λ none. omega (arith, none)) in
    (due.won, due.unpaid)

pub claim_pays : (m : Model) (log : Log) (n : ℕ)
    → Orderly m
    → Told m log
    → code_of (house_of m) (claim n) ≡ 0
    → (reply (house_of m) (claim n)).cents ≡ won_by n log + given_back n log
unfolding reply
claim_pays m log n orderly told accept = (claim_due m log n orderly told accept).0

-- a number that was not paid before is paid once
paid_once : (e : Logged) (log : Log) (k n : ℕ)
    → payments n (e ∷ log) ≡ cond (eqb k n) (payments n log + 1) (payments n log)
    → payments k log ≡ 0
    → payments n log ≤ 1
    → payments n (e ∷ log) ≤ 1
paid_once e log k n more none once = go (eqb k n) refl more
  where
    go : (b : Bool) → eqb k n ≡ b → payments n (e ∷ log) ≡ cond b (payments n log + 1) (payments n log) → payments n (e ∷ log) ≤ 1
    go true same paid =
        let before : payments k log ≡ payments n log = ap (λ (j : ℕ). payments j log) (eqb-true k n same) in
        omega arith
    go false other paid = omega arith

claim_ticket : (m : Model) (log : Log) (n : ℕ) (t : Ticket)
    → (t.number ≡ n → games_left m.game t ≡ 0)
    → TicketTold m.game log t
    → TicketTold m.game (logged (claim n) 0 ∷ log) (cond (eqb t.number n) (with_due t 0) t)
unfolding effect_in effect_of
claim_ticket m log n t finished =
    due_moved m.game log (logged (claim n) 0 ∷ log) t (eqb t.number n) (number_paid (logged (claim n) 0) log n t.number refl).0
    (λ here. finished (eqb-true t.number n here))
    (λ other. untouched t.number log (logged (claim n) 0) (λ same. eqb-false t.number n other (sym same)))

pub told_claim : (m : Model) (log : Log) (n : ℕ)
    → Orderly m
    → Told m log
    → code_of (house_of m) (claim n) ≡ 0
    → After log (claim n) (claimed_ledger n m)
unfolding claimed changed still_live effect_in effect_of progress_of progress_after
told_claim m log n orderly told accept sheet =
    record {
      sheet = sheet;
      progress = told.progress;
      tickets =
          All-map (λ t. TicketTold m.game log t × (t.number ≡ n → ticket_at n (house_of m).live ≡ t))
          (TicketTold m.game (logged (claim n) 0 ∷ log)) (λ t. cond (eqb t.number n) (with_due t 0) t)
          (λ t h. claim_ticket m log n t
          (λ same. eqb-true (games_left m.game t) 0
          (subst (λ u. eqb (games_left m.game u) 0 ≡ true) (h.1 same) facts.finished)) h.0)
          m.live
          (all_both (TicketTold m.game log) (λ t. t.number ≡ n → ticket_at n (house_of m).live ≡ t) m.live told.tickets
          (only n (is_live m.game) 1 m.live orderly.numbers facts.here));
      once = λ k. paid_once (logged (claim n) 0) log n k (number_paid (logged (claim n) 0) log n k refl).2 (claim_due m log n orderly told accept).1 (told.once k);
      unissued = λ k h.
          (untouched k log (logged (claim n) 0) (λ same. omega (arith, facts.issued))).paid ∙ told.unissued k h;
    }
  where
    facts : ClaimAccepted (house_of m) n
    facts = claim_accepted (house_of m) n accept

-- ---- Sell

sell_ticket : (m : Model) (log : Log) (o : Operands)
    → Told m log
    → TicketTold m.game (logged (sell o) 0 ∷ log) (sold_ticket m o)
unfolding effect_in effect_of progress_of progress_after payments payments_after
sell_ticket m log o told =
    let e : Logged = logged (sell o) 0 in
    let number : ℕ = m.issued + 1 in
    let next : next_of log ≡ next_game m = next_told m log told in
    let stakes : ℕ → ℕ = stakes_by (sold_ticket m o) in
    let span : span_of number (e ∷ log) ≡ record { first = next_game m; stop = next_game m + o.games } =
    issued_span e log o.games number refl (ap (λ (n : ℕ). n + 1) (issued_told m log told))
    ∙ (λ i. record { first = next i; stop = next i + o.games }) in
    let start : (span_of number (e ∷ log)).first ≡ next_game m = ap (λ (s : Span). s.first) span in
    let later : game_of (e ∷ log) ≤ (span_of number (e ∷ log)).first = omega (arith, start, game_told m log told, next_game_least m) in
    record {
      runs =
          subst⁻¹ (λ (s : Span). RunsBy m.game s (next_game m) (next_game m + o.games)) span
          (λ g from. sym (span_has g (record { first = next_game m; stop = next_game m + o.games })));
      begins = omega (arith, start);
      dues = owed (omega (arith, nothing_won number (e ∷ log) later, nothing_back number (e ∷ log) later stakes)) (told.unissued number (omega arith));
    }

pub told_sell : (m : Model) (log : Log) (o : Operands) → Orderly m → Told m log → After log (sell o) (sold o m)
unfolding sold effect_in effect_of progress_of progress_after payments payments_after
told_sell m log o orderly told sheet =
    record {
      sheet = sheet;
      progress = ap (λ (p : Progress). progress_after p (issues o.games)) told.progress;
      tickets = All-append (TicketTold m.game after) m.live (sold_ticket m o ∷ []) olds (sell_ticket m log o told, tt);
      once = told.once;
      unissued = λ n h. told.unissued n (omega arith);
    }
  where
    after : Log
    after = logged (sell o) 0 ∷ log

    olds : All (TicketTold m.game after) m.live
    olds =
        all_from {P = λ t. TicketTold m.game log t × Within 1 (1 + length m.live) t} {Q = TicketTold m.game after}
        (λ t h. follows_same
        (untouched t.number log (logged (sell o) 0) (λ here. omega (arith, orderly.issued, issued_told m log told))) h.0) m.live
        (all_both (TicketTold m.game log) (Within 1 (1 + length m.live)) m.live told.tickets
        (row_within 1 m.live orderly.numbers))

-- ---- Cancel

-- the finishing day is not told
pub finished_day_lem : (game : ℕ) (log : Log) (t : Ticket) (b : Bool) (day : ℕ)
    → TicketTold game log t
    → TicketTold game log (cond b (with_finished_day t day) t)
unfolding paid_stakes
finished_day_lem game log t true day f = f
finished_day_lem game log t false day f = f

-- a ticket and its span are cut off alike
cut_alike : (game next first stop : ℕ) (s : Span)
    → RunsBy game s first stop
    → RunsBy game (record { first = s.first; stop = min s.stop next }) first (min stop (max first next))
cut_alike game next first stop s runs g from =
    games_cut first stop (max first next) next g (λ low under. omega arith) (λ low under. omega arith)
    ∙ ap (λ (b : Bool). ltb g next && b) (runs g from ∙ span_has g s)
    ∙ sym (games_cut s.first s.stop next next g (λ low under. under) (λ low under. under))
    ∙ sym (span_has g (record { first = s.first; stop = min s.stop next }))

-- the ticket that Cancel shortens
cancel_ticket_here : (m : Model) (log : Log) (e : Logged) (t : Ticket)
    → Told m log
    → effect_in e ≡ takes_off t.number
    → TicketTold m.game log t
    → TicketTold m.game (e ∷ log) (with_stop t (min t.stop (cancel_stop m t)))
unfolding paid_stakes
cancel_ticket_here m log e t told is f =
    let after = taken_off_lem e log t.number is in
    let before : Span = span_of t.number log in
    let span : span_of t.number (e ∷ log) ≡ record { first = before.first; stop = min before.stop (next_game m) } =
    after.0 ∙ (λ i. record { first = before.first; stop = min before.stop (next_told m log told i) }) in
    record {
      runs =
          subst⁻¹ (λ (s : Span). RunsBy m.game s t.first (min t.stop (cancel_stop m t))) span
          (cut_alike m.game (next_game m) t.first t.stop before f.runs);
      begins = subst⁻¹ (λ (s : Span). t.first ≤ s.first) span f.begins;
      dues = go (ap₂ ◌+◌ after.1 (after.2 (stakes_by t))) after.3 f.dues;
    }
  where
    go : earned (stakes_by t) t.number (e ∷ log) ≡ earned (stakes_by t) t.number log
        → payments t.number (e ∷ log) ≡ payments t.number log
        → Dues t.due (earned (stakes_by t) t.number log) (t.stop - max t.first m.game) (payments t.number log)
        → Dues t.due (earned (stakes_by t) t.number (e ∷ log)) (min t.stop (cancel_stop m t) - max t.first m.game) (payments t.number (e ∷ log))
    go won paid (owed is none) = owed (is ∙ sym won) (paid ∙ none)
    go won paid (moved is none) = moved is (omega arith)

cancel_ticket : (m : Model) (log : Log) (n : ℕ) (t : Ticket)
    → Told m log
    → TicketTold m.game log t
    → TicketTold m.game (logged (cancel n) 0 ∷ log) (cond (eqb t.number n) (cancelled_ticket m t) t)
unfolding effect_in effect_of
cancel_ticket m log n t told f = go (eqb t.number n) refl
  where
    e : Logged
    e = logged (cancel n) 0

    go : (b : Bool) → eqb t.number n ≡ b → TicketTold m.game (e ∷ log) (cond b (cancelled_ticket m t) t)
    go true here =
        let shorter : Ticket = with_stop t (min t.stop (cancel_stop m t)) in
        finished_day_lem m.game (e ∷ log) shorter (is_finished m.game shorter && eqb t.finished_day 0) m.day
        (cancel_ticket_here m log e t told (ap takes_off (sym (eqb-true t.number n here))) f)
    go false other = follows_same (untouched t.number log e (λ same. eqb-false t.number n other (sym same))) f

pub told_cancel : (m : Model) (log : Log) (n : ℕ) → Told m log → After log (cancel n) (cancelled_ledger n m)
unfolding cancelled changed still_live effect_in effect_of progress_of progress_after payments payments_after
told_cancel m log n told sheet =
    record {
      sheet = sheet;
      progress = told.progress;
      tickets =
          All-map (TicketTold m.game log) (TicketTold m.game (logged (cancel n) 0 ∷ log))
          (λ t. cond (eqb t.number n) (cancelled_ticket m t) t) (λ t. cancel_ticket m log n t told) m.live told.tickets;
      once = told.once;
      unissued = told.unissued;
    }

-- ---- Collect

-- the old number keeps the games before the current one, and the next number has the others
ended_runs : (game first : ℕ) (s : Span) → RunsBy game (record { first = s.first; stop = min s.stop game }) first game
ended_runs game first s g from =
    let kept : Span = record { first = s.first; stop = min s.stop game } in
    ap (λ b. leb first g && b) (le-ltb g game from)
    ∙ and_false (leb first g)
    ∙ sym (span_has g kept ∙ ap (λ b. leb s.first g && b) (le-ltb g (min s.stop game) (omega arith)) ∙ and_false (leb s.first g))

reissued_runs : (game first stop : ℕ) (s : Span) → s.first ≤ game → RunsBy game s first stop → RunsBy game (record { first = game; stop = s.stop }) first stop
reissued_runs game first stop s begun runs g from =
    runs g from
    ∙ span_has g s
    ∙ ap (λ b. b && ltb g s.stop) (le-leb s.first g (omega arith) ∙ sym (le-leb game g from))
    ∙ sym (span_has g (record { first = game; stop = s.stop }))

module _ (m : Model) (log : Log) (n : ℕ) (orderly : Orderly m) (told : Told m log) (accept : code_of (house_of m) (collect n) ≡ 0) where
  abbrev collection : Logged
  collection = logged (collect n) 0

  abbrev collected_log : Log
  collected_log = collection ∷ log

  abbrev old : Ticket
  old = ticket_at n (house_of m).live

  pub collects : effect_in collection ≡ reissues n
  unfolding effect_in effect_of
  collects = refl

  pub accepted : CollectAccepted (house_of m) n
  accepted = collect_accepted (house_of m) n accept

  pub collect_due : DueTold m.game log n old
  collect_due = due_told m log n orderly told accepted.here accepted.due

  -- the spans of the two numbers, and what is told of the others
  pub old_span : span_of n collected_log ≡ record { first = (span_of n log).first; stop = min (span_of n log).stop m.game }
  old_span =
      kept_span collection log n collects (λ same. omega (arith, issued_told m log told, accepted.issued))
      ∙ (λ i. record { first = (span_of n log).first; stop = min (span_of n log).stop (game_told m log told i) })

  pub new_span : span_of (m.issued + 1) collected_log ≡ record { first = m.game; stop = (span_of n log).stop }
  new_span =
      reissued_span collection log n collects (m.issued + 1) (ap (λ (k : ℕ). k + 1) (issued_told m log told))
      ∙ (λ i. record { first = game_told m log told i; stop = (span_of n log).stop })

  pub others_same : (k : ℕ) → (k ≡ n → ⊥) → (k ≡ m.issued + 1 → ⊥) → SameTold k log collected_log
  others_same k old new =
      untouched k log collection
      (subst⁻¹ (Untouched k log) collects (λ next. new (omega (arith, issued_told m log told)), λ same. old (sym same)))

  game_after : game_of collected_log ≡ m.game
  unfolding progress_of progress_after
  game_after = ap (λ (effect : Effect). (progress_after (progress_of log) effect).game) collects ∙ game_told m log told

  none_paid : (k : ℕ) → m.issued < k → payments k collected_log ≡ 0
  none_paid k later =
      number_collected collection log n collects k
      ∙ ap (λ (same : Bool). cond same (payments k log + 1) (payments k log)) (ne_eqb n k (λ same. omega (arith, accepted.issued)))
      ∙ told.unissued k later

  ended_ticket : (t : Ticket) → t.number ≡ n → TicketTold m.game log t → TicketTold m.game collected_log (collected_ticket m t)
  unfolding paid_stakes
  ended_ticket t is f =
      let ended : Ticket = with_stop (with_due t 0) m.game in
      finished_day_lem m.game collected_log ended (is_finished m.game ended && eqb ended.finished_day 0) m.day
      (subst⁻¹ (λ (k : ℕ). Follows m.game collected_log k t.first m.game 0 (stakes_by t)) is
      (record {
        runs = subst⁻¹ (λ (s : Span). RunsBy m.game s t.first m.game) old_span (ended_runs m.game t.first (span_of n log));
        begins = subst⁻¹ (λ (s : Span). t.first ≤ s.first) old_span (subst (λ (k : ℕ). t.first ≤ (span_of k log).first) is f.begins);
        dues = moved refl (omega arith);
      }))

  collected_at : (t : Ticket) → TicketTold m.game log t × Within 1 (1 + length m.live) t
      → TicketTold m.game collected_log (cond (eqb t.number n) (collected_ticket m t) t)
  collected_at t (f, within) = go (eqb t.number n) refl
    where
      go : (here : Bool) → eqb t.number n ≡ here → TicketTold m.game collected_log (cond here (collected_ticket m t) t)
      go true here = ended_ticket t (eqb-true t.number n here) f
      go false other = follows_same (others_same t.number (eqb-false t.number n other) (λ next. omega (arith, within.1, orderly.issued))) f

  new_ticket : TicketTold m.game collected_log (reissued_ticket m old)
  unfolding still_live
  new_ticket =
      let number : ℕ = m.issued + 1 in
      let before : Span = span_of n log in
      let start : (span_of number collected_log).first ≡ m.game = ap (λ (s : Span). s.first) new_span in
      let later : game_of collected_log ≤ (span_of number collected_log).first = omega (arith, start, game_after) in
      let here = found n (TicketTold m.game log) (is_live m.game) m.live told.tickets accepted.here in
      let runs : RunsBy m.game before old.first old.stop = subst (λ (k : ℕ). RunsBy m.game (span_of k log) old.first old.stop) here.1 here.0.runs in
      record {
        runs = subst⁻¹ (λ (s : Span). RunsBy m.game s old.first old.stop) new_span
            (reissued_runs m.game old.first old.stop before (omega (arith, collect_due.span_begun)) runs);
        begins = omega (arith, start, collect_due.begun);
        dues =
            owed (omega (arith, nothing_won number collected_log later, nothing_back number collected_log later (stakes_by (reissued_ticket m old))))
            (none_paid number (omega arith));
      }

  pub told_collect : After log (collect n) (collected_ledger n m)
  unfolding collected changed still_live effect_in effect_of progress_of progress_after
  told_collect sheet =
      record {
        sheet = sheet;
        progress = ap (λ (p : Progress). progress_after p (reissues n)) told.progress;
        tickets =
            All-append (TicketTold m.game collected_log) (changed n (collected_ticket m) m.live) (reissued_ticket m old ∷ [])
            (All-map (λ t. TicketTold m.game log t × Within 1 (1 + length m.live) t) (TicketTold m.game collected_log)
            (λ t. cond (eqb t.number n) (collected_ticket m t) t) collected_at m.live
            (all_both (TicketTold m.game log) (Within 1 (1 + length m.live)) m.live told.tickets (row_within 1 m.live orderly.numbers)))
            (new_ticket, tt);
        once = λ k. paid_once collection log n k (number_collected collection log n collects k) collect_due.unpaid (told.once k);
        unissued = λ k h. none_paid k (omega arith);
      }
