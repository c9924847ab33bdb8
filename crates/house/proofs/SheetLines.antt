-- The lines of the sheet follow the ledger's tickets: a line is what its ticket reads as, before each accepted command and after it. Shown
-- of one line at a time, and then of all by induction.
use Prim.Native.Nat.{ℕ, suc, ◌+◌, ◌-◌, ◌≤◌, ◌<◌, min, max}
use mathlib.Core.Path.{◌≡◌, refl, sym, ap, ap₂, ◌∙◌}
use mathlib.Core.Bool.{Bool, true, false, cond, not, ◌&&◌, and-not_self}
use mathlib.Core.List.{List, [], ◌∷◌, ◌++◌, map, map-map, map-append}
use native.Mathlib.Omega.{arith}
use lib.Dec.{ltb, leb, eqb}
use lib.ListN.{length, length-map}
use borrow.Author.Tests.{ltb-true, ltb-false, lt-leb, le-leb, le-ltb, lt-ltb, eqb-true, eqb-false, eq-eqb, ne_eqb}
use Rattle.sale.specs.Lists.{keep, member}
use Rattle.sale.specs.Checks.{Operands}
use Rattle.calendar.specs.Calendar.{has_expired}
use Rattle.house.specs.Tickets.{Ticket, runs_in, games_left, paid_stakes, is_finished, is_live, with_due, with_stop, with_finished_day}
use Rattle.house.specs.Model.{Model, is_drawing, next_game}
use Rattle.house.specs.Commands.{ticket_at, has_ticket, sold_ticket, changed, still_live, cancel_stop, cancelled_ticket, finished_on, stakes_paid, awarded, is_expired, collected_ticket, reissued_ticket}
use Rattle.house.specs.Sheet.{Line, games_from, stakes_of, left_with, due_with, on_line, new_line, stays, taken_off, settle_lines, too_late, reissued_line, called_off_line}
use Rattle.house.proofs.Ledger.{All, Kept, Orderly, house_of, ended_tickets, collected_ledger, line_of, sheet_for}
use Rattle.house.proofs.MoneyLaws.{all_of, all_from, map_same, keep_map}
use Rattle.house.proofs.Numbered.{found, alone}
use Rattle.house.proofs.SpanLaws.{length_games, keep_games, keep_below, span_above, plays_left, idle_first, idle_left, drawn_left, stakes_of_line, stakes_of_game}
use Rattle.house.proofs.LiveTickets.{closed_of, next_game_least, with_stake_back, called_off_tickets}

-- ---- a line

-- the finishing day is unset just where a game is left
day_unset : (game : ℕ) (t : Ticket) → Kept game t → eqb t.finished_day 0 ≡ not (eqb (games_left game t) 0)
day_unset game t kept = go (eqb (games_left game t) 0) refl
  where
    go : (done : Bool) → eqb (games_left game t) 0 ≡ done → eqb t.finished_day 0 ≡ not done
    go true none = ne_eqb t.finished_day 0 (kept.finished (eqb-true (games_left game t) 0 none))
    go false some = eq-eqb t.finished_day 0 (kept.running (eqb-false (games_left game t) 0 some))

left_count : (game : ℕ) (t : Ticket) → length (line_of game t).left ≡ games_left game t
left_count game t = length_games (max t.first game) (games_left game t)

unset_left : (game : ℕ) (t : Ticket) → Kept game t → eqb t.finished_day 0 ≡ not (eqb (length (line_of game t).left) 0)
unset_left game t kept = day_unset game t kept ∙ ap (λ n. not (eqb n 0)) (sym (left_count game t))

-- a ticket's line with these games left and this finishing day
abbrev line_with : Ticket → List ℕ → ℕ → Line
line_with t left day =
    record { number = t.number; operands = t.operands; first = t.first; left = left; due = t.due; finishing_day = day }

-- a line with other games left is the line of the ticket that has those games left and gets its finishing day
left_line : (day game : ℕ) (u : Ticket) (before left : List ℕ) →
    left ≡ (line_of game u).left →
    eqb u.finished_day 0 ≡ not (eqb (length before) 0) →
    left_with day left (line_with u before u.finished_day) ≡ line_of game (finished_on day game u)
unfolding left_with games_left
left_line day game u before left same unset =
    let count : length left ≡ games_left game u = ap length same ∙ left_count game u in
    let test : (eqb (length left) 0 && not (eqb (length before) 0)) ≡ (is_finished game u && eqb u.finished_day 0) =
    ap₂ (λ n t. eqb n 0 && t) count (sym unset)
    in
    ap₂ (λ games t. line_with u games (cond t day u.finished_day)) same test
    ∙ go (is_finished game u && eqb u.finished_day 0)
  where
    go : (t : Bool) → line_with u (line_of game u).left (cond t day u.finished_day) ≡ line_of game (cond t (with_finished_day u day) u)
    go true = refl
    go false = refl

-- ---- Sell

pub sold_line : (m : Model) (o : Operands) → m.issued ≡ length m.live → new_line o (sheet_for m) ≡ line_of m.game (sold_ticket m o)
unfolding games_left
sold_line m o issued =
    let number : length (map (line_of m.game) m.live) + 1 ≡ m.issued + 1 = omega (arith, length-map m.live (line_of m.game)) in
    let later : m.game ≤ next_game m = next_game_least m in
    let first : next_game m ≡ max (next_game m) m.game = omega arith in
    let count : o.games ≡ next_game m + o.games - max (next_game m) m.game = omega arith in
    λ i. record { number = number i; operands = o; first = next_game m; left = games_from (first i) (count i); due = 0; finishing_day = 0 }

-- ---- Cancel

-- of the games left, those that stay are those before the stop
stays_before : (m : Model) (t : Ticket) (g : ℕ) → max t.first m.game ≤ g → stays (sheet_for m) g ≡ ltb g (cancel_stop m t)
stays_before m t g left = go (is_drawing m)
  where
    current : (b : Bool) → ltb g (max t.first (m.game + 1)) ≡ b → eqb g m.game ≡ b
    current true before = let at : g ≡ m.game = omega (arith, ltb-true g (max t.first (m.game + 1)) before) in eq-eqb g m.game at
    current false after = ne_eqb g m.game (λ at. omega (arith, ltb-false g (max t.first (m.game + 1)) after))

    go : (drawing : Bool) → (drawing && eqb g m.game) ≡ ltb g (max t.first (cond drawing (m.game + 1) m.game))
    go true = current (ltb g (max t.first (m.game + 1))) refl
    go false = sym (le-ltb g (max t.first m.game) left)

after_stop : (m : Model) (t : Ticket) (g : ℕ) → max t.first m.game ≤ g → not (stays (sheet_for m) g) ≡ leb (cancel_stop m t) g
after_stop m t g left = ap not (stays_before m t g left) ∙ go (ltb g (cancel_stop m t)) refl
  where
    go : (b : Bool) → ltb g (cancel_stop m t) ≡ b → not b ≡ leb (cancel_stop m t) g
    go true before = sym (lt-leb (cancel_stop m t) g (ltb-true g (cancel_stop m t) before))
    go false after = sym (le-leb (cancel_stop m t) g (ltb-false g (cancel_stop m t) after))

cancelled_left : (m : Model) (t : Ticket) →
    keep (stays (sheet_for m)) (line_of m.game t).left
    ≡ (line_of m.game (with_stop t (min t.stop (cancel_stop m t)))).left
unfolding games_left
cancelled_left m t =
    let a : ℕ = max t.first m.game in
    let count : min (t.stop - a) (cancel_stop m t - a) ≡ min t.stop (cancel_stop m t) - a = cut t.stop (cancel_stop m t) a in
    keep_games (stays (sheet_for m)) (λ g. ltb g (cancel_stop m t)) a (t.stop - a) (stays_before m t)
    ∙ keep_below (cancel_stop m t) a (t.stop - a)
    ∙ ap (games_from a) count
  where
    cut : (x y a : ℕ) → min (x - a) (y - a) ≡ min x y - a
    cut x y a = omega arith

-- what Cancel takes off a line are the paid stakes from the stop on
pub taken_off_lem : (m : Model) (t : Ticket) → Kept m.game t →
    taken_off (sheet_for m) (line_of m.game t) ≡ paid_stakes (cancel_stop m t) t.stop t
unfolding taken_off games_left
taken_off_lem m t kept =
    let a : ℕ = max t.first m.game in
    let next : m.game ≤ next_game m = next_game_least m in
    let first : max a (cancel_stop m t) ≡ cancel_stop m t = omega arith in
    ap (stakes_of (line_of m.game t))
    (keep_games (λ g. not (stays (sheet_for m) g)) (λ g. leb (cancel_stop m t) g) a (t.stop - a) (after_stop m t)
    ∙ span_above (cancel_stop m t) a t.stop
    ∙ ap (λ b. games_from b (t.stop - b)) first)
    ∙ stakes_of_line m.game t kept (cancel_stop m t) t.stop

cancelled_line : (m : Model) (t : Ticket) → Kept m.game t →
    left_with m.day (keep (stays (sheet_for m)) (line_of m.game t).left) (line_of m.game t)
    ≡ line_of m.game (cancelled_ticket m t)
cancelled_line m t kept =
    left_line
    m.day
    m.game
    (with_stop t (min t.stop (cancel_stop m t)))
    (line_of m.game t).left
    (keep (stays (sheet_for m)) (line_of m.game t).left)
    (cancelled_left m t)
    (unset_left m.game t kept)

-- ---- changes by number

-- a change of every line follows that of its ticket
mapped_lines : (game : ℕ) (f : Line → Line) (g : Ticket → Ticket) (ts : List Ticket) →
    All (λ t. f (line_of game t) ≡ line_of game (g t)) ts →
    map f (map (line_of game) ts) ≡ map (line_of game) (map g ts)
mapped_lines game f g ts each =
    map-map f (line_of game) ts
    ∙ map_same (λ t. f (line_of game t)) (λ t. line_of game (g t)) ts each
    ∙ sym (map-map (line_of game) g ts)

-- and so does one of the lines of a number
changed_lines : (game n : ℕ) (f : Line → Line) (g : Ticket → Ticket) (ts : List Ticket) →
    All (λ t. f (line_of game t) ≡ line_of game (g t)) ts →
    on_line n f (map (line_of game) ts) ≡ map (line_of game) (changed n g ts)
unfolding on_line changed
changed_lines game n f g ts each =
    mapped_lines game (λ l. cond (eqb l.number n) (f l) l) (λ t. cond (eqb t.number n) (g t) t) ts
    (all_from (λ t same. go t same (eqb t.number n)) ts each)
  where
    go : (t : Ticket) → f (line_of game t) ≡ line_of game (g t) → (b : Bool) → cond b (f (line_of game t)) (line_of game t) ≡ line_of game (cond b (g t) t)
    go t same true = same
    go t same false = refl

pub cancelled_lines : (m : Model) (n : ℕ) → All (Kept m.game) m.live →
    on_line n (λ l. left_with m.day (keep (stays (sheet_for m)) l.left) l) (map (line_of m.game) m.live)
    ≡ map (line_of m.game) (changed n (cancelled_ticket m) m.live)
cancelled_lines m n kept =
    changed_lines
    m.game
    n
    (λ l. left_with m.day (keep (stays (sheet_for m)) l.left) l)
    (cancelled_ticket m)
    m.live
    (all_from (λ t k. cancelled_line m t k) m.live kept)

-- ---- Claim

pub claimed_lines : (game n : ℕ) (ts : List Ticket) →
    on_line n (due_with 0) (map (line_of game) ts) ≡ map (line_of game) (changed n (λ t. with_due t 0) ts)
unfolding games_left
claimed_lines game n ts = changed_lines game n (due_with 0) (λ t. with_due t 0) ts (all_of (λ t. refl) ts)

-- ---- Collect

-- the line of the old number has no game left
ended_line : (m : Model) (t : Ticket) → Kept m.game t →
    left_with m.day [] (due_with 0 (line_of m.game t)) ≡ line_of m.game (collected_ticket m t)
unfolding games_left games_from
ended_line m t kept =
    let none : 0 ≡ m.game - max t.first m.game = omega arith in
    left_line m.day m.game (with_stop (with_due t 0) m.game) (line_of m.game t).left [] (ap (games_from (max t.first m.game)) none) (unset_left m.game t kept)

-- and that of the new one has those that were left
reissued_line_lem : (m : Model) (t : Ticket) → Orderly m → Kept m.game t → is_finished m.game t ≡ false →
    reissued_line (sheet_for m) (line_of m.game t) ≡ line_of m.game (reissued_ticket m t)
unfolding games_left
reissued_line_lem m t orderly kept running =
    let number : length (map (line_of m.game) m.live) + 1 ≡ m.issued + 1 = omega (arith, length-map m.live (line_of m.game), orderly.issued) in
    let day : 0 ≡ t.finished_day = sym (kept.running (eqb-false _ _ running)) in
    λ i. record { number = number i; operands = t.operands; first = t.first; left = (line_of m.game t).left; due = 0; finishing_day = day i }

pub collected_lines : (m : Model) (n : ℕ) → Orderly m → has_ticket n (house_of m).live ≡ true → is_finished m.game (ticket_at n (house_of m).live) ≡ false →
    on_line n (λ l. left_with m.day [] (due_with 0 l)) (map (line_of m.game) m.live)
    ++ map (reissued_line (sheet_for m)) (keep (λ l. eqb l.number n) (map (line_of m.game) m.live))
    ≡ map (line_of m.game) (collected_ledger n m).live
unfolding still_live
collected_lines m n orderly here running =
    ap₂ ◌++◌
    (changed_lines m.game n (λ l. left_with m.day [] (due_with 0 l)) (collected_ticket m) m.live (all_from (λ t k. ended_line m t k) m.live orderly.tickets))
    (ap (map (reissued_line (sheet_for m)))
    (keep_map (λ l. eqb l.number n) (line_of m.game) m.live ∙ ap (map (line_of m.game)) (alone n (is_live m.game) 1 m.live orderly.numbers here))
    ∙ ap (λ l. l ∷ []) (reissued_line_lem m t orderly (found n (Kept m.game) (is_live m.game) m.live orderly.tickets here).0 running))
    ∙ sym (map-append (line_of m.game) (changed n (collected_ticket m) m.live) (reissued_ticket m t ∷ []))
  where
    t : Ticket
    t = ticket_at n (house_of m).live

-- ---- Expire

positive : (n : ℕ) → ltb 0 n ≡ not (eqb n 0)
positive n = go (eqb n 0) refl
  where
    go : (none : Bool) → eqb n 0 ≡ none → ltb 0 n ≡ not none
    go true zeros = le-ltb 0 n (omega (arith, eqb-true n 0 zeros))
    go false some = lt-ltb 0 n (go' n (eqb-false n 0 some))
      where
        go' : (k : ℕ) → (k ≡ 0 → ⊥) → 0 < k
        go' k other = omega arith

-- the dues that the sheet moves are those of the live tickets that expire
pub late_alike : (m : Model) (t : Ticket) → too_late (sheet_for m) (line_of m.game t) ≡ (is_live m.game t && is_expired m t)
unfolding too_late is_expired
late_alike m t =
    (λ i. positive t.due i && eqb (left_count m.game t i) 0 && has_expired m.day t.finished_day)
    ∙ go (is_finished m.game t) (eqb t.due 0) (has_expired m.day t.finished_day)
  where
    go : (done none late : Bool) → (not none && done && late) ≡ (not (done && none) && (done && late))
    go true true late = refl
    go true false late = refl
    go false true late = refl
    go false false late = refl

expired_line : (m : Model) (t : Ticket) →
    cond (too_late (sheet_for m) (line_of m.game t)) (due_with 0 (line_of m.game t)) (line_of m.game t)
    ≡ line_of m.game (cond (is_expired m t) (with_due t 0) t)
unfolding games_left
expired_line m t =
    ap (λ b. cond b (due_with 0 (line_of m.game t)) (line_of m.game t)) (late_alike m t)
    ∙ go (is_live m.game t) refl (is_expired m t)
  where
    go : (live : Bool) → is_live m.game t ≡ live → (late : Bool) →
        cond (live && late) (due_with 0 (line_of m.game t)) (line_of m.game t) ≡ line_of m.game (cond late (with_due t 0) t)
    go true alive true = refl
    go true alive false = refl
    go false shut true = ap (λ cents. line_of m.game (with_due t cents)) (closed_of m.game t shut).due
    go false shut false = refl

pub expired_lines : (m : Model) →
    map (λ l. cond (too_late (sheet_for m) l) (due_with 0 l) l) (map (line_of m.game) m.live)
    ≡ map (line_of m.game) (map (λ t. cond (is_expired m t) (with_due t 0) t) m.live)
expired_lines m =
    mapped_lines
    m.game
    (λ l. cond (too_late (sheet_for m) l) (due_with 0 l) l)
    (λ t. cond (is_expired m t) (with_due t 0) t)
    m.live
    (all_of (expired_line m) m.live)

-- ---- the twentieth ball

module _ (day game : ℕ) where
  -- a ticket that plays gets its award and has the game left no more
  settled_line : (t : Ticket) (award : ℕ) → Kept game t →
      left_with day (keep (λ g. not (eqb g game)) (line_of game t).left) (due_with (t.due + award) (line_of game t))
      ≡ line_of (game + 1) (finished_on day (game + 1) (with_due t (t.due + award)))
  unfolding games_left
  settled_line t award kept =
      left_line
      day
      (game + 1)
      (with_due t (t.due + award))
      (line_of game t).left
      (keep (λ g. not (eqb g game)) (line_of game t).left)
      (drawn_left game t)
      (unset_left game t kept)

  -- the line of a ticket that played
  abbrev played_line : Ticket → ℕ → Line
  played_line t award = left_with day (keep (λ g. not (eqb g game)) (line_of game t).left) (due_with (t.due + award) (line_of game t))

  -- one that does not play stays as it is
  idle_line : (t : Ticket) → Kept game t → runs_in game t ≡ false → line_of game t ≡ line_of (game + 1) (finished_on day (game + 1) t)
  idle_line t kept idle =
      let left : (line_of game t).left ≡ (line_of (game + 1) t).left = idle_left game t idle in
      let same : games_left (game + 1) t ≡ games_left game t = sym (idle_first game t idle) in
      let test : (is_finished (game + 1) t && eqb t.finished_day 0) ≡ false =
      ap₂ (λ n unset. eqb n 0 && unset) same (day_unset game t kept) ∙ and-not_self (eqb (games_left game t) 0)
      in
      ap (λ games. line_with t games t.finished_day) left
      ∙ ap (λ b. line_of (game + 1) (cond b (with_finished_day t day) t)) (sym test)

  pub settled_lines : (awards : List ℕ) (ts : List Ticket) →
      All (Kept game) ts →
      length awards ≡ length (keep (runs_in game) ts) →
      settle_lines day game awards (map (line_of game) ts)
      ≡ map (line_of (game + 1)) (map (finished_on day (game + 1)) (awarded game awards ts))
  unfolding settle_lines awarded keep
  settled_lines awards [] kept count = refl
  settled_lines [] (t ∷ ts) kept count = go (runs_in game t) refl count (λ fewer. settled_lines [] ts kept.1 fewer)
    where
      go : (plays : Bool) → runs_in game t ≡ plays →
          0 ≡ length (cond plays (t ∷ keep (runs_in game) ts) (keep (runs_in game) ts)) →
          (0 ≡ length (keep (runs_in game) ts) →
          settle_lines day game [] (map (line_of game) ts)
          ≡ map (line_of (game + 1)) (map (finished_on day (game + 1)) (awarded game [] ts))) →
          line_of game t ∷ settle_lines day game [] (map (line_of game) ts)
          ≡ line_of (game + 1) (finished_on day (game + 1) t) ∷ map (line_of (game + 1)) (map (finished_on day (game + 1)) (awarded game [] ts))
      go true plays none rest = absurd (omega arith)
      go false idle none rest = λ i. idle_line t kept.0 idle i ∷ rest none i
  settled_lines (a ∷ awards) (t ∷ ts) kept count =
      ap
      (λ b.
      cond b
      (played_line t a ∷ settle_lines day game awards (map (line_of game) ts))
      (line_of game t ∷ settle_lines day game (a ∷ awards) (map (line_of game) ts)))
      (plays_left game t)
      ∙ go (runs_in game t) refl count (λ fewer. settled_lines awards ts kept.1 fewer)
      (λ all. settled_lines (a ∷ awards) ts kept.1 all)
    where
      go : (plays : Bool) → runs_in game t ≡ plays →
          suc (length awards) ≡ length (cond plays (t ∷ keep (runs_in game) ts) (keep (runs_in game) ts)) →
          (length awards ≡ length (keep (runs_in game) ts) →
          settle_lines day game awards (map (line_of game) ts)
          ≡ map (line_of (game + 1)) (map (finished_on day (game + 1)) (awarded game awards ts))) →
          (suc (length awards) ≡ length (keep (runs_in game) ts) →
          settle_lines day game (a ∷ awards) (map (line_of game) ts)
          ≡ map (line_of (game + 1)) (map (finished_on day (game + 1)) (awarded game (a ∷ awards) ts))) →
          cond plays
          (played_line t a ∷ settle_lines day game awards (map (line_of game) ts))
          (line_of game t ∷ settle_lines day game (a ∷ awards) (map (line_of game) ts))
          ≡ map (line_of (game + 1))
          (map (finished_on day (game + 1))
          (cond plays (with_due t (t.due + a) ∷ awarded game awards ts) (t ∷ awarded game (a ∷ awards) ts)))
      go true plays some fewer all =
          let rest : length awards ≡ length (keep (runs_in game) ts) = omega arith in
          λ i. settled_line t a kept.0 i ∷ fewer rest i
      go false idle some fewer all = λ i. idle_line t kept.0 idle i ∷ all some i

-- ---- a game called off

module _ (m : Model) where
  -- a line with the game left is due its own stake, and has the game left no more
  stake_line : (t : Ticket) → Kept m.game t →
      cond (member m.game (line_of m.game t).left) (called_off_line (sheet_for m) (line_of m.game t)) (line_of m.game t)
      ≡ line_of (m.game + 1) (finished_on m.day (m.game + 1) (with_stake_back m.game t))
  stake_line t kept =
      ap₂ (λ plays stake. cond plays (played_line m.day m.game t stake) (line_of m.game t)) (plays_left m.game t) (stakes_of_game m.game m.game t kept)
      ∙ go (runs_in m.game t) refl
    where
      go : (plays : Bool) → runs_in m.game t ≡ plays →
          cond plays (played_line m.day m.game t (paid_stakes m.game (m.game + 1) t)) (line_of m.game t)
          ≡ line_of (m.game + 1)
          (finished_on m.day (m.game + 1) (cond plays (with_due t (t.due + paid_stakes m.game (m.game + 1) t)) t))
      go true plays = settled_line m.day m.game t (paid_stakes m.game (m.game + 1) t) kept
      go false idle = idle_line m.day m.game t kept idle

  pub called_off_lines : Orderly m →
      map (λ l. cond (member m.game l.left) (called_off_line (sheet_for m) l) l) (map (line_of m.game) m.live)
      ≡ map (line_of (m.game + 1)) (ended_tickets (stakes_paid (house_of m)) m)
  called_off_lines orderly =
      map-map (λ l. cond (member m.game l.left) (called_off_line (sheet_for m) l) l) (line_of m.game) m.live
      ∙ map_same _ (λ t. line_of (m.game + 1) (finished_on m.day (m.game + 1) (with_stake_back m.game t))) m.live (all_from stake_line m.live orderly.tickets)
      ∙ sym (map-map (λ t. line_of (m.game + 1) (finished_on m.day (m.game + 1) t)) (with_stake_back m.game) m.live)
      ∙ sym (map-map (line_of (m.game + 1)) (finished_on m.day (m.game + 1)) (map (with_stake_back m.game) m.live))
      ∙ ap (map (line_of (m.game + 1))) (sym (called_off_tickets m))
