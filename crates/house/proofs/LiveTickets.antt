-- The house follows the ledger: after an accepted command the house's tickets are those of the ledger that are still live. A closed ticket,
-- with no game left and nothing due, stays closed under every change, so that it makes no difference whether it was dropped before.
use Prim.Native.Nat.{ℕ, ◌+◌, ◌≤◌, ◌<◌, min}
use native.Mathlib.Omega.{arith}
use mathlib.Core.Path.{◌≡◌, refl, sym, ap, ◌∙◌}
use mathlib.Core.Bool.{Bool, true, false, cond, not, ◌&&◌}
use mathlib.Core.List.{List, [], ◌∷◌, ◌++◌, map, map-map}
use lib.Dec.{ltb, leb, eqb}
use borrow.Author.Tests.{ltb-true, leb-true, eqb-true, eqb-false, eq-eqb, ne_eqb, not-false}
use Rattle.sale.specs.Lists.{keep}
use Rattle.sale.specs.Checks.{Operands}
use Rattle.house.specs.Tickets.{Ticket, runs_in, games_left, paid_stakes, is_finished, is_live, with_due, with_stop, with_finished_day}
use Rattle.house.specs.Model.{Model, next_game, is_drawing}
use Rattle.house.specs.Commands.{sold, sold_ticket, cancelled, cancel_stop, cancelled_ticket, settlement, stakes_paid, awarded, finished_on, tickets_after_game, game_settled, game_called_off, claimed, is_expired, expired, ticket_at, has_ticket, collected_ticket, reissued_ticket, collected, changed, still_live}
use Rattle.house.proofs.Ledger.{All, house_of, with_live, ended_tickets, cancelled_ledger, claimed_ledger, expired_ledger, collected_ledger, settled_ledger, called_off_ledger}
use Rattle.house.proofs.ListLaws.{cond_either, keep_snoc, keep_within, keep_map_keep, keep_changed}
use Rattle.house.proofs.RowLaws.{still_live_all}
use Rattle.house.proofs.Refusals.{and_true}
use Rattle.house.proofs.Numbered.{found_in}

-- ---- closed tickets

-- no game is left and nothing is due
pub record Closed (game : ℕ) (t : Ticket) : Type 0 where
  pub games : games_left game t ≡ 0
  pub due : t.due ≡ 0

pub closed_of : (game : ℕ) (t : Ticket) → is_live game t ≡ false → Closed game t
closed_of game t e =
    let p = and_true _ _ (not-false _ e) in
    record { games = eqb-true _ _ p.0; due = eqb-true _ _ p.1 }

pub not_live : (game : ℕ) (t : Ticket) → Closed game t → is_live game t ≡ false
not_live game t h = rw (eq-eqb _ _ h.games, eq-eqb _ _ h.due)

-- a live ticket that is finished is due something
pub live_due : (game : ℕ) (t : Ticket) → is_live game t ≡ true → is_finished game t ≡ true → 0 < t.due
live_due game t live finished = grind (arith, live, finished)

-- so of the ticket that a number finds in a house where all are live
pub found_due : (m : Model) (n : ℕ)
    → All (λ t. is_live m.game t ≡ true) m.live
    → has_ticket n m.live ≡ true
    → is_finished m.game (ticket_at n m.live) ≡ true
    → 0 < (ticket_at n m.live).due
found_due m n alive here finished = live_due m.game _ (found_in n (λ t. is_live m.game t ≡ true) m.live alive here).0 finished

pub live_with_games : (game : ℕ) (t : Ticket) → (games_left game t ≡ 0 → ⊥) → is_live game t ≡ true
live_with_games game t h = rw (ne_eqb _ _ h)

-- a ticket that runs in the game has that game left
pub runs_left : (game : ℕ) (t : Ticket) → runs_in game t ≡ true → games_left game t ≡ 0 → ⊥
unfolding runs_in games_left
runs_left game t e h =
    let p = and_true (leb t.first game) (ltb game t.stop) e in
    omega (arith, leb-true t.first game p.0, ltb-true game t.stop p.1)

pub closed_idle : (game : ℕ) (t : Ticket) → Closed game t → runs_in game t ≡ false
closed_idle game t h = go (runs_in game t) refl
  where
    go : (b : Bool) → runs_in game t ≡ b → b ≡ false
    go true e = absurd (runs_left game t e h.games)
    go false e = refl

-- the finishing day is all that finished_on changes
pub finished_on_keeps :
    {A : Type 0} (see : Ticket → A)
    → ((t : Ticket) (day : ℕ) → see (with_finished_day t day) ≡ see t)
    → (day game : ℕ) (t : Ticket)
    → see (finished_on day game t) ≡ see t
finished_on_keeps see h day game t = cond_either (λ u. see u ≡ see t) (is_finished game t && eqb t.finished_day 0) (h t day) refl

pub finished_on_games : (later day game : ℕ) (t : Ticket) → games_left later (finished_on day game t) ≡ games_left later t
unfolding games_left
finished_on_games later day game t = finished_on_keeps (games_left later) (λ u d. refl) day game t

pub finished_on_closed : (later day game : ℕ) (t : Ticket) → Closed later t → Closed later (finished_on day game t)
finished_on_closed later day game t h =
    record { games = rw (finished_on_games later day game t) h.games; due = rw (finished_on_keeps (λ u. u.due) (λ u d. refl) day game t) h.due }

pub cancelled_closed : (m : Model) (t : Ticket) → Closed m.game t → Closed m.game (cancelled_ticket m t)
unfolding games_left
cancelled_closed m t h =
    finished_on_closed m.game m.day m.game
    (with_stop t (min t.stop (cancel_stop m t)))
    (record { games = omega (arith, h.games); due = h.due })

pub paid_closed : (game : ℕ) (t : Ticket) → Closed game t → Closed game (with_due t 0)
unfolding games_left
paid_closed game t h = record { games = h.games; due = refl }

pub collected_closed : (m : Model) (t : Ticket) → Closed m.game (collected_ticket m t)
unfolding games_left
collected_closed m t =
    finished_on_closed m.game m.day m.game (with_stop (with_due t 0) m.game) (record { games = omega arith; due = refl })

pub later_closed : (game : ℕ) (t : Ticket) → Closed game t → Closed (game + 1) t
unfolding games_left
later_closed game t h = record { games = omega (arith, h.games); due = h.due }

-- ---- awards, ticket by ticket

abbrev pub award_to : ℕ → List ℕ → Ticket → Ticket
award_to game [] t = t
award_to game (a ∷ awards) t = cond (runs_in game t) (with_due t (t.due + a)) t

-- the awards of the tickets after this one
abbrev pub awards_past : ℕ → List ℕ → Ticket → List ℕ
awards_past game [] t = []
awards_past game (a ∷ awards) t = cond (runs_in game t) awards (a ∷ awards)

pub awarded_cons :
    (game : ℕ) (awards : List ℕ) (t : Ticket) (ts : List Ticket)
    → awarded game awards (t ∷ ts) ≡ award_to game awards t ∷ awarded game (awards_past game awards t) ts
unfolding awarded
awarded_cons game [] t ts = refl
awarded_cons game (a ∷ awards) t ts = go (runs_in game t)
  where
    go :
        (b : Bool)
        → cond b (with_due t (t.due + a) ∷ awarded game awards ts) (t ∷ awarded game (a ∷ awards) ts)
        ≡ cond b (with_due t (t.due + a)) t ∷ awarded game (cond b awards (a ∷ awards)) ts
    go true = refl
    go false = refl

-- a ticket that does not run in the game is passed over
pub awarded_idle :
    (game : ℕ) (awards : List ℕ) (t : Ticket) (ts : List Ticket)
    → runs_in game t ≡ false
    → awarded game awards (t ∷ ts) ≡ t ∷ awarded game awards ts
unfolding awarded
awarded_idle game [] t ts e = refl
awarded_idle game (a ∷ awards) t ts e = rw e

-- the due is all that an award changes
pub award_keeps :
    {A : Type 0} (see : Ticket → A)
    → ((t : Ticket) (cents : ℕ) → see (with_due t cents) ≡ see t)
    → (game : ℕ) (awards : List ℕ) (t : Ticket)
    → see (award_to game awards t) ≡ see t
award_keeps see h game [] t = refl
award_keeps see h game (a ∷ awards) t =
    cond_either (λ u. see u ≡ see t) (runs_in game t) (h t (t.due + a)) refl

pub awarded_keeps :
    {A : Type 0} (see : Ticket → A)
    → ((t : Ticket) (cents : ℕ) → see (with_due t cents) ≡ see t)
    → (game : ℕ) (awards : List ℕ) (ts : List Ticket)
    → map see (awarded game awards ts) ≡ map see ts
unfolding awarded
awarded_keeps see h game awards [] = refl
awarded_keeps see h game awards (t ∷ ts) =
    rw (awarded_cons game awards t ts, award_keeps see h game awards t, awarded_keeps see h game (awards_past game awards t) ts)

pub all_awarded :
    (P Q : Ticket → Type 0) (game : ℕ)
    → ((t : Ticket) (awards : List ℕ) → P t → Q (award_to game awards t))
    → (awards : List ℕ) (ts : List Ticket)
    → All P ts
    → All Q (awarded game awards ts)
unfolding awarded
all_awarded P Q game h awards [] p = tt
all_awarded P Q game h awards (t ∷ ts) p =
    rw (awarded_cons game awards t ts) (h t awards p.0, all_awarded P Q game h (awards_past game awards t) ts p.1)

-- where the awards are a figure of each running ticket, each is due its own
awarded_each :
    (game : ℕ) (f : Ticket → ℕ) (ts : List Ticket)
    → awarded game (map f (keep (runs_in game) ts)) ts ≡ map (λ t. cond (runs_in game t) (with_due t (t.due + f t)) t) ts
unfolding awarded keep
awarded_each game f [] = refl
awarded_each game f (t ∷ ts) = go (runs_in game t) refl (awarded_each game f ts)
  where
    running : List ℕ
    running = map f (keep (runs_in game) ts)

    after : List Ticket
    after = map (λ u. cond (runs_in game u) (with_due u (u.due + f u)) u) ts

    go :
        (runs : Bool)
        → runs_in game t ≡ runs
        → awarded game running ts ≡ after
        → awarded game (map f (cond runs (t ∷ keep (runs_in game) ts) (keep (runs_in game) ts))) (t ∷ ts)
        ≡ cond runs (with_due t (t.due + f t)) t ∷ after
    go true e rest =
        ap (λ b. cond b (with_due t (t.due + f t) ∷ awarded game running ts) (t ∷ awarded game (f t ∷ running) ts)) e
        ∙ ap (◌∷◌ (with_due t (t.due + f t))) rest
    go false e rest = awarded_idle game running t ts e ∙ ap (◌∷◌ t) rest

awarded_live :
    (day game : ℕ) (awards : List ℕ) (ts : List Ticket)
    → keep (is_live (game + 1)) (map (finished_on day (game + 1)) (awarded game awards (keep (is_live game) ts)))
    ≡ keep (is_live (game + 1)) (map (finished_on day (game + 1)) (awarded game awards ts))
unfolding keep
awarded_live day game awards [] = refl
awarded_live day game awards (t ∷ ts) =
    go (is_live game t) refl (awarded_live day game awards ts) (awarded_live day game (awards_past game awards t) ts)
  where
    after : List Ticket → List Ticket
    after us = keep (is_live (game + 1)) (map (finished_on day (game + 1)) us)

    go :
        (b : Bool)
        → is_live game t ≡ b
        → after (awarded game awards (keep (is_live game) ts)) ≡ after (awarded game awards ts)
        → after (awarded game (awards_past game awards t) (keep (is_live game) ts))
        ≡ after (awarded game (awards_past game awards t) ts)
        → after (awarded game awards (cond b (t ∷ keep (is_live game) ts) (keep (is_live game) ts)))
        ≡ after (awarded game awards (t ∷ ts))
    go true e idle rest = rw (awarded_cons game awards t (keep (is_live game) ts), awarded_cons game awards t ts, rest)
    go false e idle rest =
        let closed = closed_of game t e in
        let later = finished_on_closed (game + 1) day (game + 1) t (later_closed game t closed) in
        rw (awarded_idle game awards t ts (closed_idle game t closed), not_live (game + 1) _ later) idle

-- ---- the house after a command

-- the tickets that run in the game are the same in the house as in the ledger
pub running_live : (game : ℕ) (ts : List Ticket) → keep (runs_in game) (still_live game ts) ≡ keep (runs_in game) ts
unfolding still_live
running_live game ts =
    keep_within (is_live game) (runs_in game) (λ t e. closed_idle game t (closed_of game t e)) ts

-- a ticket with what it paid for the game due beside what was, if it runs in it
abbrev pub with_stake_back : ℕ → Ticket → Ticket
with_stake_back game t = cond (runs_in game t) (with_due t (t.due + paid_stakes game (game + 1) t)) t

-- what a game that is called off leaves of the live tickets
pub called_off_live : (m : Model)
    → (game_called_off m).live ≡ still_live (m.game + 1) (map (λ t. finished_on m.day (m.game + 1) (with_stake_back m.game t)) m.live)
unfolding game_called_off
called_off_live m =
    ap (λ ts. still_live (m.game + 1) (map (finished_on m.day (m.game + 1)) ts)) (awarded_each m.game (paid_stakes m.game (m.game + 1)) m.live)
    ∙ ap (still_live (m.game + 1)) (map-map (finished_on m.day (m.game + 1)) (with_stake_back m.game) m.live)

-- and of each ticket of the ledger
pub called_off_tickets : (m : Model) → ended_tickets (stakes_paid (house_of m)) m ≡ map (finished_on m.day (m.game + 1)) (map (with_stake_back m.game) m.live)
called_off_tickets m =
    ap (λ ts. map (finished_on m.day (m.game + 1)) (awarded m.game (map (paid_stakes m.game (m.game + 1)) ts) m.live)) (running_live m.game m.live)
    ∙ ap (map (finished_on m.day (m.game + 1))) (awarded_each m.game (paid_stakes m.game (m.game + 1)) m.live)

pub next_game_least : (m : Model) → m.game ≤ next_game m
next_game_least m = cond_either (λ g. m.game ≤ g) (is_drawing m) (omega arith) (omega arith)

sold_live : (m : Model) (o : Operands) → 1 ≤ o.games → is_live m.game (sold_ticket m o) ≡ true
unfolding games_left
sold_live m o h = live_with_games m.game (sold_ticket m o) (omega (arith, next_game_least m))

-- a change that leaves closed tickets closed
unseen_drops :
    (m : Model) (f : Ticket → Ticket)
    → ((t : Ticket) → Closed m.game t → Closed m.game (f t))
    → keep (is_live m.game) (map f (keep (is_live m.game) m.live)) ≡ keep (is_live m.game) (map f m.live)
unseen_drops m f stays =
    keep_map_keep (is_live m.game) (is_live m.game) f
    (λ t e. not_live m.game (f t) (stays t (closed_of m.game t e)))
    m.live

-- the house's tickets after a game, from the ledger's
pub ended_live : (m : Model) (awards : List ℕ) → tickets_after_game m.day m.game awards (house_of m).live ≡ still_live (m.game + 1) (ended_tickets awards m)
unfolding still_live
ended_live m awards = awarded_live m.day m.game awards m.live

-- ---- the house after each command that adds or may close tickets

pub sold_house_lem : (m : Model) (o : Operands) → 1 ≤ o.games → sold o (house_of m) ≡ house_of (sold o m)
unfolding sold still_live
sold_house_lem m o games = ap (with_live (sold o (house_of m))) (sym (keep_snoc (is_live m.game) m.live (sold_ticket m o) (sold_live m o games)))

pub cancelled_house : (m : Model) (n : ℕ) → cancelled n (house_of m) ≡ house_of (cancelled_ledger n m)
unfolding cancelled still_live changed
cancelled_house m n =
    ap (with_live (cancelled n (house_of m)))
    (unseen_drops m _ (λ t h. cond_either (Closed m.game) (eqb t.number n) (cancelled_closed m t h) h))

pub settled_house : (m : Model) (b : ℕ) → game_settled b (house_of m) ≡ house_of (settled_ledger b m)
unfolding game_settled
settled_house m b = ap (with_live (game_settled b (house_of m))) (ended_live m (settlement b (house_of m)).awards)

pub called_off_house : (m : Model) → game_called_off (house_of m) ≡ house_of (called_off_ledger m)
unfolding game_called_off
called_off_house m = ap (with_live (game_called_off (house_of m))) (ended_live m (stakes_paid (house_of m)))

pub claimed_house : (m : Model) (n : ℕ) → claimed n (house_of m) ≡ house_of (claimed_ledger n m)
unfolding claimed still_live changed
claimed_house m n =
    ap (with_live (claimed n (house_of m)))
    (unseen_drops m _ (λ t h. cond_either (Closed m.game) (eqb t.number n) (paid_closed m.game t h) h))

pub expired_house_lem : (m : Model) → expired (house_of m) ≡ house_of (expired_ledger m)
unfolding expired still_live is_expired
expired_house_lem m =
    ap (with_live (expired (house_of m)))
    (unseen_drops m _ (λ t h. cond_either (Closed m.game) (is_expired m t) (paid_closed m.game t h) h))

pub collected_house : (m : Model) (n : ℕ) → is_finished m.game (ticket_at n (house_of m).live) ≡ false → collected n (house_of m) ≡ house_of (collected_ledger n m)
unfolding collected still_live changed games_left
collected_house m n running =
    let t : Ticket = ticket_at n (house_of m).live in
    let new : Ticket = reissued_ticket m t in
    let stays : is_live m.game new ≡ true = live_with_games m.game new (eqb-false _ _ running) in
    ap (with_live (collected n (house_of m)))
    (ap (λ ts. ts ++ (new ∷ [])) (unseen_drops m _ (λ u h. cond_either (Closed m.game) (eqb u.number n) (collected_closed m u) h))
    ∙ sym (keep_snoc (is_live m.game) (changed n (collected_ticket m) m.live) new stays))

-- the house's tickets after a collection: the old number is closed, and the new one stands last
pub collected_live :
    (m : Model) (n : ℕ)
    → (collected n (house_of m)).live ≡ keep (λ t. not (eqb t.number n)) (house_of m).live ++ (reissued_ticket m (ticket_at n (house_of m).live) ∷ [])
unfolding collected changed still_live
collected_live m n =
    ap (λ ts. ts ++ (reissued_ticket m (ticket_at n (house_of m).live) ∷ []))
    (keep_changed (is_live m.game) (λ t. eqb t.number n) (collected_ticket m) (λ t e. not_live m.game (collected_ticket m t) (collected_closed m t))
    (house_of m).live (still_live_all m.game m.live))
