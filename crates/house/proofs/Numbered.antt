-- Tickets numbered in a row: the number of each is known from its place, so a number names one ticket at most. What holds of every ticket
-- holds of the one that a number finds among those that pass a test, and no other ticket has that number.
use Prim.Native.Nat.{ℕ, suc, ◌+◌, ◌≤◌, ◌<◌}
use native.Mathlib.Omega.{arith}
use mathlib.Core.Path.{◌≡◌, refl, sym, ap, ◌∙◌}
use mathlib.Core.Bool.{Bool, true, false, cond, ◌||◌, false≢true}
use mathlib.Core.List.{List, [], ◌∷◌, map}
use lib.Dec.{eqb}
use lib.ListN.{length}
use borrow.Author.Tests.{eqb-true, eqb-false, ne_eqb}
use Rattle.sale.specs.Lists.{keep, any}
use Rattle.house.specs.Tickets.{Ticket}
use Rattle.house.specs.Commands.{ticket_at, has_ticket}
use Rattle.house.specs.Sheet.{games_from}
use Rattle.house.proofs.Ledger.{All}
use Rattle.house.proofs.MoneyLaws.{all_from, all_kept_lem, keep_none, any_none}

-- ---- every element

pub all_both : {A : Type 0} (P Q : A → Type 0) (as' : List A) → All P as' → All Q as' → All (λ a. P a × Q a) as'
all_both P Q [] p q = tt
all_both P Q (a ∷ as') p q = ((p.0, q.0), all_both P Q as' p.1 q.1)

-- ---- numbers in a row

abbrev pub Row : ℕ → List Ticket → Type 0
Row k ts = map (λ t. t.number) ts ≡ games_from k (length ts)

pub row_head : (k : ℕ) (t : Ticket) (ts : List Ticket) → Row k (t ∷ ts) → t.number ≡ k
unfolding games_from
row_head k t ts row = cc

pub row_rest : (k : ℕ) (t : Ticket) (ts : List Ticket) → Row k (t ∷ ts) → Row (k + 1) ts
unfolding games_from
row_rest k t ts row = cc

abbrev pub Within : ℕ → ℕ → Ticket → Type 0
Within low high t = (low ≤ t.number) × (t.number < high)

pub row_within : (k : ℕ) (ts : List Ticket) → Row k ts → All (Within k (k + length ts)) ts
row_within k [] row = tt
row_within k (t ∷ ts) row =
    let head : t.number ≡ k = row_head k t ts row in (
      (omega arith, omega arith),
      all_from {P = Within (k + 1) (k + 1 + length ts)} {Q = Within k (k + suc (length ts))} (λ u h. (omega arith, omega arith)) ts
          (row_within (k + 1) ts (row_rest k t ts row)),
    )

-- ---- the ticket of a number among those that pass a test

module _ (n : ℕ) where
  abbrev Located : (Ticket → Type 0) → List Ticket → Type 0
  Located P ts = P (ticket_at n ts) × ((ticket_at n ts).number ≡ n)

  found_here : (P : Ticket → Type 0) (t : Ticket) (ts : List Ticket) → P t
      → (has_ticket n ts ≡ true → Located P ts) → has_ticket n (t ∷ ts) ≡ true → Located P (t ∷ ts)
  unfolding any ticket_at
  found_here P t ts h rest = go (eqb t.number n) refl
    where
      go : (b : Bool)
          → eqb t.number n ≡ b
          → (b || has_ticket n ts) ≡ true
          → P (cond b t (ticket_at n ts)) × ((cond b t (ticket_at n ts)).number ≡ n)
      go true e has = (h, eqb-true t.number n e)
      go false e has = rest has

  -- what holds of every ticket holds of the one that is found,
  pub found_in : (P : Ticket → Type 0) (ts : List Ticket) → All P ts → has_ticket n ts ≡ true → Located P ts
  unfolding any
  found_in P [] h has = absurd (false≢true has)
  found_in P (t ∷ ts) h has = found_here P t ts h.0 (found_in P ts h.1) has

  -- of those too that pass a test
  pub found : (P : Ticket → Type 0) (p : Ticket → Bool) (ts : List Ticket)
      → All P ts
      → has_ticket n (keep p ts) ≡ true
      → P (ticket_at n (keep p ts)) × ((ticket_at n (keep p ts)).number ≡ n)
  found P p ts h = found_in P (keep p ts) (all_kept_lem P p ts h)

  -- a ticket of that number is the one that is found
  abbrev Only : List Ticket → Ticket → Type 0
  Only us t = t.number ≡ n → ticket_at n us ≡ t

  only_here : (k : ℕ) (t : Ticket) (ts us : List Ticket) → Row k (t ∷ ts)
      → (has_ticket n us ≡ true → All (Only us) ts)
      → has_ticket n (t ∷ us) ≡ true
      → All (Only (t ∷ us)) (t ∷ ts)
  unfolding any ticket_at
  only_here k t ts us row rest = go (eqb t.number n) refl
    where
      go : (b : Bool)
          → eqb t.number n ≡ b
          → (b || has_ticket n us) ≡ true
          → All (λ u. u.number ≡ n → cond b t (ticket_at n us) ≡ u) (t ∷ ts)
      go true e has =
          let here : t.number ≡ n = eqb-true t.number n e in
          let head : t.number ≡ k = row_head k t ts row in (
            λ same. refl,
            all_from {P = Within (k + 1) (k + 1 + length ts)} {Q = λ u. u.number ≡ n → t ≡ u} (λ u h same. absurd (omega arith)) ts
                (row_within (k + 1) ts (row_rest k t ts row)),
          )
      go false e has = (λ same. absurd (eqb-false t.number n e same), rest has)

  only_later : (k : ℕ) (t : Ticket) (ts : List Ticket) (p : Ticket → Bool) → Row k (t ∷ ts)
      → (has_ticket n (keep p ts) ≡ true → All (Only (keep p ts)) ts)
      → has_ticket n (keep p ts) ≡ true
      → All (Only (keep p ts)) (t ∷ ts)
  only_later k t ts p row rest has =
      let head : t.number ≡ k = row_head k t ts row in
      let later = found (Within (k + 1) (k + 1 + length ts)) p ts (row_within (k + 1) ts (row_rest k t ts row)) has in
      (λ same. absurd (omega arith), rest has)

  only_kept : (b : Bool) (k : ℕ) (t : Ticket) (ts : List Ticket) (p : Ticket → Bool) → Row k (t ∷ ts)
      → (has_ticket n (keep p ts) ≡ true → All (Only (keep p ts)) ts)
      → has_ticket n (cond b (t ∷ keep p ts) (keep p ts)) ≡ true
      → All (Only (cond b (t ∷ keep p ts) (keep p ts))) (t ∷ ts)
  only_kept true k t ts p row rest = only_here k t ts (keep p ts) row rest
  only_kept false k t ts p row rest = only_later k t ts p row rest

  pub only : (p : Ticket → Bool) (k : ℕ) (ts : List Ticket) → Row k ts
      → has_ticket n (keep p ts) ≡ true
      → All (λ t. t.number ≡ n → ticket_at n (keep p ts) ≡ t) ts
  unfolding keep
  only p k [] row has = tt
  only p k (t ∷ ts) row has = only_kept (p t) k t ts p row (only p (k + 1) ts (row_rest k t ts row)) has

  -- so the tickets of that number are that one alone
  others : (k : ℕ) (ts : List Ticket) → n < k → Row k ts → All (λ t. eqb t.number n ≡ false) ts
  others k ts later row =
      all_from {P = Within k (k + length ts)} {Q = λ t. eqb t.number n ≡ false} (λ t h. ne_eqb t.number n (λ same. omega arith)) ts (row_within k ts row)

  pub alone : (p : Ticket → Bool) (k : ℕ) (ts : List Ticket) → Row k ts
      → has_ticket n (keep p ts) ≡ true
      → keep (λ t. eqb t.number n) ts ≡ ticket_at n (keep p ts) ∷ []
  unfolding keep any ticket_at
  alone p k [] row has = absurd (false≢true has)
  alone p k (t ∷ ts) row has = go (eqb t.number n) refl (p t) has (alone p (k + 1) ts (row_rest k t ts row))
    where
      mine : List Ticket
      mine = keep (λ u. eqb u.number n) ts

      away : eqb t.number n ≡ true → All (λ u. eqb u.number n ≡ false) ts
      away here =
          let head : t.number ≡ k = row_head k t ts row in
          others (k + 1) ts (omega (arith, eqb-true t.number n here)) (row_rest k t ts row)

      go : (here : Bool)
          → eqb t.number n ≡ here
          → (kept : Bool)
          → has_ticket n (cond kept (t ∷ keep p ts) (keep p ts)) ≡ true
          → (has_ticket n (keep p ts) ≡ true → mine ≡ ticket_at n (keep p ts) ∷ [])
          → cond here (t ∷ mine) mine ≡ ticket_at n (cond kept (t ∷ keep p ts) (keep p ts)) ∷ []
      go true here true held rest =
          ap (λ us. t ∷ us) (keep_none (λ u. eqb u.number n) ts (away here))
          ∙ ap (λ b. cond b t (ticket_at n (keep p ts)) ∷ []) (sym here)
      go true here false held rest =
          let gone : has_ticket n (keep p ts) ≡ false =
          any_none (λ u. eqb u.number n) (keep p ts) (all_kept_lem (λ u. eqb u.number n ≡ false) p ts (away here)) in
          absurd (false≢true (sym gone ∙ held))
      go false other true held rest =
          let later : has_ticket n (keep p ts) ≡ true = ap (λ b. b || has_ticket n (keep p ts)) (sym other) ∙ held in
          rest later ∙ ap (λ b. cond b t (ticket_at n (keep p ts)) ∷ []) (sym other)
      go false other false held rest = rest held
