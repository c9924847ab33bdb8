-- Laws of Expire: its code, what is left of a list of tickets as they are passed one by one, and the house without those that
-- have.
use Prim.Native.Nat.{ℕ, zero, suc, ◌+◌, ◌≤◌, ◌<◌}
use native.Mathlib.Nat.{add-zero, not-suc-le-zero, le_of_suc-le-suc}
use native.Mathlib.Numerals.{add-one}
use native.Mathlib.Omega.{arith}
use mathlib.Core.Path.{◌≡◌, refl, sym, ap, ◌∙◌}
use mathlib.Core.Bool.{Bool, true, false, cond, not}
use mathlib.Core.List.{List, [], ◌∷◌, ◌++◌, map, append-nil}
use lib.Dec.{eqb}
use lib.ListN.{length, get_or, set, take, drop, length-append}
use lib.Seq.{take-suc, get_or-drop, take-suc-set, drop-set-lt, drop-drop}
use borrow.Author.Tests.{eq-eqb, ne_eqb, eqb-true, eqb-false}
use Rattle.sale.specs.Lists.{sum, keep}
use Rattle.sale.specs.Checks.{first_met}
use Rattle.house.specs.Tickets.{Ticket, games_left, is_live, with_due}
use Rattle.house.specs.Model.{Model, with_unclaimed}
use Rattle.house.specs.Commands.{blank_ticket, expire, rows_of, code_of, still_live, is_expired, expiring, expired}
use Rattle.house.specs.View.{tickets_of, view, DayTells}
use Rattle.tickets.specs.Steps.{Swept}
use Rattle.house.specs.declared.state.House.{House}
use Rattle.house.proofs.Ledger.{All, Kept, with_live}
use Rattle.house.proofs.ListLaws.{keep_append, keep_snoc, keep_changed}
use Rattle.house.proofs.Refusals.{and_true}
use Rattle.house.proofs.LiveTickets.{not_live}
use Rattle.house.proofs.MoneyLaws.{sum_snoc}
use Rattle.house.proofs.ReachedHouses.{Sure}
use Rattle.house.proofs.ViewLaws.{live_count, view_live, view_by}

-- ---- the code

module _ (m : Model) where
  pub expire_closed : m.day ≡ 0 → code_of m expire ≡ 4
  unfolding code_of rows_of first_met
  expire_closed e = rw (eq-eqb m.day 0 e)

  pub expire_open : (m.day ≡ 0 → ⊥) → code_of m expire ≡ 0
  unfolding code_of rows_of first_met
  expire_open e = rw (ne_eqb m.day 0 e)

-- the finishing day of a ticket tells whether it is finished
pub kept_tells : (game : ℕ) (t : Ticket) → Kept game t → DayTells game t
kept_tells game t kept = record { tells = go (eqb (games_left game t) 0) (eqb t.finished_day 0) refl refl }
  where
    go : (done none : Bool) → eqb (games_left game t) 0 ≡ done → eqb t.finished_day 0 ≡ none → done ≡ not none
    go true true e f = absurd (kept.finished (eqb-true _ _ e) (eqb-true _ _ f))
    go true false e f = refl
    go false true e f = refl
    go false false e f = absurd (eqb-false _ _ f (kept.running (eqb-false _ _ e)))

-- ---- tickets passed one by one: those that stay move down

abbrev dues : List Ticket → ℕ
dues ts = sum (map (λ t. t.due) ts)

-- of the first i, `left` stay, and the dues of the others are cents
pub record Passed (f : Ticket → Bool) (entry now : List Ticket) (i left cents : ℕ) : Type 0 where
  pub behind : left ≤ i
  pub stay : take left now ≡ keep (λ t. not (f t)) (take i entry)
  pub rest : drop i now ≡ drop i entry
  pub gone : left + length (keep f (take i entry)) ≡ i
  pub owed : cents ≡ dues (keep f (take i entry))

module _ {A : Type 0} where
  keep_snoc_not : (f : A → Bool) (xs : List A) (x : A) → f x ≡ false → keep f (xs ++ (x ∷ [])) ≡ keep f xs
  unfolding keep
  keep_snoc_not f xs x e = rw (keep_append f xs (x ∷ []), e) (append-nil (keep f xs))

  keep_sum : (g : A → ℕ) (f : A → Bool) (xs : List A) → sum (map g (keep f xs)) ≤ sum (map g xs)
  unfolding keep sum
  keep_sum g f [] = omega arith
  keep_sum g f (x ∷ xs) = go (f x) (keep_sum g f xs)
    where
      go : (b : Bool) → sum (map g (keep f xs)) ≤ sum (map g xs) → sum (map g (cond b (x ∷ keep f xs) (keep f xs))) ≤ g x + sum (map g xs)
      go true h = omega arith
      go false h = omega arith

  take_sum : (g : A → ℕ) (i n : ℕ) (xs : List A) → i ≤ n → sum (map g (take i xs)) ≤ sum (map g (take n xs))
  unfolding sum
  take_sum g zero n xs h = omega arith
  take_sum g (suc i) n [] h = omega arith
  take_sum g (suc i) zero (x ∷ xs) h = absurd (not-suc-le-zero h)
  take_sum g (suc i) (suc n) (x ∷ xs) h = omega (arith, take_sum g i n xs (le_of_suc-le-suc h))

module _ (f : Ticket → Bool) (entry : List Ticket) where
  pub passed_none : Passed f entry entry 0 0 0
  unfolding keep sum
  passed_none = record { behind = omega arith; stay = refl; rest = refl; gone = refl; owed = refl }

  module _ (now : List Ticket) (i left cents : ℕ) (p : Passed f entry now i left cents) (h : i < length entry) where
    -- the next ticket is as it was
    pub next_same : get_or now i blank_ticket ≡ get_or entry i blank_ticket
    next_same =
        ap (λ n. get_or now n blank_ticket) (sym (add-zero i))
        ∙ sym (get_or-drop i now 0 blank_ticket)
        ∙ ap (λ ts. get_or ts 0 blank_ticket) p.rest
        ∙ get_or-drop i entry 0 blank_ticket
        ∙ ap (λ n. get_or entry n blank_ticket) (add-zero i)

    one_more : take (i + 1) entry ≡ take i entry ++ (get_or entry i blank_ticket ∷ [])
    one_more = ap (λ n. take n entry) (add-one i) ∙ take-suc entry i blank_ticket h

    rest_more : drop (i + 1) now ≡ drop (i + 1) entry
    rest_more = sym (drop-drop 1 i now) ∙ ap (drop 1) p.rest ∙ drop-drop 1 i entry

    -- it goes
    pub passed_gone : f (get_or entry i blank_ticket) ≡ true → Passed f entry now (i + 1) left (cents + (get_or entry i blank_ticket).due)
    passed_gone e =
        let more : keep f (take (i + 1) entry) ≡ keep f (take i entry) ++ (get_or entry i blank_ticket ∷ []) =
        ap (keep f) one_more ∙ keep_snoc f (take i entry) (get_or entry i blank_ticket) e in
        record {
          behind = omega (arith, p.behind);
          stay = p.stay ∙ sym (ap (keep (λ t. not (f t))) one_more ∙ keep_snoc_not (λ t. not (f t)) (take i entry) (get_or entry i blank_ticket) (ap not e));
          rest = rest_more;
          gone = ap (λ ts. left + length ts) more ∙ omega (arith, length-append (keep f (take i entry)) (get_or entry i blank_ticket ∷ []), p.gone);
          owed = ap (λ n. n + (get_or entry i blank_ticket).due) p.owed ∙ sym (ap dues more ∙ sum_snoc (λ t. t.due) (keep f (take i entry)) (get_or entry i blank_ticket));
        }

    -- or stays
    pub passed_stays : (after : List Ticket) → f (get_or entry i blank_ticket) ≡ false → left < length now → after ≡ set now left (get_or now i blank_ticket)
        → Passed f entry after (i + 1) (left + 1) cents
    passed_stays after e small moved =
        let same : keep f (take (i + 1) entry) ≡ keep f (take i entry) =
        ap (keep f) one_more ∙ keep_snoc_not f (take i entry) (get_or entry i blank_ticket) e in
        record {
          behind = omega (arith, p.behind);
          stay =
              ap (take (left + 1)) moved
              ∙ ap (λ n. take n (set now left (get_or now i blank_ticket))) (add-one left)
              ∙ take-suc-set now left (get_or now i blank_ticket) small
              ∙ ap (λ t. take left now ++ (t ∷ [])) next_same
              ∙ ap (λ ts. ts ++ (get_or entry i blank_ticket ∷ [])) p.stay
              ∙ sym (ap (keep (λ t. not (f t))) one_more ∙ keep_snoc (λ t. not (f t)) (take i entry) (get_or entry i blank_ticket) (ap not e));
          rest =
              ap (drop (i + 1)) moved
              ∙ drop-set-lt (i + 1) now left (get_or now i blank_ticket) (omega (arith, p.behind))
              ∙ rest_more;
          gone = ap (λ ts. left + 1 + length ts) same ∙ omega (arith, p.gone);
          owed = p.owed ∙ sym (ap dues same);
        }

    -- and its due fits beside theirs
    pub passed_fits : (n : ℕ) → f (get_or entry i blank_ticket) ≡ true → i < n → cents + (get_or entry i blank_ticket).due ≤ dues (take n entry)
    passed_fits n e b =
        let owed : cents + (get_or entry i blank_ticket).due ≡ dues (keep f (take (i + 1) entry)) = (passed_gone e).owed in
        omega (arith, keep_sum (λ t. t.due) f (take (i + 1) entry), take_sum (λ t. t.due) (i + 1) n entry (omega arith))

-- ---- the house without them

-- every live ticket is passed
pub passed_swept :
    (h : House) (words marks words' marks' : List ℕ) (left cents : ℕ)
    → h.live ≤ 200
    → Passed (is_expired (view h words marks)) (tickets_of words marks) (tickets_of words' marks') h.live left cents
    → Swept (view h words marks) words' marks' left cents
passed_swept h words marks words' marks' left cents few p =
    let m : Model = view h words marks in
    let live : m.live ≡ take h.live (tickets_of words marks) = view_live h words marks few in
    record {
      stay = p.stay ∙ ap (keep (λ t. not (is_expired m t))) (sym live);
      gone = ap (λ ts. left + length (keep (is_expired m) ts)) live ∙ p.gone ∙ sym (live_count h words marks);
      dues = p.owed ∙ ap (λ ts. dues (keep (is_expired m) ts)) (sym live);
    }

module _ (m : Model) where
  expired_closes : (t : Ticket) → is_expired m t ≡ true → is_live m.game (with_due t 0) ≡ false
  unfolding is_expired games_left
  expired_closes t e =
      not_live m.game (with_due t 0) (record { games = eqb-true (games_left m.game t) 0 (and_true _ _ e).0; due = refl })

  -- of live tickets those stay live that have not expired
  pub live_expired :
      (ts : List Ticket)
      → All (λ t. is_live m.game t ≡ true) ts
      → still_live m.game (map (λ t. cond (is_expired m t) (with_due t 0) t) ts) ≡ keep (λ t. not (is_expired m t)) ts
  unfolding still_live
  live_expired = keep_changed (is_live m.game) (is_expired m) (λ t. with_due t 0) expired_closes

  -- what they are due was owed
  pub dues_within : sum (map (λ t. t.due) (expiring m)) ≤ sum (map (λ t. t.due) m.live)
  dues_within = keep_sum (λ t. t.due) (is_expired m) m.live

-- the struct with so many tickets left, and the dues of the others unclaimed
abbrev pub expired_house : House → ℕ → ℕ → House
expired_house h left cents =
    record { day = h.day; game = h.game; balls = h.balls; drawn = h.drawn; issued = h.issued; live = left; six = h.six; eight = h.eight; counters = with_unclaimed cents h.counters }

module _ (h : House) (words marks : List ℕ) (sure : Sure (view h words marks)) (words' marks' : List ℕ) (left cents : ℕ) (swept : Swept (view h words marks) words' marks' left cents) where
  pub house_expired : view (expired_house h left cents) words' marks' ≡ expired (view h words marks)
  unfolding view expired
  house_expired =
      let m : Model = view h words marks in
      let tickets : (view (expired_house h left cents) words' marks').live ≡ (expired m).live =
      view_live (expired_house h left cents) words' marks' (omega (arith, swept.gone, sure.few))
      ∙ swept.stay
      ∙ sym (live_expired m m.live sure.alive) in
      view_by (expired_house h left cents) words' marks' (expired m).live tickets
      ∙ ap (λ cents. with_live (view (expired_house h left cents) words' marks') (expired m).live) swept.dues
