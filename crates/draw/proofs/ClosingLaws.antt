-- Laws of the end of a game: a ticket that closes or moves down, and what the places of a table that hold the spread awards make of the live
-- tickets.
use Prim.Native.Nat.{ℕ, ◌+◌, ◌≤◌, ◌<◌}
use mathlib.Core.Path.{◌≡◌, refl, sym, ap, ◌∙◌}
use mathlib.Core.Bool.{true, false, not}
use mathlib.Core.List.{List, [], ◌∷◌, ◌++◌, map, zip_with, append-nil, map-map}
use native.Mathlib.Nat.{add-zero}
use native.Mathlib.Omega.{arith}
use lib.ListN.{length, get_or, set, take, drop, length-take}
use lib.Seq.{get_or-set_same, get_or-drop, drop-set-lt, drop-drop}
use Rattle.sale.specs.Lists.{below, keep}
use Rattle.house.specs.Tickets.{Ticket, games_left, is_live, with_due}
use Rattle.house.specs.Commands.{blank_ticket, still_live, finished_on, awarded}
use Rattle.house.specs.View.{ticket_in, tickets_of}
use Rattle.settlement.specs.Settling.{spread}
use Rattle.draw.specs.Closing.{paid_ticket}
use Rattle.house.proofs.ListLaws.{keep_append}
use Rattle.house.proofs.LiveTickets.{finished_on_keeps}
use Rattle.house.proofs.RowLists.{length_table}
use Rattle.house.proofs.RowLaws.{tickets_at, tickets_length, take_sold}
use Rattle.settlement.proofs.SpreadLaws.{length_spread, awarded_spread}
use Rattle.settlement.proofs.TablePlaces.{table_more, table_of}

zip_maps : {A B C D : Type 0} (f : B → C → D) (g : A → B) (h : A → C) (xs : List A)
    → zip_with f (map g xs) (map h xs) ≡ map (λ x. f (g x) (h x)) xs
unfolding zip_with
zip_maps f g h [] = refl
zip_maps f g h (x ∷ xs) = ap (λ ys. f (g x) (h x) ∷ ys) (zip_maps f g h xs)

-- ---- a ticket after the game

-- one that is paid nothing is the same, but for a finishing day
module _ (day game cents : ℕ) (t : Ticket) (unpaid : cents ≡ 0) where
  due_same : with_due t (t.due + cents) ≡ t
  due_same = let same : t.due + cents ≡ t.due = omega arith in λ i. with_due t (same i)

-- a finishing day closes no ticket, and neither does a payment
paid_live : (day game cents : ℕ) (t : Ticket) → is_live game (paid_ticket day game cents t) ≡ is_live game (with_due t (t.due + cents))
unfolding games_left
paid_live day game cents t = finished_on_keeps (is_live game) (λ u d. refl) day game (with_due t (t.due + cents))

module _ (day game cents : ℕ) (t : Ticket) where
  pub unpaid_alike : cents ≡ 0 → not (is_live game t) ≡ not (is_live game (paid_ticket day game cents t))
  unpaid_alike none = ap (λ u. not (is_live game u)) (sym (due_same day game cents t none)) ∙ ap not (sym (paid_live day game cents t))

module _ (g : ℕ) (t : Ticket) where
  one_live : is_live g t ≡ true → still_live g (t ∷ []) ≡ t ∷ []
  unfolding still_live keep
  one_live e = rw e

  one_closed : is_live g t ≡ false → still_live g (t ∷ []) ≡ []
  unfolding still_live keep
  one_closed e = rw e

-- a ticket at the next place of those that stay
module _ (ts : List Ticket) (left i : ℕ) (h : left ≤ i) (b : i < length ts) (g : ℕ) (t : Ticket) where
  pub closed_stays : is_live g t ≡ false → take left ts ≡ take left ts ++ still_live g (t ∷ [])
  closed_stays e = sym (append-nil (take left ts)) ∙ ap (λ us. take left ts ++ us) (sym (one_closed g t e))

  pub live_stays : is_live g t ≡ true → take (left + 1) (set ts left t) ≡ take left ts ++ still_live g (t ∷ [])
  live_stays e = take_sold left ts t (omega arith) ∙ ap (λ us. take left ts ++ us) (sym (one_live g t e))

  pub rest_stays : drop (i + 1) (set ts left t) ≡ drop (i + 1) ts
  rest_stays = drop-set-lt (i + 1) ts left t (omega arith)

-- a ticket that moved is the same at its new place
pub moved_ticket : (words marks words' marks' : List ℕ) (source to : ℕ) → source < 200 → to < 200
    → tickets_of words' marks' ≡ set (tickets_of words marks) to (get_or (tickets_of words marks) source blank_ticket)
    → ticket_in words' marks' to ≡ ticket_in words marks source
moved_ticket words marks words' marks' source to h h' moved =
    let tickets : List Ticket = tickets_of words marks in
    sym (tickets_at words' marks' to h')
    ∙ ap (λ ts. get_or ts to blank_ticket) moved
    ∙ get_or-set_same tickets to (get_or tickets source blank_ticket) blank_ticket (omega (arith, tickets_length words marks))
    ∙ tickets_at words marks source h

-- ---- all of them

-- the tickets from a place on are still as they were
module _ (words marks words' marks' : List ℕ) (i : ℕ) (same : drop i (tickets_of words' marks') ≡ drop i (tickets_of words marks)) where
  pub ticket_untouched : i < 200 → ticket_in words' marks' i ≡ ticket_in words marks i
  ticket_untouched b =
      sym (at words' marks') ∙ ap (λ ts. get_or ts 0 blank_ticket) same ∙ at words marks
    where
      at : (w m : List ℕ) → get_or (drop i (tickets_of w m)) 0 blank_ticket ≡ ticket_in w m i
      at w m = get_or-drop i (tickets_of w m) 0 blank_ticket ∙ ap (λ k. get_or (tickets_of w m) k blank_ticket) (add-zero i) ∙ tickets_at w m i b

  pub rest_untouched : drop (i + 1) (tickets_of words' marks') ≡ drop (i + 1) (tickets_of words marks)
  rest_untouched =
      sym (drop-drop 1 i (tickets_of words' marks')) ∙ ap (drop 1) same ∙ drop-drop 1 i (tickets_of words marks)

-- those that stay of the first tickets, each with what stands at its place of a table
unfoldable pub closed_up : ℕ → ℕ → List ℕ → List ℕ → List ℕ → ℕ → List Ticket
closed_up day game words marks paid n =
    still_live game (map (λ k. paid_ticket day game (get_or paid k 0) (ticket_in words marks k)) (below n))

module _ (day game : ℕ) (words marks paid : List ℕ) where
  pub closed_none : [] ≡ closed_up day game words marks paid 0
  unfolding closed_up still_live keep below
  closed_none = refl

  pub closed_more : (n : ℕ)
      → closed_up day game words marks paid n ++ still_live game (paid_ticket day game (get_or paid n 0) (ticket_in words marks n) ∷ [])
      ≡ closed_up day game words marks paid (n + 1)
  unfolding closed_up still_live
  closed_more n =
      let after : ℕ → Ticket = λ k. paid_ticket day game (get_or paid k 0) (ticket_in words marks k) in
      sym (keep_append (is_live game) (map after (below n)) (after n ∷ [])) ∙ ap (keep (is_live game)) (sym (table_more after n))

-- where the table holds the spread awards, they are the tickets that the awards leave live
pub closed_all : (day game : ℕ) (words marks paid awards : List ℕ) (n : ℕ)
    → take n paid ≡ spread game awards (map (ticket_in words marks) (below n))
    → closed_up day (game + 1) words marks paid n
    ≡ still_live (game + 1) (map (finished_on day (game + 1)) (awarded game awards (map (ticket_in words marks) (below n))))
unfolding closed_up
closed_all day game words marks paid awards n held =
    let tickets : List Ticket = map (ticket_in words marks) (below n) in
    let join : Ticket → ℕ → Ticket = λ t cents. with_due t (t.due + cents) in
    let long : length tickets ≡ n = length_table (ticket_in words marks) n in
    let enough : n ≤ length paid = omega (arith, length-take n paid, ap length held, length_spread game awards tickets) in
    let joined : awarded game awards tickets ≡ map (λ k. join (ticket_in words marks k) (get_or paid k 0)) (below n) =
    awarded_spread game awards tickets
    ∙ ap (zip_with join tickets) (sym held ∙ sym (table_of paid n enough))
    ∙ zip_maps join (ticket_in words marks) (λ k. get_or paid k 0) (below n) in
    ap (still_live (game + 1))
    (sym (ap (map (finished_on day (game + 1))) joined
    ∙ map-map (finished_on day (game + 1)) (λ k. join (ticket_in words marks k) (get_or paid k 0)) (below n)))
