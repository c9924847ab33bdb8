-- The prizes of a game ticket by ticket: the major ones of all tickets one behind the other are the rule's list, each is a major prize and small;
-- and what the tickets are paid by the rule, spread over all live tickets.
use Prim.Native.Nat.{ℕ, zero, suc, ◌≤◌, ◌<◌, ◌^◌}
use mathlib.Core.Path.{◌≡◌, refl, sym, ap, ◌∙◌, subst}
use mathlib.Core.Bool.{Bool, true, false, cond}
use mathlib.Core.List.{List, [], ◌∷◌, ◌++◌, map, map-map, append_assoc, append-nil, Memᴰ}
use mathlib.Core.Logic.{◌⊎◌, inl, inr, ⊎_elim}
use native.Mathlib.Nat.{le_of_suc-le-suc}
use native.Mathlib.Omega.{arith}
use lib.ListN.{length, take, drop, get_or, length-map, take-append-drop}
use lib.Seq.{take-suc}
use borrow.Author.Tests.{leb-true}
use Rattle.sale.specs.Lists.{sum, keep}
use Rattle.prizes.specs.Prize.{major_floor, is_major}
use Rattle.prizes.specs.Cut.{payout}
use Rattle.sale.specs.Ways.{ways, sizes}
use Rattle.prizes.specs.Hits.{hits}
use Rattle.prizes.specs.Settle.{prizes_by, way_prizes, full_matches, majors_of, prizes_of}
use Rattle.prizes.specs.declared.draw.Draw.{Draw}
use Rattle.sale.specs.declared.terms.Terms.{Terms}
use Rattle.prizes.proofs.PrizeLaws.{prize_bound}
use Rattle.sale.proofs.WayLaws.{ways_few}
use Rattle.prizes.proofs.CutFloors.{member_kept}
use Rattle.sale.specs.Bounds.{Sound, Playable}
use Rattle.house.specs.Tickets.{Ticket, runs_in, terms_of, entry_of}
use Rattle.house.proofs.Bounded.{terms_sound}
use Rattle.house.proofs.MoneyLaws.{all_of, map_same}
use Rattle.settlement.specs.Settling.{spread, entries_of, prizes_at, matches_at, payouts_in, full_in}
use Rattle.settlement.specs.Passing.{all_majors}
use Rattle.settlement.proofs.SpreadLaws.{spread_entries}

-- ---- the major prizes one behind the other

pub majors_append : (pss qss : List (List ℕ)) → all_majors (pss ++ qss) ≡ all_majors pss ++ all_majors qss
unfolding all_majors
majors_append [] qss = refl
majors_append (ps ∷ pss) qss =
    ap (λ (l : List ℕ). keep is_major ps ++ l) (majors_append pss qss)
    ∙ sym (append_assoc (keep is_major ps) (all_majors pss) (all_majors qss))

pub majors_snoc : (pss : List (List ℕ)) (ps : List ℕ) → all_majors (pss ++ (ps ∷ [])) ≡ all_majors pss ++ keep is_major ps
unfolding all_majors
majors_snoc pss ps = majors_append pss (ps ∷ []) ∙ ap (λ (l : List ℕ). all_majors pss ++ l) (append-nil (keep is_major ps))

-- those up to a ticket and its own
pub majors_next : (pss : List (List ℕ)) (i : ℕ) → i < length pss
    → all_majors (take (suc i) pss) ≡ all_majors (take i pss) ++ keep is_major (get_or pss i [])
majors_next pss i h = ap all_majors (take-suc pss i [] h) ∙ majors_snoc (take i pss) (get_or pss i [])

-- those up to a place and those behind it
pub majors_split : (pss : List (List ℕ)) (i : ℕ) → all_majors pss ≡ all_majors (take i pss) ++ all_majors (drop i pss)
majors_split pss i = ap all_majors (sym (take-append-drop i pss)) ∙ majors_append (take i pss) (drop i pss)

pub member_append : {A : Type 0} (xs ys : List A) (x : A) → Memᴰ x (xs ++ ys) → Memᴰ x xs ⊎ Memᴰ x ys
member_append [] ys x m = inr m
member_append (y ∷ xs) ys x (Memᴰ.head e) = inl (Memᴰ.head e)
member_append (y ∷ xs) ys x (Memᴰ.tail m) = ⊎_elim (λ k. inl (Memᴰ.tail k)) (λ k. inr k) (member_append xs ys x m)

member_left : {A : Type 0} (xs ys : List A) (x : A) → Memᴰ x xs → Memᴰ x (xs ++ ys)
member_left [] ys x m = elim m [ ]
member_left (y ∷ xs) ys x (Memᴰ.head e) = Memᴰ.head e
member_left (y ∷ xs) ys x (Memᴰ.tail m) = Memᴰ.tail (member_left xs ys x m)

member_right : {A : Type 0} (xs ys : List A) (x : A) → Memᴰ x ys → Memᴰ x (xs ++ ys)
member_right [] ys x m = m
member_right (y ∷ xs) ys x m = Memᴰ.tail (member_right xs ys x m)

-- a ticket's are among all
pub own_major : (pss : List (List ℕ)) (i p : ℕ) → i < length pss → Memᴰ p (keep is_major (get_or pss i [])) → Memᴰ p (all_majors pss)
unfolding all_majors
own_major [] i p h m = absurd (omega arith)
own_major (ps ∷ pss) zero p h m = member_left (keep is_major ps) (all_majors pss) p m
own_major (ps ∷ pss) (suc i) p h m = member_right (keep is_major ps) (all_majors pss) p (own_major pss i p (le_of_suc-le-suc h) m)

-- each is a major prize, and has what holds of every prize
module _ (P : ℕ → Type 0) where
  pub majors_all : (pss : List (List ℕ)) → ((ps : List ℕ) → Memᴰ ps pss → (p : ℕ) → Memᴰ p ps → P p)
      → (p : ℕ) → Memᴰ p (all_majors pss) → P p
  unfolding all_majors
  majors_all [] each p m = elim m [ ]
  majors_all (ps ∷ pss) each p m =
      ⊎_elim
      (λ k. each ps (Memᴰ.head refl) p (member_kept is_major ps p k).0)
      (λ k. majors_all pss (λ qs q. each qs (Memᴰ.tail q)) p k)
      (member_append (keep is_major ps) (all_majors pss) p m)

pub majors_large : (pss : List (List ℕ)) (p : ℕ) → Memᴰ p (all_majors pss) → major_floor ≤ p
unfolding all_majors
majors_large [] p m = elim m [ ]
majors_large (ps ∷ pss) p m =
    ⊎_elim
    (λ k. leb-true major_floor p (member_kept is_major ps p k).1)
    (λ k. majors_large pss p k)
    (member_append (keep is_major ps) (all_majors pss) p m)

-- ---- the prizes of a ticket

member_of_map : {A : Type 0} (f : A → ℕ) (P : ℕ → Type 0) (xs : List A) → ((x : A) → P (f x)) → (p : ℕ) → Memᴰ p (map f xs) → P p
member_of_map f P [] each p m = elim m [ ]
member_of_map f P (x ∷ xs) each p (Memᴰ.head e) = subst P (sym e) (each x)
member_of_map f P (x ∷ xs) each p (Memᴰ.tail m) = member_of_map f P xs each p m

by_small : (t : Terms) (ss hs : List ℕ) → Sound t → (p : ℕ) → Memᴰ p (prizes_by t ss hs) → p < 2 ^ 40
unfolding prizes_by
by_small t ss hs sound p m =
    member_of_map _ (λ n. n < 2 ^ 40) (ways t.groups t.types) (λ w. prize_bound t.kind t.stake _ _ sound.stake) p m

by_few : (t : Terms) (ss hs : List ℕ) → Sound t → length (prizes_by t ss hs) ≤ 255
unfolding prizes_by
by_few t ss hs sound = subst (λ n. n ≤ 255) (sym (length-map (ways t.groups t.types) _)) (ways_few t.types sound.groups)

module _ (game : ℕ) (draw : Draw) (t : Ticket) (playable : Playable t.operands) where
  pub prizes_small : (p : ℕ) → Memᴰ p (prizes_at game draw t) → p < 2 ^ 40
  unfolding prizes_at
  prizes_small p m = go (runs_in game t) m
    where
      go : (b : Bool) → Memᴰ p (cond b (way_prizes draw (entry_of game t)) []) → p < 2 ^ 40
      go true k =
          by_small (terms_of t.operands) (sizes t.operands.marks) (hits draw t.operands.marks) (terms_sound t.operands playable) p k
      go false k = elim k [ ]

  pub prizes_few : length (prizes_at game draw t) ≤ 255
  unfolding prizes_at
  prizes_few = go (runs_in game t)
    where
      go : (b : Bool) → length (cond b (way_prizes draw (entry_of game t)) []) ≤ 255
      go true = by_few (terms_of t.operands) (sizes t.operands.marks) (hits draw t.operands.marks) (terms_sound t.operands playable)
      go false = omega arith

-- ---- the tickets of a game

module _ (game : ℕ) (draw : Draw) where
  -- the rule's list of major prizes
  pub majors_of_lem : (ts : List Ticket) → majors_of draw (entries_of game ts) ≡ all_majors (map (prizes_at game draw) ts)
  unfolding keep majors_of all_majors prizes_at
  majors_of_lem [] = refl
  majors_of_lem (t ∷ ts) = go (runs_in game t) (majors_of_lem ts)
    where
      go : (b : Bool) → majors_of draw (entries_of game ts) ≡ all_majors (map (prizes_at game draw) ts)
          → majors_of draw (map (entry_of game) (cond b (t ∷ keep (runs_in game) ts) (keep (runs_in game) ts)))
          ≡ keep is_major (cond b (way_prizes draw (entry_of game t)) []) ++ all_majors (map (prizes_at game draw) ts)
      go true e = ap (λ (l : List ℕ). keep is_major (way_prizes draw (entry_of game t)) ++ l) e
      go false e = e

  -- what the rule pays each
  paid_at_lem : (ms : List ℕ) (t : Ticket)
      → sum (map (payout ms) (prizes_at game draw t)) ≡ cond (runs_in game t) (prizes_of ms draw (entry_of game t)) 0
  unfolding prizes_at prizes_of sum
  paid_at_lem ms t = go (runs_in game t)
    where
      go : (b : Bool) → sum (map (payout ms) (cond b (way_prizes draw (entry_of game t)) [])) ≡ cond b (sum (map (payout ms) (way_prizes draw (entry_of game t)))) 0
      go true = refl
      go false = refl

  pub paid_spread : (ts : List Ticket)
      → map (λ ps. sum (map (payout (all_majors (map (prizes_at game draw) ts))) ps)) (map (prizes_at game draw) ts)
      ≡ spread game (payouts_in game draw ts) ts
  unfolding payouts_in
  paid_spread ts =
      map-map (λ ps. sum (map (payout (all_majors (map (prizes_at game draw) ts))) ps)) (prizes_at game draw) ts
      ∙ ap (λ (ms : List ℕ). map (λ t. sum (map (payout ms) (prizes_at game draw t))) ts) (sym (majors_of_lem ts))
      ∙ map_same (λ t. sum (map (payout (majors_of draw (entries_of game ts))) (prizes_at game draw t)))
      (λ t. cond (runs_in game t) (prizes_of (majors_of draw (entries_of game ts)) draw (entry_of game t)) 0) ts
      (all_of (paid_at_lem (majors_of draw (entries_of game ts))) ts)
      ∙ sym (spread_entries game (prizes_of (majors_of draw (entries_of game ts)) draw) ts)

  pub matches_spread : (ts : List Ticket) → map (matches_at game draw) ts ≡ spread game (full_in game draw ts) ts
  unfolding full_in matches_at
  matches_spread ts = sym (spread_entries game (full_matches draw) ts)
