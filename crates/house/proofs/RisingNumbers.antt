-- The numbers of a ledger's tickets rise, and so do those of its live ones: no two have the same. So a change to the ticket of a number is one
-- store, after which that ticket stays or is taken out.
use Prim.Native.Nat.{ℕ, zero, suc, ◌+◌, ◌<◌}
use mathlib.Core.Path.{◌≡◌, refl, sym, ap, ◌∙◌}
use mathlib.Core.Logic.{⊎_elim}
use mathlib.Core.Bool.{Bool, true, false, cond}
use mathlib.Core.List.{List, [], ◌∷◌, map}
use native.Mathlib.Nat.{not-suc-le-zero, le_of_suc-le-suc}
use native.Mathlib.Omega.{arith}
use lib.ListN.{length, get_or, set}
use Rattle.sale.specs.Lists.{keep}
use Rattle.house.specs.Tickets.{Ticket, is_live}
use Rattle.house.specs.Model.{Model}
use Rattle.house.specs.Commands.{blank_ticket, ticket_at, changed, still_live}
use Rattle.house.specs.Sheet.{games_from}
use Rattle.house.specs.View.{place_of, without}
use Rattle.house.proofs.Ledger.{All, Orderly, house_of}
use Rattle.house.proofs.RowLists.{equal_or_not, earlier_or_not}
use Rattle.house.proofs.RowLaws.{place_number, place_ticket, changed_at, still_live_set, still_live_without}

abbrev pub Rising : List Ticket → Type 0
Rising [] = Unit {0}
Rising (t ∷ ts) = All (λ u. t.number < u.number) ts × Rising ts

module _ {A : Type 0} (P : A → Type 0) where
  pub all_at : (xs : List A) → All P xs → (k : ℕ) (d : A) → k < length xs → P (get_or xs k d)
  all_at [] all k d h = absurd (not-suc-le-zero h)
  all_at (x ∷ xs) (p, all) zero d h = p
  all_at (x ∷ xs) (p, all) (suc k) d h = all_at xs all k d (le_of_suc-le-suc h)

  module _ (f : A → Bool) where
    all_keep_by : (x : A) (xs : List A) (test : Bool) → P x → All P xs → All P (cond test (x ∷ xs) xs)
    all_keep_by x xs true p all = (p, all)
    all_keep_by x xs false p all = all

    all_keep : (xs : List A) → All P xs → All P (keep f xs)
    unfolding keep
    all_keep [] all = tt
    all_keep (x ∷ xs) (p, all) = all_keep_by x (keep f xs) (f x) p (all_keep xs all)

-- by place
pub rising_at : (ts : List Ticket) → Rising ts → (j k : ℕ) → j < k → k < length ts
    → (get_or ts j blank_ticket).number < (get_or ts k blank_ticket).number
rising_at [] rising j k h b = absurd (not-suc-le-zero b)
rising_at (t ∷ ts) rising j zero h b = absurd (not-suc-le-zero h)
rising_at (t ∷ ts) (all, rising) zero (suc k) h b = all_at (λ u. t.number < u.number) ts all k blank_ticket (le_of_suc-le-suc b)
rising_at (t ∷ ts) (all, rising) (suc j) (suc k) h b = rising_at ts rising j k (le_of_suc-le-suc h) (le_of_suc-le-suc b)

-- so that the place of a number is the only one with it
pub rising_only : (n : ℕ) (ts : List Ticket) → Rising ts → place_of n ts < length ts
    → (j : ℕ) → j < length ts → (get_or ts j blank_ticket).number ≡ n → j ≡ place_of n ts
rising_only n ts rising h j b same =
    let numbered : (get_or ts (place_of n ts) blank_ticket).number ≡ n = place_number n ts h in
    ⊎_elim
    (λ q. q)
    (λ q. ⊎_elim
    (λ l. absurd (omega (arith, rising_at ts rising j (place_of n ts) l h)))
    (λ l. absurd (omega (arith, rising_at ts rising (place_of n ts) j (omega arith) b)))
    (earlier_or_not j (place_of n ts)))
    (equal_or_not j (place_of n ts))

rising_keep_by : (t : Ticket) (ts : List Ticket) (test : Bool) → All (λ u. t.number < u.number) ts → Rising ts → Rising (cond test (t ∷ ts) ts)
rising_keep_by t ts true all rising = (all, rising)
rising_keep_by t ts false all rising = rising

pub rising_keep : (f : Ticket → Bool) (ts : List Ticket) → Rising ts → Rising (keep f ts)
unfolding keep
rising_keep f [] rising = tt
rising_keep f (t ∷ ts) (all, rising) =
    rising_keep_by t (keep f ts) (f t) (all_keep (λ u. t.number < u.number) f ts all) (rising_keep f ts rising)

-- numbers in a row rise
from_above : (a b : ℕ) (ts : List Ticket) → a < b → map (λ t. t.number) ts ≡ games_from b (length ts) → All (λ u. a < u.number) ts
unfolding games_from
from_above a b [] h e = tt
from_above a b (t ∷ ts) h e =
    let first : t.number ≡ b = cc in
    let rest : map (λ t. t.number) ts ≡ games_from (b + 1) (length ts) = cc in
    (omega arith, from_above a (b + 1) ts (omega arith) rest)

from_rising : (a : ℕ) (ts : List Ticket) → map (λ t. t.number) ts ≡ games_from a (length ts) → Rising ts
unfolding games_from
from_rising a [] e = tt
from_rising a (t ∷ ts) e =
    let first : t.number ≡ a = cc in
    let rest : map (λ t. t.number) ts ≡ games_from (a + 1) (length ts) = cc in
    (from_above t.number (a + 1) ts (omega arith) rest, from_rising (a + 1) ts rest)

-- the live tickets of the house of a ledger
pub live_rising : (m : Model) → Orderly m → Rising (house_of m).live
unfolding still_live
live_rising m orderly = rising_keep (is_live m.game) m.live (from_rising 1 m.live orderly.numbers)

-- a change to one of the live tickets
module _ (g n : ℕ) (f : Ticket → Ticket) (ts : List Ticket) (all : All (λ t. is_live g t ≡ true) ts) (rising : Rising ts) (h : place_of n ts < length ts) where
  changed_set : changed n f ts ≡ set ts (place_of n ts) (f (ticket_at n ts))
  changed_set =
      changed_at n f ts (place_of n ts) refl h (rising_only n ts rising h)
      ∙ ap (λ t. set ts (place_of n ts) (f t)) (sym (place_ticket n ts))

  -- which stays
  pub changed_stays : is_live g (f (ticket_at n ts)) ≡ true → still_live g (changed n f ts) ≡ set ts (place_of n ts) (f (ticket_at n ts))
  changed_stays e = ap (still_live g) changed_set ∙ still_live_set g ts all (place_of n ts) h (f (ticket_at n ts)) e

  -- or closes
  pub changed_closes : is_live g (f (ticket_at n ts)) ≡ false → still_live g (changed n f ts) ≡ without (place_of n ts) ts
  changed_closes e = ap (still_live g) changed_set ∙ still_live_without g ts all (place_of n ts) h (f (ticket_at n ts)) e
