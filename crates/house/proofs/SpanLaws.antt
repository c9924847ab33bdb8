-- Laws on the games of a span: which of them pass a test, by induction on the span; which a ticket has left; and that a ticket and its line
-- count the same paid stakes for them.
use Prim.Native.Nat.{ℕ, zero, suc, ◌+◌, ◌-◌, ◌*◌, ◌≤◌, ◌<◌, min, max}
use mathlib.Core.Path.{◌≡◌, refl, sym, ap, ap₂, ◌∙◌}
use mathlib.Core.Bool.{Bool, true, false, cond, not, ◌&&◌, ◌||◌, true≢false, false≢true}
use mathlib.Core.List.{[], ◌∷◌}
use mathlib.Core.Logic.{◌⊎◌, inl, inr}
use native.Mathlib.Nat.{mul-add, mul-zero}
use native.Mathlib.Omega.{arith}
use lib.Dec.{ltb, leb, eqb}
use lib.ListN.{length}
use borrow.Author.Tests.{ltb-true, ltb-false, leb-true, leb-false, eq-eqb, ne_eqb}
use Rattle.sale.specs.Lists.{keep, any, member}
use Rattle.sale.specs.Checks.{feature_stake, price_of}
use Rattle.sale.specs.Price.{game_price, charge}
use Rattle.house.specs.Tickets.{Ticket, runs_in, games_left, ticket_price, paid_stakes, held_for}
use Rattle.house.specs.Sheet.{games_from, stakes_of}
use Rattle.house.proofs.Ledger.{Kept, line_of}

pub length_games : (a n : ℕ) → length (games_from a n) ≡ n
unfolding games_from
length_games a zero = refl
length_games a (suc n) = ap suc (length_games (a + 1) n)

pub keep_games : (p q : ℕ → Bool) (a n : ℕ) → ((g : ℕ) → a ≤ g → p g ≡ q g) → keep p (games_from a n) ≡ keep q (games_from a n)
unfolding games_from keep
keep_games p q a zero same = refl
keep_games p q a (suc n) same =
    let here : p a ≡ q a = same a (omega arith) in
    let rest : keep p (games_from (a + 1) n) ≡ keep q (games_from (a + 1) n) = keep_games p q (a + 1) n (λ g h. same g (omega arith)) in
    λ i. cond (here i) (a ∷ rest i) (rest i)

-- the games of a span below another
pub keep_below : (k a n : ℕ) → keep (λ g. ltb g k) (games_from a n) ≡ games_from a (min n (k - a))
unfolding games_from keep
keep_below k a zero = let none : 0 ≡ min 0 (k - a) = omega arith in ap (games_from a) none
keep_below k a (suc n) = go (ltb a k) refl (keep_below k (a + 1) n)
  where
    go : (t : Bool) → ltb a k ≡ t →
        keep (λ g. ltb g k) (games_from (a + 1) n) ≡ games_from (a + 1) (min n (k - (a + 1))) →
        cond t (a ∷ keep (λ g. ltb g k) (games_from (a + 1) n)) (keep (λ g. ltb g k) (games_from (a + 1) n))
        ≡ games_from a (min (suc n) (k - a))
    go true lower rest =
        let below : a < k = ltb-true a k lower in
        let more : suc (min n (k - (a + 1))) ≡ min (suc n) (k - a) = omega arith in
        ap (λ l. a ∷ l) rest ∙ ap (games_from a) more
    go false reached rest =
        let above : k ≤ a = ltb-false a k reached in
        let none : min n (k - (a + 1)) ≡ 0 = omega arith in
        let none' : 0 ≡ min (suc n) (k - a) = omega arith in
        rest ∙ ap (games_from (a + 1)) none ∙ ap (games_from a) none'

-- and those from another on
pub keep_above : (k a n : ℕ) → keep (λ g. leb k g) (games_from a n) ≡ games_from (max a k) (a + n - max a k)
unfolding games_from keep
keep_above k a zero = let none : 0 ≡ a + 0 - max a k = omega arith in ap (games_from (max a k)) none
keep_above k a (suc n) = go (leb k a) refl (keep_above k (a + 1) n)
  where
    go : (t : Bool) → leb k a ≡ t →
        keep (λ g. leb k g) (games_from (a + 1) n) ≡ games_from (max (a + 1) k) (a + 1 + n - max (a + 1) k) →
        cond t (a ∷ keep (λ g. leb k g) (games_from (a + 1) n)) (keep (λ g. leb k g) (games_from (a + 1) n))
        ≡ games_from (max a k) (a + suc n - max a k)
    go true reached rest =
        let above : k ≤ a = leb-true k a reached in
        let first : max (a + 1) k ≡ a + 1 = omega arith in
        let count : a + 1 + n - max (a + 1) k ≡ n = omega arith in
        let first' : a ≡ max a k = omega arith in
        let count' : suc n ≡ a + suc n - max a k = omega arith in
        ap (λ l. a ∷ l) (rest ∙ ap₂ games_from first count) ∙ ap₂ games_from first' count'
    go false lower rest =
        let below : a < k = leb-false k a lower in
        let first : max (a + 1) k ≡ max a k = omega arith in
        let count : a + 1 + n - max (a + 1) k ≡ a + suc n - max a k = omega arith in
        rest ∙ ap₂ games_from first count

pub span_above : (k a c : ℕ) → keep (λ g. leb k g) (games_from a (c - a)) ≡ games_from (max a k) (c - max a k)
span_above k a c =
    let count : a + (c - a) - max a k ≡ c - max a k = omega arith in
    keep_above k a (c - a) ∙ ap (games_from (max a k)) count

-- ---- the games that are left

member_later : (g a n : ℕ) → g < a → member g (games_from a n) ≡ false
unfolding games_from member any
member_later g a zero later = refl
member_later g a (suc n) later =
    let next : g < a + 1 = omega arith in
    let other : eqb g a ≡ false = ne_eqb g a (λ same. omega arith) in
    λ i. other i || member_later g (a + 1) n next i

-- a ticket runs in a game that is among those left
pub plays_left : (game : ℕ) (t : Ticket) → member game (line_of game t).left ≡ runs_in game t
unfolding games_from member any runs_in games_left
plays_left game t = go (leb t.first game) refl (ltb game t.stop) refl
  where
    go : (begun : Bool) → leb t.first game ≡ begun → (on : Bool) → ltb game t.stop ≡ on →
        member game (games_from (max t.first game) (t.stop - max t.first game)) ≡ (begun && on)
    go true b true o =
        let begun : t.first ≤ game = leb-true t.first game b in
        let on : game < t.stop = ltb-true game t.stop o in
        let here : max t.first game ≡ game = omega arith in
        let some : t.stop - max t.first game ≡ suc (t.stop - game - 1) = omega arith in
        ap (member game) (ap₂ games_from here some)
        ∙ (λ i. eq-eqb game game refl i || member game (games_from (game + 1) (t.stop - game - 1)))
    go true b false o =
        let over : t.stop ≤ game = ltb-false game t.stop o in
        let none : t.stop - max t.first game ≡ 0 = omega arith in
        ap (λ n. member game (games_from (max t.first game) n)) none
    go false b on o =
        let later : game < t.first = leb-false t.first game b in
        let beyond : game < max t.first game = omega arith in
        member_later game (max t.first game) (t.stop - max t.first game) beyond

-- where a ticket runs, and where it does not
pub runs_span : (game : ℕ) (t : Ticket) → runs_in game t ≡ true → (t.first ≤ game) × (game < t.stop)
unfolding runs_in
runs_span game t runs = go (leb t.first game) refl (ltb game t.stop) refl runs
  where
    go : (begun : Bool) → leb t.first game ≡ begun → (on : Bool) → ltb game t.stop ≡ on → (begun && on) ≡ true →
        (t.first ≤ game) × (game < t.stop)
    go true b true o held = (leb-true t.first game b, ltb-true game t.stop o)
    go true b false o held = absurd (false≢true held)
    go false b on o held = absurd (false≢true held)

pub idle_span : (game : ℕ) (t : Ticket) → runs_in game t ≡ false → (game < t.first) ⊎ (t.stop ≤ game)
unfolding runs_in
idle_span game t idle = go (leb t.first game) refl (ltb game t.stop) refl idle
  where
    go : (begun : Bool) → leb t.first game ≡ begun → (on : Bool) → ltb game t.stop ≡ on → (begun && on) ≡ false →
        (game < t.first) ⊎ (t.stop ≤ game)
    go true b true o none = absurd (true≢false none)
    go true b false o none = inr (ltb-false game t.stop o)
    go false b on o none = inl (leb-false t.first game b)

-- a ticket that does not run in the current game has the same games left after it
pub idle_first : (game : ℕ) (t : Ticket) → runs_in game t ≡ false → games_left game t ≡ games_left (game + 1) t
unfolding games_left
idle_first game t idle = go (idle_span game t idle)
  where
    go : (game < t.first) ⊎ (t.stop ≤ game) → t.stop - max t.first game ≡ t.stop - max t.first (game + 1)
    go (inl later) = omega arith
    go (inr over) = omega arith

pub idle_left : (game : ℕ) (t : Ticket) → runs_in game t ≡ false → (line_of game t).left ≡ (line_of (game + 1) t).left
unfolding games_left games_from
idle_left game t idle = go (idle_span game t idle)
  where
    go : (game < t.first) ⊎ (t.stop ≤ game) →
        games_from (max t.first game) (t.stop - max t.first game)
        ≡ games_from (max t.first (game + 1)) (t.stop - max t.first (game + 1))
    go (inl later) =
        let first : max t.first game ≡ max t.first (game + 1) = omega arith in
        ap (λ a. games_from a (t.stop - a)) first
    go (inr over) =
        let none : t.stop - max t.first game ≡ 0 = omega arith in
        let none' : 0 ≡ t.stop - max t.first (game + 1) = omega arith in
        ap (games_from (max t.first game)) none ∙ ap (games_from (max t.first (game + 1))) none'

-- the game that is drawn is left no more
pub drawn_left : (game : ℕ) (t : Ticket) → keep (λ g. not (eqb g game)) (line_of game t).left ≡ (line_of (game + 1) t).left
unfolding games_left games_from
drawn_left game t =
    let a : ℕ = max t.first game in
    let first : max a (game + 1) ≡ max t.first (game + 1) = omega arith in
    keep_games (λ g. not (eqb g game)) (λ g. leb (game + 1) g) a (t.stop - a) later
    ∙ span_above (game + 1) a t.stop
    ∙ ap (λ b. games_from b (t.stop - b)) first
  where
    later : (g : ℕ) → max t.first game ≤ g → not (eqb g game) ≡ leb (game + 1) g
    later g h = go (leb (game + 1) g) refl
      where
        go : (t : Bool) → leb (game + 1) g ≡ t → not (eqb g game) ≡ t
        go true above = ap not (ne_eqb g game (λ same. omega (arith, leb-true (game + 1) g above)))
        go false here = let same : g ≡ game = omega (arith, leb-false (game + 1) g here) in ap not (eq-eqb g game same)

-- ---- paid stakes

-- the paid stakes as so many games at the ticket's price
pub stakes_by_games : (from upto : ℕ) (t : Ticket) → paid_stakes from upto t ≡ ticket_price t * (min upto t.free - from)
unfolding paid_stakes charge
stakes_by_games from upto t =
    let same : min upto t.free - min from t.free ≡ min upto t.free - from = omega arith in
    ap (λ n. ticket_price t * n) same

pub stakes_priced : (from upto price games : ℕ) (t : Ticket) → price ≡ ticket_price t → games ≡ min upto t.free - from → paid_stakes from upto t ≡ price * games
stakes_priced from upto price games t p g = rw (p, g) (stakes_by_games from upto t)

pub charge_none : (price : ℕ) → charge price 0 ≡ 0
unfolding charge
charge_none price = mul-zero price

pub charge_both : (price m n : ℕ) → charge price (m + n) ≡ charge price m + charge price n
unfolding charge
charge_both price m n = mul-add price m n

-- a ticket's price of a game is that of its operands
pub price_kept : {game : ℕ} (t : Ticket) → Kept game t → ticket_price t ≡ price_of t.operands
price_kept t kept = ap (λ n. game_price t.operands.stake n (feature_stake t.operands.feature)) kept.fixed.counted

-- what lies between two numbers, split at a third
between : (x y z : ℕ) → x ≤ y → z - x ≡ min z y - x + (z - y)
between x y z h = omega arith

-- the paid stakes up to a game and those from it on
pub stakes_split : (a b c : ℕ) (t : Ticket) → a ≤ b → paid_stakes a c t ≡ paid_stakes a (min c b) t + paid_stakes b c t
unfolding paid_stakes
stakes_split a b c t before =
    let ordered : min a t.free ≤ min b t.free = omega arith in
    let cut : min (min c t.free) (min b t.free) ≡ min (min c b) t.free = omega arith in
    let games : min c t.free - min a t.free ≡ min (min c b) t.free - min a t.free + (min c t.free - min b t.free) =
    between (min a t.free) (min b t.free) (min c t.free) ordered
    ∙ ap (λ n. n - min a t.free + (min c t.free - min b t.free)) cut
    in
    ap (charge (ticket_price t)) games
    ∙ charge_both (ticket_price t) (min (min c b) t.free - min a t.free) (min c t.free - min b t.free)

pub stakes_none : (a c : ℕ) (t : Ticket) → c ≤ a → paid_stakes a c t ≡ 0
unfolding paid_stakes
stakes_none a c t over =
    let games : min c t.free - min a t.free ≡ 0 = omega arith in
    ap (charge (ticket_price t)) games ∙ charge_none (ticket_price t)

-- a finished ticket holds nothing
pub held_none : (game : ℕ) (t : Ticket) → games_left game t ≡ 0 → held_for game t ≡ 0
unfolding games_left
held_none game t none = stakes_none (max t.first game) t.stop t (omega arith)

-- the sheet counts the same stakes for the games of a span
pub stakes_of_line : (game : ℕ) (t : Ticket) → Kept game t → (a c : ℕ) → stakes_of (line_of game t) (games_from a (c - a)) ≡ paid_stakes a c t
unfolding stakes_of paid_stakes
stakes_of_line game t kept a c =
    let games : min (c - a) (t.free - a) ≡ min c t.free - min a t.free = omega arith in
    ap (λ free. charge (price_of t.operands) (length (keep (λ g. ltb g free) (games_from a (c - a)))))
    (sym kept.fixed.free_from)
    ∙ ap₂ charge (sym (price_kept t kept))
    (ap length (keep_below t.free a (c - a)) ∙ length_games a (min (c - a) (t.free - a)) ∙ games)

-- and for one game, the current one or another
pub stakes_of_game : (game g : ℕ) (t : Ticket) → Kept game t → stakes_of (line_of game t) (g ∷ []) ≡ paid_stakes g (g + 1) t
unfolding games_from
stakes_of_game game g t kept =
    let one : 1 ≡ g + 1 - g = omega arith in
    ap (λ n. stakes_of (line_of game t) (games_from g n)) one ∙ stakes_of_line game t kept g (g + 1)

-- what a ticket holds before a game that is drawn and after it
pub held_drawn : (game : ℕ) (t : Ticket) →
    held_for game t ≡ held_for (game + 1) t + cond (runs_in game t) (paid_stakes game (game + 1) t) 0
held_drawn game t = go (runs_in game t) refl
  where
    idle : (game < t.first) ⊎ (t.stop ≤ game) → held_for game t ≡ held_for (game + 1) t
    idle (inl later) =
        let first : max t.first game ≡ max t.first (game + 1) = omega arith in
        ap (λ a. paid_stakes a t.stop t) first
    idle (inr over) =
        let before : t.stop ≤ max t.first game = omega arith in
        let after : t.stop ≤ max t.first (game + 1) = omega arith in
        stakes_none (max t.first game) t.stop t before ∙ sym (stakes_none (max t.first (game + 1)) t.stop t after)

    go : (plays : Bool) → runs_in game t ≡ plays → held_for game t ≡ held_for (game + 1) t + cond plays (paid_stakes game (game + 1) t) 0
    go true runs =
        let span : (t.first ≤ game) × (game < t.stop) = runs_span game t runs in
        let a : max t.first game ≡ game = omega arith in
        let b : min t.stop (max t.first (game + 1)) ≡ game + 1 = omega arith in
        let within : max t.first game ≤ max t.first (game + 1) = omega arith in
        omega (
          arith,
          stakes_split (max t.first game) (max t.first (game + 1)) t.stop t within,
          ap₂ (λ x y. paid_stakes x y t) a b,
        )
    go false stands = omega (arith, idle (idle_span game t stands))
