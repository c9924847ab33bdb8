-- Bounds of every reached house, so that its figures fit 64 bits. Each command adds to what ever came in (charges, seeds) or was lost
-- (contributions, prizes) no more than a fixed amount for each ticket and each game; the balance then bounds every other figure by these.
use Prim.Native.Nat.{ℕ, suc, ◌+◌, ◌-◌, ◌*◌, ◌^◌, ◌≤◌, ◌<◌, min}
use native.Mathlib.Nat.{mul-le-mul_left, mul-one, suc-mul, zero-mul}
use native.Mathlib.Omega.{arith}
use mathlib.Core.Path.{◌≡◌, refl, ap, subst, subst⁻¹}
use mathlib.Core.Bool.{Bool, true, false, cond, not, ◌||◌, false≢true}
use mathlib.Core.List.{List, [], ◌∷◌, map, Memᴰ}
use lib.Dec.{eqb}
use lib.ListN.{length, length-map}
use borrow.Author.Tests.{eqb-true}
use Rattle.prizes.specs.Hits.{draw_of}
use Rattle.sale.specs.Lists.{sum, keep, any, member}
use Rattle.sale.specs.Ways.{ways}
use Rattle.sale.specs.Price.{charge_limit, paid_games, game_price, charge}
use Rattle.prizes.specs.Prize.{major_floor}
use Rattle.prizes.specs.Cut.{majors_limit, payout}
use Rattle.prizes.specs.Jackpots.{guarantee_of_six, guarantee_of_eight}
use Rattle.prizes.specs.Settle.{Entry}
use Rattle.sale.specs.Bounds.{Sound, Playable}
use Rattle.prizes.specs.Bounds.{ticket_prizes_limit}
use Rattle.sale.specs.Checks.{Operands, feature_stake, charge_of}
use Rattle.prizes.specs.declared.jackpot.Jackpot.{Jackpot}
use Rattle.prizes.specs.declared.draw.Draw.{Draw}
use Rattle.sale.proofs.KeepLaws.{length_keep_le}
use Rattle.prizes.proofs.CutPayouts.{payout_le}
use Rattle.prizes.proofs.SettleLaws.{prizes_within, contributions_within, seeds_within, debts_balance, six_guarantee_kept, eight_guarantee_kept}
use Rattle.house.specs.Tickets.{Ticket, terms_of, runs_in, is_live, ticket_price, paid_stakes, entry_of, with_due}
use Rattle.house.specs.Model.{Model, fresh, ticket_limit, game_limit, live_limit, with_money, with_transferred}
use Rattle.house.specs.Commands.{balls_with, running_in, settlement, stakes_paid, awarded, finished_on, game_settled, game_called_off, still_live, with_primary, transferred}
use Rattle.house.specs.Till.{Figures, till_of}
use Rattle.house.specs.Balance.{Balanced}
use Rattle.house.proofs.Ledger.{All, Kept, Orderly, house_of, ended_tickets, settled_ledger, called_off_ledger}
use Rattle.house.proofs.LiveTickets.{ended_live}
use Rattle.house.proofs.SpanLaws.{price_kept}
use Rattle.sale.proofs.WayLaws.{ways_few}
pub use Rattle.house.proofs.MoneyLaws.{all_kept_lem}

-- ---- lists

module _ {A : Type 0} where
  -- and what follows of what they are mapped to, of each member
  all_mapped :
      {B : Type 0} (P : A → Type 0) (Q : B → Type 0) (f : A → B)
      → ((x : A) → P x → Q (f x))
      → (xs : List A)
      → All P xs
      → (y : B)
      → Memᴰ y (map f xs)
      → Q y
  all_mapped P Q f h [] all y m = elim m [ ]
  all_mapped P Q f h (x ∷ xs) all y (Memᴰ.head same) = subst⁻¹ Q same (h x all.0)
  all_mapped P Q f h (x ∷ xs) all y (Memᴰ.tail m) = all_mapped P Q f h xs all.1 y m

  sum_within :
      (f : A → ℕ) (most : ℕ) (xs : List A)
      → ((x : A) → Memᴰ x xs → f x ≤ most)
      → sum (map f xs) ≤ length xs * most
  unfolding sum
  sum_within f most [] each = omega (arith, zero-mul most)
  sum_within f most (x ∷ xs) each =
      omega (
        arith,
        each x (Memᴰ.head refl),
        sum_within f most xs (λ y m. each y (Memᴰ.tail m)),
        suc-mul (length xs) most,
      )

  each_below_sum : (f : A → ℕ) (most : ℕ) (xs : List A) → sum (map f xs) < most → All (λ x. f x < most) xs
  unfolding sum
  each_below_sum f most [] h = tt
  each_below_sum f most (x ∷ xs) h = (omega arith, each_below_sum f most xs (omega arith))

  pub few_kept : {B : Type 0} (p : B → Bool) (f : A → B) (xs : List A) (most : ℕ) → length xs ≤ most → length (keep p (map f xs)) ≤ most
  few_kept p f xs most h = omega (arith, length_keep_le p (map f xs), length-map xs f)

  -- and fewer without those of a test, where there is one
  pub fewer_kept : (test : A → Bool) (xs : List A) → any test xs ≡ true → length (keep (λ x. not (test x)) xs) < length xs
  unfolding keep any
  fewer_kept test [] found = absurd (false≢true found)
  fewer_kept test (x ∷ xs) found = go (test x) found (fewer_kept test xs)
    where
      rest : List A
      rest = keep (λ x. not (test x)) xs

      go : (here : Bool) → (here || any test xs) ≡ true → (any test xs ≡ true → length rest < length xs) → length (cond (not here) (x ∷ rest) rest) < suc (length xs)
      go true here fewer = omega (arith, length_keep_le (λ x. not (test x)) xs)
      go false later fewer = omega (arith, fewer later)

pub length_awarded : (game : ℕ) (awards : List ℕ) (ts : List Ticket) → length (awarded game awards ts) ≡ length ts
unfolding awarded
length_awarded game awards [] = refl
length_awarded game [] (t ∷ ts) = ap suc (length_awarded game [] ts)
length_awarded game (a ∷ awards) (t ∷ ts) =
    go (runs_in game t) (length_awarded game awards ts) (length_awarded game (a ∷ awards) ts)
  where
    go :
        (runs : Bool)
        → length (awarded game awards ts) ≡ length ts
        → length (awarded game (a ∷ awards) ts) ≡ length ts
        → length (cond runs (with_due t (t.due + a) ∷ awarded game awards ts) (t ∷ awarded game (a ∷ awards) ts)) ≡ suc (length ts)
    go true paid idle = ap suc paid
    go false paid idle = ap suc idle

-- where the test for a member is met, the member's place
member_found : (x : ℕ) (xs : List ℕ) → member x xs ≡ true → Memᴰ x xs
unfolding member any
member_found x [] found = absurd (false≢true found)
member_found x (y ∷ ys) found = go (eqb x y) refl found (member_found x ys)
  where
    go :
        (same : Bool)
        → eqb x y ≡ same
        → (same || any (eqb x) ys) ≡ true
        → (any (eqb x) ys ≡ true → Memᴰ x ys)
        → Memᴰ x (y ∷ ys)
    go true same first rest = Memᴰ.head (eqb-true x y same)
    go false other later rest = Memᴰ.tail (rest later)

-- a game's major prizes pay no more than the limit each
cut_within : (ps : List ℕ) (p : ℕ) → member p ps ≡ true → major_floor ≤ p → payout ps p ≤ majors_limit
cut_within ps p found major = payout_le ps p (member_found p ps found)

-- ---- one ticket

-- what the parts of the rule book ask of a ticket's terms
pub terms_sound : (o : Operands) → Playable o → Sound (terms_of o)
terms_sound o p = record { groups = p.groups; stake = p.stake }

-- a ticket's paid stakes of one game, which are its whole price or nothing
pub game_paid_within : (game g : ℕ) (t : Ticket) → Kept game t → paid_stakes g (g + 1) t ≤ charge_limit
unfolding paid_stakes charge
game_paid_within game g t k =
    let price = ticket_price t in
    let once : price * (min (g + 1) t.free - min g t.free) ≤ price * 1 = mul-le-mul_left price (omega arith) in
    omega (arith, once, mul-one price, price_kept t k, k.fixed.playable.one_game)

-- those of any of its games: what is held for it, or paid back
pub span_paid_within : (game from upto : ℕ) (t : Ticket) → Kept game t → t.first ≤ from → paid_stakes from upto t ≤ charge_limit
unfolding paid_stakes charge
span_paid_within game from upto t k begun =
    let price = ticket_price t in
    let games : min upto t.free - min from t.free ≤ paid_games t.operands.games = omega (arith, k.fixed.free_from) in
    let most : price * (min upto t.free - min from t.free) ≤ price * paid_games t.operands.games = mul-le-mul_left price games in
    let charged : price * paid_games t.operands.games ≡ charge_of t.operands = ap (λ n. n * paid_games t.operands.games) (price_kept t k) in
    omega (arith, most, charged, k.fixed.playable.charge)

-- ---- the ledger

-- what one game can lose: the prizes of 200 tickets, and contributions, which come from their paid stakes
abbrev pub per_game : ℕ
per_game = live_limit * ticket_prizes_limit + live_limit * charge_limit

pub record Bounded (m : Model) : Type 0 where
  pub live : length (still_live m.game m.live) ≤ live_limit
  pub issued : m.issued ≤ ticket_limit
  pub game : m.game ≤ game_limit + 1
  pub taken : m.counters.taken ≤ m.issued * charge_limit
  pub seeds : m.counters.seeds ≤ (guarantee_of_six + guarantee_of_eight) * m.game
  pub lost : m.counters.lost ≤ (m.game - 1) * per_game
  pub debts : m.six.debt + m.eight.debt ≤ m.counters.seeds
  pub six_guarantee : guarantee_of_six ≤ m.six.primary
  pub eight_guarantee : guarantee_of_eight ≤ m.eight.primary

pub bounded_fresh : Bounded fresh
unfolding still_live keep
bounded_fresh = omega arith

-- a feature stake is a part of the price
pub feature_stake_within : (o : Operands) → Playable o → feature_stake o.feature ≤ charge_limit
unfolding game_price
feature_stake_within o p = omega (arith, p.one_game)

-- the bounds of an entry of a game
record EntryBounded (x : Entry) : Type 0 where
  few : length (ways x.terms.groups x.terms.types) ≤ 255
  paid : x.paid ≤ charge_limit
  feature : x.feature ≤ charge_limit

entry_bounded : (game : ℕ) (t : Ticket) → Kept game t → EntryBounded (entry_of game t)
entry_bounded game t k =
    record {
      few = ways_few t.operands.types k.fixed.playable.groups;
      paid = game_paid_within game game t k;
      feature = feature_stake_within t.operands k.fixed.playable;
    }

module _ (m : Model) (ok : Orderly m) (few : length (still_live m.game m.live) ≤ live_limit) (b : ℕ) where
  entries : List Entry
  entries = map (entry_of m.game) (running_in (house_of m))

  entries_few : length entries ≤ live_limit
  unfolding entries
  entries_few =
      omega (
        arith,
        length-map (running_in (house_of m)) (entry_of m.game),
        length_keep_le (runs_in m.game) (still_live m.game m.live),
      )

  each_bounded : (x : Entry) → Memᴰ x entries → EntryBounded x
  unfolding entries still_live
  each_bounded =
      all_mapped (Kept m.game) EntryBounded (entry_of m.game) (entry_bounded m.game) (running_in (house_of m))
      (all_kept_lem (Kept m.game) (runs_in m.game) (still_live m.game m.live)
      (all_kept_lem (Kept m.game) (is_live m.game) m.live ok.tickets))

  settled_within : (settlement b (house_of m)).prizes + (settlement b (house_of m)).contributions ≤ per_game
  unfolding settlement entries
  settled_within =
      let draw : Draw = draw_of (balls_with b (house_of m)) in
      omega (
        arith,
        entries_few,
        prizes_within cut_within draw m.six m.eight entries 255 charge_limit (λ x among. (each_bounded x among).few) (λ x among. (each_bounded x among).feature),
        contributions_within draw m.six m.eight entries,
        sum_within (λ x. x.paid) charge_limit entries (λ x among. (each_bounded x among).paid),
      )

-- a game's awards add no ticket
ended_few : (m : Model) (awards : List ℕ) → length (house_of m).live ≤ live_limit → length (still_live (m.game + 1) (ended_tickets awards m)) ≤ live_limit
unfolding still_live
ended_few m awards few =
    subst (λ ts. length ts ≤ live_limit) (ended_live m awards)
    (few_kept (is_live (m.game + 1)) (finished_on m.day (m.game + 1)) (awarded m.game awards (house_of m).live) live_limit
    (omega (arith, length_awarded m.game awards (house_of m).live)))

pub game_bounded :
    (m : Model)
    → Orderly m
    → Bounded m
    → (b : ℕ)
    → m.game ≤ game_limit
    → Bounded (settled_ledger b m)
unfolding game_settled settlement
game_bounded m ok bounds b not_last =
    let few = ended_few m (settlement b (house_of m)).awards bounds.live in
    let draw : Draw = draw_of (balls_with b (house_of m)) in
    let es : List Entry = map (entry_of m.game) (running_in (house_of m)) in
    let lost = settled_within m ok bounds.live b in
    let seeds = seeds_within draw m.six m.eight es in
    let debts = debts_balance draw m.six m.eight es in
    let six = six_guarantee_kept draw m.six m.eight es bounds.six_guarantee in
    let eight = eight_guarantee_kept draw m.six m.eight es bounds.eight_guarantee in
    omega arith

-- a call-off moves no counter and no pool
pub called_off_bounded : (m : Model) → Bounded m → m.game ≤ game_limit → Bounded (called_off_ledger m)
unfolding game_called_off
called_off_bounded m bounds not_last = let few = ended_few m (stakes_paid (house_of m)) bounds.live in omega arith

-- a transfer leaves both guarantees
pub transferred_bounded : (m : Model) (j cents : ℕ) → Bounded m → Bounded (transferred j cents m)
unfolding transferred
transferred_bounded m j cents b = go (eqb j 6)
  where
    go :
        (six : Bool)
        → Bounded (with_money m
        (cond six (with_primary m.six (m.six.primary + cents)) m.six)
        (cond six m.eight (with_primary m.eight (m.eight.primary + cents)))
        (with_transferred cents m.counters))
    go true = omega arith
    go false = omega arith

-- ---- 64 bits

pub record FiguresFit (f : Figures) : Type 0 where
  pub taken : f.taken < 2 ^ 62
  pub seeds : f.seeds < 2 ^ 62
  pub paid : f.paid < 2 ^ 62
  pub refunded : f.refunded < 2 ^ 62
  pub owed : f.owed < 2 ^ 62
  pub held : f.held < 2 ^ 62
  pub unclaimed : f.unclaimed < 2 ^ 62
  pub pooled : f.pooled < 2 ^ 62
  pub gained : f.gained < 2 ^ 62
  pub lost : f.lost < 2 ^ 62

pub record JackpotFits (j : Jackpot) : Type 0 where
  pub primary : j.primary < 2 ^ 62
  pub secondary : j.secondary < 2 ^ 62
  pub reimbursement : j.reimbursement < 2 ^ 62
  pub debt : j.debt < 2 ^ 62

pub record Fit (m : Model) : Type 0 where
  pub figures : FiguresFit (till_of m)
  pub six : JackpotFits m.six
  pub eight : JackpotFits m.eight

-- what came in and what was lost are within their bounds, and by the balance they are all that the other figures share
pub figures_fit : (m : Model) → Bounded m → Balanced (till_of m) → Fit m
unfolding till_of
figures_fit m b balance = omega arith

-- and what each ticket is due is a part of what is owed
pub dues_fit : (m : Model) → Fit m → All (λ t. t.due < 2 ^ 62) m.live
unfolding till_of
dues_fit m fits = each_below_sum (λ t. t.due) (2 ^ 62) m.live fits.figures.owed
