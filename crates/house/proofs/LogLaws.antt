-- What a log tells after one command more. A refused command has no effect; an effect leaves what is told of every number that it does not touch; and
-- a number wins more at a game's twentieth ball alone, and is given back more where a game is called off, just where its span has the game, since no game from
-- the current one on is over.
use Prim.Native.Nat.{ℕ, zero, suc, ◌+◌, ◌-◌, ◌≤◌, ◌<◌, min}
use native.Mathlib.Omega.{arith}
use mathlib.Core.Path.{◌≡◌, refl, sym, ◌∙◌, ap, ap₂}
use mathlib.Core.Bool.{Bool, true, false, cond, ◌&&◌, ◌||◌, true≢false}
use mathlib.Core.Logic.{◌⊎◌, inl, inr, ⊎_elim}
use mathlib.Core.List.{List, [], ◌∷◌, map}
use lib.Dec.{ltb, leb, eqb}
use borrow.Author.Tests.{le-leb, lt-leb, lt-ltb, le-ltb, leb-true, ltb-true, ltb-false, eq-eqb, ne_eqb, eqb-true, eqb-false}
use Rattle.sale.specs.Lists.{sum, keep, any, member}
use Rattle.sale.proofs.KeepLaws.{ltb_same}
use Rattle.house.specs.Commands.{Command}
use Rattle.house.specs.Draws.{Different}
use Rattle.house.specs.Sheet.{feed, moved, playing, sheet_settlement, games_from}
use Rattle.house.specs.Claims.{Log, Logged, sheet_of, Effect, nothing, issues, takes_off, draws, pays, reissues, drops, effect_of, effect_in, Progress, nineteen_in, progress_after, progress_of, game_of, next_of, drawn_after, drawn, called_off_after, called_off, Span, games_of, span_after, span_of, award_at, award_after, award_in, won_by, payments_after, payments}
use Rattle.house.proofs.MoneyLaws.{all_of, map_same, keep_same, keep_keep, sum_picked, sum_parts}
use Rattle.house.proofs.SpanLaws.{keep_below}
use Rattle.house.proofs.RowLists.{equal_or_not, earlier_or_not}

abbrev pub logged : Command → ℕ → Logged
logged c code = record { command = c; code = code }

-- ---- games in a row

pub and_false : (b : Bool) → (b && false) ≡ false
and_false true = refl
and_false false = refl

pub games_have : (g a n : ℕ) → member g (games_from a n) ≡ (leb a g && ltb g (a + n))
unfolding games_from member any
games_have g a zero = ⊎_elim before after (earlier_or_not g a)
  where
    before : g < a → false ≡ (leb a g && ltb g (a + 0))
    before h = rw (lt-leb a g h)

    after : a ≤ g → false ≡ (leb a g && ltb g (a + 0))
    after h = rw (le-ltb g (a + 0) (omega arith)) (sym (and_false (leb a g)))
games_have g a (suc n) = ⊎_elim here (λ other. elsewhere other (games_have g (a + 1) n)) (equal_or_not g a)
  where
    here : g ≡ a → (eqb g a || member g (games_from (a + 1) n)) ≡ (leb a g && ltb g (a + suc n))
    here e = rw (eq-eqb g a e, le-leb a g (omega arith), lt-ltb g (a + suc n) (omega arith))

    elsewhere :
        (g ≡ a → ⊥)
        → member g (games_from (a + 1) n) ≡ (leb (a + 1) g && ltb g (a + 1 + n))
        → (eqb g a || member g (games_from (a + 1) n)) ≡ (leb a g && ltb g (a + suc n))
    elsewhere other rest =
        let last : a + 1 + n ≡ a + suc n = omega arith in
        ap (λ b. b || member g (games_from (a + 1) n)) (ne_eqb g a other)
        ∙ rest
        ∙ ⊎_elim
        (λ h. ap₂ ◌&&◌ (lt-leb (a + 1) g (omega arith)) refl ∙ sym (ap₂ ◌&&◌ (lt-leb a g h) refl))
        (λ h. ap₂ ◌&&◌ (le-leb (a + 1) g (omega arith) ∙ sym (le-leb a g h)) (ap (ltb g) last))
        (earlier_or_not g a)

pub different_games : (a n : ℕ) → Different (games_from a n)
unfolding games_from
different_games a zero = tt
different_games a (suc n) =
    (games_have a (a + 1) n ∙ ap (λ b. b && ltb a (a + 1 + n)) (lt-leb (a + 1) a (omega arith)), different_games (a + 1) n)

-- a span has the games from its first up to its stop
pub span_has : (g : ℕ) (s : Span) → member g (games_of s) ≡ (leb s.first g && ltb g s.stop)
span_has g s = games_have g s.first (s.stop - s.first) ∙ go (leb s.first g) refl
  where
    go : (b : Bool) → leb s.first g ≡ b → (b && ltb g (s.first + (s.stop - s.first))) ≡ (b && ltb g s.stop)
    go true e =
        let begun : s.first ≤ g = leb-true s.first g e in
        ltb_same g (s.first + (s.stop - s.first)) g s.stop (λ h. omega arith) (λ h. omega arith)
    go false e = refl

-- where games are cut off, those below the cut are left
pub games_cut : (first stop cut next g : ℕ)
    → (first ≤ g → g < cut → g < next)
    → (first ≤ g → g < next → g < cut)
    → (leb first g && ltb g (min stop cut)) ≡ (ltb g next && (leb first g && ltb g stop))
games_cut first stop cut next g there back = go (leb first g) refl (ltb g next) refl
  where
    out : first ≤ g → next ≤ g → (g < cut) ⊎ (cut ≤ g) → min stop cut ≤ g
    out low past (inl under) = absurd (omega (arith, there low under))
    out low past (inr over) = omega arith

    go : (low : Bool) → leb first g ≡ low → (high : Bool) → ltb g next ≡ high
        → (low && ltb g (min stop cut)) ≡ (high && (low && ltb g stop))
    go true l true h =
        let under : g < cut = back (leb-true first g l) (ltb-true g next h) in
        ltb_same g (min stop cut) g stop (λ some. omega arith) (λ some. omega arith)
    go true l false h = le-ltb g (min stop cut) (out (leb-true first g l) (ltb-false g next h) (earlier_or_not g cut))
    go false l true h = refl
    go false l false h = refl

-- of games in a row, only those below another can pass a test that those from it on do not
drawn_part : (d : ℕ → Bool) (next first games : ℕ)
    → ((g : ℕ) → next ≤ g → d g ≡ false)
    → keep d (games_from first games) ≡ keep d (games_from first (min games (next - first)))
drawn_part d next first games later =
    keep_same d (λ g. ltb g next && d g) (games_from first games) (all_of (λ g. go g (ltb g next) refl) (games_from first games))
    ∙ sym (keep_keep d (λ g. ltb g next) (games_from first games))
    ∙ ap (keep d) (keep_below next first games)
  where
    go : (g : ℕ) (b : Bool) → ltb g next ≡ b → d g ≡ (b && d g)
    go g true e = refl
    go g false e = later g (ltb-false g next e)

-- ---- one game more is drawn

-- different games have a game once at most
sum_at : (game cents : ℕ) (gs : List ℕ) → Different gs → sum (map (λ g. cond (eqb game g) cents 0) gs) ≡ cond (member game gs) cents 0
unfolding sum member any
sum_at game cents [] different = refl
sum_at game cents (k ∷ ks) (new, rest) = go (eqb game k) refl (sum_at game cents ks rest)
  where
    go : (here : Bool)
        → eqb game k ≡ here
        → sum (map (λ g. cond (eqb game g) cents 0) ks) ≡ cond (any (eqb game) ks) cents 0
        → cond here cents 0 + sum (map (λ g. cond (eqb game g) cents 0) ks) ≡ cond (here || any (eqb game) ks) cents 0
    go true e others =
        let none : any (eqb game) ks ≡ false = ap (λ n. any (eqb n) ks) (eqb-true game k e) ∙ new in
        let zero' : sum (map (λ g. cond (eqb game g) cents 0) ks) ≡ 0 = others ∙ ap (λ b. cond b cents 0) none in
        omega arith
    go false e others = omega (arith, others)

-- what is won by different games once another game is over
won_more : (game cents : ℕ) (d : ℕ → Bool) (f : ℕ → ℕ) (gs : List ℕ)
    → d game ≡ false
    → Different gs
    → sum (map (λ g. cond (eqb game g) cents (f g)) (keep (λ g. eqb game g || d g) gs))
    ≡ sum (map f (keep d gs)) + cond (member game gs) cents 0
won_more game cents d f gs undrawn different =
    sum_picked (λ g. cond (eqb game g) cents (f g)) (λ g. eqb game g || d g) gs
    ∙ sum_parts (λ g. cond (eqb game g || d g) (cond (eqb game g) cents (f g)) 0) (λ g. cond (d g) (f g) 0) (λ g. cond (eqb game g) cents 0) gs
    (all_of (λ g. go g (eqb game g) refl (d g) refl) gs)
    ∙ ap₂ ◌+◌ (sym (sum_picked f d gs)) (sum_at game cents gs different)
  where
    go : (g : ℕ) (here : Bool) → eqb game g ≡ here → (before : Bool) → d g ≡ before
        → cond (here || before) (cond here cents (f g)) 0 ≡ cond before (f g) 0 + cond here cents 0
    go g true e true h = absurd (true≢false (sym h ∙ ap d (sym (eqb-true game g e)) ∙ undrawn))
    go g true e false h = omega arith
    go g false e true h = omega arith
    go g false e false h = refl

-- ---- a refused command

module _ (c : Command) (code : ℕ) (log : Log) (refused : code ≡ 0 → ⊥) where
  pub sheet_refused : sheet_of (logged c code ∷ log) ≡ sheet_of log
  unfolding sheet_of feed
  sheet_refused = ap (λ (b : Bool). cond b (moved c (sheet_of log)) (sheet_of log)) (ne_eqb code 0 refused)

  pub effect_refused : effect_in (logged c code) ≡ nothing
  unfolding effect_in
  effect_refused = ap (λ (b : Bool). cond b (effect_of c) nothing) (ne_eqb code 0 refused)

-- ---- which games are drawn

-- after a ball that is the twentieth, or is not
abbrev ball_in : Progress → Bool → Progress
ball_in p last =
    cond last
    (record { game = p.game + 1; balls = 0; issued = p.issued })
    (record { game = p.game; balls = p.balls + 1; issued = p.issued })

-- none from the current one on is over
not_over : (log : Log) (g : ℕ) → game_of log ≤ g → (drawn log g ≡ false) × (called_off log g ≡ false)
unfolding drawn drawn_after called_off called_off_after progress_of progress_after
not_over [] g later = (refl, refl)
not_over (e ∷ log) g later = go (effect_in e) (not_over log g) later
  where
    drawing : (last : Bool)
        → (game_of log ≤ g → (drawn log g ≡ false) × (called_off log g ≡ false))
        → (ball_in (progress_of log) last).game ≤ g
        → (((last && eqb (game_of log) g) || drawn log g) ≡ false) × (called_off log g ≡ false)
    drawing true rest later =
        let before = rest (omega arith) in
        (rw (ne_eqb (game_of log) g (λ same. omega arith)) before.0, before.1)
    drawing false rest later = rest later

    go : (effect : Effect)
        → (game_of log ≤ g → (drawn log g ≡ false) × (called_off log g ≡ false))
        → (progress_after (progress_of log) effect).game ≤ g
        → (drawn_after g log (drawn log g) effect ≡ false) × (called_off_after g log (called_off log g) effect ≡ false)
    go nothing rest later = rest later
    go (issues games) rest later = rest later
    go (takes_off k) rest later = rest later
    go (draws b) rest later = drawing (nineteen_in (progress_of log)) rest later
    go (pays k) rest later = rest later
    go (reissues k) rest later = rest later
    go drops rest later =
        let before = rest (omega arith) in
        let other : eqb (game_of log) g ≡ false = ne_eqb (game_of log) g (λ same. omega arith) in
        (grind (arith, before.0, other), grind (arith, before.1, other))

pub not_drawn : (log : Log) (g : ℕ) → game_of log ≤ g → drawn log g ≡ false
not_drawn log g later = (not_over log g later).0

pub not_called_off : (log : Log) (g : ℕ) → game_of log ≤ g → called_off log g ≡ false
not_called_off log g later = (not_over log g later).1

-- how often a game is over
abbrev pub ends : Bool → Bool → ℕ
ends drawn called = cond drawn 1 0 + cond called 1 0

-- no game is left out, and none ends twice: each from 1 up to the current one is drawn or called off, and not both
pub ended_once : (log : Log) (g : ℕ) → 1 ≤ g → ends (drawn log g) (called_off log g) ≡ cond (ltb g (game_of log)) 1 0
unfolding drawn drawn_after called_off called_off_after progress_of progress_after
ended_once [] g some = ap (λ (b : Bool). cond b 1 0) (sym (le-ltb g 1 some))
ended_once (e ∷ log) g some = go (effect_in e) (ended_once log g some)
  where
    past : ends (drawn log g) (called_off log g) ≡ cond (ltb g (game_of log)) 1 0 → eqb (game_of log) g ≡ false
        → ends (drawn log g) (called_off log g) ≡ cond (ltb g (game_of log + 1)) 1 0
    past rest e =
        let other : game_of log ≡ g → ⊥ = eqb-false (game_of log) g e in
        rest ∙ ap (λ (b : Bool). cond b 1 0) (ltb_same g (game_of log) g (game_of log + 1) (λ h. omega arith) (λ h. omega arith))

    drawing : (last same : Bool)
        → eqb (game_of log) g ≡ same
        → ends (drawn log g) (called_off log g) ≡ cond (ltb g (game_of log)) 1 0
        → ends ((last && same) || drawn log g) (called_off log g) ≡ cond (ltb g (ball_in (progress_of log) last).game) 1 0
    drawing true true e rest =
        let is : game_of log ≡ g = eqb-true (game_of log) g e in
        ap (ends true) (not_called_off log g (omega arith))
        ∙ ap (λ (b : Bool). cond b 1 0) (sym (lt-ltb g (game_of log + 1) (omega arith)))
    drawing true false e rest = past rest e
    drawing false same e rest = rest

    dropping : (same : Bool)
        → eqb (game_of log) g ≡ same
        → ends (drawn log g) (called_off log g) ≡ cond (ltb g (game_of log)) 1 0
        → ends (drawn log g) (same || called_off log g) ≡ cond (ltb g (game_of log + 1)) 1 0
    dropping true e rest =
        let is : game_of log ≡ g = eqb-true (game_of log) g e in
        ap (λ (d : Bool). ends d true) (not_drawn log g (omega arith))
        ∙ ap (λ (b : Bool). cond b 1 0) (sym (lt-ltb g (game_of log + 1) (omega arith)))
    dropping false e rest = past rest e

    go : (effect : Effect)
        → ends (drawn log g) (called_off log g) ≡ cond (ltb g (game_of log)) 1 0
        → ends (drawn_after g log (drawn log g) effect) (called_off_after g log (called_off log g) effect)
        ≡ cond (ltb g (progress_after (progress_of log) effect).game) 1 0
    go nothing rest = rest
    go (issues games) rest = rest
    go (takes_off k) rest = rest
    go (draws b) rest = drawing (nineteen_in (progress_of log)) (eqb (game_of log) g) refl rest
    go (pays k) rest = rest
    go (reissues k) rest = rest
    go drops rest = dropping (eqb (game_of log) g) refl rest

-- ---- a number that was never issued

-- has no games: there is nothing to take off
pub unissued_span : (log : Log) (n : ℕ) → (n ≡ 0) ⊎ ((progress_of log).issued < n) → span_of n log ≡ record { first = 0; stop = 0 }
unfolding span_of span_after progress_of progress_after
unissued_span [] n never = refl
unissued_span (e ∷ log) n never = go (effect_in e) (unissued_span log n) never
  where
    none : Span
    none = record { first = 0; stop = 0 }

    cut : (stop : ℕ) (b : Bool) → cond b (record { first = 0; stop = min 0 stop }) none ≡ none
    cut stop true = let zero' : min 0 stop ≡ 0 = omega arith in λ i. record { first = 0; stop = zero' i }
    cut stop false = refl

    drawing : (last : Bool)
        → ((n ≡ 0) ⊎ ((progress_of log).issued < n) → span_of n log ≡ none)
        → (n ≡ 0) ⊎ ((ball_in (progress_of log) last).issued < n)
        → span_of n log ≡ none
    drawing true rest never = rest never
    drawing false rest never = rest never

    still : (n ≡ 0) ⊎ ((progress_of log).issued + 1 < n) → (n ≡ 0) ⊎ ((progress_of log).issued < n)
    still (inl zero') = inl zero'
    still (inr more) = inr (omega arith)

    other : (n ≡ 0) ⊎ ((progress_of log).issued + 1 < n) → (progress_of log).issued + 1 ≡ n → ⊥
    other (inl zero') same = omega arith
    other (inr more) same = omega arith

    go : (effect : Effect)
        → ((n ≡ 0) ⊎ ((progress_of log).issued < n) → span_of n log ≡ none)
        → (n ≡ 0) ⊎ ((progress_after (progress_of log) effect).issued < n)
        → span_after n log (λ k. span_of k log) effect ≡ none
    go nothing rest never = rest never
    go (issues games) rest never = rw (ne_eqb ((progress_of log).issued + 1) n (other never)) (rest (still never))
    go (takes_off k) rest never = rw (rest never) (cut (next_of log) (eqb k n))
    go (draws b) rest never = drawing (nineteen_in (progress_of log)) rest never
    go (pays k) rest never = rest never
    go (reissues k) rest never =
        rw (ne_eqb ((progress_of log).issued + 1) n (other never), rest (still never)) (cut (game_of log) (eqb k n))
    go drops rest never = rest never

-- ---- a number that an effect does not touch

-- what a number has won after an effect
abbrev won_after : ℕ → Log → Effect → ℕ
won_after n log effect =
    sum (map (λ g. award_after n g log (award_in n g log) effect)
    (keep (λ g. drawn_after g log (drawn log g) effect) (games_of (span_after n log (λ k. span_of k log) effect))))

-- What a number with such stakes, game by game, is given back: of a number that was issued they are those of its line, which no command changes.
abbrev pub gives_back : (ℕ → ℕ) → ℕ → Log → ℕ
gives_back stakes n log = sum (map stakes (keep (called_off log) (games_of (span_of n log))))

abbrev gives_back_after : (ℕ → ℕ) → ℕ → Log → Effect → ℕ
gives_back_after stakes n log effect =
    sum (map stakes (keep (λ g. called_off_after g log (called_off log g) effect) (games_of (span_after n log (λ k. span_of k log) effect))))

-- two logs tell the same of a number
pub record SameTold (n : ℕ) (before log : Log) : Type 0 where
  pub span : span_of n log ≡ span_of n before
  pub won : won_by n log ≡ won_by n before
  pub given : (stakes : ℕ → ℕ) → gives_back stakes n log ≡ gives_back stakes n before
  pub paid : payments n log ≡ payments n before

-- an effect touches neither what the number may play and win nor its payments
abbrev pub Untouched : ℕ → Log → Effect → Type 0
Untouched n log nothing = Unit {0}
Untouched n log (issues games) = (progress_of log).issued + 1 ≡ n → ⊥
Untouched n log (takes_off k) = k ≡ n → ⊥
Untouched n log (draws b) = nineteen_in (progress_of log) ≡ false
Untouched n log (pays k) = k ≡ n → ⊥
Untouched n log (reissues k) = ((progress_of log).issued + 1 ≡ n → ⊥) × (k ≡ n → ⊥)
Untouched n log drops = ⊥

pub untouched : (n : ℕ) (log : Log) (e : Logged) → Untouched n log (effect_in e) → SameTold n log (e ∷ log)
unfolding span_of span_after drawn drawn_after called_off called_off_after award_in award_after won_by payments payments_after
untouched n log e free =
    let same = go (effect_in e) free in
    record { span = same.0; won = same.1; given = same.2; paid = same.3 }
  where
    won_in : Span → ℕ
    won_in s = sum (map (λ g. award_in n g log) (keep (drawn log) (games_of s)))

    back_in : (ℕ → ℕ) → Span → ℕ
    back_in stakes s = sum (map stakes (keep (called_off log) (games_of s)))

    go : (effect : Effect)
        → Untouched n log effect
        → (span_after n log (λ k. span_of k log) effect ≡ span_of n log)
        × (won_after n log effect ≡ won_by n log)
        × ((stakes : ℕ → ℕ) → gives_back_after stakes n log effect ≡ gives_back stakes n log)
        × (payments_after n (payments n log) effect ≡ payments n log)
    go nothing free = (refl, refl, λ stakes. refl, refl)
    go (issues games) free =
        let same : span_after n log (λ k. span_of k log) (issues games) ≡ span_of n log = rw (ne_eqb ((progress_of log).issued + 1) n free) in
        (same, ap won_in same, λ stakes. ap (back_in stakes) same, refl)
    go (takes_off k) free =
        let same : span_after n log (λ k. span_of k log) (takes_off k) ≡ span_of n log = rw (ne_eqb k n free) in
        (same, ap won_in same, λ stakes. ap (back_in stakes) same, refl)
    go (draws b) early = (refl, rw early, λ stakes. refl, refl)
    go (pays k) free = (refl, refl, λ stakes. refl, rw (ne_eqb k n free))
    go (reissues k) (new, other) =
        let same : span_after n log (λ k. span_of k log) (reissues k) ≡ span_of n log =
        rw (ne_eqb ((progress_of log).issued + 1) n new, ne_eqb k n other) in
        (same, ap won_in same, λ stakes. ap (back_in stakes) same, rw (ne_eqb k n other))
    go drops touched = absurd touched

-- ---- a number that it touches

-- none of some games in a row passes a test that only those before their first pass
none_passes : (d : ℕ → Bool) (first games : ℕ) → ((g : ℕ) → first ≤ g → d g ≡ false) → keep d (games_from first games) ≡ []
unfolding keep games_from
none_passes d first games later =
    let none : min games (first - first) ≡ 0 = omega arith in
    drawn_part d first first games later ∙ ap (λ k. keep d (games_from first k)) none

-- no game is over of a span that begins with the current game or later
module _ (n : ℕ) (log : Log) (later : game_of log ≤ (span_of n log).first) where
  pub nothing_won : won_by n log ≡ 0
  unfolding won_by sum
  nothing_won =
      ap (λ (gs : List ℕ). sum (map (λ g. award_in n g log) gs))
      (none_passes (drawn log) (span_of n log).first ((span_of n log).stop - (span_of n log).first) (λ g h. not_drawn log g (omega arith)))

  pub nothing_back : (stakes : ℕ → ℕ) → gives_back stakes n log ≡ 0
  unfolding sum
  nothing_back stakes =
      ap (λ (gs : List ℕ). sum (map stakes gs))
      (none_passes (called_off log) (span_of n log).first ((span_of n log).stop - (span_of n log).first) (λ g h. not_called_off log g (omega arith)))

-- what the settlement of the current game awards a number
abbrev pub award_now : ℕ → ℕ → Log → ℕ
award_now b n log = award_at n (playing (sheet_of log)) (sheet_settlement b (sheet_of log)).awards

module _ (e : Logged) (log : Log) where
  pub issued_span : (games n : ℕ)
      → effect_in e ≡ issues games
      → (progress_of log).issued + 1 ≡ n
      → span_of n (e ∷ log) ≡ record { first = next_of log; stop = next_of log + games }
  unfolding span_of span_after
  issued_span games n is here = ap (span_after n log (λ k. span_of k log)) is ∙ rw (eq-eqb ((progress_of log).issued + 1) n here)

  -- what is taken off is not over
  pub taken_off_lem : (n : ℕ)
      → effect_in e ≡ takes_off n
      → (span_of n (e ∷ log) ≡ record { first = (span_of n log).first; stop = min (span_of n log).stop (next_of log) })
      × (won_by n (e ∷ log) ≡ won_by n log)
      × ((stakes : ℕ → ℕ) → gives_back stakes n (e ∷ log) ≡ gives_back stakes n log)
      × (payments n (e ∷ log) ≡ payments n log)
  unfolding span_of span_after drawn drawn_after called_off called_off_after award_in award_after won_by payments payments_after
  taken_off_lem n is = (
    ap (span_after n log (λ k. span_of k log)) is ∙ span,
    ap (won_after n log) is ∙ cut (drawn log) (λ g. award_in n g log) (λ g h. not_drawn log g (omega arith)),
    λ stakes. ap (gives_back_after stakes n log) is ∙ cut (called_off log) stakes (λ g h. not_called_off log g (omega arith)),
    ap (payments_after n (payments n log)) is,
  )
    where
      first : ℕ
      first = (span_of n log).first

      stop : ℕ
      stop = (span_of n log).stop

      span : span_after n log (λ k. span_of k log) (takes_off n) ≡ record { first = first; stop = min stop (next_of log) }
      span = rw (eq-eqb n n refl)

      next_least : (none : Bool) → game_of log ≤ cond none (game_of log) (game_of log + 1)
      next_least true = omega arith
      next_least false = omega arith

      cut : (d : ℕ → Bool) (f : ℕ → ℕ)
          → ((g : ℕ) → game_of log ≤ g → d g ≡ false)
          → sum (map f (keep d (games_of (span_after n log (λ k. span_of k log) (takes_off n))))) ≡ sum (map f (keep d (games_of (span_of n log))))
      cut d f later =
          let least : game_of log ≤ next_of log = next_least (eqb (progress_of log).balls 0) in
          let count : min stop (next_of log) - first ≡ min (stop - first) (next_of log - first) = omega arith in
          ap (λ (s : Span). sum (map f (keep d (games_of s)))) span
          ∙ ap (λ (k : ℕ). sum (map f (keep d (games_from first k)))) count
          ∙ ap (λ (gs : List ℕ). sum (map f gs)) (sym (drawn_part d (next_of log) first (stop - first) (λ g h. later g (omega arith))))

  -- the twentieth ball adds the game's award, where the span has the game
  pub game_drawn : (b n : ℕ)
      → effect_in e ≡ draws b
      → nineteen_in (progress_of log) ≡ true
      → (span_of n (e ∷ log) ≡ span_of n log)
      × (won_by n (e ∷ log) ≡ won_by n log + cond (member (game_of log) (games_of (span_of n log))) (award_now b n log) 0)
      × ((stakes : ℕ → ℕ) → gives_back stakes n (e ∷ log) ≡ gives_back stakes n log)
      × (payments n (e ∷ log) ≡ payments n log)
  unfolding span_of span_after drawn drawn_after called_off called_off_after award_in award_after won_by payments payments_after
  game_drawn b n is last = (
    ap (span_after n log (λ k. span_of k log)) is,
    ap (won_after n log) is
        ∙ rw last
        (won_more (game_of log) (award_now b n log) (drawn log) (λ g. award_in n g log) (games_of (span_of n log)) (not_drawn log (game_of log) (omega arith))
        (different_games (span_of n log).first ((span_of n log).stop - (span_of n log).first))),
    λ stakes. ap (gives_back_after stakes n log) is,
    ap (payments_after n (payments n log)) is,
  )

  -- and a call-off gives back what was paid for the game, where the span has it
  pub game_dropped : (n : ℕ)
      → effect_in e ≡ drops
      → (span_of n (e ∷ log) ≡ span_of n log)
      × (won_by n (e ∷ log) ≡ won_by n log)
      × ((stakes : ℕ → ℕ) → gives_back stakes n (e ∷ log) ≡ gives_back stakes n log + cond (member (game_of log) (games_of (span_of n log))) (stakes (game_of log)) 0)
      × (payments n (e ∷ log) ≡ payments n log)
  unfolding span_of span_after drawn drawn_after called_off called_off_after award_in award_after won_by payments payments_after
  game_dropped n is = (
    ap (span_after n log (λ k. span_of k log)) is,
    ap (won_after n log) is,
    λ stakes. ap (gives_back_after stakes n log) is ∙ more stakes,
    ap (payments_after n (payments n log)) is,
  )
    where
      games : List ℕ
      games = games_of (span_of n log)

      more : (stakes : ℕ → ℕ)
          → sum (map stakes (keep (λ g. eqb (game_of log) g || called_off log g) games))
          ≡ gives_back stakes n log + cond (member (game_of log) games) (stakes (game_of log)) 0
      more stakes =
          ap sum (map_same stakes (λ g. cond (eqb (game_of log) g) (stakes (game_of log)) (stakes g)) _ (all_of (λ g. same g (eqb (game_of log) g) refl) _))
          ∙ won_more (game_of log) (stakes (game_of log)) (called_off log) stakes games (not_called_off log (game_of log) (omega arith))
          (different_games (span_of n log).first ((span_of n log).stop - (span_of n log).first))
        where
          same : (g : ℕ) (here : Bool) → eqb (game_of log) g ≡ here → stakes g ≡ cond here (stakes (game_of log)) (stakes g)
          same g true e = ap stakes (sym (eqb-true (game_of log) g e))
          same g false e = refl

  -- a payment changes no span and nothing that is won
  pub number_paid : (k n : ℕ)
      → effect_in e ≡ pays k
      → (span_of n (e ∷ log) ≡ span_of n log)
      × (won_by n (e ∷ log) ≡ won_by n log)
      × (payments n (e ∷ log) ≡ cond (eqb k n) (payments n log + 1) (payments n log))
  unfolding span_of span_after drawn drawn_after award_in award_after won_by payments payments_after
  number_paid k n is = (ap (span_after n log (λ k. span_of k log)) is, ap (won_after n log) is, ap (payments_after n (payments n log)) is)

  -- a collection: the next number has the games from the current one on, and the number that is paid keeps those before
  module _ (k : ℕ) (is : effect_in e ≡ reissues k) where
    pub reissued_span : (n : ℕ)
        → (progress_of log).issued + 1 ≡ n
        → span_of n (e ∷ log) ≡ record { first = game_of log; stop = (span_of k log).stop }
    unfolding span_of span_after
    reissued_span n here = ap (span_after n log (λ k. span_of k log)) is ∙ rw (eq-eqb ((progress_of log).issued + 1) n here)

    pub kept_span :
        ((progress_of log).issued + 1 ≡ k → ⊥)
        → span_of k (e ∷ log) ≡ record { first = (span_of k log).first; stop = min (span_of k log).stop (game_of log) }
    unfolding span_of span_after
    kept_span old =
        ap (span_after k log (λ k. span_of k log)) is ∙ rw (ne_eqb ((progress_of log).issued + 1) k old, eq-eqb k k refl)

    pub number_collected : (n : ℕ) → payments n (e ∷ log) ≡ cond (eqb k n) (payments n log + 1) (payments n log)
    unfolding payments payments_after
    number_collected n = ap (payments_after n (payments n log)) is
