-- "A ticket is sold for its first game and those after it, as many as its Sell names. A game is drawn once its twentieth accepted ball is in."
-- And of the dues for a game called off: "a ticket's claim or collection pays them beside its prizes."
-- What the list of commands, and the code that each was answered with, tells of games, tickets and payments. It is told by the effects of the
-- accepted commands: a ticket is issued for a span of games or has games taken off, the twentieth ball draws a game, the rule book says what the
-- game pays each ticket that runs in it, a game is called off and gives back what was paid for it, a ticket is paid what it has won and is given back, and a
-- collected one's games left are reissued under the next number.
use Rattle.std.specs.Prelude.{ℕ, ◌+◌, ◌-◌, min, ◌≡◌, Bool, false, cond, ◌&&◌, ◌||◌, List, [], ◌∷◌, map, eqb}
use Rattle.sale.specs.Lists.{sum, keep, member}
use Rattle.house.specs.Command.{Command, open', sell, cancel, ball, claim, expire, transfer, collect, call_off}
use Rattle.house.specs.Draws.{Different}
use Rattle.house.specs.Sheet.{Sheet, Line, fresh_sheet, feed, playing, sheet_settlement, stakes_of, total_at, games_from}

-- a command and the code of its answer
pub record Logged : Type 0 where
  pub command : Command
  pub code : ℕ

-- the newest first
abbrev pub Log : Type 0
Log = List Logged

unfoldable pub sheet_of : Log → Sheet
sheet_of [] = fresh_sheet
sheet_of (e ∷ log) = feed (sheet_of log) e.command e.code

-- ---- effects

-- what an accepted command does as far as games, tickets and payments go
pub data Effect : Type 0 where
  nothing : Effect
  -- a ticket under the next number, for so many games
  issues : ℕ → Effect
  -- those games off a number that are not begun
  takes_off : ℕ → Effect
  -- a ball of the current game
  draws : ℕ → Effect
  -- all that a number has won and is given back
  pays : ℕ → Effect
  -- the same, and the games of that number that are not yet over go to a ticket under the next number
  reissues : ℕ → Effect
  -- the current game, with its balls
  drops : Effect

unfoldable pub effect_of : Command → Effect
effect_of (open' d) = nothing
effect_of (sell o) = issues o.games
effect_of (cancel n) = takes_off n
effect_of (ball b) = draws b
effect_of (claim n) = pays n
effect_of expire = nothing
effect_of (transfer j cents) = nothing
effect_of (collect n) = reissues n
effect_of call_off = drops

-- a refused command does nothing
unfoldable pub effect_in : Logged → Effect
effect_in e = cond (eqb e.code 0) (effect_of e.command) nothing

-- ---- games

-- the current game, how many of its balls are in, and how many ticket numbers are issued
pub record Progress : Type 0 where
  pub game : ℕ
  pub balls : ℕ
  pub issued : ℕ

-- whether the next ball is the twentieth
abbrev pub nineteen_in : Progress → Bool
nineteen_in p = eqb p.balls 19

-- the twentieth ball makes the next game current, without balls, and so does a call-off
unfoldable pub progress_after : Progress → Effect → Progress
progress_after p nothing = p
progress_after p (issues games) = record { game = p.game; balls = p.balls; issued = p.issued + 1 }
progress_after p (takes_off k) = p
progress_after p (draws b) =
    cond (nineteen_in p)
    (record { game = p.game + 1; balls = 0; issued = p.issued })
    (record { game = p.game; balls = p.balls + 1; issued = p.issued })
progress_after p (pays k) = p
progress_after p (reissues k) = record { game = p.game; balls = p.balls; issued = p.issued + 1 }
progress_after p drops = record { game = p.game + 1; balls = 0; issued = p.issued }

unfoldable pub progress_of : Log → Progress
progress_of [] = record { game = 1; balls = 0; issued = 0 }
progress_of (e ∷ log) = progress_after (progress_of log) (effect_in e)

abbrev pub game_of : Log → ℕ
game_of log = (progress_of log).game

-- the current game, or the next when balls are in
abbrev pub next_of : Log → ℕ
next_of log = cond (eqb (progress_of log).balls 0) (game_of log) (game_of log + 1)

-- whether the next ball draws a game
abbrev pub drawn_next : Log → ℕ → Bool
drawn_next log g = nineteen_in (progress_of log) && eqb (game_of log) g

unfoldable pub drawn_after : ℕ → Log → Bool → Effect → Bool
drawn_after g log before nothing = before
drawn_after g log before (issues games) = before
drawn_after g log before (takes_off k) = before
drawn_after g log before (draws b) = drawn_next log g || before
drawn_after g log before (pays k) = before
drawn_after g log before (reissues k) = before
drawn_after g log before drops = before

unfoldable pub drawn : Log → ℕ → Bool
drawn [] g = false
drawn (e ∷ log) g = drawn_after g log (drawn log g) (effect_in e)

-- which games were called off, with balls in or without
unfoldable pub called_off_after : ℕ → Log → Bool → Effect → Bool
called_off_after g log before nothing = before
called_off_after g log before (issues games) = before
called_off_after g log before (takes_off k) = before
called_off_after g log before (draws b) = before
called_off_after g log before (pays k) = before
called_off_after g log before (reissues k) = before
called_off_after g log before drops = eqb (game_of log) g || before

unfoldable pub called_off : Log → ℕ → Bool
called_off [] g = false
called_off (e ∷ log) g = called_off_after g log (called_off log g) (effect_in e)

-- ---- a ticket's games

-- the games that a ticket was issued for and that were neither cancelled nor reissued: from the first up to the stop, none before it was issued
pub record Span : Type 0 where
  pub first : ℕ
  pub stop : ℕ

-- the games of a span
abbrev pub games_of : Span → List ℕ
games_of s = games_from s.first (s.stop - s.first)

-- from the spans of all numbers before
unfoldable pub span_after : ℕ → Log → (ℕ → Span) → Effect → Span
span_after n log spans nothing = spans n
span_after n log spans (issues games) =
    cond (eqb ((progress_of log).issued + 1) n) (record { first = next_of log; stop = next_of log + games }) (spans n)
span_after n log spans (takes_off k) = cond (eqb k n) (record { first = (spans n).first; stop = min (spans n).stop (next_of log) }) (spans n)
span_after n log spans (draws b) = spans n
span_after n log spans (pays k) = spans n
-- the next number has the games from the current one on, being drawn or not, and the old one those before
span_after n log spans (reissues k) =
    cond (eqb ((progress_of log).issued + 1) n)
    (record { first = game_of log; stop = (spans k).stop })
    (cond (eqb k n) (record { first = (spans n).first; stop = min (spans n).stop (game_of log) }) (spans n))
span_after n log spans drops = spans n

unfoldable pub span_of : ℕ → Log → Span
span_of n [] = record { first = 0; stop = 0 }
span_of n (e ∷ log) = span_after n log (λ k. span_of k log) (effect_in e)

-- who plays in the current game: a number plays just where its span has the game, and no number plays twice
pub record PlaysExactly (log : Log) (players : List ℕ) : Type 0 where
  pub exactly : (n : ℕ) → member n players ≡ member (game_of log) (games_of (span_of n log))
  pub once : Different players

-- ---- what is won and paid

-- of the lines that play in a game and their awards, that of a number
unfoldable pub award_at : ℕ → List Line → List ℕ → ℕ
award_at n [] awards = 0
award_at n (l ∷ ls) [] = 0
award_at n (l ∷ ls) (a ∷ awards) = cond (eqb l.number n) a (award_at n ls awards)

-- what a drawn game pays a ticket: its prizes as cut and its jackpot shares, by the settlement at the game's twentieth ball
unfoldable pub award_after : ℕ → ℕ → Log → ℕ → Effect → ℕ
award_after n g log before nothing = before
award_after n g log before (issues games) = before
award_after n g log before (takes_off k) = before
award_after n g log before (draws b) =
    cond (drawn_next log g) (award_at n (playing (sheet_of log)) (sheet_settlement b (sheet_of log)).awards) before
award_after n g log before (pays k) = before
award_after n g log before (reissues k) = before
award_after n g log before drops = before

unfoldable pub award_in : ℕ → ℕ → Log → ℕ
award_in n g [] = 0
award_in n g (e ∷ log) = award_after n g log (award_in n g log) (effect_in e)

-- everything that a number's drawn games won, of those that it was issued for and that were neither cancelled nor reissued
unfoldable pub won_by : ℕ → Log → ℕ
won_by n log = sum (map (λ g. award_in n g log) (keep (drawn log) (games_of (span_of n log))))

-- what a number paid for a game, by its line on the sheet: nothing for one of its free games
unfoldable pub stake_in : ℕ → ℕ → Log → ℕ
stake_in n g log = total_at n (λ l. stakes_of l (g ∷ [])) (sheet_of log).lines

-- and everything that a number is given back: what it paid for those of its games that were called off
unfoldable pub given_back : ℕ → Log → ℕ
given_back n log = sum (map (λ g. stake_in n g log) (keep (called_off log) (games_of (span_of n log))))

-- how many accepted commands pay a number
unfoldable pub payments_after : ℕ → ℕ → Effect → ℕ
payments_after n before nothing = before
payments_after n before (issues games) = before
payments_after n before (takes_off k) = before
payments_after n before (draws b) = before
payments_after n before (pays k) = cond (eqb k n) (before + 1) before
payments_after n before (reissues k) = cond (eqb k n) (before + 1) before
payments_after n before drops = before

unfoldable pub payments : ℕ → Log → ℕ
payments n [] = 0
payments n (e ∷ log) = payments_after n (payments n log) (effect_in e)
