-- What is relied on when a game is called off, over every list of commands: its stakes go back whole to those that run in it, and nothing else moves; and the
-- game, which is over, is never drawn. Read off the ledger and the log that stand behind a run.
use Prim.Native.Nat.{ℕ, ◌+◌, ◌≤◌}
use native.Mathlib.Omega.{arith}
use mathlib.Core.Path.{◌≡◌, refl, sym, ap, ap₂, subst, subst⁻¹, ◌∙◌}
use mathlib.Core.Bool.{Bool, true, false, cond, ◌||◌}
use mathlib.Core.List.{List, [], ◌∷◌, ◌++◌, map}
use lib.Dec.{ltb, leb, eqb}
use borrow.Author.Tests.{eq-eqb, le-leb, le-ltb, lt-ltb}
use Rattle.sale.specs.Lists.{sum, keep, member}
use Rattle.house.specs.Tickets.{Ticket, keno_to_go_begun}
use Rattle.house.specs.Model.{Model, fresh, is_drawing}
use Rattle.house.specs.Commands.{Command, call_off, replies, finished_on, still_live, cancel_stop, running_in, stakes_paid, game_called_off, code_of, act, reply, answer_of, step}
use Rattle.house.specs.Till.{Figures, till_of}
use Rattle.house.specs.Sheet.{Sheet, Line, called_off_line, stakes_of, left_with, total_at, moved, sheet_call_off, feed}
use Rattle.house.specs.Claims.{Log, Logged, effect_of, effect_in, sheet_of, game_of, drawn, called_off_after, called_off, Effect, nothing, issues, takes_off, draws, pays, reissues, drops, games_of, span_of, PlaysExactly, stake_in, given_back, won_by, payments}
use Rattle.house.specs.Balance.{State, next, run_from, run, answer_after}
use Rattle.house.proofs.Ledger.{Orderly, house_of, called_off_ledger}
use Rattle.house.proofs.ListLaws.{cond_either}
use Rattle.house.proofs.MoneyLaws.{all_of, map_same, keep_map, keep_same, sum_unmoved}
use Rattle.house.proofs.OneCommand.{accepted_done, accepted_code}
use Rattle.house.proofs.LiveTickets.{with_stake_back, called_off_house, called_off_live}
use Rattle.house.proofs.SheetFigures.{till_of_house}
use Rattle.house.proofs.SheetSteps.{called_off_owed, called_off_held}
use Rattle.house.proofs.LogLaws.{logged, and_false, game_dropped, ended_once, ends}
use Rattle.house.proofs.Won.{Told, game_told}
use Rattle.house.proofs.Players.{house_players}
use Rattle.house.proofs.PartWay.{has_game}
use Rattle.house.proofs.Theorem.{booked, run_on, run_more, next_accepted}

-- what is due for the current game if it is called off
abbrev pub stakes_due : State → ℕ
stakes_due s = sum (stakes_paid s.house)

-- an accepted Call off: the list of commands before it, and with it
pub record GameCalledOff (before after : State) : Type 0 where
  -- "It answers the game dropped and the cents due."
  pub answers : (step before.house call_off).answer ≡ answer_of (replies before.house.game (stakes_due before))
  -- it "drops the current game, its balls with it [..]. The game number rises and no pool gains": pools, debts and what the till counts by itself stand
  pub game : after.house.game ≡ before.house.game + 1
  pub balls : after.house.balls ≡ []
  pub six : after.house.six ≡ before.house.six
  pub eight : after.house.eight ≡ before.house.eight
  pub counters : after.house.counters ≡ before.house.counters
  -- "owed counts these dues, held loses them"
  pub owed : (till_of after.house).owed ≡ (till_of before.house).owed + stakes_due before
  pub held : (till_of before.house).held ≡ (till_of after.house).held + stakes_due before
  -- who runs in it are exactly the numbers that have the game, told from the commands and their codes
  pub running : PlaysExactly before.log (map (λ t. t.number) (running_in before.house))
  -- "Each live ticket that runs in it is due its paid stake for it": it is the same ticket but for that and its finishing day, and one with nothing due may close
  pub live :
      after.house.live
      ≡ still_live after.house.game (map (λ t. finished_on before.house.day after.house.game (with_stake_back before.house.game t)) before.house.live)
  -- each number is given back what it paid for the game, if it has the game, and its games, what it has won and its payments stand
  pub given :
      (n : ℕ)
      → given_back n after.log
      ≡ given_back n before.log + cond (has_game before.house.game n before) (stake_in n before.house.game before.log) 0
  pub span : (n : ℕ) → span_of n after.log ≡ span_of n before.log
  pub won : (n : ℕ) → won_by n after.log ≡ won_by n before.log
  pub paid : (n : ℕ) → payments n after.log ≡ payments n before.log
  -- "A dropped game isn't left to draw, and Cancel no longer takes it off."
  pub called : called_off after.log before.house.game ≡ true
  pub uncancelled : (t : Ticket) → before.house.game + 1 ≤ cancel_stop after.house t
  -- "A Keno To Go whose first game is called off counts as begun."
  pub begun :
      (t : Ticket)
      → 50 ≤ t.operands.games
      → t.first ≡ before.house.game
      → keno_to_go_begun after.house.game (is_drawing after.house) t ≡ true
  -- one that was sold while the game was being drawn has the next as its first, and has not
  pub waits : (t : Ticket) → t.first ≡ before.house.game + 1 → keno_to_go_begun after.house.game (is_drawing after.house) t ≡ false

-- ---- what a number paid for a game stands

-- a total of the lines of a number that a change of the lines does not touch
total_kept :
    (n : ℕ) (f : Line → ℕ) (change : Line → Line)
    → ((l : Line) → (change l).number ≡ l.number)
    → ((l : Line) → f (change l) ≡ f l)
    → (ls : List Line)
    → total_at n f (map change ls) ≡ total_at n f ls
unfolding total_at
total_kept n f change number same ls =
    ap (λ us. sum (map f us)) (keep_map (λ l. eqb l.number n) change ls)
    ∙ sum_unmoved f change same (keep (λ l. eqb (change l).number n) ls)
    ∙ ap (λ us. sum (map f us)) (keep_same (λ l. eqb (change l).number n) (λ l. eqb l.number n) ls (all_of (λ l. ap (λ k. eqb k n) (number l)) ls))

stake_kept : (n g : ℕ) (log : Log) → stake_in n g (logged call_off 0 ∷ log) ≡ stake_in n g log
unfolding stake_in sheet_of feed moved sheet_call_off stakes_of left_with
stake_kept n g log =
    let s : Sheet = sheet_of log in
    let plays : Line → Bool = λ l. member s.game l.left in
    total_kept n (λ l. stakes_of l (g ∷ [])) (λ l. cond (plays l) (called_off_line s l) l)
    (λ l. cond_either (λ (u : Line). u.number ≡ l.number) (plays l) refl refl)
    (λ l. cond_either (λ (u : Line). stakes_of u (g ∷ []) ≡ stakes_of l (g ∷ [])) (plays l) refl refl)
    s.lines

-- ---- from the ledger

module _ (m : Model) (log : Log) (orderly : Orderly m) (told : Told m log) (accept : code_of (house_of m) call_off ≡ 0) where
  abbrev then : Log
  then = logged call_off 0 ∷ log

  abbrev before_it : State
  before_it = record { house = house_of m; log = log }

  -- the tills of the house and of the ledger behind it
  till_then : till_of (game_called_off (house_of m)) ≡ till_of (called_off_ledger m)
  till_then = ap till_of (called_off_house m) ∙ till_of_house (called_off_ledger m)

  owed_then : (till_of (game_called_off (house_of m))).owed ≡ (till_of (house_of m)).owed + stakes_due before_it
  unfolding till_of
  owed_then =
      ap (λ (f : Figures). f.owed) till_then
      ∙ called_off_owed m
      ∙ ap (λ cents. cents + stakes_due before_it) (sym (ap (λ (f : Figures). f.owed) (till_of_house m)))

  held_then : (till_of (house_of m)).held ≡ (till_of (game_called_off (house_of m))).held + stakes_due before_it
  unfolding till_of game_called_off
  held_then =
      ap (λ (f : Figures). f.held) (till_of_house m)
      ∙ called_off_held m
      ∙ ap (λ cents. cents + stakes_due before_it) (sym (ap (λ (f : Figures). f.held) till_then))

  given_then : (n : ℕ) → given_back n then ≡ given_back n log + cond (has_game m.game n before_it) (stake_in n m.game log) 0
  unfolding given_back effect_in effect_of
  given_then n =
      (game_dropped (logged call_off 0) log n refl).2 (λ g. stake_in n g then)
      ∙ ap₂ ◌+◌
      (ap sum (map_same (λ g. stake_in n g then) (λ g. stake_in n g log) _ (all_of (λ g. stake_kept n g log) _)))
      (ap₂ (λ (g cents : ℕ). cond (member g (games_of (span_of n log))) cents 0) (game_told m log told) (stake_kept n (game_of log) log ∙ ap (λ g. stake_in n g log) (game_told m log told)))

  called_then : called_off then m.game ≡ true
  unfolding called_off called_off_after effect_in effect_of
  called_then = ap (λ (b : Bool). b || called_off log m.game) (eq-eqb (game_of log) m.game (game_told m log told))

  called_off_there : GameCalledOff before_it (record { house = game_called_off (house_of m); log = then })
  unfolding game_called_off reply keno_to_go_begun effect_in effect_of
  called_off_there =
      record {
        answers = (accepted_done (house_of m) call_off accept).1;
        game = refl;
        balls = refl;
        six = refl;
        eight = refl;
        counters = refl;
        owed = owed_then;
        held = held_then;
        running = house_players m log orderly told;
        live = called_off_live (house_of m);
        given = given_then;
        span = λ n. (game_dropped (logged call_off 0) log n refl).0;
        won = λ n. (game_dropped (logged call_off 0) log n refl).1;
        paid = λ n. (game_dropped (logged call_off 0) log n refl).3;
        called = called_then;
        uncancelled = λ t. omega arith;
        begun = λ t long first. rw (le-leb 50 t.operands.games long, lt-ltb t.first (m.game + 1) (omega arith));
        waits = λ t first. rw (le-ltb t.first (m.game + 1) (omega arith), and_false (eqb t.first (m.game + 1))) (and_false (leb 50 t.operands.games));
      }

pub call_off_gives_back : (cs : List Command) → (answer_after cs call_off).code ≡ 0 → GameCalledOff (run cs) (run (cs ++ (call_off ∷ [])))
unfolding act
call_off_gives_back cs accepted =
    let b = booked cs in
    let there : code_of (house_of b.ledger) call_off ≡ 0 = sym (ap (λ h. code_of h call_off) b.house) ∙ accepted_code (run cs).house call_off accepted in
    subst⁻¹ (GameCalledOff (run cs)) (run_more cs (record { house = fresh; log = [] }) call_off ∙ next_accepted (run cs) call_off accepted)
    (subst⁻¹ (λ (h : Model). GameCalledOff (record { house = h; log = (run cs).log }) (record { house = game_called_off h; log = logged call_off 0 ∷ (run cs).log }))
    b.house
    (called_off_there b.ledger (run cs).log b.orderly b.told there))

-- ---- "A game is drawn once its twentieth accepted ball is in", and a game called off never is

booked_games : (cs : List Command) → 1 ≤ (run cs).house.game
booked_games cs = let b = booked cs in omega (arith, b.orderly.games, ap (λ (h : Model). h.game) b.house)

-- each game before the current one is drawn or called off, and not both, and no other is
pub each_game_once : (cs : List Command) (g : ℕ)
    → 1 ≤ g
    → ends (drawn (run cs).log g) (called_off (run cs).log g) ≡ cond (ltb g (run cs).house.game) 1 0
each_game_once cs g some =
    let b = booked cs in
    ended_once (run cs).log g some
    ∙ ap (λ (game : ℕ). cond (ltb g game) 1 0) (game_told b.ledger (run cs).log b.told ∙ sym (ap (λ (h : Model). h.game) b.house))

-- what is called off stays so, whatever commands follow
called_stays : (e : Logged) (log : Log) (g : ℕ) → called_off log g ≡ true → called_off (e ∷ log) g ≡ true
unfolding called_off called_off_after
called_stays e log g called = go (effect_in e)
  where
    go : (effect : Effect) → called_off_after g log (called_off log g) effect ≡ true
    go nothing = called
    go (issues games) = called
    go (takes_off k) = called
    go (draws b) = called
    go (pays k) = called
    go (reissues k) = called
    go drops = either (eqb (game_of log) g)
      where
        either : (here : Bool) → (here || called_off log g) ≡ true
        either true = refl
        either false = called

called_later : (s : State) (cs : List Command) (g : ℕ) → called_off s.log g ≡ true → called_off (run_from s cs).log g ≡ true
unfolding run_from next
called_later s [] g called = called
called_later s (c ∷ cs) g called = called_later (next s c) cs g (called_stays _ s.log g called)

pub never_drawn : (cs later : List Command)
    → (answer_after cs call_off).code ≡ 0
    → drawn (run (cs ++ call_off ∷ later)).log (run cs).house.game ≡ false
unfolding run_from
never_drawn cs later accepted =
    go (drawn (run (cs ++ call_off ∷ later)).log game) refl
    (subst (λ (b : Bool). ends (drawn (run (cs ++ call_off ∷ later)).log game) b ≡ cond (ltb game (run (cs ++ call_off ∷ later)).house.game) 1 0) called
    (each_game_once (cs ++ call_off ∷ later) game (booked_games cs)))
  where
    game : ℕ
    game = (run cs).house.game

    called : called_off (run (cs ++ call_off ∷ later)).log game ≡ true
    called =
        ap (λ (s : State). called_off s.log game) (run_on cs (record { house = fresh; log = [] }) (call_off ∷ later))
        ∙ called_later (next (run cs) call_off) later game
        (ap (λ (s : State). called_off s.log game) (sym (run_more cs (record { house = fresh; log = [] }) call_off)) ∙ (call_off_gives_back cs accepted).called)

    once : (over : Bool) → cond over 1 0 ≤ 1
    once true = omega arith
    once false = omega arith

    go : (d : Bool) → drawn (run (cs ++ call_off ∷ later)).log game ≡ d → ends d true ≡ cond (ltb game (run (cs ++ call_off ∷ later)).house.game) 1 0
        → drawn (run (cs ++ call_off ∷ later)).log game ≡ false
    go true e both = absurd (omega (arith, both, once (ltb game (run (cs ++ call_off ∷ later)).house.game)))
    go false e one = e
