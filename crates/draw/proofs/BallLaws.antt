-- Laws of the command Ball: the balls in as a list, what the command does before and at the twentieth, and the room that a settled game leaves
-- in every figure, since the house after it is reached too.
use Prim.Native.Nat.{ℕ, ◌+◌, ◌≤◌, ◌<◌, ◌^◌}
use mathlib.Core.Path.{◌≡◌, refl, sym, ap, ap₂, ◌∙◌, subst}
use mathlib.Core.Bool.{true, false, cond, not, ◌&&◌, ◌||◌}
use mathlib.Core.List.{List, [], ◌∷◌, ◌++◌, map}
use native.Mathlib.Omega.{arith}
use lib.Dec.{ltb, leb, eqb}
use lib.ListN.{length, get_or, set, take, length-map, length-append}
use lib.Seq.{get_or-set_same, get_or-set_other, take_all}
use borrow.Author.Tests.{eq-eqb, ne_eqb}
use Rattle.std.specs.List.{list_any}
use Rattle.std.proofs.lemmas.Bool.Decides.{nat_tests}
use Rattle.sale.specs.Lists.{sum, below, any, member}
use Rattle.sale.specs.Checks.{first_met}
use Rattle.prizes.specs.Hits.{draw_of}
use Rattle.prizes.specs.declared.draw.Draw.{Draw}
use Rattle.prizes.proofs.SettleLaws.{awards_count, awards_sum}
use Rattle.house.specs.Tickets.{Ticket, entry_of}
use Rattle.house.specs.Model.{Model, game_limit, with_money, with_seeds, with_gained, with_lost}
use Rattle.house.specs.Commands.{ball, replies, rows_of, code_of, balls_with, settles, running_in, settled_by, settlement, stakes_drawn, finished_on, awarded, game_ended, game_settled, ball_entered, act, reply, step}
use Rattle.house.specs.Balance.{Reached}
use Rattle.house.specs.Till.{till_of}
use Rattle.house.specs.View.{view}
use Rattle.house.specs.declared.state.House.{House}
use Rattle.house.proofs.MoneyLaws.{sum_unmoved}
use Rattle.house.proofs.SheetFigures.{live_owed, finished_due, awarded_owed}
use Rattle.house.proofs.Reliance.{twentieth_settles}
use Rattle.house.proofs.Theorem.{reached_step}
use Rattle.house.proofs.ReachedHouses.{Sure, reached_sure}
use Rattle.house.proofs.ViewLaws.{balls_count}
use Rattle.settlement.specs.Settling.{SettledAs}
use Rattle.settlement.specs.declared.settle.Settlement.{Settlement}
use Rattle.settlement.proofs.TablePlaces.{table_more, tables_alike, table_of}
use Rattle.draw.specs.Closing.{CompletesDraw, counters_settled, house_settled}

-- ---- the balls in

-- whether a number is among them, as a search of the code answers it
list_any_member : (n : ℕ) (xs : List ℕ) → list_any (λ x. eqb x n) xs ≡ member n xs
unfolding member any
list_any_member n [] = refl
list_any_member n (x ∷ xs) = ap₂ (λ p q. p || q) (eqb_turned x n) (list_any_member n xs)
  where
    eqb_turned : (x n : ℕ) → eqb x n ≡ eqb n x
    eqb_turned x n = grind (arith, nat_tests)

-- Ball's table by tests on the struct
pub ball_code :
    (h : House) (words marks : List ℕ) (b : ℕ)
    → h.drawn ≤ length h.balls
    → code_of (view h words marks) (ball b)
    ≡ cond (eqb h.day 0) 4 (cond (not (leb 1 b && leb b 80)) 25 (cond (ltb game_limit h.game) 26 (cond (list_any (λ x. eqb x b) (take h.drawn h.balls)) 27 0)))
unfolding code_of rows_of first_met view
ball_code h words marks b within = rw (table_of h.balls h.drawn within, ← list_any_member b (take h.drawn h.balls))

pub balls_more : (balls : List ℕ) (drawn x : ℕ) → drawn < length balls
    → map (λ i. get_or (set balls drawn x) i 0) (below (drawn + 1)) ≡ map (λ i. get_or balls i 0) (below drawn) ++ (x ∷ [])
balls_more balls drawn x h =
    table_more (λ i. get_or (set balls drawn x) i 0) drawn
    ∙ ap₂ (λ xs y. xs ++ (y ∷ []))
    (tables_alike (λ i. get_or (set balls drawn x) i 0) (λ i. get_or balls i 0) drawn
    (λ i b. get_or-set_other balls drawn i x 0 (λ e. omega arith)))
    (get_or-set_same balls drawn x 0 h)

-- the house with one ball more
pub entered_view : (h : House) (words marks : List ℕ) (b : ℕ) (balls : List ℕ)
    → map (λ i. get_or balls i 0) (below (h.drawn + 1)) ≡ balls_with b (view h words marks)
    → view (record { day = h.day; game = h.game; balls = balls; drawn = h.drawn + 1; issued = h.issued; live = h.live; six = h.six; eight = h.eight; counters = h.counters }) words marks
    ≡ ball_entered b (view h words marks)
unfolding view ball_entered
entered_view h words marks b balls e =
    ap (λ bs. record { day = h.day; game = h.game; balls = bs; issued = h.issued; live = (view h words marks).live; six = h.six; eight = h.eight; counters = h.counters }) e

-- ---- before the twentieth, and at it

module _ (m : Model) (b : ℕ) where
  balls_one_more : length (balls_with b m) ≡ length m.balls + 1
  balls_one_more = length-append m.balls (b ∷ [])

  pub early_act : (length m.balls ≡ 19 → ⊥)
      → (act m (ball b) ≡ ball_entered b m) × (reply m (ball b) ≡ replies (length m.balls + 1) 0)
  unfolding act reply
  early_act fewer =
      let early : settles b m ≡ false = ne_eqb (length (balls_with b m)) 20 (omega (arith, balls_one_more)) in
      (rw early, rw (early, balls_one_more))

  pub last_act : length m.balls ≡ 19
      → (act m (ball b) ≡ game_settled b m) × (reply m (ball b) ≡ replies 20 ((settlement b m).prizes + (settlement b m).shares))
  unfolding act reply
  last_act nineteen =
      let twenty : length (balls_with b m) ≡ 20 = omega (arith, balls_one_more) in
      let last : settles b m ≡ true = eq-eqb (length (balls_with b m)) 20 twenty in
      (rw last, rw (last, twenty))

-- ---- the twentieth ball

module _ (m : Model) (b : ℕ) where
  abbrev pub last_draw : Draw
  last_draw = draw_of (balls_with b m)

  awards_count_here : length (settlement b m).awards ≡ length (running_in m)
  unfolding settlement
  awards_count_here = awards_count last_draw m.six m.eight (map (entry_of m.game) (running_in m)) ∙ length-map (running_in m) (entry_of m.game)

  -- what is owed after the game
  owed_after : (till_of (game_settled b m)).owed ≡ sum (map (λ t. t.due) m.live) + ((settlement b m).prizes + (settlement b m).shares)
  unfolding till_of game_settled settlement
  owed_after =
      let tickets : List Ticket = awarded m.game (settlement b m).awards m.live in
      live_owed (m.game + 1) (map (finished_on m.day (m.game + 1)) tickets)
      ∙ sum_unmoved (λ t. t.due) (finished_on m.day (m.game + 1)) (finished_due m.day (m.game + 1)) tickets
      ∙ awarded_owed m.game (settlement b m).awards m.live awards_count_here
      ∙ ap (λ n. sum (map (λ t. t.due) m.live) + n) (awards_sum last_draw m.six m.eight (map (entry_of m.game) (running_in m)))

  -- the figures after the game fit
  pub record Fitting : Type 0 where
    pub seeds : m.counters.seeds + (settled_by last_draw m).seeds < 2 ^ 62
    pub gained : m.counters.gained + stakes_drawn m + (settled_by last_draw m).repaid < 2 ^ 62
    pub lost : m.counters.lost + (settled_by last_draw m).contributions + (settled_by last_draw m).prizes < 2 ^ 62
    pub awards : (settled_by last_draw m).prizes + (settled_by last_draw m).shares < 2 ^ 62

  pub fitting : Reached m → code_of m (ball b) ≡ 0 → length m.balls ≡ 19 → Fitting
  unfolding till_of game_settled settlement
  fitting reached coded nineteen =
      let after : Sure (game_settled b m) =
      subst Sure (twentieth_settles m b coded nineteen).0 (reached_sure (step m (ball b)).house (reached_step m (ball b) reached)) in
      let figures = after.fit.figures in
      record {
        seeds = figures.seeds;
        gained = figures.gained;
        lost = figures.lost;
        awards = omega (arith, figures.owed, owed_after);
      }

-- twenty balls are the whole draw
pub whole_draw : (found balls : List ℕ) (drawn : ℕ) → length found ≡ 20 → drawn ≡ 19
    → map (λ i. get_or found i 0) (below (drawn + 1)) ≡ balls → draw_of found ≡ draw_of balls
whole_draw found balls drawn twenty nineteen e =
    let last : 20 ≡ drawn + 1 = omega arith in
    ap draw_of
    (sym (take_all 20 found (omega arith))
    ∙ sym (table_of found 20 (omega arith))
    ∙ ap (λ n. map (λ i. get_or found i 0) (below n)) last
    ∙ e)

-- a reached house has nineteen balls in at the most
pub drawn_few : (h : House) (words marks : List ℕ) → Reached (view h words marks) → h.drawn ≤ 19
drawn_few h words marks reached =
    omega (arith, (reached_sure (view h words marks) reached).balls, balls_count h words marks)

-- and where there are no fewer, twenty with an accepted ball are the draw that it completes
pub completes :
    (h : House) (words marks : List ℕ) (b : ℕ) (found : List ℕ) (draw : Draw)
    → Reached (view h words marks)
    → 19 ≤ h.drawn
    → 0 ≡ code_of (view h words marks) (ball b)
    → length found ≡ 20
    → map (λ i. get_or found i 0) (below (h.drawn + 1)) ≡ balls_with b (view h words marks)
    → draw ≡ draw_of found
    → CompletesDraw (view h words marks) b draw
completes h words marks b found draw reached last coded twenty in_now e =
    let nineteen : h.drawn ≡ 19 = omega (arith, drawn_few h words marks reached) in
    record {
      accepted = sym coded;
      last = balls_count h words marks ∙ nineteen;
      draw' = e ∙ whole_draw found (balls_with b (view h words marks)) h.drawn twenty nineteen in_now;
    }

-- what the twentieth ball answers, by the draw that it completes
pub settled_reply : (m : Model) (b : ℕ)
    → replies 20 ((settlement b m).prizes + (settlement b m).shares) ≡ replies 20 ((settled_by (last_draw m b) m).prizes + (settled_by (last_draw m b) m).shares)
unfolding settlement
settled_reply m b = refl

settled_money : (m : Model) (b : ℕ) (awards : List ℕ) (s : Settlement)
    → SettledAs m (last_draw m b) awards s
    → with_money (game_ended (settlement b m).awards m) s.six.after s.eight.after (counters_settled m.counters s) ≡ game_settled b m
unfolding game_settled settlement
settled_money m b awards s f =
    λ i.
    with_money (game_ended (settlement b m).awards m) (f.six i) (f.eight i)
    (with_seeds (f.seeds i) (with_gained (f.repaid i) (with_gained (f.stakes i) (with_lost (f.prizes i) (with_lost (f.contributions i) m.counters)))))

money_view : (h : House) (words marks : List ℕ) (s : Settlement)
    → view (house_settled h s) words marks
    ≡ with_money (view h words marks) s.six.after s.eight.after (counters_settled (view h words marks).counters s)
unfolding view
money_view h words marks s = refl

-- the house that the code leaves is the game settled
pub settled_view : (h ended : House) (words marks words' marks' : List ℕ) (b : ℕ) (awards : List ℕ) (s : Settlement)
    → SettledAs (view h words marks) (last_draw (view h words marks) b) awards s
    → view ended words' marks' ≡ game_ended (settlement b (view h words marks)).awards (view h words marks)
    → view (house_settled ended s) words' marks' ≡ game_settled b (view h words marks)
settled_view h ended words marks words' marks' b awards s f over =
    money_view ended words' marks' s
    ∙ ap (λ m. with_money m s.six.after s.eight.after (counters_settled m.counters s)) over
    ∙ settled_money (view h words marks) b awards s f
