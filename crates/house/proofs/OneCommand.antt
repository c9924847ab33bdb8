-- What one command does to any house, from the definitions alone: a refused one changes nothing, any other is carried out, and the twentieth ball
-- settles its game.
use Prim.Native.Nat.{ℕ, ◌+◌}
use native.Mathlib.Omega.{arith}
use mathlib.Core.Path.{◌≡◌, refl, sym, ap, ◌∙◌}
use mathlib.Core.Bool.{Bool, true, false}
use mathlib.Core.List.{[], ◌∷◌}
use lib.Dec.{eqb}
use lib.ListN.{length, length-append}
use borrow.Author.Tests.{eq-eqb, ne_eqb, eqb-true, eqb-false}
use Rattle.house.specs.Model.{Model}
use Rattle.house.specs.Commands.{Command, ball, Answer, code_of, balls_with, settles, game_settled, ball_entered, act, reply, answer_of, step}

-- a refused command leaves the house exactly as it was, and answers its number, 0, 0
pub refused_unchanged :
    (m : Model) (c : Command)
    → (code_of m c ≡ 0 → ⊥)
    → ((step m c).house ≡ m) × ((step m c).answer ≡ record { code = code_of m c; number = 0; cents = 0 })
unfolding step
refused_unchanged m c refused = rw (ne_eqb (code_of m c) 0 refused) (refl, refl)

-- and every other command is carried out
pub accepted_done :
    (m : Model) (c : Command)
    → code_of m c ≡ 0
    → ((step m c).house ≡ act m c) × ((step m c).answer ≡ answer_of (reply m c))
unfolding step
accepted_done m c e = rw (eq-eqb (code_of m c) 0 e) (refl, refl)

-- the answer's code is that of the refusal table
pub accepted_code : (m : Model) (c : Command) → (step m c).answer.code ≡ 0 → code_of m c ≡ 0
accepted_code m c accepted = go (eqb (code_of m c) 0) refl
  where
    go : (t : Bool) → eqb (code_of m c) 0 ≡ t → code_of m c ≡ 0
    go true e = eqb-true (code_of m c) 0 e
    go false e =
        let refused : code_of m c ≡ 0 → ⊥ = eqb-false (code_of m c) 0 e in
        sym (ap (λ (a : Answer). a.code) (refused_unchanged m c refused).1) ∙ accepted

-- the twentieth ball settles its game: the next is current, with no balls
pub twentieth_settles :
    (m : Model) (b : ℕ)
    → code_of m (ball b) ≡ 0
    → length m.balls ≡ 19
    → ((step m (ball b)).house ≡ game_settled b m)
    × ((step m (ball b)).house.game ≡ m.game + 1)
    × ((step m (ball b)).house.balls ≡ [])
unfolding act game_settled
twentieth_settles m b e nineteen =
    let last : settles b m ≡ true = eq-eqb (length (balls_with b m)) 20 (omega (arith, length-append m.balls (b ∷ []))) in
    let done : (step m (ball b)).house ≡ game_settled b m = (accepted_done m (ball b) e).0 ∙ rw last in
    (done, ap (λ h. h.game) done, ap (λ h. h.balls) done)

-- any other leaves the game current, with one ball more
pub earlier_waits : (m : Model) (b : ℕ) → code_of m (ball b) ≡ 0 → (length m.balls ≡ 19 → ⊥) → (step m (ball b)).house ≡ ball_entered b m
unfolding act
earlier_waits m b e fewer =
    let early : settles b m ≡ false = ne_eqb (length (balls_with b m)) 20 (omega (arith, length-append m.balls (b ∷ []))) in
    (accepted_done m (ball b) e).0 ∙ rw early
