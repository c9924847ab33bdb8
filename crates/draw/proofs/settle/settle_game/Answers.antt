-- `draw::settle::settle_game` meets its contract: the awards of the settlement end the game, and every figure fits, since the house after it is
-- reached too.
use Prim.Native.Nat.{ℕ, ◌+◌, ◌<◌, ◌^◌}
use native.Mathlib.Omega.{arith}
use mathlib.Core.Path.{◌≡◌, sym, ap, ap₂, ◌∙◌, subst}
use mathlib.Core.List.{List}
use lib.ListN.{take}
use Rattle.prizes.specs.declared.draw.Draw.{Draw}
use Rattle.house.specs.Tickets.{Ticket}
use Rattle.house.specs.Model.{Model}
use Rattle.house.specs.declared.state.Counters.{Counters}
use Rattle.house.specs.declared.state.House.{House}
use Rattle.house.specs.Commands.{ball, replies, answer_of, settled_by, settlement, game_ended}
use Rattle.house.specs.View.{view}
use Rattle.settlement.specs.Settling.{spread, SettledAs}
use Rattle.settlement.specs.declared.settle.Settlement.{Settlement}
use Rattle.settlement.proofs.GameLaws.{awards_fit}
use Rattle.house.proofs.ReachedHouses.{Sure, reached_sure}
use Rattle.house.proofs.ViewLaws.{carried_done, live_count, each_live}
use Rattle.draw.specs.Closing.{CompletesDraw, CompletedDraw}
use Rattle.draw.proofs.BallLaws.{last_act, last_draw, Fitting, fitting, settled_reply, settled_view}
use Rattle.draw.proofs.settle.settle_game.Goals as goal

module _ (m : Model) (draw : Draw) where
  fit : (given : CompletedDraw m draw) → Fitting m given.number
  fit given = fitting m given.number given.reached given.drawn.accepted given.drawn.last

  -- the draw is the last ball's
  room : CompletedDraw m draw → (settled_by draw m).prizes + (settled_by draw m).shares < 2 ^ 62
  room given = subst (λ (d : Draw). (settled_by d m).prizes + (settled_by d m).shares < 2 ^ 62) (sym given.drawn.draw') (fit given).awards

  -- the settlement, by any ball that completes the draw
  settled : (awards : List ℕ) (s : Settlement) (b : ℕ) → SettledAs m draw awards s → CompletesDraw m b draw → SettledAs m (last_draw m b) awards s
  settled awards s b f d = subst (λ (w : Draw). SettledAs m w awards s) d.draw' f

-- the house that the awards leave
after_game : (h ended : House) (words marks words' marks' awards : List ℕ) (b : ℕ) (s : Settlement)
    → SettledAs (view h words marks) (last_draw (view h words marks) b) awards s
    → ((figures : List ℕ) → take h.live awards ≡ spread h.game figures (view h words marks).live
    → view ended words' marks' ≡ game_ended figures (view h words marks))
    → view ended words' marks' ≡ game_ended (settlement b (view h words marks)).awards (view h words marks)
unfolding settlement view
after_game h ended words marks words' marks' awards b s f ends =
    ends (settlement b (view h words marks)).awards (ap (λ n. take n awards) (sym (live_count h words marks)) ∙ f.awards)

pub settle-settlement-requires : goal.settle-settlement-requires
settle-settlement-requires c =
    record { reached = c.requires.reached; room = room (view c.args.house.now c.args.rows.now c.args.marks.now) c.args.draw c.requires }

pub overflow_add-cents : goal.overflow_add-cents
overflow_add-cents c =
    let m = view c.args.house.now c.args.rows.now c.args.marks.now in
    omega (arith, room m c.args.draw c.requires, c.settle-settlement.ensures.shares)

pub overflow_add-cents-2 : goal.overflow_add-cents-2
overflow_add-cents-2 c =
    let m = view c.args.house.now c.args.rows.now c.args.marks.now in
    omega (arith, room m c.args.draw c.requires, c.settle-settlement.ensures.shares, c.settle-settlement.ensures.prizes)

-- ---- the end of the game
pub end_game-ended-requires : goal.end_game-ended-requires
unfolding view
end_game-ended-requires c =
    let args = c.args in
    let m = view args.house.now args.rows.now args.marks.now in
    let sure : Sure m = reached_sure m c.requires.reached in
    let count = live_count args.house.now args.rows.now args.marks.now in
    let dues = each_live args.house.now args.rows.now args.marks.now (λ (t : Ticket). t.due < 2 ^ 62) sure.dues in
    record {
      few = omega (arith, sure.few, count);
      game = omega (arith, sure.game);
      room = λ i b. omega (arith, dues i b, awards_fit m args.draw c.settle-settlement.new.awards (room m args.draw c.requires) i (omega (arith, count)) c.settle-settlement.ensures.awards);
    }

pub with_settlement-requires : goal.with_settlement-requires
unfolding view
with_settlement-requires c =
    let args = c.args in
    let m = view args.house.now args.rows.now args.marks.now in
    let given = c.requires in
    let f = settled m args.draw c.settle-settlement.new.awards c.settle-settlement.result given.number c.settle-settlement.ensures given.drawn in
    let room = fit m args.draw given in
    let same =
    ap (λ (k : Model). k.counters)
    (after_game args.house.now c.end_game-ended.result args.rows.now args.marks.now c.end_game-ended.new.rows c.end_game-ended.new.marks
    c.settle-settlement.new.awards given.number c.settle-settlement.result f c.end_game-ended.ensures) in
    record {
      seeds = omega (arith, room.seeds, f.seeds, ap (λ (k : Counters). k.seeds) same);
      gained = omega (arith, room.gained, f.stakes, f.repaid, ap (λ (k : Counters). k.gained) same);
      lost = omega (arith, room.lost, f.contributions, f.prizes, ap (λ (k : Counters). k.lost) same);
    }

pub returns : goal.returns
returns c b d =
    let args = c.args in
    let m = view args.house.now args.rows.now args.marks.now in
    let ended = c.end_game-ended.result in
    let rows = c.end_game-ended.new.rows in
    let marks = c.end_game-ended.new.marks in
    let awards = c.settle-settlement.new.awards in
    let s = c.settle-settlement.result in
    let f = settled m args.draw awards s b c.settle-settlement.ensures d in
    let last = last_act m b d.last in
    carried_done args.house.now args.rows.now args.marks.now (ball b) _ rows marks _ d.accepted
    (ap (λ h. view h rows marks) c.with_settlement.ensures
    ∙ settled_view args.house.now ended args.rows.now args.marks.now rows marks b awards s f
    (after_game args.house.now ended args.rows.now args.marks.now rows marks awards b s f c.end_game-ended.ensures)
    ∙ sym last.0)
    (ap answer_of (ap₂ (λ (p q : ℕ). replies 20 (p + q)) f.prizes f.shares ∙ sym (settled_reply m b) ∙ sym last.1))
