-- `tickets::sell::sold_row` meets its contract, field by field: what a quote tells of its operands is what the ticket keeps.
use Prim.Native.Nat.{ℕ, ◌+◌, ◌≤◌}
use native.Mathlib.Omega.{arith}
use mathlib.Core.Path.{◌≡◌, ap, ◌∙◌}
use mathlib.Core.List.{List, []}
use Rattle.sale.specs.Checks.{operands_of}
use Rattle.sale.proofs.CheckLaws.{staked_or_none, jackpot_word}
use Rattle.house.specs.Model.{next_game}
use Rattle.house.specs.View.{feature_from, view}
use Rattle.house.specs.declared.state.House.{House}
use Rattle.tickets.proofs.SellLaws.{next_within, feature_back, ticket_sold}
use Rattle.tickets.proofs.sell.sold_row.Goals as goal

-- the first game, from which the other games are counted on
game_within : (h : House) (first : ℕ) → ((words marks : List ℕ) → first ≡ next_game (view h words marks)) → first ≤ h.game + 1
unfolding view
game_within h first began = omega (arith, began [] [], next_within (view h [] []))

pub overflow_add-result-2 : goal.overflow_add-result-2
overflow_add-result-2 c = omega (arith, game_within c.args.house.now c.first_game-first.result c.first_game-first.ensures)

pub overflow_add-result-3 : goal.overflow_add-result-3
overflow_add-result-3 c = omega (arith, game_within c.args.house.now c.first_game-first.result c.first_game-first.ensures, c.requires.0.within)

pub returns : goal.returns
returns c = λ words marks from q.
    let o = operands_of c.args.sale from in
    rw (c.from.ensures, c.from-2.ensures, c.from-3.ensures, c.from-4.ensures, c.from-5.ensures, c.from-6.ensures, c.from-7.ensures, c.from-8.ensures, c.from-9.ensures)
    (ticket_sold c.args.house.now words marks o _ _ _ _ (c.first_game-first.ensures words marks) q.quote (jackpot_word c.args.quote.jackpot _ c.map_or.ensures)
    (ap feature_from (c.unwrap_or.ensures ∙ staked_or_none c.args.sale.feature) ∙ feature_back o q.passed))
