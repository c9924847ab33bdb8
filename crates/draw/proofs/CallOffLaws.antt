-- Laws of Call off: its rows of the refusal table, that what the live rows paid for the game is the model's list of stakes, spread over the live tickets, and
-- the room that these leave in each due.
use Prim.Native.Nat.{ℕ, ◌+◌, ◌<◌, ◌^◌}
use mathlib.Core.Path.{◌≡◌, refl, sym, ap, ◌∙◌}
use mathlib.Core.Bool.{cond}
use mathlib.Core.List.{List, map, map-map}
use native.Mathlib.Omega.{arith}
use lib.Dec.{ltb, eqb}
use lib.ListN.{get_or, take, length-map}
use lib.Seq.{get_or-take}
use Rattle.sale.specs.Lists.{sum, below}
use Rattle.sale.specs.Checks.{first_met}
use Rattle.house.specs.Tickets.{Ticket, runs_in, paid_stakes}
use Rattle.house.specs.Model.{game_limit}
use Rattle.house.specs.Commands.{call_off, rows_of, code_of, running_in, stakes_paid}
use Rattle.house.specs.Balance.{Reached}
use Rattle.house.specs.View.{ticket_in, view}
use Rattle.house.specs.declared.state.House.{House}
use Rattle.house.proofs.Ledger.{Kept}
use Rattle.house.proofs.RowLists.{get_or_table}
use Rattle.house.proofs.SpanLaws.{price_kept}
use Rattle.house.proofs.ReachedHouses.{Sure, reached_sure}
use Rattle.house.proofs.ViewLaws.{each_live, live_count}
use Rattle.settlement.specs.Settling.{spread}
use Rattle.settlement.specs.Sharing.{paid_at, paid_in}
use Rattle.settlement.proofs.SharingLaws.{paid_at_within}
use Rattle.settlement.proofs.SpreadLaws.{spread_map, sum_spread}
use Rattle.draw.specs.Closing.{PricedRows, Endable}

module _ (h : House) (words marks : List ℕ) where
  -- Call off's table by tests on the struct
  pub call_off_code : code_of (view h words marks) call_off ≡ cond (eqb h.day 0) 4 (cond (ltb game_limit h.game) 26 0)
  unfolding code_of rows_of first_met view
  call_off_code = refl

  -- what the rows paid for the game, and all of it
  pub stakes_spread : map (paid_at words h.game) (below h.live) ≡ spread h.game (stakes_paid (view h words marks)) (view h words marks).live
  unfolding paid_at runs_in paid_stakes view
  stakes_spread =
      sym (map-map (λ t. cond (runs_in h.game t) (paid_stakes h.game (h.game + 1) t) 0) (ticket_in words marks) (below h.live))
      ∙ sym (spread_map h.game (paid_stakes h.game (h.game + 1)) (view h words marks).live)

  pub stakes_total : paid_in words h.game h.live ≡ sum (stakes_paid (view h words marks))
  unfolding paid_in view
  stakes_total =
      ap sum stakes_spread
      ∙ sum_spread h.game (stakes_paid (view h words marks)) (view h words marks).live (length-map (running_in (view h words marks)) (paid_stakes h.game (h.game + 1)))

  -- the price of each row is within bounds, since its ticket was sold
  pub rows_priced : Reached (view h words marks) → PricedRows h words
  unfolding view
  rows_priced reached =
      let sure : Sure (view h words marks) = reached_sure (view h words marks) reached in
      record {
        few = omega (arith, sure.few, live_count h words marks);
        within = λ i b.
            let kept = each_live h words marks (Kept h.game) sure.kept i b in
            record { within = omega (arith, price_kept (ticket_in words marks i) kept, kept.fixed.playable.one_game) };
      }

  -- so the game can end with these stakes as its awards
  pub stakes_endable : (stakes : List ℕ) → Reached (view h words marks) → take h.live stakes ≡ map (paid_at words h.game) (below h.live) → Endable h words stakes
  unfolding view
  stakes_endable stakes reached held =
      let sure : Sure (view h words marks) = reached_sure (view h words marks) reached in
      let priced : PricedRows h words = rows_priced reached in
      let dues = each_live h words marks (λ (t : Ticket). t.due < 2 ^ 62) sure.dues in
      record {
        few = priced.few;
        game = omega (arith, sure.game);
        room = λ i b.
            omega (
              arith,
              dues i b,
              sym (get_or-take h.live stakes i 0 b) ∙ ap (λ l. get_or l i 0) held ∙ get_or_table (paid_at words h.game) h.live i 0 b,
              paid_at_within words h.game i (priced.within i b),
            );
      }
