-- What holds of every house that comes from a fresh one by commands: the bounds and the order that the commands' code relies on, read off the
-- house's ledger.
use mathlib.Core.Path.{◌≡◌, sym, subst}
use mathlib.Core.Bool.{true}
use mathlib.Core.List.{List}
use Prim.Native.Nat.{◌+◌, ◌≤◌, ◌<◌, ◌^◌}
use native.Mathlib.Omega.{arith}
use lib.ListN.{length}
use Rattle.house.specs.Tickets.{Ticket, is_live}
use Rattle.house.specs.Model.{Model, ticket_limit, game_limit, live_limit}
use Rattle.house.specs.Balance.{Reached}
use Rattle.house.specs.Commands.{still_live}
use Rattle.house.proofs.Ledger.{All, Kept, Orderly, house_of}
use Rattle.house.proofs.ListLaws.{All-map, map_self}
use Rattle.house.proofs.SheetFigures.{till_of_house}
use Rattle.house.proofs.Numbered.{Within, row_within}
use Rattle.house.proofs.Bounded.{all_kept_lem, Bounded, Fit, FiguresFit, figures_fit, dues_fit}
use Rattle.house.proofs.RisingNumbers.{Rising, live_rising}
use Rattle.house.proofs.RowLaws.{still_live_all}
use Rattle.house.proofs.Theorem.{reached_booked}

pub record Sure (m : Model) : Type 0 where
  pub few : length m.live ≤ live_limit
  pub alive : All (λ t. is_live m.game t ≡ true) m.live
  pub kept : All (Kept m.game) m.live
  pub rising : Rising m.live
  pub numbered : All (λ t. (1 ≤ t.number) × (t.number ≤ m.issued)) m.live
  pub issued : m.issued ≤ ticket_limit
  pub begun : 1 ≤ m.game
  pub game : m.game ≤ game_limit + 1
  pub balls : length m.balls ≤ 19
  -- every figure, pool, debt and due is below 2^62
  pub fit : Fit m
  pub dues : All (λ t. t.due < 2 ^ 62) m.live

module _ (m : Model) (orderly : Orderly m) (bounded : Bounded m) (fits : Fit m) where
  fit_house : Fit (house_of m)
  fit_house = record { figures = subst FiguresFit (sym (till_of_house m)) fits.figures; six = fits.six; eight = fits.eight }

  numbers_within : All (λ t. (1 ≤ t.number) × (t.number ≤ m.issued)) m.live
  numbers_within =
      let count = orderly.issued in
      subst (λ (ts : List Ticket). All (λ t. (1 ≤ t.number) × (t.number ≤ m.issued)) ts) (map_self m.live)
      (All-map (Within 1 (1 + length m.live)) (λ t. (1 ≤ t.number) × (t.number ≤ m.issued)) (λ t. t) (λ t w. (w.0, omega arith)) m.live (row_within 1 m.live orderly.numbers))

  ledger_sure : Sure (house_of m)
  unfolding still_live
  ledger_sure =
      record {
        few = bounded.live;
        alive = still_live_all m.game m.live;
        kept = all_kept_lem (Kept m.game) (is_live m.game) m.live orderly.tickets;
        rising = live_rising m orderly;
        numbered = all_kept_lem (λ t. (1 ≤ t.number) × (t.number ≤ m.issued)) (is_live m.game) m.live numbers_within;
        issued = bounded.issued;
        begun = orderly.games;
        game = bounded.game;
        balls = orderly.balls.few;
        fit = fit_house;
        dues = dues_fit (house_of m) fit_house;
      }

pub reached_sure : (m : Model) → Reached m → Sure m
reached_sure m r =
    let b = (reached_booked m r).1 in
    subst Sure (sym b.house) (ledger_sure b.ledger b.orderly b.bounded (figures_fit b.ledger b.bounded b.balanced))
