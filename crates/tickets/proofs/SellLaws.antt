-- Laws of Sell: what its refusal table gives, the first game of a new ticket, and the house with one ticket more as a view.
use Prim.Native.Nat.{ℕ, ◌+◌, ◌%◌, ◌≤◌, ◌<◌}
use native.Mathlib.Omega.{arith}
use mathlib.Core.Path.{◌≡◌, refl, sym, ap, ap₂, ◌∙◌}
use mathlib.Core.Bool.{true, false, not, ◌&&◌, ◌||◌, false≢true}
use mathlib.Core.List.{List, [], ◌∷◌, ◌++◌}
use lib.Dec.{leb, eqb}
use lib.ListN.{length, take}
use borrow.Author.Tests.{eqb-false, eq-eqb, ne_eqb, le-leb, lt-leb, lt-ltb, le-ltb}
use Rattle.std.specs.Prelude.{Option, None, Some}
use Rattle.refusals.specs.Refusal.{refusal_number}
use Rattle.refusals.specs.declared.refusal.Refusal.{Refusal}
use Rattle.sale.specs.Lists.{every}
use Rattle.sale.specs.Kinds.{jackpot_by, jackpot_number}
use Rattle.sale.specs.Ways.{sizes}
use Rattle.sale.specs.Checks.{Operands, has_feature, feature_stake, first_met, operand_rows, operand_code, charge_of, accepted_quote}
use Rattle.sale.specs.declared.check.Quote.{Quote}
use Rattle.sale.proofs.CheckLaws.{stage_err, stage_ok, jackpot_back}
use Rattle.house.specs.Tickets.{Ticket, terms_of}
use Rattle.house.specs.Model.{Model, game_limit, live_limit, ticket_limit, is_drawing, next_game, with_taken}
use Rattle.house.specs.Commands.{sell, rows_of, code_of, sold_ticket, sold}
use Rattle.house.specs.View.{feature_from, tickets_of, view}
use Rattle.house.specs.declared.state.House.{House}
use Rattle.house.proofs.Ledger.{with_live}
use Rattle.house.proofs.ListLaws.{cond_either}
use Rattle.house.proofs.Refusals.{or_false, operands_accepted}
use Rattle.house.proofs.RowLaws.{feature_kept}
use Rattle.house.proofs.ViewLaws.{live_count, view_live, view_by}
use Rattle.tickets.specs.Steps.{room_rows}

-- ---- the code of a sale

module _ (m : Model) (o : Operands) where
  pub sale_closed : m.day ≡ 0 → code_of m (sell o) ≡ 4
  unfolding code_of rows_of first_met
  sale_closed e = rw (eq-eqb m.day 0 e)

  module _ (opened : m.day ≡ 0 → ⊥) where
    -- the operands' refusal
    pub sale_unfit : (refusal : Refusal) → refusal_number refusal ≡ operand_code o → code_of m (sell o) ≡ refusal_number refusal
    unfolding code_of rows_of first_met operand_code operand_rows every
    sale_unfit refusal told = rw (ne_eqb m.day 0 opened) (stage_err (operand_rows o) (room_rows m o.games) refl refusal told)

    -- or what the rows below theirs say
    pub sale_room : 0 ≡ operand_code o → code_of m (sell o) ≡ first_met (room_rows m o.games)
    unfolding code_of rows_of first_met operand_code operand_rows every
    sale_room fits = rw (ne_eqb m.day 0 opened) (stage_ok (operand_rows o) (room_rows m o.games) refl fits)

-- ---- those rows, in the words that the code tests

module _ (h : House) (words marks : List ℕ) (games : ℕ) where
  pub room_full : live_limit ≤ h.live → 16 ≡ first_met (room_rows (view h words marks) games)
  unfolding first_met
  room_full full = rw (le-leb live_limit (length (view h words marks).live) (omega (arith, live_count h words marks)))

  module _ (room : h.live < live_limit) where
    some_room : leb live_limit (length (view h words marks).live) ≡ false
    some_room = lt-leb live_limit (length (view h words marks).live) (omega (arith, live_count h words marks))

    pub room_numbers : ticket_limit ≤ h.issued → 17 ≡ first_met (room_rows (view h words marks) games)
    unfolding first_met view
    room_numbers full = rw (some_room, le-leb ticket_limit h.issued full)

    module _ (numbered : h.issued < ticket_limit) where
      pub room_games : game_limit + 1 < next_game (view h words marks) + games → 17 ≡ first_met (room_rows (view h words marks) games)
      unfolding first_met view
      room_games past =
          rw (some_room, lt-leb ticket_limit h.issued numbered, lt-ltb (game_limit + 1) (next_game (view h words marks) + games) past)

      pub room_left : next_game (view h words marks) + games ≤ game_limit + 1 → 0 ≡ first_met (room_rows (view h words marks) games)
      unfolding first_met view
      room_left ends =
          rw (some_room, lt-leb ticket_limit h.issued numbered, le-ltb (game_limit + 1) (next_game (view h words marks) + games) ends)

-- ---- the first game

pub next_within : (m : Model) → next_game m ≤ m.game + 1
next_within m = cond_either (λ g. g ≤ m.game + 1) (is_drawing m) (omega arith) (omega arith)

-- ---- the feature

-- the feature that a row keeps is the one that was entered: one of no stake is refused
pub feature_back : (o : Operands) → operand_code o ≡ 0 → feature_from (feature_stake o.feature) ≡ o.feature
feature_back o passed = feature_kept o.feature (staked o.feature (operands_accepted o passed).feature_staked)
  where
    staked : (f : Option ℕ) → (has_feature f && (eqb (feature_stake f) 0 || not (eqb (feature_stake f % 100) 0))) ≡ false → has_feature f ≡ true → feature_stake f ≡ 0 → ⊥
    staked None clear entered none = false≢true entered
    staked (Some stake) clear entered none = eqb-false stake 0 (or_false (eqb stake 0) _ clear).0 none

-- the same operands with another feature
abbrev with_feature : Operands → Option ℕ → Operands
with_feature o f =
    record { kind = o.kind; games = o.games; stake = o.stake; groups = o.groups; types = o.types; feature = f; marks = o.marks }

-- ---- the new ticket, and the house with it

-- the struct with a charge taken for one ticket more
abbrev pub sold_house : House → ℕ → House
sold_house h charge =
    record { day = h.day; game = h.game; balls = h.balls; drawn = h.drawn; issued = h.issued + 1; live = h.live + 1; six = h.six; eight = h.eight; counters = with_taken charge h.counters }

module _ (h : House) (words marks : List ℕ) (o : Operands) where
  pub ticket_sold :
      (first : ℕ) (q : Quote) (jackpot : ℕ) (feature : Option ℕ)
      → first ≡ next_game (view h words marks)
      → q ≡ accepted_quote o
      → jackpot ≡ jackpot_number q.jackpot
      → feature ≡ o.feature
      → ◌≡◌ {A = Ticket}
      (record { number = h.issued + 1; operands = with_feature o feature; ways = q.ways; jackpot = jackpot; sizes = q.sizes; sold_day = h.day; first = first; stop = first + o.games; free = first + q.paid; due = 0; finished_day = 0 })
      (sold_ticket (view h words marks) o)
  unfolding view
  ticket_sold first q jackpot feature began quoted kept entered =
      let played : jackpot ≡ jackpot_by (terms_of o) (sizes o.marks) =
      kept ∙ ap (λ (q : Quote). jackpot_number q.jackpot) quoted ∙ jackpot_back (terms_of o) (sizes o.marks) in
      λ x.
      record {
        number = h.issued + 1;
        operands = with_feature o (entered x);
        ways = (quoted x).ways;
        jackpot = played x;
        sizes = (quoted x).sizes;
        sold_day = h.day;
        first = began x;
        stop = began x + o.games;
        free = began x + (quoted x).paid;
        due = 0;
        finished_day = 0;
      }

  pub house_sold :
      (charge : ℕ) (words' marks' : List ℕ) (t : Ticket)
      → h.live < live_limit
      → charge ≡ charge_of o
      → take (h.live + 1) (tickets_of words' marks') ≡ take h.live (tickets_of words marks) ++ (t ∷ [])
      → t ≡ sold_ticket (view h words marks) o
      → view (sold_house h charge) words' marks' ≡ sold o (view h words marks)
  unfolding view sold
  house_sold charge words' marks' t room charged appended made =
      let tickets : (view (sold_house h charge) words' marks').live ≡ (view h words marks).live ++ (sold_ticket (view h words marks) o ∷ []) =
      view_live (sold_house h charge) words' marks' (omega arith)
      ∙ appended
      ∙ ap₂ (λ ts t. ts ++ (t ∷ [])) (sym (view_live h words marks (omega arith))) made in
      view_by (sold_house h charge) words' marks' ((view h words marks).live ++ (sold_ticket (view h words marks) o ∷ [])) tickets
      ∙ ap (λ charge. with_live (view (sold_house h charge) words' marks') ((view h words marks).live ++ (sold_ticket (view h words marks) o ∷ []))) charged
