-- What the steps of a command's code give each other: the rows of the refusal table that a command reads off the ticket it found, and the
-- live tickets after a change.
use Rattle.std.specs.Prelude.{ℕ, ◌+◌, Bool, cond, not, ◌||◌, List, [], ◌∷◌, map, ltb, leb, eqb, set, length, take, ◌≡◌}
use Rattle.house.specs.Tickets.{Ticket, is_finished, is_live, keno_to_go_begun}
use Rattle.house.specs.View.{without, tickets_of}
use Rattle.sale.specs.Lists.{sum, keep}
use Rattle.sale.specs.Checks.{Operands, operand_code, accepted_quote}
use Rattle.sale.specs.declared.check.Quote.{Quote}
use Rattle.house.specs.Model.{Model, ticket_limit, game_limit, live_limit, next_game}
use Rattle.house.specs.Commands.{is_expired, expiring}

-- Sell: the quote of operands that pass their checks
pub record Quoted (q : Quote) (o : Operands) : Type 0 where
  pub quote : q ≡ accepted_quote o
  pub passed : operand_code o ≡ 0

-- and the rows below those of the operands, of a ticket of so many games
abbrev pub room_rows : Model → ℕ → List (Bool × ℕ)
room_rows m games =
    (leb live_limit (length m.live), 16) ∷ (leb ticket_limit m.issued || ltb (game_limit + 1) (next_game m + games), 17) ∷ []

-- Claim, where the given game is the current one
abbrev pub claim_rows : ℕ → Ticket → List (Bool × ℕ)
claim_rows game t = (not (is_finished game t), 23) ∷ []

-- Collect, where so many tickets are issued
abbrev pub collect_rows : ℕ → ℕ → Ticket → List (Bool × ℕ)
collect_rows game issued t = (is_finished game t, 33) ∷ (eqb t.due 0, 34) ∷ (leb ticket_limit issued, 35) ∷ []

-- Cancel, where the games from the given stop on would be taken off
abbrev pub cancel_rows : ℕ → ℕ → Bool → ℕ → Ticket → List (Bool × ℕ)
cancel_rows day game drawing stop t =
    (ltb t.sold_day day, 20) ∷ (keno_to_go_begun game drawing t, 21) ∷ (leb t.stop stop, 22) ∷ []

-- another ticket in the place of one, or none where the other is closed
abbrev pub replaced : ℕ → ℕ → Ticket → List Ticket → List Ticket
replaced game place t ts = cond (is_live game t) (set ts place t) (without place ts)

-- Expire: the first tickets of the buffers are those of the house that stay, and the dues of the others are added
pub record Swept (m : Model) (words marks : List ℕ) (left cents : ℕ) : Type 0 where
  pub stay : take left (tickets_of words marks) ≡ keep (λ t. not (is_expired m t)) m.live
  pub gone : left + length (expiring m) ≡ length m.live
  pub dues : cents ≡ sum (map (λ t. t.due) (expiring m))
