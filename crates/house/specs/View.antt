-- What the house's struct and the lent buffers say. The view is the model that the commands' contracts
-- speak of; rows beyond the live ones are no part of it.
use Rattle.std.specs.Prelude.{ℕ, suc, ◌+◌, ◌*◌, ◌≤◌, ◌<◌, cond, not, List, [], ◌∷◌, ◌++◌, map, eqb, ◌≡◌, length, take, drop, get_or}
use Rattle.std.proofs.lemmas.List.Edits.{sets}
use Rattle.sale.specs.Lists.{below}
use Rattle.sale.specs.Price.{charge_limit}
use Rattle.std.specs.Prelude.{Option, None, Some}
use Rattle.house.specs.Tickets.{Ticket, is_finished, ticket_price, paid_stakes}
use Rattle.house.specs.Model.{Model, game_limit}
use Rattle.house.specs.declared.state.House.{House}
use Rattle.house.specs.declared.rows.Row.{Row}

-- the row of words that starts at a place of the buffer
abbrev pub row_of : List ℕ → ℕ → Row
row_of words at =
    record {
      number = get_or words at 0;
      kind = get_or words (at + 1) 0;
      games = get_or words (at + 2) 0;
      stake = get_or words (at + 3) 0;
      groups = get_or words (at + 4) 0;
      types = get_or words (at + 5) 0;
      ways = get_or words (at + 6) 0;
      jackpot = get_or words (at + 7) 0;
      sold = get_or words (at + 8) 0;
      first = get_or words (at + 9) 0;
      stop = get_or words (at + 10) 0;
      free = get_or words (at + 11) 0;
      due = get_or words (at + 12) 0;
      finished = get_or words (at + 13) 0;
      sizes = get_or words (at + 14) 0;
      feature = get_or words (at + 15) 0;
    }

-- the row at a place of the buffer, of 16 words each
abbrev pub row_at : List ℕ → ℕ → Row
row_at words i = row_of words (i * 16)

-- the words of a row
abbrev pub words_of : Row → List ℕ
words_of w =
    w.number ∷ w.kind ∷ w.games ∷ w.stake ∷ w.groups ∷ w.types ∷ w.ways ∷ w.jackpot ∷ w.sold ∷ w.first ∷ w.stop ∷ w.free ∷ w.due ∷ w.finished ∷ w.sizes ∷ w.feature ∷ []

unfoldable pub put_row : List ℕ → ℕ → Row → List ℕ
put_row words at w = sets words at (words_of w)

-- the 80 marks of the ticket at a place
unfoldable pub marks_at : List ℕ → ℕ → List ℕ
marks_at marks i = take 80 (drop (i * 80) marks)

unfoldable pub put_marks : List ℕ → ℕ → List ℕ → List ℕ
put_marks marks i these = take (i * 80) marks ++ these ++ drop (i * 80 + 80) marks

-- a feature stake in a row: 0 is none
abbrev pub feature_from : ℕ → Option ℕ
feature_from stake = cond (eqb stake 0) None (Some stake)

-- a row and its marks as a ticket
abbrev pub ticket_from : Row → List ℕ → Ticket
ticket_from w marks =
    record {
      number = w.number;
      operands = record { kind = w.kind; games = w.games; stake = w.stake; groups = w.groups; types = w.types; feature = feature_from w.feature; marks = marks };
      ways = w.ways;
      jackpot = w.jackpot;
      sizes = w.sizes;
      sold_day = w.sold;
      first = w.first;
      stop = w.stop;
      free = w.free;
      due = w.due;
      finished_day = w.finished;
    }

abbrev pub ticket_in : List ℕ → List ℕ → ℕ → Ticket
ticket_in words marks i = ticket_from (row_at words i) (marks_at marks i)

-- all 200 rows
unfoldable pub tickets_of : List ℕ → List ℕ → List Ticket
tickets_of words marks = map (ticket_in words marks) (below 200)

-- the place of a number among tickets, or how many they are
unfoldable pub place_of : ℕ → List Ticket → ℕ
place_of n [] = 0
place_of n (t ∷ ts) = cond (eqb t.number n) 0 (suc (place_of n ts))

-- a house whose game is one that can be drawn, or the one after the last
pub record InGames (h : House) : Type 0 where
  pub within : h.game ≤ game_limit + 1

-- one of the 200 rows
pub record IsRow (i : ℕ) : Type 0 where
  pub within : i < 200

-- the row of a live ticket
pub record IsLiveRow (i live : ℕ) : Type 0 where
  pub within : i < live
  pub few : live ≤ 200

-- a row with as many marks as a ticket has
pub record MarkedRow (i : ℕ) (marks : List ℕ) : Type 0 where
  pub within : i < 200
  pub count : length marks ≡ 80

-- a row, and the place before it, or its own, that its ticket moves to
pub record MovesDown (from to : ℕ) : Type 0 where
  pub down : to ≤ from
  pub within : from < 200

-- live rows whose ticket numbers rise, so that a number is looked for by halves
pub record RisingRows (words : List ℕ) (live : ℕ) : Type 0 where
  pub few : live ≤ 200
  pub rising : (j k : ℕ) → j < k → k < live → get_or words (j * 16) 0 < get_or words (k * 16) 0

-- a row whose price of one game is within the most that a ticket can cost
pub record Affordable (w : Row) : Type 0 where
  pub within : ticket_price (ticket_from w []) ≤ charge_limit

-- the same of the paid stakes of the games from one up to another
pub record PaidWithin (from upto : ℕ) (w : Row) : Type 0 where
  pub within : paid_stakes from upto (ticket_from w []) ≤ charge_limit

-- a ticket whose finishing day is set just where no game is left
pub record DayTells (game : ℕ) (t : Ticket) : Type 0 where
  pub tells : is_finished game t ≡ not (eqb t.finished_day 0)

-- a list without the element at a place
unfoldable pub without {ℓ} : {A : Type ℓ} → ℕ → List A → List A
without i xs = take i xs ++ drop (suc i) xs

-- the house
unfoldable pub view : House → List ℕ → List ℕ → Model
view h words marks =
    record {
      day = h.day;
      game = h.game;
      balls = map (λ i. get_or h.balls i 0) (below h.drawn);
      issued = h.issued;
      live = map (ticket_in words marks) (below h.live);
      six = h.six;
      eight = h.eight;
      counters = h.counters;
    }
