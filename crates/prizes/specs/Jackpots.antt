-- "Two, for 6 and 8 numbers, with guarantees 100,000 and 1,250,000. Each has a primary, a secondary and a reimbursement pool and a seed
-- debt. Each paid stake dollar of a drawn kind 1 game gives 25 cents to its jackpot: 15, 5, 5 [..]. At the twentieth ball, in this order:
-- contributions; prizes and cuts; each full match shares the primary in proportion to stake, rounded down; odd cents go one to each winning
-- way [..]. If there was a winner: the secondary moves into the primary, and the house adds a seed up to the guarantee, which joins the debt.
-- Last, reimbursement pays the house as much of the debt as it can, winner or none." And the customers' request: "Odd cents go to winning ways
-- by stake, larger first, equal stakes by ticket number."
use Rattle.std.specs.Prelude.{ℕ, suc, ◌+◌, ◌*◌, ◌-◌, ◌/◌, min, Bool, cond, ◌&&◌, ◌||◌, List, [], ◌∷◌, ◌++◌, map, length, take, replicate, eqb, ltb}
use Rattle.sale.specs.Lists.{sum, keep}
use Rattle.prizes.specs.declared.jackpot.Jackpot.{Jackpot}

abbrev pub guarantee_of_six : ℕ
guarantee_of_six = 100000

abbrev pub guarantee_of_eight : ℕ
guarantee_of_eight = 1250000

-- what a fresh house has put into the two primaries: 1,350,000
abbrev pub fresh_seeds : ℕ
fresh_seeds = guarantee_of_six + guarantee_of_eight

-- the primary at its guarantee, and the same owed for it
abbrev pub fresh_jackpot : ℕ → Jackpot
fresh_jackpot guarantee =
    record { primary = guarantee; secondary = 0; reimbursement = 0; debt = guarantee }

-- the three pools together
abbrev pub pooled : Jackpot → ℕ
pooled j = j.primary + j.secondary + j.reimbursement

-- what so many cents of paid stakes give
unfoldable pub contribution : ℕ → ℕ
contribution paid = 25 * (paid / 100)

unfoldable pub contributed : ℕ → Jackpot → Jackpot
contributed paid j =
    record {
      primary = j.primary + 15 * (paid / 100);
      secondary = j.secondary + 5 * (paid / 100);
      reimbursement = j.reimbursement + 5 * (paid / 100);
      debt = j.debt;
    }

-- the winning ways of a ticket: how many, each at the ticket's stake
pub record Winner : Type 0 where
  pub count : ℕ
  pub stake : ℕ

abbrev pub winning_stake : Winner → ℕ
winning_stake w = w.count * w.stake

-- the stakes of all winning ways
unfoldable pub winning_stakes : List Winner → ℕ
winning_stakes ws = sum (map winning_stake ws)

-- a way's share, rounded down, of the primary p where the winning ways' stakes are s together
unfoldable pub share_of : ℕ → ℕ → ℕ → ℕ
share_of p s stake = p * stake / s

-- the cents that rounding leaves of the primary
unfoldable pub odd_cents : ℕ → ℕ → List Winner → ℕ
odd_cents p s ws = p - sum (map (λ w. w.count * share_of p s w.stake) ws)

-- one winning way: the place of its ticket among the game's tickets, which stand in the order of their numbers, and its stake
pub record WinningWay : Type 0 where
  pub place : ℕ
  pub stake : ℕ

-- each winning way by itself, of tickets that stand from a place on
unfoldable pub each_way : ℕ → List Winner → List WinningWay
each_way place [] = []
each_way place (w ∷ ws) = replicate w.count (record { place = place; stake = w.stake }) ++ each_way (suc place) ws

-- "by stake, larger first, equal stakes by ticket number"
abbrev pub ranks_before : WinningWay → WinningWay → Bool
ranks_before v w = ltb w.stake v.stake || (eqb v.stake w.stake && ltb v.place w.place)

-- a way among ranked ones, behind those that rank before it
unfoldable pub rank_among : WinningWay → List WinningWay → List WinningWay
rank_among w [] = w ∷ []
rank_among w (v ∷ vs) = cond (ranks_before v w) (v ∷ rank_among w vs) (w ∷ v ∷ vs)

-- ways in that order
unfoldable pub ranked : List WinningWay → List WinningWay
ranked [] = []
ranked (w ∷ ws) = rank_among w (ranked ws)

-- of so many odd cents those of the ticket at a place: the first ways have one each
unfoldable pub odd_cents_at : ℕ → List Winner → ℕ → ℕ
odd_cents_at odd ws place = length (keep (λ w. eqb w.place place) (take odd (ranked (each_way 0 ws))))

-- what the winning ways of each ticket get, of tickets that stand from a place on: their shares, and the odd cents of the ticket at each place
unfoldable pub shares_with : (ℕ → ℕ) → ℕ → ℕ → ℕ → List Winner → List ℕ
shares_with odd_at place p s [] = []
shares_with odd_at place p s (w ∷ ws) = (w.count * share_of p s w.stake + odd_at place) ∷ shares_with odd_at (suc place) p s ws

-- what all tickets get, where so many cents are odd
unfoldable pub shares_from : ℕ → ℕ → ℕ → List Winner → List ℕ
shares_from odd p s ws = shares_with (odd_cents_at odd ws) 0 p s ws

-- a stake is at least 100, so that a winning way has stakes above 0
unfoldable pub jackpot_won : List Winner → Bool
jackpot_won ws = ltb 0 (winning_stakes ws)

unfoldable pub jackpot_shares : ℕ → List Winner → List ℕ
jackpot_shares p ws =
    cond (jackpot_won ws)
    (shares_from (odd_cents p (winning_stakes ws) ws) p (winning_stakes ws) ws)
    (map (λ w. 0) ws)

-- the seed that a won jackpot needs
unfoldable pub seed_of : Bool → ℕ → Jackpot → ℕ
seed_of won guarantee j = cond won (guarantee - j.secondary) 0

-- after the primary was paid out, or not: the secondary and the seed make the next primary
unfoldable pub reseeded : Bool → ℕ → Jackpot → Jackpot
reseeded won guarantee j =
    cond won
    (record {
      primary = j.secondary + seed_of won guarantee j;
      secondary = 0;
      reimbursement = j.reimbursement;
      debt = j.debt + seed_of won guarantee j;
    })
    j

-- what the reimbursement pool pays back of the debt
abbrev pub repaid_of : Jackpot → ℕ
repaid_of j = min j.reimbursement j.debt

unfoldable pub repaid : Jackpot → Jackpot
repaid j =
    record {
      primary = j.primary;
      secondary = j.secondary;
      reimbursement = j.reimbursement - repaid_of j;
      debt = j.debt - repaid_of j;
    }
