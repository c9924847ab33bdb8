-- "Odd cents go to winning ways by stake, larger first, equal stakes by ticket number": of the shares of a settled game, told in ticket numbers and without the
-- rule book's order. That goes by places among the tickets that run in the game; in every house that commands reach they stand in rising number.
use mathlib.Core.Path.{◌≡◌, ap, ◌∙◌}
use mathlib.Core.Logic.{⊎_elim}
use mathlib.Core.Bool.{true}
use mathlib.Core.List.{List, map}
use Prim.Native.Nat.{ℕ, ◌+◌, ◌-◌, ◌*◌, ◌≤◌, ◌<◌}
use native.Mathlib.Omega.{arith}
use lib.ListN.{length, get_or, length-map}
use Rattle.prizes.specs.Jackpots.{contributed, Winner, winning_stakes, share_of, odd_cents, odd_cents_at, jackpot_won}
use Rattle.prizes.specs.Settle.{Entry, winner_of, paid_for, settle_jackpot}
use Rattle.prizes.specs.declared.draw.Draw.{Draw}
use Rattle.prizes.specs.declared.jackpot.Jackpot.{Jackpot}
use Rattle.prizes.proofs.ShareLaws.{share_with_odd}
use Rattle.prizes.proofs.OddCents.{no_winner, one_at_most, larger_first, earlier_first}
use Rattle.house.specs.Tickets.{Ticket, runs_in, entry_of}
use Rattle.house.specs.Model.{Model}
use Rattle.house.specs.Commands.{blank_ticket, running_in}
use Rattle.house.specs.Balance.{Reached}
use Rattle.house.proofs.RisingNumbers.{Rising, rising_at, rising_keep}
use Rattle.house.proofs.ReachedHouses.{reached_sure}
use Rattle.house.proofs.RowLists.{get_or_map, equal_or_not, earlier_or_not}

-- one jackpot's part of the game that a house is in
module _ (j guarantee : ℕ) (draw : Draw) (before : Jackpot) (m : Model) where
  abbrev pub entries : List Entry
  entries = map (entry_of m.game) (running_in m)

  abbrev pub winners : List Winner
  winners = map (winner_of j draw) entries

  -- the ticket at a place among those that run in the game, and how many of its ways win
  abbrev pub playing : ℕ → Ticket
  playing i = get_or (running_in m) i blank_ticket

  abbrev pub ways_won : ℕ → ℕ
  ways_won i = (winner_of j draw (entry_of m.game (playing i))).count

  -- what it is given of the primary, what its ways get of that rounded down, and the cents beyond
  abbrev pub share : ℕ → ℕ
  share i = get_or (settle_jackpot j guarantee draw before entries).shares i 0

  abbrev pub rounded : ℕ → ℕ
  rounded i = ways_won i * share_of (contributed (paid_for j entries) before).primary (winning_stakes winners) (playing i).operands.stake

  abbrev pub cents_beyond : ℕ → ℕ
  cents_beyond i = share i - rounded i

  pub record InTurn (i k : ℕ) : Type 0 where
    -- its ways get no less than that, and no more than a cent each beyond
    pub least : rounded i ≤ share i
    pub one_each : cents_beyond i ≤ ways_won i
    -- before another ticket has a cent beyond, each way of this one has, where its stake is larger
    pub larger : (playing k).operands.stake < (playing i).operands.stake → 0 < cents_beyond k → cents_beyond i ≡ ways_won i
    -- or equal, and its number smaller
    pub by_number : (playing i).operands.stake ≡ (playing k).operands.stake → (playing i).number < (playing k).number
        → 0 < cents_beyond k → cents_beyond i ≡ ways_won i

  winner_here : (i : ℕ) → i < length (running_in m) → get_or winners i no_winner ≡ winner_of j draw (entry_of m.game (playing i))
  winner_here i h =
      get_or_map (winner_of j draw) (map (entry_of m.game) (running_in m)) i (entry_of m.game blank_ticket) no_winner
      (omega (arith, length-map (running_in m) (entry_of m.game)))
      ∙ ap (winner_of j draw) (get_or_map (entry_of m.game) (running_in m) i blank_ticket (entry_of m.game blank_ticket) h)

  stake_here : (i : ℕ) → i < length (running_in m) → (get_or winners i no_winner).stake ≡ (playing i).operands.stake
  unfolding winner_of
  stake_here i h = ap (λ w. w.stake) (winner_here i h)

  abbrev odd : ℕ
  odd = odd_cents (contributed (paid_for j entries) before).primary (winning_stakes winners) winners

  shared : jackpot_won winners ≡ true → (i : ℕ) → i < length (running_in m) → share i ≡ rounded i + odd_cents_at odd winners i
  unfolding settle_jackpot
  shared won i h =
      share_with_odd (contributed (paid_for j entries) before).primary winners won i
      (omega (arith, length-map entries (winner_of j draw), length-map (running_in m) (entry_of m.game)))
      ∙ (λ n. (winner_here i h n).count * share_of (contributed (paid_for j entries) before).primary (winning_stakes winners) (stake_here i h n) + odd_cents_at odd winners i)

  pub odd_cents_in_turn : Reached m → jackpot_won winners ≡ true → (i k : ℕ) → i < length (running_in m) → k < length (running_in m) → InTurn i k
  odd_cents_in_turn r won i k here there =
      let own = shared won i here in
      let other = shared won k there in
      let ways : (get_or winners i no_winner).count ≡ ways_won i = ap (λ w. w.count) (winner_here i here) in
      let rising : Rising (running_in m) = rising_keep (runs_in m.game) m.live (reached_sure m r).rising in
      record {
        least = omega (arith, own);
        one_each = omega (arith, own, one_at_most odd winners i, ways);
        larger = λ more some.
            omega (arith, own, ways, larger_first odd winners i k (omega (arith, stake_here i here, stake_here k there)) (omega (arith, other)));
        by_number = λ same earlier some.
            omega (
              arith,
              own,
              ways,
              earlier_first odd winners i k (omega (arith, stake_here i here, stake_here k there)) (first rising earlier here) (omega (arith, other)),
            );
      }
    where
      -- of two the one with the smaller number stands first
      first : Rising (running_in m) → (playing i).number < (playing k).number → i < length (running_in m) → i < k
      first rising before b =
          ⊎_elim
          (λ earlier. earlier)
          (λ later. ⊎_elim
          (λ same. absurd (omega (arith, ap (λ n. (playing n).number) same)))
          (λ other. absurd (omega (arith, rising_at (running_in m) rising k i (omega (arith, other)) b)))
          (equal_or_not i k))
          (earlier_or_not i k)
