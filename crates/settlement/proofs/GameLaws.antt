-- The settlement of a game by the parts that the code finds one after the other: the prizes, the shares of the jackpot for 6, those for 8. Where
-- all of them together fit, what the table holds after each part fits too.
use Prim.Native.Nat.{ℕ, suc, ◌+◌, ◌<◌, ◌^◌}
use mathlib.Core.Path.{◌≡◌, refl, sym, ap, ◌∙◌}
use mathlib.Core.Bool.{cond}
use mathlib.Core.List.{List, [], ◌∷◌, map, zip_with, map-map}
use native.Mathlib.Nat.{add_assoc}
use native.Mathlib.Omega.{arith}
use lib.ListN.{length, get_or, take, length-map}
use lib.Seq.{get_or-take}
use Rattle.sale.specs.Lists.{sum, below, keep}
use Rattle.prizes.specs.Settle.{Settled, settle}
use Rattle.prizes.specs.declared.draw.Draw.{Draw}
use Rattle.prizes.specs.declared.jackpot.Jackpot.{Jackpot}
use Rattle.prizes.proofs.SettleLaws.{jackpot_shares_count, awards_count, awards_sum}
use Rattle.house.specs.Tickets.{runs_in, paid_stakes, entry_of}
use Rattle.house.specs.Model.{Model}
use Rattle.house.specs.Commands.{running_in, settled_by}
use Rattle.house.specs.View.{ticket_in}
use Rattle.house.proofs.MoneyLaws.{sum_picked}
use Rattle.house.proofs.RowLists.{length_table}
use Rattle.settlement.specs.Settling.{spread, entries_of, prizes_in, jackpot_part}
use Rattle.settlement.specs.Drawn.{drawn_tickets, Prized, SharedOut, settled_game}
use Rattle.settlement.specs.Sharing.{paid_at, paid_in}
use Rattle.settlement.specs.declared.drawn_game.DrawnGame.{DrawnGame}
use Rattle.settlement.specs.declared.shares.Part.{Part}
use Rattle.settlement.specs.declared.ways.TicketWays.{TicketWays}
use Rattle.settlement.proofs.SpreadLaws.{length_spread}
use Rattle.settlement.proofs.TablePlaces.{spread_total, spread_within}

length_zip : (xs ys : List ℕ) → length xs ≡ length ys → length (zip_with ◌+◌ xs ys) ≡ length ys
unfolding zip_with
length_zip [] [] same = refl
length_zip [] (y ∷ ys) same = absurd (omega arith)
length_zip (x ∷ xs) [] same = absurd (omega arith)
length_zip (x ∷ xs) (y ∷ ys) same = ap suc (length_zip xs ys (omega arith))

sum_zip : (xs ys : List ℕ) → length xs ≡ length ys → sum (zip_with ◌+◌ xs ys) ≡ sum xs + sum ys
unfolding zip_with sum
sum_zip [] [] same = refl
sum_zip [] (y ∷ ys) same = absurd (omega arith)
sum_zip (x ∷ xs) [] same = absurd (omega arith)
sum_zip (x ∷ xs) (y ∷ ys) same = let rest : length xs ≡ length ys = omega arith in omega (arith, sum_zip xs ys rest)

zip_assoc : (xs ys zs : List ℕ) → zip_with ◌+◌ xs (zip_with ◌+◌ ys zs) ≡ zip_with ◌+◌ (zip_with ◌+◌ xs ys) zs
unfolding zip_with
zip_assoc [] ys zs = refl
zip_assoc (x ∷ xs) [] zs = refl
zip_assoc (x ∷ xs) (y ∷ ys) [] = refl
zip_assoc (x ∷ xs) (y ∷ ys) (z ∷ zs) = λ i. sym (add_assoc x y z) i ∷ zip_assoc xs ys zs i

-- the paid stakes of the rows are those of the game
pub paid_drawn : (g : DrawnGame) → paid_in g.rows.now g.game g.live ≡ sum (map (paid_stakes g.game (g.game + 1)) (keep (runs_in g.game) (drawn_tickets g)))
unfolding paid_in paid_at runs_in paid_stakes
paid_drawn g =
    ap sum (sym (map-map (λ t. cond (runs_in g.game t) (paid_stakes g.game (g.game + 1) t) 0) (ticket_in g.rows.now g.marks.now) (below g.live)))
    ∙ sym (sum_picked (paid_stakes g.game (g.game + 1)) (runs_in g.game) (drawn_tickets g))

module _ (g : DrawnGame) (before_six before_eight : Jackpot) where
  abbrev settled : Settled
  settled = settled_game g before_six before_eight

  abbrev drawn_prizes : List ℕ
  drawn_prizes = prizes_in g.game g.draw (drawn_tickets g)

  abbrev six_shares : List ℕ
  six_shares = (jackpot_part 6 g.game g.draw before_six (drawn_tickets g)).shares

  abbrev eight_shares : List ℕ
  eight_shares = (jackpot_part 8 g.game g.draw before_eight (drawn_tickets g)).shares

  places : length (drawn_tickets g) ≡ g.live
  places = length_table (ticket_in g.rows.now g.marks.now) g.live

  entries_count : length (entries_of g.game (drawn_tickets g)) ≡ length (keep (runs_in g.game) (drawn_tickets g))
  entries_count = length-map (keep (runs_in g.game) (drawn_tickets g)) (entry_of g.game)

  prizes_count : length drawn_prizes ≡ length (entries_of g.game (drawn_tickets g))
  unfolding prizes_in
  prizes_count = length-map (entries_of g.game (drawn_tickets g)) _

  six_count : length six_shares ≡ length (entries_of g.game (drawn_tickets g))
  six_count = jackpot_shares_count 6 _ g.draw before_six (entries_of g.game (drawn_tickets g))

  with_six_count : length (zip_with ◌+◌ drawn_prizes six_shares) ≡ length (entries_of g.game (drawn_tickets g))
  with_six_count = length_zip drawn_prizes six_shares (prizes_count ∙ sym six_count) ∙ six_count

  -- a settlement by the parts that the code finds
  pub record Parted : Type 0 where
    pub awards : settled.awards ≡ zip_with ◌+◌ (zip_with ◌+◌ drawn_prizes six_shares) eight_shares
    pub prizes : settled.prizes ≡ sum drawn_prizes
    pub shares : settled.shares ≡ sum six_shares + sum eight_shares
    pub contributions : settled.contributions ≡ (jackpot_part 6 g.game g.draw before_six (drawn_tickets g)).contributions + (jackpot_part 8 g.game g.draw before_eight (drawn_tickets g)).contributions
    pub seeds : settled.seeds ≡ (jackpot_part 6 g.game g.draw before_six (drawn_tickets g)).seed + (jackpot_part 8 g.game g.draw before_eight (drawn_tickets g)).seed
    pub repaid : settled.repaid ≡ (jackpot_part 6 g.game g.draw before_six (drawn_tickets g)).repaid + (jackpot_part 8 g.game g.draw before_eight (drawn_tickets g)).repaid
    pub six : settled.six ≡ (jackpot_part 6 g.game g.draw before_six (drawn_tickets g)).after
    pub eight : settled.eight ≡ (jackpot_part 8 g.game g.draw before_eight (drawn_tickets g)).after

  pub parted : Parted
  unfolding settle prizes_in
  parted =
      record {
        awards = zip_assoc drawn_prizes six_shares eight_shares;
        prizes = refl;
        shares = refl;
        contributions = refl;
        seeds = refl;
        repaid = refl;
        six = refl;
        eight = refl;
      }

  -- what the table holds while a game is settled, and that each of its figures fits
  module _ (room : settled.prizes + settled.shares < 2 ^ 62) {ways : List TicketWays} {prizes : List ℕ} (prized : Prized g ways prizes) where
    pub prizes_total : sum prizes ≡ settled.prizes
    prizes_total = spread_total g.game prizes drawn_prizes (drawn_tickets g) prized.prizes (prizes_count ∙ entries_count) ∙ sym parted.prizes

    pub prized_count : length prizes ≡ g.live
    prized_count = ap length prized.prizes ∙ length_spread g.game drawn_prizes (drawn_tickets g) ∙ places

    pub prizes_fit : (i : ℕ) → i < g.live → get_or prizes i 0 < 2 ^ 62
    prizes_fit i inside =
        omega (
          arith,
          room,
          spread_within g.game prizes drawn_prizes (drawn_tickets g) prized.prizes (prizes_count ∙ entries_count) i (omega (arith, places)),
          parted.prizes,
        )

    module _ {shared : List ℕ} {part : Part} (out : SharedOut g 6 before_six prizes shared part) where
      with_six : shared ≡ spread g.game (zip_with ◌+◌ drawn_prizes six_shares) (drawn_tickets g)
      with_six = out.joined drawn_prizes prizes_count prized.prizes

      pub six_fit : (i : ℕ) → i < g.live → get_or shared i 0 < 2 ^ 62
      six_fit i inside =
          omega (
            arith,
            room,
            spread_within g.game shared (zip_with ◌+◌ drawn_prizes six_shares) (drawn_tickets g) with_six (with_six_count ∙ entries_count) i (omega (arith, places)),
            sum_zip drawn_prizes six_shares (prizes_count ∙ sym six_count),
            parted.prizes,
            parted.shares,
          )

      pub awards_held : {awards : List ℕ} {last : Part} → SharedOut g 8 before_eight shared awards last → awards ≡ spread g.game settled.awards (drawn_tickets g)
      awards_held last =
          last.joined (zip_with ◌+◌ drawn_prizes six_shares) with_six_count with_six
          ∙ ap (λ (figures : List ℕ). spread g.game figures (drawn_tickets g)) (sym parted.awards)

-- each award of a settled game fits
module _ (m : Model) (draw : Draw) (table : List ℕ) where
  pub awards_fit : (settled_by draw m).prizes + (settled_by draw m).shares < 2 ^ 62 → (i : ℕ) → i < length m.live
      → take (length m.live) table ≡ spread m.game (settled_by draw m).awards m.live → get_or table i 0 < 2 ^ 62
  awards_fit room i inside held =
      omega (
        arith,
        room,
        get_or-take (length m.live) table i 0 inside,
        spread_within m.game (take (length m.live) table) (settled_by draw m).awards m.live held
            (awards_count draw m.six m.eight (entries_of m.game m.live) ∙ length-map (running_in m) (entry_of m.game)) i inside,
        awards_sum draw m.six m.eight (entries_of m.game m.live),
      )
