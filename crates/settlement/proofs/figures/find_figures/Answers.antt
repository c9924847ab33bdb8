-- `settlement::figures::find_figures` meets its contract: each turn adds one row's figures, and each total is that of the rows passed, within so many
-- of the most that one row adds.
use Prim.Native.Nat.{ℕ, ◌+◌, ◌*◌, ◌<◌, ◌^◌}
use mathlib.Core.Bool.{cond}
use lib.Dec.{eqb}
use mathlib.Core.Path.{◌≡◌, sym, ap, ◌∙◌, subst⁻¹}
use mathlib.Core.List.{List}
use native.Mathlib.Omega.{arith}
use borrow.Author.Rules.{rules}
use Rattle.std.specs.List as List_std
use Rattle.prizes.specs.Jackpots.{winning_stake}
use Rattle.house.specs.Tickets.{runs_in, paid_stakes}
use Rattle.house.specs.declared.rows.Row.{Row}
use Rattle.sale.specs.Kinds.{number_of}
use Rattle.sale.specs.declared.terms.JackpotKind.{JackpotKind}
use Rattle.sale.specs.declared.terms.JackpotKind.TheVariants.{Six, Eight}
use Rattle.settlement.specs.declared.figures.Stakes.{Stakes}
use lib.ListN.{length, get_or}
use Rattle.prizes.proofs.MajorLaws.{sum_std}
use Rattle.house.specs.View.{row_at, ticket_from, Affordable}
use Rattle.settlement.specs.Passing.{full_of, no_ways}
use Rattle.settlement.specs.Sharing.{winner_from, figures_of, paid_at, paid_in, stakes_of, Entered}
use Rattle.settlement.specs.Drawn.{Matched}
use Rattle.settlement.specs.declared.drawn_game.DrawnGame.{DrawnGame}
use Rattle.settlement.specs.declared.ways.TicketWays.{TicketWays}
use Rattle.settlement.proofs.SharingLaws.{paid_of_row, paid_none, paid_more, paid_within, paid_at_within, no_stakes, paid_room, winning_room, stakes_next, full_here, matched_count, entered}
use Rattle.settlement.proofs.figures.find_figures.Goals as goal

pub loop-i-init : goal.loop-i-init
loop-i-init c =
    let game = c.args.game.now in
    record {
      stakes = sym (paid_none game.rows.now game.game);
      six = c.none-six.ensures ∙ sym (no_stakes game.rows.now (full_of c.args.ways.now) game.game Six);
      eight = c.none-eight.ensures ∙ sym (no_stakes game.rows.now (full_of c.args.ways.now) game.game Eight);
    }

-- the turn at a place of the table
module _ (g : DrawnGame) (ways : List TicketWays) (matches : Matched g ways) (i : ℕ) (placed : i < length ways) (row : Row) (read : row ≡ row_at g.rows.now i)
    (own : ℕ) (told : (marks : List ℕ) → own ≡ cond (runs_in g.game (ticket_from row marks)) (paid_stakes g.game (g.game + 1) (ticket_from row marks)) 0) where
  entries : Entered g.rows.now (full_of ways) g.live
  entries = entered g (full_of ways) matches

  inside : i < g.live
  inside = omega (arith, matched_count g ways matches)

  affordable : Affordable row
  affordable = subst⁻¹ Affordable read (entries.within i inside)

  paid : own ≡ paid_at g.rows.now g.game i
  paid = paid_of_row g.rows.now g.game i row read own told

  matched : (get_or ways i no_ways).found.full ≡ get_or (full_of ways) i 0
  matched = sym (full_here g.rows.now ways i placed)

  more_stakes : (stakes : ℕ) → stakes ≡ paid_in g.rows.now g.game i → stakes + own < 2 ^ 64
  more_stakes stakes held =
      omega (
        arith,
        paid,
        inside,
        entries.few,
        paid_within g.rows.now g.game (full_of ways) g.live entries i (omega (arith, inside)),
        paid_at_within g.rows.now g.game i (entries.within i inside),
      )

  module _ (j : JackpotKind) (s : Stakes) (held : s ≡ stakes_of g.rows.now (full_of ways) g.game j i) where
    room : record { paid : s.paid + own < 2 ^ 64; winning : s.winning + (get_or ways i no_ways).found.full * row.stake < 2 ^ 64 }
    room =
        record {
          paid = paid_room g.rows.now (full_of ways) g.game j i s held read paid matched g.live entries inside;
          winning = winning_room g.rows.now (full_of ways) g.game j i s held read paid matched g.live entries inside;
        }

    next : (r : Stakes) → r.jackpot ≡ s.jackpot → r.paid ≡ s.paid + cond (eqb row.jackpot (number_of s.jackpot)) own 0
        → r.winning ≡ s.winning + winning_stake (winner_from row (get_or ways i no_ways).found.full (number_of s.jackpot))
        → r ≡ stakes_of g.rows.now (full_of ways) g.game j (i + 1)
    next = stakes_next g.rows.now (full_of ways) g.game j i s held read paid matched

pub row-row-requires : goal.row-row-requires
row-row-requires c = omega (arith, matched_count c.args.game.now c.args.ways.now c.requires.matches)

pub paid_for-own-requires : goal.paid_for-own-requires
paid_for-own-requires c =
    subst⁻¹ Affordable c.row-row.ensures.read
    ((entered c.args.game.now (full_of c.args.ways.now) c.requires.matches).within c.loop-i.i (omega (arith, matched_count c.args.game.now c.args.ways.now c.requires.matches)))

pub overflow_add-stakes : goal.overflow_add-stakes
overflow_add-stakes c =
    record {
      fits = more_stakes c.args.game.now c.args.ways.now c.requires.matches c.loop-i.i c.loop-i-test.true c.row-row.result c.row-row.ensures.read
          c.paid_for-own.result c.paid_for-own.ensures c.loop-i.stakes c.loop-i.invariant.stakes;
    }

pub with_ticket-six-requires : goal.with_ticket-six-requires
with_ticket-six-requires c =
    room c.args.game.now c.args.ways.now c.requires.matches c.loop-i.i c.loop-i-test.true c.row-row.result c.row-row.ensures.read
    c.paid_for-own.result c.paid_for-own.ensures Six c.loop-i.six c.loop-i.invariant.six

pub with_ticket-eight-requires : goal.with_ticket-eight-requires
with_ticket-eight-requires c =
    room c.args.game.now c.args.ways.now c.requires.matches c.loop-i.i c.loop-i-test.true c.row-row.result c.row-row.ensures.read
    c.paid_for-own.result c.paid_for-own.ensures Eight c.loop-i.eight c.loop-i.invariant.eight

pub loop-i-preserved : goal.loop-i-preserved
loop-i-preserved c =
    let game = c.args.game.now in
    let turn = c.loop-i in
    let own = paid_of_row game.rows.now game.game turn.i c.row-row.result c.row-row.ensures.read c.paid_for-own.result c.paid_for-own.ensures in
    let six = c.with_ticket-six in
    let eight = c.with_ticket-eight in
    record {
      stakes = omega (arith, turn.invariant.stakes, own, paid_more game.rows.now game.game turn.i);
      six = next game c.args.ways.now c.requires.matches turn.i c.loop-i-test.true c.row-row.result c.row-row.ensures.read
          c.paid_for-own.result c.paid_for-own.ensures Six turn.six turn.invariant.six six.result six.ensures.same six.ensures.paid six.ensures.winning;
      eight = next game c.args.ways.now c.requires.matches turn.i c.loop-i-test.true c.row-row.result c.row-row.ensures.read
          c.paid_for-own.result c.paid_for-own.ensures Eight turn.eight turn.invariant.eight eight.result eight.ensures.same eight.ensures.paid eight.ensures.winning;
    }

pub returns : goal.returns
returns c =
    let game = c.args.game.now in
    let turn = c.loop-i in
    let total : c.sum-prizes.result ≡ List_std.sum c.args.paid.now = search rules in
    let done : turn.i ≡ game.live = omega (arith, matched_count game c.args.ways.now c.requires.matches, turn.auto.i-end, c.loop-i-test.false) in
    (λ k. record { prizes = (total ∙ sym (sum_std c.args.paid.now)) k; stakes = turn.invariant.stakes k; six = turn.invariant.six k; eight = turn.invariant.eight k })
    ∙ ap (figures_of game.rows.now c.args.paid.now (full_of c.args.ways.now) game.game) done
