-- `settlement::payouts::pay_raised` meets its contract: each turn pays one ticket, whose major prizes stand in the table behind those of the tickets
-- before it.
use Prim.Native.Nat.{ℕ, ◌+◌, ◌-◌, ◌<◌}
use mathlib.Core.Path.{◌≡◌, sym, ap, ◌∙◌}
use mathlib.Core.List.{List, [], map}
use native.Mathlib.Omega.{arith}
use lib.ListN.{length, get_or, take, drop}
use Rattle.sale.specs.Lists.{sum, keep}
use Rattle.prizes.specs.Prize.{is_major, major_floor}
use Rattle.prizes.specs.Cut.{payout}
use Rattle.prizes.specs.Rounds.{pay_under}
use Rattle.prizes.specs.declared.cut.Cut.{Cut}
use Rattle.settlement.specs.Passing.{no_ways, sure_cents, all_majors, Cutting}
use Rattle.settlement.specs.declared.ways.TicketWays.{TicketWays}
use Rattle.settlement.proofs.PassSteps.{ways_count, start_next, raise_asks, raise_gives, paid_small, Raising, raising_none, sure_at, raising_more, raising_all}
use Rattle.settlement.proofs.payouts.pay_raised.Goals as goal

pub loop-i-init : goal.loop-i-init
loop-i-init c pss k = raising_none pss c.args.ways.now c.args.majors.now.prizes c.args.cut k c.requires.places

-- where a ticket's major prizes begin and end, and what it is paid, for the prizes of any tickets that the table is of
module _ {pss : List (List ℕ)} {ways : List TicketWays} {majors : List ℕ} {cut : Cut} (k : Cutting pss ways majors cut)
    {i from : ℕ} {paid : List ℕ} (turn : Raising pss ways majors cut k i paid from) (inside : i < length ways) where
  placed : i < length pss
  placed = omega (arith, ways_count pss ways majors cut k)

  ends_at : (get_or ways i no_ways).majors ≡ from + length (keep is_major (get_or pss i []))
  ends_at = start_next pss ways majors cut k i placed ∙ ap (λ n. n + length (keep is_major (get_or pss i []))) (sym turn.place)

  own_many : (get_or ways i no_ways).majors - from ≡ length (keep is_major (get_or pss i []))
  own_many = omega (arith, ends_at)

  raised : {cents : ℕ} → cents ≡ sum (map (λ p. pay_under cut p - major_floor) (take ((get_or ways i no_ways).majors - from) (drop from majors)))
      → (get_or ways i no_ways).found.sure + cents ≡ sum (map (payout (all_majors pss)) (get_or pss i []))
  raised {cents} raise =
      ap (λ n. n + cents) (sure_at pss ways majors cut k i placed)
      ∙ ap (λ n. sure_cents (get_or pss i []) + n) raise
      ∙ raise_gives pss ways majors cut k i placed turn.place own_many

pub overflow_sub-end : goal.overflow_sub-end
overflow_sub-end c =
    let given = c.requires.cut in
    omega (arith, ends_at given.cutting (c.loop-i.invariant given.prizes given.cutting) (omega arith))

pub raise-requires : goal.raise-requires
raise-requires c =
    let args = c.args in
    let given = c.requires.cut in
    let turn = c.loop-i.invariant given.prizes given.cutting in
    let inside : c.loop-i.i < length args.ways.now = omega (arith, c.requires.places) in
    raise_asks given.prizes args.ways.now args.majors.now.prizes args.cut given.cutting c.loop-i.i
    (placed given.cutting turn inside) turn.place (own_many given.cutting turn inside)

pub overflow_add-paid : goal.overflow_add-paid
overflow_add-paid c =
    let args = c.args in
    let given = c.requires.cut in
    let turn = c.loop-i.invariant given.prizes given.cutting in
    let inside : c.loop-i.i < length args.ways.now = omega (arith, c.requires.places) in
    record {
      fits = omega (
        arith,
        raised given.cutting turn inside c.raise.ensures,
        paid_small given.prizes args.ways.now args.majors.now.prizes args.cut given.cutting c.loop-i.i (placed given.cutting turn inside),
      );
    }

pub loop-i-preserved : goal.loop-i-preserved
loop-i-preserved c pss k =
    let args = c.args in
    let turn = c.loop-i.invariant pss k in
    let inside : c.loop-i.i < length args.ways.now = omega (arith, c.requires.places) in
    raising_more pss args.ways.now args.majors.now.prizes args.cut k turn (placed k turn inside) (raised k turn inside c.raise.ensures)

pub returns : goal.returns
returns c pss k =
    let args = c.args in
    raising_all pss args.ways.now args.majors.now.prizes args.cut k (c.loop-i.invariant pss k) (omega (arith, c.requires.places, c.loop-i-test.false))
