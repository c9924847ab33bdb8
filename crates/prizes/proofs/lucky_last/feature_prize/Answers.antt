-- `feature_prize` meets its contract: the last ball's mark, and the cents for the numbers that the word tells.
use mathlib.Core.Path.{◌≡◌, sym, ap, ◌∙◌}
use mathlib.Core.Bool.{not}
use mathlib.Core.List.{List}
use Prim.Native.Nat.{ℕ, ◌*◌, ◌/◌, ◌≤◌, ◌<◌, ◌^◌}
use native.Mathlib.Nat.{mul-le-mul}
use native.Mathlib.Omega.{arith}
use lib.Dec.{eqb}
use borrow.Author.Tests.{eq-eqb, ne_eqb}
use Rattle.sale.specs.Lists.{sum}
use Rattle.prizes.specs.Found.{word_bytes}
use Rattle.prizes.specs.Bounds.{KeptSizes}
use Rattle.prizes.specs.LuckyLast.{lucky_last_cents, numbers_marked}
use Rattle.prizes.proofs.LuckyLastLaws.{numbers_of_word, last_missed, last_hit, cents_most}
use Rattle.prizes.proofs.lucky_last.feature_prize.Goals as goal

product_fits : {cents dollars : ℕ} → cents ≤ 6000 → dollars ≤ 42949672 → cents * dollars < 2 ^ 64
product_fits few some = omega (arith, mul-le-mul few some)

-- the cents for the numbers of the word are those for the numbers marked
cents_by : (marks : List ℕ) (word : ℕ) {cents numbers : ℕ} → KeptSizes word marks → cents ≡ lucky_last_cents numbers
    → numbers ≡ sum (word_bytes 8 word) → cents ≡ lucky_last_cents (numbers_marked marks)
cents_by marks word kept e n = e ∙ ap lucky_last_cents (n ∙ numbers_of_word marks kept)

pub returns-then-mark_of-eq0 : goal.returns-then-mark_of-eq0
returns-then-mark_of-eq0 c =
    sym
    (last_missed c.args.draw c.args.marks.now c.args.stake
    (ap (λ m. not (eqb m 0)) (sym c.mark_of.ensures) ∙ ap not (eq-eqb _ 0 c.if-mark_of-eq0.true)))

pub overflow_mul-result : goal.overflow_mul-result
overflow_mul-result c =
    let e = cents_by c.args.marks.now c.args.word c.requires c.cents_for.ensures c.numbers_in.ensures in
    let few : c.cents_for.result ≤ 6000 = omega (arith, e, cents_most (numbers_marked c.args.marks.now)) in
    record { fits = product_fits few (omega arith) }

pub returns : goal.returns
returns c =
    ap (λ n. n * (c.args.stake / 100)) (cents_by c.args.marks.now c.args.word c.requires c.cents_for.ensures c.numbers_in.ensures)
    ∙ sym
    (last_hit c.args.draw c.args.marks.now c.args.stake
    (ap (λ m. not (eqb m 0)) (sym c.mark_of.ensures) ∙ ap not (ne_eqb _ 0 c.if-mark_of-eq0.false)))
