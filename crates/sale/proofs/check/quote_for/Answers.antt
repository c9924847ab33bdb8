-- A stage that refuses is the first to do so, and what the stages tell is what the quote is to have.
use mathlib.Core.Path.{◌≡◌, sym, ap, ◌∙◌}
use native.Mathlib.Omega.{arith}
use Rattle.std.proofs.lemmas.Result.{err_from_is_err_and}
use Rattle.sale.specs.Kinds.{kind_of}
use Rattle.sale.specs.Ways.{sizes, size_word}
use Rattle.sale.specs.Checks.{Operands, operands_of, way_count}
use Rattle.sale.specs.Passes.{LookedAt}
use Rattle.sale.specs.declared.terms.Kind.{Kind}
use Rattle.sale.specs.declared.survey.Survey.{Survey}
use Rattle.sale.proofs.CheckLaws.{refused_by_marks, refused_by_ways, decided_by_price}
use Rattle.sale.proofs.WayLaws.{ways_few}
use Rattle.sale.proofs.SurveyLaws.{surveyed_count}
use Rattle.sale.proofs.check.quote_for.Goals as goal

counted : (o : Operands) {k : Kind} {seen : Survey} → LookedAt o k seen → seen.count ≡ way_count o
counted o looked = ap (λ (v : Survey). v.count) looked.survey ∙ surveyed_count o.groups o.types (sizes o.marks)

pub returns-in_err-sizes-clause-code : goal.returns-in_err-sizes-clause-code
returns-in_err-sizes-clause-code c =
    let p = err_from_is_err_and c.from_residual.result c.from_residual.ensures.1 in
    rw (p.1, p.2) (refused_by_marks _ _ c.in_err-sizes.ensures.code)

pub returns-in_err-survey-clause-code : goal.returns-in_err-survey-clause-code
returns-in_err-survey-clause-code c =
    let p = err_from_is_err_and c.from_residual-in_err-survey.result c.from_residual-in_err-survey.ensures.1 in
    let checked = c.in_err-survey.ensures c.args.marks.now c.in_ok-sizes.ensures.passed c.from-kind.ensures in
    rw (p.1, p.2) (refused_by_ways _ c.in_ok-sizes.ensures.code _ checked.code)

pub check_price-requires : goal.check_price-requires
check_price-requires c =
    let marked = c.in_ok-sizes.ensures.passed in
    let looked = (c.in_ok-survey.ensures c.args.marks.now marked c.from-kind.ensures).passed in
    record { few = rw (counted (operands_of c.args.sale c.args.marks.now) looked) (ways_few _ marked.groups.few) }

pub returns-in_err-price-clause-code : goal.returns-in_err-price-clause-code
returns-in_err-price-clause-code c =
    let p = err_from_is_err_and c.from_residual-in_err-price.result c.from_residual-in_err-price.ensures.1 in
    let o = operands_of c.args.sale c.args.marks.now in
    let checked = c.in_ok-survey.ensures c.args.marks.now c.in_ok-sizes.ensures.passed c.from-kind.ensures in
    let priced = c.in_err-price.ensures c.args.marks.now c.from-kind.ensures (counted o checked.passed) in
    rw (p.1, p.2) (decided_by_price o c.in_ok-sizes.ensures.code _ checked.code priced.code)

pub overflow_cast-result : goal.overflow_cast-result
overflow_cast-result c =
    let o = operands_of c.args.sale c.args.marks.now in
    let looked = (c.in_ok-survey.ensures c.args.marks.now c.in_ok-sizes.ensures.passed c.from-kind.ensures).passed in
    let told = (c.in_ok-price.ensures c.args.marks.now c.from-kind.ensures (counted o looked)).passed in
    omega (arith, told.charge, told.within)

pub returns-clause-code : goal.returns-clause-code
returns-clause-code c =
    let o = operands_of c.args.sale c.args.marks.now in
    let checked = c.in_ok-survey.ensures c.args.marks.now c.in_ok-sizes.ensures.passed c.from-kind.ensures in
    let priced = c.in_ok-price.ensures c.args.marks.now c.from-kind.ensures (counted o checked.passed) in
    decided_by_price o c.in_ok-sizes.ensures.code _ checked.code priced.code

pub returns-clause-quote : goal.returns-clause-quote
returns-clause-quote c =
    let o = operands_of c.args.sale c.args.marks.now in
    let marked = c.in_ok-sizes.ensures.passed in
    let looked = (c.in_ok-survey.ensures c.args.marks.now marked c.from-kind.ensures).passed in
    let told = (c.in_ok-price.ensures c.args.marks.now c.from-kind.ensures (counted o looked)).passed in
    λ i.
    record {
      ways = counted o looked i;
      paid = told.paid i;
      charge = told.charge i;
      jackpot =
          c.jackpot.ensures
          (record { kind = kind_of o.kind; games = o.games; stake = o.stake; groups = o.groups; types = o.types })
          (sizes o.marks)
          (sym looked.kind)
          looked.survey
          i;
      sizes = (c.size_word.ensures ∙ ap size_word marked.same) i;
    }
