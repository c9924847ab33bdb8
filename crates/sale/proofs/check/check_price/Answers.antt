-- A row that refuses is the first to do so, and the charge that passes is within its limit.
use mathlib.Core.Path.{◌≡◌, refl, ap₂, ◌∙◌, sym}
use native.Mathlib.Omega.{arith}
use borrow.Author.Tests.{ltb-false}
use Rattle.std.proofs.lemmas.Result.{err_from_is_err_and}
use Rattle.sale.specs.Price.{game_price, charge}
use Rattle.sale.specs.Checks.{operands_of, charge_of}
use Rattle.sale.proofs.CheckLaws.{row_clear, refused_by_feature, refused_by_stake, refused_by_feature_stake, decided_by_charge, staked_or_none}
use Rattle.sale.proofs.check.check_price.Goals as goal

pub returns-in_err-check_feature : goal.returns-in_err-check_feature
returns-in_err-check_feature c = λ marks kind count.
    let o = operands_of c.args.sale marks in
    let p = err_from_is_err_and c.from_residual.result c.from_residual.ensures.1 in
    rw (p.1, p.2)
    (record { code = refused_by_feature o _ (c.in_err-check_feature.ensures o refl refl count); passed = tt })

pub returns-in_err-check_stake : goal.returns-in_err-check_stake
returns-in_err-check_stake c = λ marks kind count.
    let o = operands_of c.args.sale marks in
    let p = err_from_is_err_and c.from_residual-in_err-check_stake.result c.from_residual-in_err-check_stake.ensures.1 in
    rw (p.1, p.2)
    (record {
      code = refused_by_stake o (c.in_ok-check_feature.ensures o refl refl count) _ (c.in_err-check_stake.ensures o kind count refl);
      passed = tt;
    })

pub returns-in_err-check_feature_stake : goal.returns-in_err-check_feature_stake
returns-in_err-check_feature_stake c = λ marks kind count.
    let o = operands_of c.args.sale marks in
    let p = err_from_is_err_and c.from_residual-in_err-check_feature_stake.result c.from_residual-in_err-check_feature_stake.ensures.1 in
    rw (p.1, p.2)
    (record {
      code =
          refused_by_feature_stake o (c.in_ok-check_feature.ensures o refl refl count) (c.in_ok-check_stake.ensures o kind count refl) _
          (c.in_err-check_feature_stake.ensures o refl);
      passed = tt;
    })

pub returns-in_err-check_charge : goal.returns-in_err-check_charge
returns-in_err-check_charge c = λ marks kind count.
    let o = operands_of c.args.sale marks in
    let p = err_from_is_err_and c.from_residual-in_err-check_charge.result c.from_residual-in_err-check_charge.ensures.1 in
    let charged : c.charge_of-charge.result ≡ charge_of o =
    c.charge_of-charge.ensures
    ∙ ap₂ charge (ap₂ (game_price o.stake) count (c.unwrap_or.ensures ∙ staked_or_none o.feature)) c.paid_games-paid.ensures in
    rw (p.1, p.2)
    (record {
      code =
          decided_by_charge o (c.in_ok-check_feature.ensures o refl refl count) (c.in_ok-check_stake.ensures o kind count refl) _
          (c.in_ok-check_feature_stake.ensures o refl)
          (c.in_err-check_charge.ensures o charged);
      passed = tt;
    })

pub returns : goal.returns
returns c = λ marks kind count.
    let o = operands_of c.args.sale marks in
    let charged : c.charge_of-charge.result ≡ charge_of o =
    c.charge_of-charge.ensures
    ∙ ap₂ charge (ap₂ (game_price o.stake) count (c.unwrap_or.ensures ∙ staked_or_none o.feature)) c.paid_games-paid.ensures in
    let passed = c.in_ok-check_charge.ensures o charged in
    record {
      code =
          decided_by_charge o (c.in_ok-check_feature.ensures o refl refl count) (c.in_ok-check_stake.ensures o kind count refl) _
          (c.in_ok-check_feature_stake.ensures o refl)
          passed;
      passed =
          record {
            paid = c.paid_games-paid.ensures;
            charge = charged;
            within = ltb-false _ _ (row_clear _ 15 (omega arith) (sym passed));
          };
    }
