-- `settlement::features::feature_at` meets its contract: the row says whether there is a feature and whether the ticket runs; its word of sizes is that of
-- its marks.
use mathlib.Core.Path.{◌≡◌, sym, ap, ◌∙◌, subst}
use mathlib.Core.List.{List}
use Prim.Native.Nat.{ℕ}
use Rattle.prizes.specs.Bounds.{KeptSizes}
use Rattle.prizes.specs.LuckyLast.{lucky_last_prize}
use Rattle.prizes.specs.declared.draw.Draw.{Draw}
use Rattle.house.specs.View.{marks_at, ticket_from}
use Rattle.house.specs.declared.rows.Row.{Row}
use Rattle.settlement.specs.Settling.{feature_at}
use Rattle.settlement.proofs.FeatureLaws.{feature_narrow, kept_sizes, feature_rests, feature_runs}
use Rattle.settlement.proofs.features.feature_at.Goals as goal

-- what is told of the row that was read is told of the ticket
by_row : {w v : Row} (own : List ℕ) (game : ℕ) (draw : Draw) {cents : ℕ}
    → w ≡ v
    → cents ≡ feature_at game draw (ticket_from w own)
    → cents ≡ feature_at game draw (ticket_from v own)
by_row own game draw read told = told ∙ ap (λ (r : Row). feature_at game draw (ticket_from r own)) read

pub returns-then-not-runs_in : goal.returns-then-not-runs_in
returns-then-not-runs_in c =
    let game = c.args.game.now in
    let own = marks_at game.marks.now c.args.i in
    by_row own game.game game.draw c.row-row.ensures.read
    (feature_rests c.row-row.result own game.game game.draw (sym (c.runs_in.ensures own) ∙ c.if-not-runs_in.true))

pub overflow_cast-row : goal.overflow_cast-row
overflow_cast-row c =
    record { fits = feature_narrow c.row-row.result (marks_at c.args.game.now.marks.now c.args.i) c.row-row.ensures.sold.playable }

pub feature_prize-requires : goal.feature_prize-requires
feature_prize-requires c =
    let own = marks_at c.args.game.now.marks.now c.args.i in
    subst (KeptSizes c.row-row.result.sizes) (sym c.marks_of.ensures) (kept_sizes c.row-row.result own c.row-row.ensures.sold)

pub returns : goal.returns
returns c =
    let game = c.args.game.now in
    let own = marks_at game.marks.now c.args.i in
    by_row own game.game game.draw c.row-row.ensures.read
    (c.feature_prize.ensures
    ∙ ap (λ (l : List ℕ). lucky_last_prize game.draw l c.row-row.result.feature) c.marks_of.ensures
    ∙ feature_runs c.row-row.result own game.game game.draw (sym (c.runs_in.ensures own) ∙ c.if-not-runs_in.false))
