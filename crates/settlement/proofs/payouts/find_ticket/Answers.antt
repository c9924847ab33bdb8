-- `settlement::payouts::find_ticket` meets its contract: the row says whether the ticket runs; its words fit the terms, and its word of sizes is that of
-- its marks.
use Prim.Native.Nat.{ℕ}
use mathlib.Core.Path.{sym, ◌∙◌, subst}
use mathlib.Core.List.{List}
use Rattle.sale.specs.Bounds.{Sound, Grouping}
use Rattle.prizes.specs.Found.{GroupsOf}
use Rattle.house.specs.View.{marks_at, ticket_from}
use Rattle.house.proofs.Bounded.{terms_sound}
use Rattle.settlement.specs.Passing.{FoundAt}
use Rattle.house.specs.declared.rows.Row.{Row}
use Rattle.settlement.proofs.PassSteps.{row_narrow, ticket_rests, ticket_runs}
use Rattle.settlement.proofs.payouts.find_ticket.Goals as goal

pub returns-then-not-runs_in : goal.returns-then-not-runs_in
returns-then-not-runs_in c =
    let args = c.args in
    let game = args.game.now in
    let own = marks_at game.marks.now args.i in
    subst (λ (w : Row). FoundAt game.game game.draw (ticket_from w own) args.majors.now (record { sure = 0; full = 0 }) args.majors.now)
    c.row-row.ensures.read
    (ticket_rests c.row-row.result own game.game game.draw args.majors.now
    (sym (c.runs_in.ensures own) ∙ c.if-not-runs_in.true))

pub of-groups-requires : goal.of-groups-requires
of-groups-requires c = subst Grouping (sym c.marks_of.ensures) c.row-row.ensures.sold.playable.marks

pub row_terms-requires : goal.row_terms-requires
row_terms-requires c =
    row_narrow c.row-row.result (marks_at c.args.game.now.marks.now c.args.i) c.row-row.ensures.sold.playable

pub ticket_prizes-requires-clause-sound : goal.ticket_prizes-requires-clause-sound
ticket_prizes-requires-clause-sound c =
    let own = marks_at c.args.game.now.marks.now c.args.i in
    subst Sound (sym c.row_terms.ensures) (terms_sound (ticket_from c.row-row.result own).operands c.row-row.ensures.sold.playable)

pub returns : goal.returns
returns c =
    let args = c.args in
    let game = args.game.now in
    let row = c.row-row.result in
    let own = marks_at game.marks.now args.i in
    -- the table is that of the ticket's own marks
    let grouped = subst (λ (l : List ℕ). GroupsOf row.sizes game.draw l c.of-groups.result.pairs) c.marks_of.ensures c.of-groups.ensures in
    subst (λ (w : Row). FoundAt game.game game.draw (ticket_from w own) args.majors.now c.ticket_prizes.result c.ticket_prizes.new.majors)
    c.row-row.ensures.read
    (ticket_runs row own game.game game.draw args.majors.now (sym (c.runs_in.ensures own) ∙ c.if-not-runs_in.false)
    c.row-row.ensures.sold c.row_terms.ensures grouped c.ticket_prizes.ensures)
