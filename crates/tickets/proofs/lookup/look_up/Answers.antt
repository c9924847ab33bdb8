-- `tickets::lookup::look_up` meets its contract: each return is one row of the table that Cancel and Claim begin with, or past them all, by the
-- laws of found tickets that stand at the function. The place among the live rows is asked for where their numbers rise, and they are at most 200.
use Prim.Native.Nat.{ℕ, ◌<◌}
use native.Mathlib.Omega.{arith}
use mathlib.Core.Path.{◌≡◌, sym, ◌∙◌, subst}
use mathlib.Core.List.{List, []}
use lib.ListN.{take}
use Rattle.std.specs.Prelude.{IfSome}
use Rattle.house.specs.View.{tickets_of, place_of}
use Rattle.tickets.proofs.FoundTickets.{rising_rows, row_place, look_up_live, live_ticket}
use Rattle.tickets.proofs.lookup.look_up.Goals as goal
use Rattle.tickets.proofs.lookup.look_up.Goals.{In_ok-place}

-- the place that is found is the number's, and a live ticket's
placed : (c : In_ok-place) (marks : List ℕ)
    → (c.in_ok-place.place ≡ place_of c.args.ticket (take c.args.house.now.live (tickets_of c.args.rows.now marks))) × (c.in_ok-place.place < c.args.house.now.live)
placed c marks =
    let among : ℕ → ℕ = λ number. place_of number (take c.args.house.now.live (tickets_of c.args.rows.now marks)) in
    subst (λ number. (c.in_ok-place.place ≡ among number) × (c.in_ok-place.place < c.args.house.now.live)) c.from-number.ensures
    (subst (λ found. IfSome found (λ place. (place ≡ among c.from-number.result) × (place < c.args.house.now.live))) c.in_ok-place.ensures.ok_part
    (c.place_of.ensures.found marks))

pub place_of-requires : goal.place_of-requires
place_of-requires c = rising_rows c.args.house.now c.args.rows.now c.requires

pub read_row-row-requires : goal.read_row-row-requires
read_row-row-requires c =
    let at = placed (goal.at.read_row-row-requires c).In_ok-place [] in
    record { within = omega (arith, (rising_rows c.args.house.now c.args.rows.now c.requires).few, at.1) }

pub returns-clause-code : goal.returns-clause-code
returns-clause-code c = λ marks.
    let args = c.args in
    let at = placed (goal.at.returns-clause-code c).In_ok-place marks in
    look_up_live args.house.now args.rows.now marks args.ticket c.if-house-eq0.false
    (λ none. c.if-number-eq0.false (c.from-number.ensures ∙ none))
    c.requires
    (omega (arith, c.from-number.ensures, c.if-house-number.false))
    (subst (λ place. place < args.house.now.live) at.0 at.1)

pub returns-clause-place : goal.returns-clause-place
returns-clause-place c = λ marks.
    (placed (goal.at.returns-clause-place c).In_ok-place marks).0 ∙ sym (row_place c.args.house.now c.args.rows.now marks c.args.ticket c.requires)

pub returns-clause-row : goal.returns-clause-row
returns-clause-row c = λ marks.
    let at = placed (goal.at.returns-clause-row c).In_ok-place marks in
    live_ticket c.args.house.now c.args.rows.now marks c.args.ticket _ _ c.requires at.0 at.1 c.read_row-row.ensures
