-- `commands::open::open_day` meets its contract: each return is one row of Open's table, or past both.
use Prim.Native.Nat.{ℕ}
use native.Mathlib.Omega.{arith}
use mathlib.Core.Path.{◌≡◌, refl, ap}
use mathlib.Core.Bool.{cond, not}
use mathlib.Core.List.{List}
use lib.Dec.{leb, eqb}
use Rattle.std.proofs.lemmas.Bool.Decides.{nat_tests}
use Rattle.sale.specs.Checks.{first_met}
use Rattle.house.specs.Commands.{open', rows_of, code_of, opened, act, reply}
use Rattle.house.specs.View.{view}
use Rattle.house.specs.declared.state.House.{House}
use Rattle.house.proofs.ViewLaws.{carried_refused, carried_done, view_drawing}
use Rattle.commands.proofs.open.open_day.Goals as goal

open_code :
    (h : House) (words marks : List ℕ) (d : ℕ)
    → code_of (view h words marks) (open' d) ≡ cond (leb d h.day) 5 (cond (not (eqb h.drawn 0)) 6 0)
unfolding code_of rows_of first_met view
open_code h words marks d = ap (λ drawing. cond (leb d h.day) 5 (cond drawing 6 0)) (view_drawing h words marks)

pub returns-then-today-house : goal.returns-then-today-house
returns-then-today-house c words marks =
    let args = c.args in
    let code : code_of (view args.house.now words marks) (open' args.day) ≡ 5 = grind (arith, nat_tests, open_code args.house.now words marks args.day) in
    carried_refused args.house.now words marks (open' args.day) 5 _ _ code (omega arith) refl refl

pub returns-then-house-ne0 : goal.returns-then-house-ne0
returns-then-house-ne0 c words marks =
    let args = c.args in
    let code : code_of (view args.house.now words marks) (open' args.day) ≡ 6 = grind (arith, nat_tests, open_code args.house.now words marks args.day) in
    carried_refused args.house.now words marks (open' args.day) 6 _ _ code (omega arith) refl refl

pub returns : goal.returns
unfolding act reply opened view
returns c words marks =
    let args = c.args in
    let code : code_of (view args.house.now words marks) (open' args.day) ≡ 0 = grind (arith, nat_tests, open_code args.house.now words marks args.day) in
    let day = c.from-today.ensures in
    let number = c.from.ensures in
    carried_done args.house.now words marks (open' args.day) _ words marks _ code (ap (λ d. view (record args.house.now { day = d }) words marks) day)
    (λ i. record { code = 0; number = number i; cents = 0 })
