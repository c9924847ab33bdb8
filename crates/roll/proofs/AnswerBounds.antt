-- What a house answers fits its record's bytes, a refusal as well, which has a code and nothing else.
use native.Mathlib.Omega.{arith}
use mathlib.Core.Path.{◌≡◌, refl}
use mathlib.Core.Bool.{Bool, true, false}
use lib.Dec.{eqb}
use borrow.Author.Tests.{eqb-true, eqb-false}
use Rattle.house.specs.Model.{Model}
use Rattle.house.specs.Commands.{Command, replies, code_of, step}
use Rattle.house.specs.Balance.{Reached}
use Rattle.house.proofs.EachCommand.{Shown, ShortDay}
use Rattle.house.proofs.Reliance.{refused_unchanged, accepted_done}
use Rattle.house.proofs.Theorem.{reply_shown}

pub answer_shown : (m : Model) (c : Command) → Reached m → ShortDay c → Shown (replies (step m c).answer.number (step m c).answer.cents)
answer_shown m c reached short = go (eqb (code_of m c) 0) refl
  where
    go : (accepted : Bool) → eqb (code_of m c) 0 ≡ accepted → Shown (replies (step m c).answer.number (step m c).answer.cents)
    go true e =
        let code = eqb-true (code_of m c) 0 e in
        rw (accepted_done m c code).1 (reply_shown m c reached short code)
    go false e = rw (refused_unchanged m c (eqb-false (code_of m c) 0 e)).1 (omega arith)
