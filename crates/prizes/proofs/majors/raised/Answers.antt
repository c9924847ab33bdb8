-- `majors::raised` meets its contract: each prize that its closure is given is one of the list, which is paid the floor at the least, and the iterator's
-- sum is that of the list.
use mathlib.Core.Path.{◌≡◌, sym, ◌∙◌, subst}
use mathlib.Core.List.{List, Memᴰ}
use Prim.Native.Nat.{ℕ, ◌-◌, ◌≤◌, ◌<◌, ◌^◌}
use lib.ListN.{length, get_or}
use Rattle.std.proofs.Common.{rules}
use Rattle.std.proofs.lemmas.Iterator.{YieldsList-from_slice, YieldsList-from_map}
use Rattle.std.proofs.lemmas.Iterator.Adapters.{serves_from_places}
use Rattle.std.proofs.lemmas.Iterator.Consumers.{sum_by_from_yields_List, fits_by_from_yields_list}
use Rattle.prizes.specs.Prize.{major_floor}
use Rattle.prizes.specs.Rounds.{pay_under}
use Rattle.prizes.proofs.MajorLaws.{member_at, sum_raised, raised_fits}
use Rattle.prizes.proofs.majors.raised.Goals as goal

member_of : {xs : List ℕ} {x k : ℕ} → k < length xs → x ≡ get_or xs k x → Memᴰ x xs
member_of {xs} {x} {k} inside same = subst (λ p. Memᴰ p xs) (sym same) (member_at xs k x inside)

pub sum-requires-clause-can : goal.sum-requires-clause-can
sum-requires-clause-can c = (
  tt,
  serves_from_places (YieldsList-from_slice c.args.prizes.now cc) (λ x q r. search rules)
      (λ x k inside same.
      let m = member_of inside same in
      let floor : major_floor ≤ pay_under c.args.cut x.now = c.requires.least _ m in
      (λ _ _ _ _ _ _ _. record { small = c.requires.small _ m }, λ _ _ _ _ _ _ payout. search (rules, floor))),
)

pub sum-requires-clause-fits : goal.sum-requires-clause-fits
sum-requires-clause-fits c =
    fits_by_from_yields_list (λ p. pay_under c.args.cut p - major_floor) c.args.prizes.now _ (2 ^ 64)
    (YieldsList-from_map _ _ (YieldsList-from_slice c.args.prizes.now cc) c.map.ensures.closure (λ x r q k. search rules))
    (raised_fits c.requires)

pub returns : goal.returns
returns c =
    sum_by_from_yields_List (λ p. pay_under c.args.cut p - major_floor) c.args.prizes.now _ _ c.sum.ensures.ran
    (YieldsList-from_map _ _ (YieldsList-from_slice c.args.prizes.now cc) c.map.ensures.closure (λ x r q k. search rules))
    ∙ sym (sum_raised c.args.cut c.args.prizes.now)
