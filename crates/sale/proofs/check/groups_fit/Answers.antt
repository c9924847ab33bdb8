-- Each of the two tests is std's, of every mark and of every group's size.
use mathlib.Core.Path.{◌≡◌, sym, ◌∙◌}
use mathlib.Core.Bool.{not}
use lib.Dec.{leb, eqb}
use lib.ListN.{take}
use borrow.Author.Rules.{rules}
use Rattle.std.proofs.Common.{tests}
use Rattle.std.proofs.lemmas.Iterator.{YieldsList-from_slice}
use Rattle.std.proofs.lemmas.Iterator.Search.{all_from_yields_List}
use Rattle.sale.specs.Lists.{every}
use Rattle.sale.proofs.CheckLaws.{list_all_every}
use Rattle.sale.proofs.check.groups_fit.Goals as goal

pub returns-then-all : goal.returns-then-all
returns-then-all c =
    let marks = c.args.marks.now in
    let sizes = take c.args.groups c.args.sizes in
    let within : c.all.result ≡ every (λ m. leb m c.args.groups) marks =
    all_from_yields_List (λ m. leb m c.args.groups) _ _ _ c.all.ensures.ran (YieldsList-from_slice marks cc) (λ x b q k. search (rules, tests))
    ∙ list_all_every (λ m. leb m c.args.groups) marks in
    let some : c.all-then-all.result ≡ every (λ n. not (eqb n 0)) sizes =
    all_from_yields_List (λ n. not (eqb n 0)) _ _ _ c.all-then-all.ensures.ran (YieldsList-from_slice sizes cc) (λ x b q k. search (rules, tests))
    ∙ list_all_every (λ n. not (eqb n 0)) sizes in
    rw (sym within ∙ c.if-all.true) some

pub returns-else-all : goal.returns-else-all
returns-else-all c =
    let marks = c.args.marks.now in
    let within : c.all.result ≡ every (λ m. leb m c.args.groups) marks =
    all_from_yields_List (λ m. leb m c.args.groups) _ _ _ c.all.ensures.ran (YieldsList-from_slice marks cc) (λ x b q k. search (rules, tests))
    ∙ list_all_every (λ m. leb m c.args.groups) marks in
    rw (sym within ∙ c.if-all.false) c.if-all.false
