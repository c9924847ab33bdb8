-- `ledger::print` meets its contract: a page holds the text that was written to it, and the output gets the page.
use Rattle.std.proofs.Common.{◌++◌, ap, subst, ◌∙◌}
use Rattle.std.specs.Io.KnownBytes.{Appends}
use Rattle.std.proofs.lemmas.Fmt.{contents_after_writes}
use Rattle.std.proofs.lemmas.Result.{on_ok_weaker}
use Rattle.std.proofs.Output.{if_some_weaken}
use Rattle.ledger.proofs.print.Goals as goal

pub returns-in-Ok : goal.returns-in-Ok
returns-in-Ok g c =
    let page = c.as_bytes.ensures.value ∙ c.as_str.ensures.value in
    on_ok_weaker _
    (λ sent. if_some_weaken (g.D.Display.output c.args.text.now) _ _
    (λ bs written.
    let held = contents_after_writes _ (λ s. s.bytes) (λ _ _ _ t. t) _ _ _ written in
    subst (Appends (g.W.Write.contents c.args.output.now) (g.W.Write.contents c.write_all.new.self)) (page ∙ held ∙ ap (λ l. l ++ bs) c.new-page.ensures) sent)
    c.in-Ok.ensures.writes)
    c.write_all.ensures.bytes
