-- `draw::game_end::Payment::closes` meets its contract: a ticket that is paid something is due something; any other closes as it is.
use mathlib.Core.Path.{◌∙◌}
use Rattle.house.specs.View.{ticket_from}
use Rattle.draw.proofs.ClosingLaws.{unpaid_alike}
use Rattle.draw.proofs.game_end.Payment.closes.Goals as goal

pub returns-then-self-eq0 : goal.returns-then-self-eq0
returns-then-self-eq0 c m =
    let payment = c.args.self in
    c.is_closed.ensures m ∙ unpaid_alike payment.day payment.game payment.cents (ticket_from c.args.row m) c.if-self-eq0.true
