-- Which command of the model a decoded one is. A sale's marks stand beside it.
use Rattle.std.specs.Prelude.{ℕ, List}
use Rattle.sale.specs.Checks.{operands_of}
use Rattle.house.specs.Commands.{open', sell, cancel, ball, claim, expire, transfer, collect, call_off}
use Rattle.commands.specs.declared.command.Command.{Command}
use Rattle.commands.specs.declared.command.Command.TheVariants.{Open, Sell, Cancel, Ball, Claim, Expire, Transfer, Collect, CallOff}

abbrev pub meant : Command → List ℕ → Rattle.house.specs.Commands.Command
meant (Open day) marks = open' day
meant (Sell sale) marks = sell (operands_of sale marks)
meant (Cancel ticket) marks = cancel ticket
meant (Ball number) marks = ball number
meant (Claim ticket) marks = claim ticket
meant Expire marks = expire
meant (Transfer jackpot cents) marks = transfer jackpot cents
meant (Collect ticket) marks = collect ticket
meant CallOff marks = call_off
