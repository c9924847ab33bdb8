-- The measure is the number of groups left.
use Rattle.sale.proofs.walk.+note_from.Given as goal

abbrev pub decreases-note_from : goal.decreases-note_from
decreases-note_from g l = l.left
