-- `settlement::drawn_game::DrawnGame::marks_of` meets its contract: the 80 marks from the ticket's place on are its own.
use Rattle.settlement.proofs.TablePlaces.{marks_part}
use Rattle.settlement.proofs.drawn_game.DrawnGame.marks_of.Goals as goal

pub returns : goal.returns
returns c = let args = c.args in marks_part args.self.now.marks.now args.i
