-- `ticket_prizes` meets its contract: the walk notes all ways where nothing is found yet, and finds what the rule names.
use Rattle.std.proofs.Common.{rules}
use Rattle.prizes.proofs.FoundLaws.{start_room, ways_noted, found_with}
use Rattle.prizes.proofs.found.ticket_prizes.Goals as goal

pub note_ways-requires : goal.note_ways-requires
note_ways-requires c =
    let terms = c.args.terms in
    start_room terms.groups terms.types c.args.majors.now.count c.requires.sound.groups c.requires.room.few

pub returns : goal.returns
returns c =
    let (joined, same) = ways_noted _ _ _ c.note_ways.ensures in
    found_with c.args.terms c.args.groups.now.pairs c.args.groups.now.bytes (search rules)
