-- `finish` writes the last id and the last stamp, and counts the event. Assumes nothing.
use Rattle.engine.proofs.refinement.MemoryLaws.{ids_set, event_finished}
use Rattle.engine.proofs.lent.LentVenue.finish.Goals as goal

pub count_event-requires : goal.count_event-requires
count_event-requires c = rw (ids_set c.args.self.now.ordered c.set_header_word.ensures c.set_header_word-2.ensures).venue c.requires

pub returns-clause-becomes : goal.returns-clause-becomes
returns-clause-becomes c =
    let e = c.count_event.ensures.becomes in
    record { venue = event_finished (ids_set c.args.self.now.ordered c.set_header_word.ensures c.set_header_word-2.ensures) e.venue; buffer = e.buffer; end = e.end }
