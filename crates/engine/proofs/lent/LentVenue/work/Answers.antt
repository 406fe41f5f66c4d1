-- Matching, then the remainder. Assumes nothing.
use Rattle.engine.proofs.refinement.WorkingSteps.{match_room, rest_room, works}
use Rattle.engine.proofs.lent.LentVenue.work.Goals as goal

pub match_order-left-requires : goal.match_order-left-requires
match_order-left-requires c = let v = c.args.self.now in (c.requires.0, match_room v.words.now v.buffer.now v.end c.args.o c.requires.1)

pub rest_or_cancel-requires : goal.rest_or_cancel-requires
rest_or_cancel-requires c = let f = c.match_order-left.ensures.matches in (f.enters, rest_room f c.requires.1)

pub returns-clause-works : goal.returns-clause-works
returns-clause-works c = works c.match_order-left.ensures.matches c.requires.1 c.rest_or_cancel.ensures.works
