-- The order is taken out, reported at its new price, and works. Assumes nothing.
use Rattle.engine.proofs.refinement.WorkingSteps.{taken_ordered}
use Rattle.engine.proofs.refinement.SlideSteps.{reprice_first, reprice_enters, reprice_room, reprices}
use Rattle.engine.proofs.lent.LentVenue.reprice.Goals as goal

pub invariant_of-self : goal.invariant_of-self
invariant_of-self c = record { ordered = taken_ordered c.args.self.now.words.now _ c.args.self.now.ordered c.remove.ensures }

pub report_repriced-requires : goal.report_repriced-requires
report_repriced-requires c =
    let v = c.args.self.now in
    let p = c.requires.within in
    reprice_first v.words.now c.args.x c.args.at v.ordered p.0 p.1 v.buffer.now v.end c.requires.room

pub work-requires : goal.work-requires
work-requires c =
    let v = c.args.self.now in
    let p = c.requires.within in
    let r = c.report_repriced.ensures.reported in
    rw r.words (reprice_enters v.words.now c.args.x c.args.at v.ordered p.0 p.1 c.remove.ensures, reprice_room v.words.now c.args.x c.args.at v.ordered p.0 p.1 c.remove.ensures c.requires.room r.wrote)

pub returns-clause-does : goal.returns-clause-does
returns-clause-does c =
    let v = c.args.self.now in
    let p = c.requires.within in
    let r = c.report_repriced.ensures.reported in
    reprices v.words.now c.args.x c.args.at v.ordered p.0 p.1 c.remove.ensures c.requires.room r.wrote (rw r.words at c.work.ensures.works)
