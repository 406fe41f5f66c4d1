-- The book without the order, and the report of the cancel. Assumes nothing.
use Rattle.engine.proofs.refinement.WorkingSteps.{withdraw_room, withdraws, taken_ordered}
use Rattle.engine.proofs.lent.LentVenue.withdraw.Goals as goal

pub invariant_of-self : goal.invariant_of-self
invariant_of-self c = record { ordered = taken_ordered c.args.self.now.words.now _ c.args.self.now.ordered c.remove.ensures }

pub report_cancelled-requires : goal.report_cancelled-requires
report_cancelled-requires c =
    let v = c.args.self.now in
    withdraw_room v.words.now c.args.o c.order-x.result c.args.i v.ordered (rw c.view.ensures at c.order-x.ensures) v.buffer.now v.end c.requires.room

pub returns-clause-meets : goal.returns-clause-meets
returns-clause-meets c =
    let v = c.args.self.now in
    let r = c.report_cancelled.ensures.reported in
    rw r.words (withdraws v.words.now c.args.o c.order-x.result c.args.i v.ordered (rw c.view.ensures at c.order-x.ensures) r.wrote c.remove.ensures)
