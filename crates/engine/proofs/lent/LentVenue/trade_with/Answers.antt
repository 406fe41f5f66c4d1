-- The trade, and its report. Assumes nothing.
use mathlib.Core.Path.{◌≡◌}
use lib.ListN.{get_or}
use Rattle.book.specs.rules.Words.{empty_order, resting}
use Rattle.engine.proofs.refinement.WorkingSteps.{trade_room, trades, trade_ordered}
use Rattle.engine.proofs.lent.LentVenue.trade_with.Goals as goal
use Rattle.engine.proofs.lent.LentVenue.trade_with.Goals.{After-order-x}

-- the order that was read
read : (c : After-order-x) → c.order-x.result ≡ get_or (resting c.args.self.now.words.now) c.args.i empty_order
read c = rw c.view.ensures at c.order-x.ensures

pub invariant_of-self : goal.invariant_of-self
invariant_of-self c = record { ordered = trade_ordered c.args.self.now.words.now c.args.i c.min-q.result c.args.self.now.ordered c.requires.within c.trade.ensures }

pub report_execution-requires : goal.report_execution-requires
report_execution-requires c =
    let v = c.args.self.now in
    trade_room v.words.now c.args.o c.order-x.result c.args.i c.min-q.result v.ordered c.requires.within (read (goal.at.report_execution-requires c).After-order-x) c.min-q.ensures v.buffer.now v.end c.requires.room

pub returns-clause-meets : goal.returns-clause-meets
returns-clause-meets c =
    let v = c.args.self.now in
    let r = c.report_execution.ensures.reported in
    rw r.words (trades v.words.now c.args.o c.order-x.result c.args.i c.min-q.result v.ordered c.requires.within (read (goal.at.returns-clause-meets c).After-order-x) c.min-q.ensures r.wrote c.trade.ensures c.reduce.ensures)
