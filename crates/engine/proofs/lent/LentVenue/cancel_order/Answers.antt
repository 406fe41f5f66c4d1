-- `cancel_order`: the order taken out, the event counted, the report. Assumes nothing.
use mathlib.Core.Path.{ap}
use native.Mathlib.Omega.{arith}
use lib.ListN.{length}
use Rattle.engine.proofs.refinement.LeaveLaws.{cancel_bytes, taken_out, taken_accepts, cancel_done}
use Rattle.engine.proofs.lent.LentVenue.cancel_order.Goals as goal

pub invariant_of-self : goal.invariant_of-self
invariant_of-self c = record { ordered = (taken_out c.args.self.now.words.now c.args.i c.requires.may_accept.0 c.requires.may_accept.1 c.remove.ensures).ordered }

pub count_event-requires : goal.count_event-requires
count_event-requires c = taken_accepts c.args.self.now.words.now c.args.i c.requires.may_accept.0 c.requires.may_accept.1 c.remove.ensures

pub report_cancelled-requires : goal.report_cancelled-requires
report_cancelled-requires c =
    let r = c.requires in
    let o = c.order-o in
    let n = c.count_event.ensures.becomes in
    rw (n.buffer, n.end) (omega (arith, ap length (cancel_bytes c.args.self.now.words.now c.args.i r.may_accept.0 r.may_accept.1 o.result (rw c.view.ensures at o.ensures)), r.room, r.none_written))

pub returns-clause-accepts : goal.returns-clause-accepts
returns-clause-accepts c =
    let r = c.requires in
    let o = c.order-o in
    let n = c.count_event.ensures.becomes in
    let told = c.report_cancelled.ensures.reported in
    rw told.words (cancel_done c.args.self.now.words.now c.args.i r.may_accept.0 r.may_accept.1 o.result (rw c.view.ensures at o.ensures) (rw (n.buffer, n.end, r.none_written) at told.wrote) c.remove.ensures n.venue)
