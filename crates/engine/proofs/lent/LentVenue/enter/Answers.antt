-- `enter`: the report, the order at work, the event counted. Assumes nothing.
use mathlib.Core.Path.{◌≡◌, ap}
use native.Mathlib.Omega.{arith}
use Prim.Native.Nat.{◌+◌}
use Rattle.engine.specs.rules.Layout.{venue_of}
use Rattle.engine.specs.rules.Venue.{Venue}
use Rattle.engine.specs.rules.Working.{order_of}
use Rattle.engine.proofs.refinement.MemoryLaws.{does_becomes}
use Rattle.engine.proofs.refinement.EnterLaws.{entry_room, entry_enters, work_room, entry_done}
use Rattle.engine.proofs.lent.LentVenue.enter.Goals as goal
use Rattle.engine.proofs.lent.LentVenue.enter.Goals.{After-next_order-o}

-- the order of the entry
made : (c : After-next_order-o) → let v = venue_of c.args.self.now.words.now in c.next_order-o.result ≡ order_of v.market (v.last_stamp + 1) c.args.owner c.args.e
made c = rw c.view.ensures at c.next_order-o.ensures

pub next_order-o-requires : goal.next_order-o-requires
next_order-o-requires c = rw c.view.ensures c.requires.may_accept.0

pub report_accepted-requires : goal.report_accepted-requires
report_accepted-requires c =
    let v = c.args.self.now in
    rw c.requires.none_written (entry_room v.words.now c.args.e c.args.owner c.next_order-o.result (made (goal.at.report_accepted-requires c).After-next_order-o) v.buffer.now c.requires.room)

pub work-requires : goal.work-requires
work-requires c =
    let w = c.args.self.now.words.now in
    let o = c.next_order-o.result in
    let m = made (goal.at.work-requires c).After-next_order-o in
    let r = c.requires in
    let told = c.report_accepted.ensures.reported in
    rw told.words (entry_enters w c.args.e c.args.owner o m r.may_accept.0 r.may_accept.1 r.may_accept.2, work_room w c.args.e c.args.owner o m r.room (rw r.none_written at told.wrote))

pub finish-requires : goal.finish-requires
finish-requires c =
    let d = rw c.report_accepted.ensures.reported.words at c.work.ensures.works in
    omega (arith, ap (λ (v : Venue). v.accepted_events) (does_becomes d).venue, c.requires.may_accept.0.events)

pub returns-clause-accepts : goal.returns-clause-accepts
returns-clause-accepts c =
    let r = c.requires in
    let told = c.report_accepted.ensures.reported in
    let f = c.finish.ensures.becomes in
    rw (f.buffer, f.end) (entry_done c.args.self.now.words.now c.args.e c.args.owner c.next_order-o.result (made (goal.at.returns-clause-accepts c).After-next_order-o) c.args.self.now.ordered r.room (rw r.none_written at told.wrote) (rw told.words at c.work.ensures.works) f.venue)
