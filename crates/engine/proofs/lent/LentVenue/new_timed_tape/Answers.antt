-- `new_timed_tape`: the price kept, report 7, then the tape price. Assumes nothing.
use Rattle.engine.proofs.refinement.TimedLaws.{kept_ordered, direction_may, keep_may, pause_first, tape_may_follow, timed_done}
use Rattle.engine.proofs.lent.LentVenue.new_timed_tape.Goals as goal

pub kept-kept-requires : goal.kept-kept-requires
kept-kept-requires c = let r = c.requires.may_accept in rw c.view.ensures (kept_ordered c.args.self.now.words.now c.args.x r.0 r.1)

pub first_within-from-requires : goal.first_within-from-requires
first_within-from-requires c = let r = c.requires.may_accept in rw (c.kept-kept.ensures, c.view.ensures) (kept_ordered c.args.self.now.words.now c.args.x r.0 r.1).in_order

pub direction-direction-requires : goal.direction-direction-requires
direction-direction-requires c =
    let r = c.requires.may_accept in
    let f = rw (c.kept-kept.ensures, c.view.ensures) at c.first_within-from.ensures in
    rw (c.kept-kept.ensures, c.view.ensures) (direction_may c.args.self.now.words.now c.args.x r.0 r.1 c.first_within-from.result f.0 f.1)

pub report_pause-requires : goal.report_pause-requires
report_pause-requires c =
    let v = c.args.self.now in
    let r = c.requires.may_accept in
    let f = rw (c.kept-kept.ensures, c.view.ensures) at c.first_within-from.ensures in
    let d = rw (c.kept-kept.ensures, c.view.ensures) at c.direction-direction.ensures in
    let n = c.keep_price.ensures.becomes in
    rw (n.buffer, n.end, c.requires.none_written) (pause_first v.words.now c.args.x r.0 r.1 c.first_within-from.result f.0 f.1 _ d v.buffer.now c.requires.room)

pub keep_price-requires : goal.keep_price-requires
keep_price-requires c =
    let r = c.requires.may_accept in
    let f = rw (c.kept-kept.ensures, c.view.ensures) at c.first_within-from.ensures in
    let n = rw (c.kept-kept.ensures, c.view.ensures) at c.len-n.ensures in
    let may = keep_may c.args.self.now.words.now c.args.x r.0 r.1 c.first_within-from.result f.0 f.1 c.len-n.result n.0 in
    record { counted = may.0; within_time = may.1 }

pub new_tape-requires : goal.new_tape-requires
new_tape-requires c =
    let v = c.args.self.now in
    let r = c.requires.may_accept in
    let f = rw (c.kept-kept.ensures, c.view.ensures) at c.first_within-from.ensures in
    let d = rw (c.kept-kept.ensures, c.view.ensures) at c.direction-direction.ensures in
    let n = c.keep_price.ensures.becomes in
    let told = c.report_pause.ensures.reported in
    rw told.words (tape_may_follow v.words.now c.args.x r.0 r.1 c.first_within-from.result f.0 f.1 _ d v.buffer.now c.requires.room (rw (n.buffer, n.end, c.requires.none_written) at told.wrote) n.venue)

pub returns-clause-accepts : goal.returns-clause-accepts
returns-clause-accepts c =
    let v = c.args.self.now in
    let r = c.requires.may_accept in
    let f = rw (c.kept-kept.ensures, c.view.ensures) at c.first_within-from.ensures in
    let d = rw (c.kept-kept.ensures, c.view.ensures) at c.direction-direction.ensures in
    let n = c.keep_price.ensures.becomes in
    let told = c.report_pause.ensures.reported in
    timed_done v.words.now c.args.x r.0 r.1 c.first_within-from.result f.0 f.1 _ d v.buffer.now c.requires.room (rw (n.buffer, n.end, c.requires.none_written) at told.wrote) n.venue (rw told.words at c.new_tape.ensures.accepts)
