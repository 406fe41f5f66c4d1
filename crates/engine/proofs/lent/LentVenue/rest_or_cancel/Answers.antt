-- By what becomes of the remainder. Assumes nothing.
use mathlib.Core.Path.{sym, ◌∙◌}
use Rattle.engine.specs.declared.Remainder.TheVariants.{Filled, Cancelled, Rests}
use Rattle.engine.specs.rules.Reports.{cancelled, cause_number}
use Rattle.engine.specs.rules.Working.{after_remainder}
use Rattle.engine.proofs.refinement.StepLaws.{room_one, does_none, does_report}
use Rattle.engine.proofs.refinement.WorkingSteps.{rests_or_cancels, remainder_room, does_insert}
use Rattle.engine.proofs.demand3.SoundLaws.{rests_not_immediate}
use Rattle.engine.proofs.lent.LentVenue.rest_or_cancel.Goals as goal

pub insert-requires : goal.insert-requires
insert-requires c = (c.args.self.now.ordered.book, c.requires.0.place (rests_not_immediate c.args.o (sym c.in-Rests.is ∙ c.remainder_of.ensures)), c.args.self.now.ordered.rises)

pub report_cancelled-requires : goal.report_cancelled-requires
unfolding after_remainder
report_cancelled-requires c =
    let v = c.args.self.now in
    let o = c.args.o in
    let k = c.in-Cancelled.cause in
    room_one v.buffer.now v.end (cancelled o.id o.shares (cause_number k)) (remainder_room v.words.now v.buffer.now v.end o (Cancelled k) (sym c.in-Cancelled.is ∙ c.remainder_of.ensures) c.requires.1)

pub returns-in-Filled-clause-works : goal.returns-in-Filled-clause-works
unfolding after_remainder
returns-in-Filled-clause-works c =
    let v = c.args.self.now in
    rests_or_cancels c.args.o Filled (sym c.in-Filled.is ∙ c.remainder_of.ensures) (does_none v.words.now v.buffer.now v.end v.ordered)

pub returns-in-Cancelled-clause-works : goal.returns-in-Cancelled-clause-works
unfolding after_remainder
returns-in-Cancelled-clause-works c =
    let o = c.args.o in
    let k = c.in-Cancelled.cause in
    let r = c.report_cancelled.ensures.reported in
    rw r.words (rests_or_cancels o (Cancelled k) (sym c.in-Cancelled.is ∙ c.remainder_of.ensures) (does_report (cancelled o.id o.shares (cause_number k)) c.args.self.now.ordered r.wrote))

pub returns-in-Rests-clause-works : goal.returns-in-Rests-clause-works
unfolding after_remainder
returns-in-Rests-clause-works c =
    let v = c.args.self.now in
    rests_or_cancels c.args.o Rests (sym c.in-Rests.is ∙ c.remainder_of.ensures) (does_insert v.buffer.now v.end c.args.o c.requires.0 c.insert.ensures)

pub invariant_of-self : goal.invariant_of-self
invariant_of-self c = record { ordered = (does_insert c.args.self.now.buffer.now c.args.self.now.end c.args.o c.requires.0 c.insert.ensures).ordered }
