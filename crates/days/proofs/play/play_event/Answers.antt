-- The event is a call of apply; its reports stand in the part that was lent, or its refusal is written there. Assumes nothing.
use native.Mathlib.Omega.{arith}
use mathlib.Core.Path.{ap, refl}
use Rattle.engine.specs.rules.Answers.{outcome_of_answer}
use Rattle.engine.proofs.refinement.AnswerLaws.{refusal_range}
use Rattle.days.proofs.DayLaws.{event_accepted, event_refused}
use Rattle.days.proofs.play.play_event.Goals as goal

pub overflow_add-result : goal.overflow_add-result
overflow_add-result c =
    let p =
    event_accepted c.args.words.now _ c.args.reports.now _ c.args.event c.args.end c.requires.0 c.requires.1 c.requires.2 (omega (arith, c.slice_known-1.given 4)) c.apply_sound.ensures.0 (ap outcome_of_answer c.in-Ok.is) c.apply_sound.ensures.1 in
    omega (arith, p.inside)

pub write_refusal-requires : goal.write_refusal-requires
write_refusal-requires c = omega (arith, c.requires.1, c.reports-1.given.1)

pub returns-in-Ok : goal.returns-in-Ok
returns-in-Ok c =
    event_accepted c.args.words.now _ c.args.reports.now _ c.args.event c.args.end c.requires.0 c.requires.1 c.requires.2 (omega (arith, c.slice_known-1.given 4)) c.apply_sound.ensures.0 (ap outcome_of_answer c.in-Ok.is) c.apply_sound.ensures.1

pub returns-in-Err : goal.returns-in-Err
returns-in-Err c =
    let f = c.in-Err in
    event_refused c.args.words.now _ c.args.reports.now _ c.args.event c.args.end c.requires.0 c.requires.1 c.requires.2 (omega (arith, c.slice_known-1.given 4)) c.apply_sound.ensures.0 (ap outcome_of_answer f.is) c.apply_sound.ensures.1 refl (refusal_range f.refusal).1 c.write_refusal.ensures.0
