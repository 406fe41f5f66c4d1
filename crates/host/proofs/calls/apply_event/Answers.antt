-- The answer of apply as a number; its byte count fits. Assumes nothing.
use native.Mathlib.Omega.{arith}
use mathlib.Core.Path.{refl}
use Rattle.std.specs.Prelude.{Ok}
use Rattle.numbers.specs.Answers.{gives, refuses}
use Rattle.engine.specs.rules.Answers.{refusal_number}
use Rattle.engine.proofs.refinement.AnswerLaws.{refusal_range}
use Rattle.host.proofs.refinement.HostLaws.{applied_fits, event_applied}
use Rattle.host.proofs.calls.apply_event.Goals as goal

pub overflow_cast-result : goal.overflow_cast-result
overflow_cast-result c =
    let h = applied_fits (omega (arith, c.slice_known-1.given 4)) c.requires (Ok c.in-Ok.count) c.in-Ok.ensures in
    record { fits = omega arith }

pub returns-in-Ok : goal.returns-in-Ok
returns-in-Ok c =
    event_applied (gives c.in-Ok.count) (applied_fits (omega (arith, c.slice_known-1.given 4)) c.requires (Ok c.in-Ok.count) c.in-Ok.ensures) refl c.in-Ok.ensures

pub refused-requires : goal.refused-requires
refused-requires c = omega (arith, c.from.ensures, refusal_range c.in-Err.refusal)

pub returns-in-Err : goal.returns-in-Err
returns-in-Err c =
    event_applied
    (refuses (refusal_number c.in-Err.refusal))
    (refusal_range c.in-Err.refusal).0
    (omega (arith, c.refused.ensures, c.from.ensures))
    c.in-Err.ensures
