-- A refusal's number, and 0 for a record that is up to date. Assumes nothing.
use native.Mathlib.Omega.{arith}
use mathlib.Core.Path.{ap}
use Rattle.numbers.specs.Answers.{Outcome}
use Rattle.host.specs.rules.Host.{host_answer}
use Rattle.host.specs.rules.Observe.{watch_count}
use Rattle.host.proofs.observe.venue_watch.Goals as goal

pub returns-in-Ok : goal.returns-in-Ok
returns-in-Ok c = (ap (λ (o : Outcome (Unit {0})). host_answer (watch_count o)) c.in-Ok.ensures.0, c.in-Ok.ensures.1)

pub returns-in-Err : goal.returns-in-Err
returns-in-Err c =
    (omega (arith, c.refused.ensures, c.from-in-Err.ensures, c.from.ensures, ap (λ (o : Outcome (Unit {0})). host_answer (watch_count o)) c.in-Err.ensures.0), c.in-Err.ensures.1)
