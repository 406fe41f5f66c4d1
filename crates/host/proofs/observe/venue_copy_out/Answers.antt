-- Copy out fills at most 256 records, so its count is an answer. Assumes nothing.
use native.Mathlib.Omega.{arith}
use mathlib.Core.Path.{sym, subst, ap}
use Rattle.host.specs.rules.Host.{host_answer}
use lib.ListN.{length}
use Rattle.host.specs.claims.Calls.{AnswerFits}
use Rattle.host.proofs.refinement.CopyCount.{copy_fits}
use Rattle.host.proofs.observe.venue_copy_out.Goals as goal

pub overflow_cast-result : goal.overflow_cast-result
overflow_cast-result c =
    let h = subst AnswerFits (sym c.in-Ok.ensures.0) (copy_fits c.args.words.now (length c.args.run.now)) in
    record { fits = omega arith }

pub returns-in-Err : goal.returns-in-Err
returns-in-Err c =
    (omega (arith, c.refused.ensures, c.from.ensures, ap host_answer c.in-Err.ensures.0), c.in-Err.ensures.1)
