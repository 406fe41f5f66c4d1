-- The end of the record that was read, and 0 for a refusal. Assumes nothing.
use mathlib.Core.Path.{ap}
use Rattle.host.specs.rules.Host.{end_or_zero}
use Rattle.host.proofs.calls.venue_record_check.Goals as goal

pub returns-in-Err : goal.returns-in-Err
returns-in-Err c = ap end_or_zero c.in-Err.ensures

pub returns-in-Ok : goal.returns-in-Ok
returns-in-Ok c = ap end_or_zero c.in-Ok.ensures
