-- The shares of the answer, and the highest number for its refusal. Assumes nothing.
use mathlib.Core.Path.{ap}
use Rattle.host.specs.rules.Observe.{depth_number}
use Rattle.host.proofs.observe.venue_depth.Goals as goal

pub returns-in-Err : goal.returns-in-Err
returns-in-Err c = rw (← c.side_of.ensures) (ap depth_number c.in-Err.ensures)
