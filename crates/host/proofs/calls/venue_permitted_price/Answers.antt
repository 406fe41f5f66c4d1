-- The price of the answer, and 0 for a refusal. Assumes nothing.
use native.Mathlib.Omega.{arith}
use mathlib.Core.Path.{ap}
use Rattle.host.specs.rules.Host.{value_or_zero}
use Rattle.host.proofs.calls.venue_permitted_price.Goals as goal

pub returns-in-Ok : goal.returns-in-Ok
returns-in-Ok c = ap value_or_zero c.in-Ok.ensures

pub returns-in-Err : goal.returns-in-Err
returns-in-Err c = omega (arith, ap value_or_zero c.in-Err.ensures)
