-- The orders read, and 32,768 more for a yes. Assumes nothing.
use Rattle.numbers.specs.Tests.{pick}
use Rattle.host.specs.rules.Fill.{front_number}
use Rattle.host.proofs.fill.front_number.Goals as goal

pub returns-then-front : goal.returns-then-front
unfolding front_number pick
returns-then-front c = rw c.if-front.true

pub returns-else-front : goal.returns-else-front
unfolding front_number pick
returns-else-front c = rw c.if-front.false
