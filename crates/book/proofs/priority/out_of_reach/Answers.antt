-- `out_of_reach` by its test. Assumes nothing.
use native.Mathlib.Omega.{arith}
use Rattle.numbers.specs.Tests.{pick}
use Rattle.book.proofs.priority.out_of_reach.Goals as goal

pub returns-then-opposite : goal.returns-then-opposite
unfolding pick
returns-then-opposite c = (rw c.if-opposite.true, omega arith)

pub returns : goal.returns
unfolding pick
returns c = (rw c.if-opposite.false, omega arith)
