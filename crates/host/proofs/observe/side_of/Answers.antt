-- Each return has the test that leads there. Assumes nothing.
use borrow.Author.Tests.{eq-eqb, ne_eqb}
use Rattle.numbers.specs.Tests.{pick}
use Rattle.host.specs.rules.Observe.{side_of}
use Rattle.host.proofs.observe.side_of.Goals as goal

pub returns-then-side-eq0 : goal.returns-then-side-eq0
unfolding side_of pick
returns-then-side-eq0 c = simp (eq-eqb _ 0 c.if-side-eq0.true)

pub returns-else-side-eq0 : goal.returns-else-side-eq0
unfolding side_of pick
returns-else-side-eq0 c = simp (ne_eqb _ 0 c.if-side-eq0.false)
