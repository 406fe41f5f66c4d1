-- `better_price` by the side. Assumes nothing.
use borrow.Author.Tests.{eq-eqb, ne_eqb}
use Rattle.numbers.specs.Tests.{pick}
use Rattle.book.proofs.priority.better_price.Goals as goal

pub returns-then-mark-eq0 : goal.returns-then-mark-eq0
unfolding pick
returns-then-mark-eq0 c = simp (eq-eqb _ 0 c.if-mark-eq0.true)

pub returns : goal.returns
unfolding pick
returns c = simp (ne_eqb _ 0 c.if-mark-eq0.false)
