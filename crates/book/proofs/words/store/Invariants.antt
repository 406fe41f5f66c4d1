-- The loop of `store`: the first words are copied. Assumes nothing.
use Rattle.book.specs.steps.WordSteps.{Copied}
use Rattle.book.proofs.words.store.Given as goal

abbrev pub invariant-loop-k : goal.invariant-loop-k
invariant-loop-k l = Copied l.initial.w l.w l.from l.x-items l.k
