-- The loop of `shift_up`: the words from the last index on are moved. Assumes nothing.
use Rattle.book.specs.steps.WordSteps.{ShiftedUp}
use Rattle.book.proofs.place.shift_up.Given as goal

abbrev pub invariant-loop-j : goal.invariant-loop-j
invariant-loop-j l = ShiftedUp l.initial.s l.s l.j l.n
