-- The loop of `shift_down`: the words up to j are moved. Assumes nothing.
use Rattle.book.specs.steps.WordSteps.{ShiftedDown}
use Rattle.book.proofs.place.shift_down.Given as goal

abbrev pub invariant-loop-j : goal.invariant-loop-j
invariant-loop-j l = ShiftedDown l.initial.s l.s 0 l.j
