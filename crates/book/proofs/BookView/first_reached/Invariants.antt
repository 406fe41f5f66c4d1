-- The loop of `first_reached`: the best of what is left is the best of all. Assumes nothing.
use mathlib.Core.Path.{◌≡◌}
use mathlib.Core.Option.{none}
use lib.ListN.{drop}
use Rattle.book.specs.rules.Matching.{best_from, best}
use Rattle.book.specs.rules.Words.{resting}
use Rattle.book.proofs.BookView.first_reached.Given as goal

abbrev pub invariant-loop-i : goal.invariant-loop-i
invariant-loop-i l = best l.o (resting l.self.words.now) ≡ best_from l.o none (drop l.i (resting l.self.words.now))
