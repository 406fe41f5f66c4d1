-- The loop of `best`: the best of what was found and what is left is the best of all. Assumes nothing.
use Prim.Native.Nat.{◌<◌}
use mathlib.Core.Path.{◌≡◌}
use lib.ListN.{drop}
use Rattle.std.specs.Prelude.{Some}
use Rattle.book.specs.rules.Matching.{best_from, best}
use Rattle.book.specs.rules.Words.{resting}
use Rattle.book.specs.steps.Positions.{order_in}
use Rattle.book.proofs.BookView.best.Given as goal

abbrev pub invariant-loop-i : goal.invariant-loop-i
invariant-loop-i l = (best l.o (resting l.self.words.now) ≡ best_from l.o (order_in (resting l.self.words.now) (Some l.best)) (drop l.i (resting l.self.words.now))) × (l.best < l.i)
