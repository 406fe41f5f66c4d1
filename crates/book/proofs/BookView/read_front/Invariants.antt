-- The loop of `read_front`: what is still to be read gives what was to be read at the start. Assumes nothing.
use Prim.Native.Nat.{◌<◌}
use mathlib.Core.Path.{◌≡◌}
use lib.ListN.{drop}
use Rattle.book.specs.rules.Words.{resting}
use Rattle.book.specs.rules.Fill.{front_read}
use Rattle.book.proofs.refinement.FrontLaws.{read_on}
use Rattle.book.proofs.BookView.read_front.Given as goal

abbrev pub invariant-loop-i : goal.invariant-loop-i
invariant-loop-i l = (read_on l.missing l.i l.o (drop l.i (resting l.self.words.now)) ≡ front_read l.o (resting l.self.words.now)) × (0 < l.missing)
