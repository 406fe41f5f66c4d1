-- The loop of `copy_orders`: the records so far stand in front, and the rest of the run is as it was. Assumes nothing.
use mathlib.Core.Path.{◌≡◌}
use Rattle.engine.proofs.refinement.CopyLaws.{fill_to, record_out}
use Rattle.engine.proofs.copy.copy_orders.Given as goal

abbrev pub invariant-loop-i : goal.invariant-loop-i
invariant-loop-i l = l.run ≡ fill_to l.i (record_out l.book.words.now) l.initial.run
