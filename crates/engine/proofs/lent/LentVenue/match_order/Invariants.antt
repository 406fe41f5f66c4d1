-- Meeting after meeting, until nobody is reached or no shares remain. Assumes nothing.
use Prim.Native.Nat.{◌+◌}
use lib.ListN.{length}
use Rattle.engine.specs.steps.Lent.{SameLoans, words_in, resting_in}
use Rattle.engine.proofs.refinement.WorkingSteps.{Matching}
use Rattle.engine.proofs.lent.LentVenue.match_order.Given as goal

abbrev pub invariant-loop-i : goal.invariant-loop-i
invariant-loop-i l = record { same_loans : SameLoans l.initial.self l.self; way : Matching (words_in l.initial.self) (words_in l.self) l.initial.self.buffer.now l.self.buffer.now l.initial.self.end l.self.end l.initial.left l.left }

abbrev pub decreases-loop-i : goal.decreases-loop-i
decreases-loop-i l = length (resting_in l.self) + l.left.shares
