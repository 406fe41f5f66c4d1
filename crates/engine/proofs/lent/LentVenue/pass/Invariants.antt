-- Turn after turn, over the ids that rested at the start. Assumes nothing.
use Prim.Native.Nat.{◌+◌, ◌≤◌}
use lib.ListN.{drop}
use Rattle.engine.specs.steps.Lent.{SameLoans, words_in, resting_in}
use Rattle.engine.specs.steps.Steps.{ids_of}
use Rattle.engine.proofs.refinement.SlideSteps.{Passing}
use Rattle.engine.proofs.lent.LentVenue.pass.Given as goal

abbrev pub invariant-loop-id : goal.invariant-loop-id
invariant-loop-id l =
    record {
      way : Passing (words_in l.initial.self) (words_in l.self) l.initial.self.buffer.now l.self.buffer.now l.initial.self.end l.self.end l.m (ids_of (resting_in l.initial.self)) (drop l.id-index (ids_of (resting_in l.initial.self))) l.stamp l.passed.stamp;
      stamps : l.passed.stamp ≤ l.stamp + l.id-index;
      same_loans : SameLoans l.initial.self l.self;
    }
