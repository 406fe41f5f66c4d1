-- The loop of `stamp_seen`: the stamp was seen where it was among the places up to this one. Assumes nothing.
use Rattle.book.proofs.refinement.StampLaws.{ChainAt}
use Rattle.book.proofs.sound.stamp_seen.Given as goal

abbrev pub invariant-loop-at : goal.invariant-loop-at
invariant-loop-at l = ChainAt l.w l.stamp l.n l.at

abbrev pub decreases-loop-at : goal.decreases-loop-at
decreases-loop-at l = l.at
