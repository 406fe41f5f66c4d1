-- The loop of `search`: what is left to look at. Assumes nothing.
use lib.ListN.{length}
use Rattle.book.specs.rules.Words.{resting}
use Rattle.book.proofs.refinement.RankLaws.{Searched}
use Rattle.book.proofs.BookView.search.Given as goal

abbrev pub invariant-loop-places : goal.invariant-loop-places
invariant-loop-places l = Searched (resting l.self.words.now) l.id l.before l.places

abbrev pub decreases-loop-places : goal.decreases-loop-places
decreases-loop-places l = length l.places
