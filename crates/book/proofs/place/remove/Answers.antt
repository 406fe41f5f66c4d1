-- The order at a position is the one with its id. Assumes nothing.
use Rattle.book.specs.rules.Words.{resting}
use Rattle.book.proofs.definitions.RisingLaws.{ids_rise_rises}
use Rattle.book.proofs.refinement.HoldsLaws.{holds_as}
use Rattle.book.proofs.refinement.StepLaws.{remove_at_without}
use Rattle.book.proofs.place.remove.Goals as goal

pub returns : goal.returns
returns c = let l = resting c.args.w.now in holds_as c.remove_at.ensures (remove_at_without l c.args.i (ids_rise_rises 0 l c.requires.2) c.requires.1)
