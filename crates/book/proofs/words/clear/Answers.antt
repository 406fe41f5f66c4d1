-- `clear` leaves no orders. Assumes nothing.
use Rattle.book.proofs.refinement.HoldsLaws.{cleared}
use Rattle.book.proofs.words.clear.Goals as goal

pub returns : goal.returns
returns c = cleared c.args.w.now c.requires
