-- The places in use. Assumes nothing.
use Rattle.book.proofs.refinement.PlaceLaws.{used_are}
use Rattle.book.proofs.BookView.used.Goals as goal

pub returns : goal.returns
returns c = used_are c.args.self.words.now c.args.self.laid_out c.places.ensures.places c.count.ensures
