-- `replace` changes the order at its position alone. Assumes nothing.
use Rattle.book.proofs.refinement.HoldsLaws.{replaced}
use Rattle.book.proofs.place.replace.Goals as goal

pub returns : goal.returns
returns c = replaced c.args.w.now c.store.new.w c.args.i c.args.o c.requires.0 c.requires.1 c.store.ensures
