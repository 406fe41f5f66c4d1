-- `set_header_word` changes one header word alone. Assumes nothing.
use Rattle.book.proofs.refinement.HoldsLaws.{header_set}
use Rattle.book.proofs.words.set_header_word.Goals as goal

pub returns : goal.returns
returns c = header_set c.args.w.now c.args.k c.args.x c.requires.1 c.requires.2 c.requires.0
