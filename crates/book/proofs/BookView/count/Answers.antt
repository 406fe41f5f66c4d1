-- `count` gives the number of orders. Assumes nothing.
use mathlib.Core.Path.{sym}
use Rattle.book.proofs.refinement.WordLaws.{resting_length}
use Rattle.book.proofs.BookView.count.Goals as goal

pub returns : goal.returns
returns c = sym (resting_length c.args.self.words.now)
