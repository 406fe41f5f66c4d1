-- `set_kept_count` writes the header word that counts the kept prices. Assumes nothing.
use mathlib.Core.Path.{refl}
use Rattle.engine.proofs.refinement.MemoryLaws.{kept_counted}
use Rattle.engine.proofs.lent.LentVenue.set_kept_count.Goals as goal

pub returns-clause-becomes : goal.returns-clause-becomes
returns-clause-becomes c = record { venue = kept_counted c.args.self.now.ordered c.set_header_word.ensures; buffer = refl; end = refl }
