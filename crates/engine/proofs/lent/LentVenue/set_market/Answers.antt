-- `set_market` writes its three header words. Assumes nothing.
use mathlib.Core.Path.{refl}
use Rattle.engine.proofs.refinement.MemoryLaws.{market_set}
use Rattle.engine.proofs.lent.LentVenue.set_market.Goals as goal

pub returns-clause-becomes : goal.returns-clause-becomes
returns-clause-becomes c =
    record { venue = market_set c.args.m c.args.self.now.ordered c.requires c.set_header_word.ensures c.set_header_word-2.ensures c.set_header_word-3.ensures; buffer = refl; end = refl }
