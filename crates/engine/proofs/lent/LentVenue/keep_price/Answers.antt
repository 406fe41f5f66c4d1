-- `keep_price`: the new price is written behind those from the position on, and they are counted. Assumes nothing.
use Rattle.engine.proofs.refinement.MemoryLaws.{new_kept}
use Rattle.engine.proofs.refinement.TimedLaws.{price_kept}
use Rattle.engine.proofs.lent.LentVenue.keep_price.Goals as goal

pub invariant_of-self : goal.invariant_of-self
invariant_of-self c = record { ordered = (new_kept c.args.self.now.ordered c.keep.ensures).ordered }

pub returns-clause-becomes : goal.returns-clause-becomes
returns-clause-becomes c =
    let e = c.set_kept_count.ensures.becomes in
    record { venue = price_kept c.args.self.now.ordered c.requires.counted.0 c.requires.within_time c.keep.ensures e.venue; buffer = e.buffer; end = e.end }
