-- The places are the parts of the words behind the header. Assumes nothing.
use mathlib.Core.Path.{◌∙◌}
use Rattle.book.proofs.refinement.PlaceLaws.{places_are}
use Rattle.book.proofs.words.places.Goals as goal

pub returns-clause-places : goal.returns-clause-places
returns-clause-places c = c.as_chunks.ensures.front ∙ places_are c.args.w.now c.requires
