-- `order` gives the order of the words in its place. Assumes nothing.
use mathlib.Core.Path.{◌∙◌}
use native.Mathlib.Omega.{arith}
use Rattle.book.proofs.refinement.PlaceLaws.{order_in_place}
use Rattle.book.proofs.BookView.order.Goals as goal

pub returns : goal.returns
returns c = c.from.ensures ∙ order_in_place c.args.self.words.now _ c.args.i c.places.ensures.places (omega (arith, c.requires, c.args.self.laid_out.few)) c.requires
