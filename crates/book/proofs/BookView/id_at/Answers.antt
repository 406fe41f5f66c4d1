-- `id_at` gives the id of the order at a position. Assumes nothing.
use native.Mathlib.Omega.{arith}
use mathlib.Core.Path.{ap}
use Rattle.book.specs.declared.Order.{Order}
use Rattle.book.proofs.refinement.PlaceLaws.{order_in_place}
use Rattle.book.proofs.BookView.id_at.Goals as goal

pub returns : goal.returns
returns c = ap (λ (o : Order). o.id) (order_in_place c.args.self.words.now _ c.args.i c.places.ensures.places (omega (arith, c.requires, c.args.self.laid_out.few)) c.requires)
