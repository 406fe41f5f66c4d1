-- The record of the order at a position. Assumes nothing.
use mathlib.Core.Path.{ap, ◌∙◌}
use Rattle.book.specs.rules.OrderRecords.{record_of}
use Rattle.book.proofs.BookView.record_at.Goals as goal

pub returns : goal.returns
returns c = c.from.ensures ∙ ap record_of c.order.ensures
