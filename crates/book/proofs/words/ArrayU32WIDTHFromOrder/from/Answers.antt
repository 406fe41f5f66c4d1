-- The words of an order. Assumes nothing.
use mathlib.Core.Path.{◌∙◌}
use Rattle.book.proofs.refinement.WordLaws.{row_is}
use Rattle.book.proofs.refinement.PlaceLaws.{flag_is}
use Rattle.book.proofs.words.ArrayU32WIDTHFromOrder.from.Goals as goal

pub returns : goal.returns
returns c =
    let o = c.args.o in
    row_is o _ _ _ _ (c.from.ensures ∙ flag_is o.adjusted) (c.from-2.ensures ∙ flag_is o.used) (c.from-3.ensures ∙ flag_is o.clear) (c.from-4.ensures ∙ flag_is o.market)
