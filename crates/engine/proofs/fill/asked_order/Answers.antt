-- The order of the entry that is asked about, in the market of the words. Assumes nothing.
use mathlib.Core.Path.{sym, ap, ◌∙◌, subst}
use lib.Dec.{T}
use Rattle.prices.specs.Prices.{is_bid}
use Rattle.engine.specs.declared.Market.{Market}
use Rattle.engine.specs.rules.Working.{order_of}
use Rattle.engine.specs.rules.Fill.{asked_entry, asked_order}
use Rattle.engine.proofs.refinement.RefuseLaws.{words_sound}
use Rattle.engine.proofs.demand3.SoundLaws.{sound_venue}
use Rattle.engine.proofs.fill.asked_order.Goals as goal

pub order_of-requires : goal.order_of-requires
order_of-requires c =
    subst (λ (m : Market). T (is_bid m.step m.bid)) (sym c.market.ensures) (sound_venue _ (words_sound _ c.requires)).market.bid

pub returns : goal.returns
unfolding asked_order
returns c =
    let a = c.args in
    c.order_of.ensures ∙ ap (λ m. order_of m 0 0 (asked_entry a.mark a.price a.shares)) c.market.ensures
