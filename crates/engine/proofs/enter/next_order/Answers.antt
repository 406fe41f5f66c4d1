-- The order of an entry in the market of the words, with the next stamp. Assumes nothing.
use Prim.Native.Nat.{◌+◌}
use native.Mathlib.Omega.{arith}
use mathlib.Core.Path.{sym, ap, ap₂, ◌∙◌, subst}
use lib.Dec.{T}
use Rattle.prices.specs.Prices.{is_bid}
use Rattle.engine.specs.declared.Market.{Market}
use Rattle.engine.specs.rules.Working.{order_of}
use Rattle.engine.specs.rules.Layout.{venue_of}
use Rattle.engine.proofs.refinement.EnterLaws.{accept_bid, accept_stamps}
use Rattle.engine.proofs.enter.next_order.Goals as goal

pub overflow_add-stamp : goal.overflow_add-stamp
unfolding venue_of
overflow_add-stamp c = omega (arith, accept_stamps c.requires, c.header_word-stamp.ensures)

pub order_of-requires : goal.order_of-requires
order_of-requires c = subst (λ (m : Market). T (is_bid m.step m.bid)) (sym c.market.ensures) (accept_bid c.requires)

pub returns : goal.returns
unfolding venue_of
returns c =
    let a = c.args in
    c.order_of.ensures ∙ ap₂ (λ m s. order_of m s a.owner a.e) c.market.ensures (ap (λ n. n + 1) c.header_word-stamp.ensures)
