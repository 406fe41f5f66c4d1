-- A trade of all shares takes the order out, any other leaves it with the rest. Assumes nothing.
use Prim.Native.Nat.{◌≤◌, ◌<◌}
use mathlib.Core.Path.{ap, ◌∙◌, subst}
use lib.ListN.{set}
use Rattle.book.specs.declared.Order.{Order}
use Rattle.book.specs.rules.Orders.{reduced}
use Rattle.book.specs.rules.Words.{resting}
use Rattle.book.proofs.definitions.RisingLaws.{ids_rise_rises}
use Rattle.book.proofs.refinement.HoldsLaws.{holds_as}
use Rattle.book.proofs.refinement.StepLaws.{trade_all, trade_part}
use Rattle.book.proofs.trade.trade.Goals as goal

pub returns-then-o-q : goal.returns-then-o-q
returns-then-o-q c = let l = resting c.args.w.now in let r = ids_rise_rises 0 l c.requires.2 in let o = rw c.new.ensures at c.order-o.ensures in holds_as c.remove_at.ensures (trade_all l c.args.i r c.requires.1 c.args.q (subst (λ (x : Order). x.shares ≤ c.args.q) o c.if-o-q.true))

pub returns-else-o-q : goal.returns-else-o-q
returns-else-o-q c = let l = resting c.args.w.now in let r = ids_rise_rises 0 l c.requires.2 in let o = rw c.new.ensures at c.order-o.ensures in holds_as c.replace.ensures (ap (set l c.args.i) (c.reduce.ensures ∙ ap (reduced c.args.q) o) ∙ trade_part l c.args.i r c.requires.1 c.args.q (subst (λ (x : Order). c.args.q < x.shares) o c.if-o-q.false))
