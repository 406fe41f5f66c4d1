-- As many orders as rest are copied, or none. Assumes nothing.
use mathlib.Core.Path.{sym, ap, ◌∙◌}
use Rattle.std.proofs.lemmas.List.{length-take-le}
use mathlib.Core.List.{List, ◌++◌}
use lib.ListN.{length, drop}
use Prim.Native.Nat.{ℕ}
use Rattle.book.specs.rules.Words.{resting}
use Rattle.std.proofs.lemmas.Result.{err_from_is_err_and}
use Rattle.book.specs.declared.OrderRecord.{OrderRecord}
use Rattle.engine.proofs.refinement.CopyLaws.{copy_given, copy_done, copy_kept}
use Rattle.engine.proofs.copy.copy_out.Goals as goal

pub returns-in_err-count : goal.returns-in_err-count
returns-in_err-count c =
    let p = err_from_is_err_and c.from_residual.result c.from_residual.ensures.1 in
    rw (p.1, p.2) (c.in_err-count.ensures, copy_kept _ _ c.in_err-count.ensures)

pub slice_bounds-copy_orders-end : goal.slice_bounds-copy_orders-end
slice_bounds-copy_orders-end c = (copy_given c.in_ok-count.ensures).few

pub slice_bounds-copy_orders-end-2 : goal.slice_bounds-copy_orders-end-2
slice_bounds-copy_orders-end-2 c = let few = (copy_given c.in_ok-count.ensures).few in sym (length-take-le _ c.args.run.now few)

pub copy_orders-requires : goal.copy_orders-requires
copy_orders-requires c = let g = copy_given c.in_ok-count.ensures in length-take-le _ c.args.run.now g.few ∙ (g.is ∙ ap (λ (w : List ℕ). length (resting w)) (sym c.new.ensures))

pub new-requires : goal.new-requires
new-requires c = (copy_given c.in_ok-count.ensures).book

pub returns : goal.returns
returns c =
    let count = c.in_ok-count.count in
    (c.in_ok-count.ensures, ap (λ (l : List OrderRecord). l ++ drop count c.args.run.now) (rw c.new.ensures at c.copy_orders.ensures) ∙ copy_done _ _ c.in_ok-count.ensures)
