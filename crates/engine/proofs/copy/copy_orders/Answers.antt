use Prim.Native.Nat.{ℕ}
use native.Mathlib.Omega.{arith}
use mathlib.Core.Path.{◌≡◌, ap, ◌∙◌}
use mathlib.Core.List.{List}
use lib.ListN.{length, set}
use Rattle.book.specs.declared.OrderRecord.{OrderRecord}
use Rattle.engine.proofs.refinement.CopyLaws.{fill_to, fill_none, fill_next, fill_length, record_out, all_out}
use Rattle.engine.proofs.copy.copy_orders.Goals as goal

pub loop-i-init : goal.loop-i-init
loop-i-init c = fill_none _ _

pub record_at-requires : goal.record_at-requires
record_at-requires c =
    omega (arith, c.loop-i-test.true, c.requires, ap length c.loop-i.invariant, fill_length c.loop-i.i (record_out c.args.book.words.now) c.args.run.now)

pub loop-i-preserved : goal.loop-i-preserved
loop-i-preserved c =
    let w = c.args.book.words.now in
    let i = c.loop-i.i in
    ap (λ (l : List OrderRecord). set l i c.record_at.result) c.loop-i.invariant ∙ ap (set (fill_to i (record_out w) c.args.run.now) i) c.record_at.ensures ∙ fill_next i (record_out w) c.args.run.now

pub returns : goal.returns
returns c =
    let w = c.args.book.words.now in
    let end : c.loop-i.i ≡ length c.args.run.now = omega arith in
    c.loop-i.invariant ∙ ap (λ (n : ℕ). fill_to n (record_out w) c.args.run.now) end ∙ all_out w _ c.requires
