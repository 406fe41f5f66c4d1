-- `store` changes the words of its place alone. Assumes nothing.
use native.Mathlib.Omega.{arith}
use mathlib.Core.Path.{◌≡◌, subst}
use Prim.Native.Nat.{ℕ}
use Rattle.book.specs.rules.Words.{order_width}
use Rattle.book.specs.steps.WordSteps.{Copied}
use Rattle.book.proofs.refinement.WordStepLaws.{copied_none, copied_more, copied_stored}
use Rattle.book.proofs.words.store.Goals as goal

pub loop-k-init : goal.loop-k-init
loop-k-init c = copied_none _ _ _

pub loop-k-preserved : goal.loop-k-preserved
loop-k-preserved c =
    copied_more _ _ _ _ _ c.loop-k.invariant (omega (arith, c.first_word-from.ensures, c.loop-k.auto.w, c.loop-k-test.true, c.requires.0, c.requires.1))

pub returns : goal.returns
returns c =
    let w = c.args.w.now in
    let from = c.first_word-from in
    let row = c.from-place in
    let all : c.loop-k.k ≡ order_width = omega (arith, c.loop-k-test.false, c.loop-k.auto.k-end) in
    let whole = subst (λ (k : ℕ). Copied w c.loop-k.w from.result row.result k) all c.loop-k.invariant in
    copied_stored w c.loop-k.w row.result c.args.i c.args.o row.ensures (subst (λ (at : ℕ). Copied w c.loop-k.w at row.result order_width) from.ensures whole)
