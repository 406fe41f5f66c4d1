use Prim.Native.Nat.{ℕ, ◌+◌}
use native.Mathlib.Omega.{arith}
use mathlib.Core.Path.{◌≡◌, ap, ◌∙◌}
use lib.ListN.{length, get_or}
use borrow.Author.Tests.{le-ltb}
use Rattle.numbers.specs.Tests.{pick}
use Rattle.book.specs.rules.Depth.{shares_shown, all_shown, depth_outcome, depth_of}
use Rattle.book.specs.steps.LentRuns.{empty_record}
use Rattle.book.proofs.refinement.DepthLaws.{shown_to, shown_none, shown_next, shown_all}
use Rattle.book.proofs.depth.depth.Goals as goal

pub loop-o-init : goal.loop-o-init
loop-o-init c = (shown_none _ _ _, omega arith)

pub loop-o-preserved : goal.loop-o-preserved
loop-o-preserved c =
    let a = c.args in
    let l = c.loop-o in
    let shown = c.shares_shown-sum.ensures in
    (ap (λ (n : ℕ). l.sum + n) shown.0 ∙ ap (λ (n : ℕ). n + shares_shown a.price a.side (get_or a.run.now l.o-index empty_record)) l.invariant.0 ∙ shown_next l.o-index a.price a.side a.run.now, omega (arith, shown.1, l.invariant.1))

pub returns : goal.returns
unfolding depth_of depth_outcome pick
returns c =
    let a = c.args in
    let l = c.loop-o in
    let n = length a.run.now in
    let all : l.o-index ≡ n = omega (arith, c.loop-o-test.false) in
    let e : l.sum ≡ all_shown a.price a.side a.run.now = l.invariant.0 ∙ ap (λ (i : ℕ). shown_to i a.price a.side a.run.now) all ∙ shown_all a.price a.side a.run.now in
    simp (le-ltb _ _ c.if-run-gt-MOST_RECORDS.false, e)
