use Prim.Native.Nat.{◌<◌}
use native.Mathlib.Omega.{arith}
use mathlib.Core.Path.{sym, ◌∙◌}
use lib.ListN.{length}
use Rattle.std.specs.Prelude.{Some, None}
use Rattle.book.specs.rules.Words.{resting}
use Rattle.book.specs.steps.Positions.{order_in}
use Rattle.book.proofs.refinement.StepLaws.{best_more, best_end, consider_first}
use Rattle.book.proofs.BookView.best.Goals as goal

pub loop-i-init : goal.loop-i-init
loop-i-init c =
    let a = c.args in
    let l = resting a.self.words.now in
    let first = c.in_ok-best.ensures in
    (first.1 ∙ best_more a.o l None (Some c.in_ok-best.best) c.in_ok-best.best first.0 (sym (consider_first a.o l c.in_ok-best.best first.2)), omega arith)

pub loop-i-preserved : goal.loop-i-preserved
loop-i-preserved c =
    let a = c.args in
    let l = resting a.self.words.now in
    let at = c.loop-i in
    let h : at.i < length l = omega (arith, c.loop-i-test.true, c.count-i-end.ensures) in
    (at.invariant.0 ∙ best_more a.o l (Some at.best) (Some c.consider-best.result) at.i h c.consider-best.ensures.is, c.consider-best.ensures.below)

pub returns : goal.returns
returns c =
    let a = c.args in
    let l = resting a.self.words.now in
    let at = c.loop-i in
    record { is = sym (at.invariant.0 ∙ best_end a.o l (order_in l (Some at.best)) at.i (omega (arith, c.loop-i-test.false, c.count-i-end.ensures))); below = omega (arith, at.invariant.1, at.auto.i-end, c.in_ok-best.ensures.0, c.count-i-end.ensures) }
