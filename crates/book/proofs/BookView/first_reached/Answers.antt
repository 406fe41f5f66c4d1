use native.Mathlib.Omega.{arith}
use mathlib.Core.Path.{◌≡◌, sym, ap, ◌∙◌}
use mathlib.Core.Bool.{false}
use mathlib.Core.Option.{none}
use lib.ListN.{get_or}
use Rattle.std.specs.Prelude.{None}
use Rattle.book.specs.rules.Matching.{reaches}
use Rattle.book.specs.rules.Words.{empty_order, resting}
use Rattle.book.proofs.refinement.StepLaws.{best_start, best_more, best_end, consider_unreached}
use Rattle.book.proofs.BookView.first_reached.Goals as goal

pub loop-i-init : goal.loop-i-init
loop-i-init c = let a = c.args in best_start a.o (resting a.self.words.now)

pub returns-then-reaches : goal.returns-then-reaches
returns-then-reaches c =
    let a = c.args in
    let l = resting a.self.words.now in
    let i = c.loop-i.i in
    (omega (arith, c.loop-i-test.true, c.count-i-end.ensures), c.loop-i.invariant, ap (reaches a.o) (sym c.order.ensures) ∙ sym c.reaches.ensures ∙ c.if-reaches.true)

pub loop-i-preserved : goal.loop-i-preserved
loop-i-preserved c =
    let a = c.args in
    let l = resting a.self.words.now in
    let i = c.loop-i.i in
    let r : reaches a.o (get_or l i empty_order) ≡ false = ap (reaches a.o) (sym c.order.ensures) ∙ sym c.reaches.ensures ∙ c.if-reaches.false in
    c.loop-i.invariant ∙ best_more a.o l None None i (omega (arith, c.loop-i-test.true, c.count-i-end.ensures)) (sym (consider_unreached a.o l i None r))

pub returns : goal.returns
returns c =
    let a = c.args in
    let l = resting a.self.words.now in
    c.loop-i.invariant ∙ best_end a.o l none c.loop-i.i (omega (arith, c.loop-i-test.false, c.count-i-end.ensures))
