-- `consider` by its tests. Assumes nothing.
use mathlib.Core.Path.{◌≡◌, sym, ap, ap₂, ◌∙◌}
use native.Mathlib.Omega.{arith}
use mathlib.Core.Bool.{true, false}
use lib.ListN.{get_or}
use Rattle.std.specs.Prelude.{Some}
use Rattle.book.specs.rules.Matching.{reaches, better}
use Rattle.book.specs.rules.Words.{empty_order, resting}
use Rattle.book.proofs.refinement.StepLaws.{consider_better, consider_worse, consider_unreached}
use Rattle.book.proofs.BookView.consider.Goals as goal

pub returns-then-better : goal.returns-then-better
returns-then-better c =
    let l = resting c.args.self.words.now in
    let o = c.args.o in
    let i = c.args.i in
    let b = c.args.best in
    let r : reaches o (get_or l i empty_order) ≡ true = ap (reaches o) (sym c.order-x.ensures) ∙ sym c.reaches.ensures ∙ c.if-reaches.true in
    let q : better o (get_or l i empty_order) (get_or l b empty_order) ≡ true = ap₂ (better o) (sym c.order-x.ensures) (sym c.order.ensures) ∙ sym c.better.ensures ∙ c.if-better.true in
    record { is = sym (consider_better o l i b r q); below = omega arith }

pub returns-else-better : goal.returns-else-better
returns-else-better c =
    let l = resting c.args.self.words.now in
    let o = c.args.o in
    let i = c.args.i in
    let b = c.args.best in
    let r : reaches o (get_or l i empty_order) ≡ true = ap (reaches o) (sym c.order-x.ensures) ∙ sym c.reaches.ensures ∙ c.if-reaches.true in
    let q : better o (get_or l i empty_order) (get_or l b empty_order) ≡ false = ap₂ (better o) (sym c.order-x.ensures) (sym c.order.ensures) ∙ sym c.better.ensures ∙ c.if-better.false in
    record { is = sym (consider_worse o l i b r q); below = omega arith }

pub returns-else-reaches : goal.returns-else-reaches
returns-else-reaches c =
    let l = resting c.args.self.words.now in
    let o = c.args.o in
    let i = c.args.i in
    let r : reaches o (get_or l i empty_order) ≡ false = ap (reaches o) (sym c.order-x.ensures) ∙ sym c.reaches.ensures ∙ c.if-reaches.false in
    record { is = sym (consider_unreached o l i (Some c.args.best) r); below = omega arith }
