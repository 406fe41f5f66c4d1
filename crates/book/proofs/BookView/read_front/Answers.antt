use Prim.Native.Nat.{◌<◌}
use native.Mathlib.Omega.{arith}
use mathlib.Core.Path.{◌≡◌, sym, ◌∙◌}
use lib.ListN.{length, get_or}
use Rattle.book.specs.rules.Fill.{shares_reached}
use Rattle.book.specs.rules.Words.{resting, empty_order}
use Rattle.book.proofs.refinement.FrontLaws.{shares_of_reached, shares_of_unreached, read_start, read_enough, read_next, read_none}
use Rattle.book.proofs.BookView.read_front.Goals as goal
use Rattle.book.proofs.BookView.read_front.Goals.{then-reaches+else-missing-x, else-reaches}

pub loop-i-init : goal.loop-i-init
loop-i-init c = let a = c.args in (read_start a.o (resting a.self.words.now), c.requires)

pub returns-then-missing-x : goal.returns-then-missing-x
returns-then-missing-x c =
    let l = c.loop-i in
    let o = c.args.o in
    let orders = resting c.args.self.words.now in
    let found : shares_reached o (get_or orders l.i empty_order) ≡ c.order-x.result.shares = rw (← c.order-x.ensures) (shares_of_reached o c.order-x.result c.if-reaches.ensures) in
    sym (read_enough l.missing o orders l.i (omega (arith, c.loop-i-test.true, c.count-n.ensures)) l.invariant.1 (omega (arith, c.if-missing-x.true, found))) ∙ l.invariant.0

pub loop-i-preserved : goal.loop-i-preserved
loop-i-preserved c =
    let l = c.loop-i in
    let o = c.args.o in
    let orders = resting c.args.self.words.now in
    let x = get_or orders l.i empty_order in
    let at : l.i < length orders = omega (arith, c.loop-i-test.true, c.count-n.ensures) in
    elim c.if-reaches.branch [
      | then-reaches+else-missing-x w ↦
          let found : shares_reached o x ≡ c.order-x.result.shares = rw (← c.order-x.ensures) (shares_of_reached o c.order-x.result w.if-reaches.ensures) in
          (sym (read_next l.missing o orders l.i at c.if-reaches.missing (omega (arith, found, w.if-missing-x.false)) (omega (arith, found, w.missing-is))) ∙ l.invariant.0, omega (arith, w.missing-is, w.if-missing-x.false))
      | else-reaches w ↦
          let none : shares_reached o x ≡ 0 = rw (← c.order-x.ensures) (shares_of_unreached o c.order-x.result w.if-reaches.ensures) in
          (sym (read_next l.missing o orders l.i at c.if-reaches.missing (omega (arith, none, l.invariant.1)) (omega (arith, none, w.missing-is))) ∙ l.invariant.0, omega (arith, w.missing-is, l.invariant.1))
    ]

pub returns : goal.returns
returns c =
    let a = c.args in
    let l = c.loop-i in
    let n = c.count-n in
    let e : l.i ≡ n.result = omega (arith, c.loop-i-test.false) in
    rw (← e) (sym (read_none l.missing a.o (resting a.self.words.now) l.i l.invariant.1 (omega (arith, e, n.ensures))) ∙ l.invariant.0)
