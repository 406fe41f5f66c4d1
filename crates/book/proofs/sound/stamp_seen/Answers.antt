use Prim.Native.Nat.{◌-◌}
use native.Mathlib.Omega.{arith}
use mathlib.Core.Path.{sym, ◌∙◌}
use Rattle.book.proofs.refinement.PlaceLaws.{word_in_place}
use Rattle.book.proofs.refinement.StampLaws.{chain_start, chain_hit, chain_next, chain_shorter, chain_end}
use Rattle.book.proofs.sound.stamp_seen.Goals as goal

pub loop-at-init : goal.loop-at-init
loop-at-init c = chain_start c.args.w.now c.args.stamp c.args.n c.args.last c.requires.3

pub returns-then-places-j : goal.returns-then-places-j
returns-then-places-j c =
    let at = c.loop-at in
    sym (chain_hit at.invariant c.loop-at-test.true (sym (word_in_place c.args.w.now _ (at.at - 1) 7 c.places.ensures.places (omega (arith, at.invariant.inside, c.requires.1, c.loop-at-test.true)) (omega arith)) ∙ c.if-places-j.true))

pub loop-at-smaller : goal.loop-at-smaller
loop-at-smaller c = let at = c.loop-at in chain_shorter at.invariant c.loop-at-test.true c.args.links.now c.requires.2

pub loop-at-preserved : goal.loop-at-preserved
loop-at-preserved c =
    let at = c.loop-at in
    chain_next at.invariant c.loop-at-test.true c.args.links.now c.requires.2 (λ e. c.if-places-j.false (word_in_place c.args.w.now _ (at.at - 1) 7 c.places.ensures.places (omega (arith, at.invariant.inside, c.requires.1, c.loop-at-test.true)) (omega arith) ∙ e))

pub returns : goal.returns
returns c = sym (chain_end c.loop-at.invariant c.loop-at-test.false)
