-- `codes_sound` by its tests. Assumes nothing.
use native.Mathlib.Omega.{arith}
use mathlib.Core.Path.{◌≡◌, sym, ◌∙◌}
use borrow.Author.Tests.{le-leb, lt-leb, eq-eqb, ne_eqb}
use Rattle.numbers.proofs.TestLaws.{and_yes, and_no}
use Rattle.book.specs.steps.RecordWalk.{codes_sound}
use Rattle.book.proofs.refinement.SoundOrderLaws.{slide_of_short, slide_of_other}
use Rattle.book.proofs.sound.codes_sound.Goals as goal

pub returns-then-life-gt0 : goal.returns-then-life-gt0
unfolding codes_sound
returns-then-life-gt0 c = let a = c.args in sym (and_no _ (ne_eqb a.life 0 (λ (e : a.life ≡ 0). omega (arith, c.if-life-gt0.true))))

pub returns-then-mark-eq2 : goal.returns-then-mark-eq2
unfolding codes_sound
returns-then-mark-eq2 c = let a = c.args in slide_of_short a.mark a.slide c.if-mark-eq2.true ∙ sym (and_yes _ (eq-eqb a.life 0 (omega (arith, c.if-life-gt0.false))) ∙ and_yes _ (le-leb a.mark 3 (omega (arith, c.if-mark-eq2.true))))

pub returns-then-mark-gt3 : goal.returns-then-mark-gt3
unfolding codes_sound
returns-then-mark-gt3 c = let a = c.args in sym (and_yes _ (eq-eqb a.life 0 (omega (arith, c.if-life-gt0.false))) ∙ and_no _ (lt-leb a.mark 3 c.if-mark-gt3.true))

pub returns : goal.returns
unfolding codes_sound
returns c = let a = c.args in slide_of_other a.mark a.slide c.if-mark-eq2.false ∙ sym (and_yes _ (eq-eqb a.life 0 (omega (arith, c.if-life-gt0.false))) ∙ and_yes _ (le-leb a.mark 3 c.if-mark-gt3.false))
