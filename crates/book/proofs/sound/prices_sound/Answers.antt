-- `prices_sound` by its tests. Assumes nothing.
use Prim.Native.Nat.{ℕ}
use mathlib.Core.Path.{◌≡◌, sym, subst, ◌∙◌}
use mathlib.Core.Bool.{true}
use Rattle.prices.specs.Prices.{legal}
use Rattle.prices.specs.Steps.{step_value}
use Rattle.book.specs.steps.RecordWalk.{prices_sound}
use Rattle.numbers.proofs.TestLaws.{and_yes, and_no}
use Rattle.book.proofs.sound.prices_sound.Goals as goal

pub returns-then-price-limit : goal.returns-then-price-limit
unfolding prices_sound
returns-then-price-limit c = let l = sym c.is_legal.ensures ∙ c.if-is_legal.true in sym (and_yes _ l ∙ and_yes _ (subst (λ (p : ℕ). legal (step_value c.args.step) p ≡ true) (sym c.if-price-limit.true) l) ∙ sym c.is_bid.ensures)

pub returns-then-is_legal-2 : goal.returns-then-is_legal-2
unfolding prices_sound
returns-then-is_legal-2 c = sym (and_yes _ (sym c.is_legal.ensures ∙ c.if-is_legal.true) ∙ and_yes _ (sym c.is_legal-then-is_legal.ensures ∙ c.if-is_legal-2.true) ∙ sym c.is_bid-then-is_legal-2.ensures)

pub returns-else-is_legal-2 : goal.returns-else-is_legal-2
unfolding prices_sound
returns-else-is_legal-2 c = sym (and_yes _ (sym c.is_legal.ensures ∙ c.if-is_legal.true) ∙ and_no _ (sym c.is_legal-then-is_legal.ensures ∙ c.if-is_legal-2.false))

pub returns-else-is_legal : goal.returns-else-is_legal
unfolding prices_sound
returns-else-is_legal c = sym (and_no _ (sym c.is_legal.ensures ∙ c.if-is_legal.false))
