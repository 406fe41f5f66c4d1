-- The loop of `is_sound`: the places passed are sound, and heads and links chain them by their stamps. Assumes nothing.
use mathlib.Core.Path.{◌≡◌}
use Rattle.prices.specs.Steps.{step_value}
use Rattle.book.specs.steps.RecordWalk.{id_before}
use Rattle.book.proofs.refinement.WalkLaws.{Walked}
use Rattle.book.proofs.sound.is_sound.Given as goal

abbrev pub invariant-loop-i : goal.invariant-loop-i
invariant-loop-i l = Walked (step_value l.fn.step) l.last_id l.last_stamp l.w l.heads l.links l.i × (l.before ≡ id_before l.w l.i)
