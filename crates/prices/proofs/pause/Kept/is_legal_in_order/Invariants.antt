-- The loop of `is_legal_in_order`: whether the prices from i on are legal and in order gives whether all are. Assumes nothing.
use Prim.Native.Nat.{◌≤◌}
use mathlib.Core.Path.{◌≡◌}
use lib.ListN.{length, drop}
use Rattle.prices.specs.Steps.{step_value}
use Rattle.prices.proofs.PauseLaws.{in_order}
use Rattle.prices.proofs.pause.Kept.is_legal_in_order.Given as goal

abbrev pub invariant-loop-i : goal.invariant-loop-i
invariant-loop-i l = (in_order (step_value l.step) l.before (drop l.i l.self) ≡ in_order (step_value l.step) 0 l.self) × (l.i ≤ length l.self)
