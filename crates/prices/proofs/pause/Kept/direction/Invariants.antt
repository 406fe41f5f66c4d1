-- The loop of `direction`: a fall or a rise so far, or among the prices from i on, is one among all. Assumes nothing.
use Prim.Native.Nat.{◌≤◌}
use mathlib.Core.Path.{◌≡◌}
use mathlib.Core.Bool.{◌||◌}
use lib.ListN.{length, drop}
use Rattle.numbers.specs.Tests.{any}
use Rattle.prices.specs.Pause.{is_fall, is_rise}
use Rattle.prices.proofs.pause.Kept.direction.Given as goal

abbrev pub invariant-loop-i : goal.invariant-loop-i
invariant-loop-i l = ((l.falls || any (is_fall l.price) (drop l.i l.self)) ≡ any (is_fall l.price) (drop l.from l.self)) × ((l.rises || any (is_rise l.price) (drop l.i l.self)) ≡ any (is_rise l.price) (drop l.from l.self)) × (l.i ≤ length l.self)
