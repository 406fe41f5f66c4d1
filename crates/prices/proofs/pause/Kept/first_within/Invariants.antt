-- The loop of `first_within`: what is within is within the prices from i on, which are in order. Assumes nothing.
use Prim.Native.Nat.{◌-◌, ◌≤◌}
use mathlib.Core.Path.{◌≡◌}
use lib.Dec.{T}
use lib.ListN.{length, drop}
use Rattle.prices.specs.Pause.{within, times_in_order, rolling_seconds}
use Rattle.prices.proofs.pause.Kept.first_within.Given as goal

abbrev pub invariant-loop-i : goal.invariant-loop-i
invariant-loop-i l = (within l.time l.self ≡ within l.time (drop l.i l.self)) × T (times_in_order 0 (drop l.i l.self)) × (l.least ≡ l.time - rolling_seconds) × (l.i ≤ length l.self)
