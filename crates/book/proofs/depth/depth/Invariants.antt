-- The loop of `depth`: the sum so far is of the records read, each below 2^32. Assumes nothing.
use Prim.Native.Nat.{◌*◌, ◌^◌, ◌≤◌}
use mathlib.Core.Path.{◌≡◌}
use Rattle.book.proofs.refinement.DepthLaws.{shown_to}
use Rattle.book.proofs.depth.depth.Given as goal

abbrev pub invariant-loop-o : goal.invariant-loop-o
invariant-loop-o l = (l.sum ≡ shown_to l.o-index l.price l.side l.run) × (l.sum ≤ l.o-index * 2 ^ 32)
