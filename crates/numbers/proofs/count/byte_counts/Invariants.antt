-- The loop of `byte_counts`: the count so far and the bytes of the numbers left are the bytes of all. Assumes nothing.
use Prim.Native.Nat.{◌+◌, ◌*◌, ◌≤◌}
use mathlib.Core.Path.{◌≡◌}
use lib.ListN.{length, drop}
use Rattle.numbers.specs.SevenBit.{bytes_of_all}
use Rattle.numbers.proofs.count.byte_counts.Given as goal

abbrev pub invariant-loop-x : goal.invariant-loop-x
invariant-loop-x l = (l.x-index ≤ length l.xs) × (l.count ≤ 10 * l.x-index) × (l.count + length (bytes_of_all (drop l.x-index l.xs)) ≡ length (bytes_of_all l.xs))
