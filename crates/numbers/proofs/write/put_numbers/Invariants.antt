-- The loop of `put_numbers`: writing the numbers left from here on is writing all of them from the start. Assumes nothing.
use Prim.Native.Nat.{◌≤◌}
use lib.ListN.{length, drop}
use Rattle.numbers.specs.SevenBit.{bytes_of_all}
use Rattle.numbers.proofs.WriteLaws.{Remaining}
use Rattle.numbers.proofs.write.put_numbers.Given as goal

abbrev pub invariant-loop-x : goal.invariant-loop-x
invariant-loop-x l = Remaining l.initial.bytes l.at (bytes_of_all l.xs) l.bytes l.end (bytes_of_all (drop l.x-index l.xs)) × (l.x-index ≤ length l.xs)
