-- The loop of `put_number`: writing the rest of the number from here on is writing all of it from the start. Assumes nothing.
use Prim.Native.Nat.{◌+◌, ◌≤◌}
use mathlib.Core.Path.{◌≡◌}
use lib.ListN.{length}
use lib.Seq.{sets}
use Rattle.numbers.specs.SevenBit.{bytes_of}
use Rattle.numbers.proofs.write.put_number.Given as goal

abbrev pub invariant-loop-rest : goal.invariant-loop-rest
invariant-loop-rest l = (sets l.initial.bytes l.at (bytes_of l.x) ≡ sets l.bytes l.i (bytes_of l.rest)) × (l.i + length (bytes_of l.rest) ≡ l.at + length (bytes_of l.x)) × (length l.bytes ≡ length l.initial.bytes) × (l.rest ≤ l.x)

abbrev pub decreases-loop-rest : goal.decreases-loop-rest
decreases-loop-rest l = l.rest
