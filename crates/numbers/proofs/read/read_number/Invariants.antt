-- The loop of `read_number`: the groups read so far say `value`, and the rest of the bytes say the rest. Assumes nothing.
use Prim.Native.Nat.{◌-◌}
use lib.ListN.{length}
use Rattle.numbers.proofs.ReadLaws.{Reading}
use Rattle.numbers.proofs.read.read_number.Given as goal

abbrev pub invariant-loop-byte : goal.invariant-loop-byte
invariant-loop-byte l = Reading l.bytes l.at l.value l.scale l.before l.i

abbrev pub decreases-loop-byte : goal.decreases-loop-byte
decreases-loop-byte l = length l.bytes - l.i
