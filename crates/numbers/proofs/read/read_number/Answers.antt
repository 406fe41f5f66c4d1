-- One group more, behind which the number goes on. Assumes nothing.
use native.Mathlib.Omega.{arith}
use mathlib.Core.Path.{◌≡◌, sym}
use lib.ListN.{get_or, length}
use Prim.Native.Nat.{◌<◌}
use Rattle.std.proofs.lemmas.Grind.{common_steps}
use Rattle.numbers.proofs.ReadLaws.{reading_more}
use Rattle.numbers.proofs.read.read_number.Goals as goal
use Rattle.numbers.proofs.read.read_number.Goals.{In-Some}

inside : (c : In-Some) → c.loop-byte.i < length c.args.bytes.now
inside c = grind (arith, common_steps)

is-byte : (c : In-Some) → c.in-Some.field-0.now ≡ get_or c.args.bytes.now c.loop-byte.i 0
is-byte c = grind (arith, common_steps)

pub loop-byte-preserved : goal.loop-byte-preserved
loop-byte-preserved c =
    let some = (goal.at.loop-byte-preserved c).In-Some in
    rw c.from-in-More.ensures (reading_more c.loop-byte.invariant (inside some) (is-byte some) (sym c.in-More.ensures) (omega (arith, is-byte some, c.type_inv.bytes c.loop-byte.i)))
