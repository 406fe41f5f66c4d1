-- `remove_at` takes one order out. Assumes nothing.
use Prim.Native.Nat.{◌≤◌}
use native.Mathlib.Omega.{arith}
use lib.ListN.{length}
use Rattle.book.proofs.refinement.WordStepLaws.{part_down}
use Rattle.book.proofs.refinement.HoldsLaws.{removed}
use Rattle.book.proofs.place.remove_at.Goals as goal

pub returns : goal.returns
returns c =
    let w = c.args.w.now in
    let n = rw c.new.ensures at c.count-last.ensures in
    let from = c.first_word-from in
    let to = c.first_word-to in
    let f : from.result ≤ to.result = omega (arith, n, from.ensures, to.ensures, c.requires.1) in
    let g : from.result ≤ length w = omega (arith, from.ensures, c.requires.0.long, c.requires.0.few, c.requires.1) in
    removed w _ c.args.i c.count-last.result from.result to.result n from.ensures to.ensures c.requires.0 c.requires.1 (part_down w c.shift_down.new.s from.result to.result f g c.shift_down.ensures)
