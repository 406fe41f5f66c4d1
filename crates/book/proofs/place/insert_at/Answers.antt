-- `insert_at` puts one order in. Assumes nothing.
use Prim.Native.Nat.{◌-◌, ◌≤◌}
use native.Mathlib.Omega.{arith}
use lib.ListN.{length}
use borrow.Rule.Slice.PartMut.{put_mid}
use Rattle.book.specs.steps.WordSteps.{ShiftedUp}
use Rattle.book.proofs.refinement.WordStepLaws.{part_up}
use Rattle.book.proofs.refinement.HoldsLaws.{inserted}
use Rattle.book.proofs.place.insert_at.Goals as goal
use Rattle.book.proofs.place.insert_at.Goals.{After-shift_up}

-- the orders from the position on are moved up
moved : (c : After-shift_up) → let w = c.args.w.now in let from = c.first_word-from.result in ShiftedUp w (put_mid from (length w - from) w c.shift_up.new.s) from c.first_word-to.result
moved c =
    let w = c.args.w.now in
    let n = rw c.new.ensures at c.count-n.ensures in
    let from = c.first_word-from in
    let to = c.first_word-to in
    let f : from.result ≤ to.result = omega (arith, n, from.ensures, to.ensures, c.requires.1) in
    let g : from.result ≤ length w = omega (arith, from.ensures, c.requires.0.long, c.requires.0.few, c.requires.1) in
    part_up w c.shift_up.new.s from.result to.result f g c.shift_up.ensures

pub returns : goal.returns
returns c =
    let n = rw c.new.ensures at c.count-n.ensures in
    let from = c.first_word-from in
    let to = c.first_word-to in
    inserted c.args.w.now _ c.store.new.w c.args.o c.args.at c.count-n.result from.result to.result n from.ensures to.ensures c.requires.1 c.requires.0 c.requires.2 (moved (goal.at.returns c).After-shift_up) c.store.ensures
