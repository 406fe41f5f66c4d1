-- The words moved down and the two words of the new price. Assumes nothing.
use native.Mathlib.Omega.{arith}
use lib.Seq.{lt-length-set}
use Rattle.prices.proofs.KeptWordLaws.{keeps_new}
use Rattle.prices.proofs.pause.keep.Goals as goal

pub bounds-w-at-2 : goal.bounds-w-at-2
bounds-w-at-2 c =
    let m = c.shift_down in
    lt-length-set m.new.w _ _ (omega (arith, m.ensures.size))

pub returns : goal.returns
returns c =
    let p = c.requires in
    keeps_new _ _ _ _ _ _ p.1 p.3 p.0 c.shift_down.ensures
