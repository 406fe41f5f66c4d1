-- The numbers are written where their bytes fit, and nothing is where they don't. Assumes nothing.
use Rattle.numbers.specs.SevenBit.{bytes_of_all}
use Rattle.numbers.proofs.WriteLaws.{room, no_room, written_fits, written_not}
use Rattle.numbers.proofs.write.write_numbers.Goals as goal

pub returns-then-not-fits : goal.returns-then-not-fits
returns-then-not-fits c =
    written_not (no_room (bytes_of_all c.args.xs.now) _ _ c.byte_counts.ensures c.fits.ensures c.if-not-fits.true)

pub returns : goal.returns
returns c =
    let p = c.put_numbers.ensures in
    let new = bytes_of_all c.args.xs.now in
    written_fits (room new _ _ c.byte_counts.ensures c.fits.ensures c.if-not-fits.false) p.ends p.leaves
