use Prim.Native.Nat.{◌+◌}
use lib.ListN.{get_or, drop}
use borrow.Author.Rules.{rules}
use Rattle.numbers.specs.SevenBit.{bytes_of, bytes_of_all}
use Rattle.numbers.proofs.ByteLaws.{all_next, all_none}
use Rattle.numbers.proofs.WriteLaws.{remaining_fits, remaining_put, remaining_none}
use Rattle.numbers.proofs.write.put_numbers.Goals as goal

pub put_number-end-requires : goal.put_number-end-requires
put_number-end-requires c =
    let xs = c.args.xs.now in
    remaining_fits c.requires (bytes_of (get_or xs c.loop-x.x-index 0)) (bytes_of_all (drop (c.loop-x.x-index + 1) xs)) (rw (all_next xs c.loop-x.x-index c.loop-x-test.true) at c.loop-x.invariant.0)

pub loop-x-preserved : goal.loop-x-preserved
loop-x-preserved c =
    let xs = c.args.xs.now in
    (remaining_put c.requires (bytes_of (get_or xs c.loop-x.x-index 0)) (bytes_of_all (drop (c.loop-x.x-index + 1) xs)) (rw (all_next xs c.loop-x.x-index c.loop-x-test.true) at c.loop-x.invariant.0) c.put_number-end.ensures, search rules)

pub returns : goal.returns
returns c =
    let xs = c.args.xs.now in
    remaining_none c.requires (rw (all_none xs c.loop-x.x-index c.loop-x-test.false) at c.loop-x.invariant.0)
