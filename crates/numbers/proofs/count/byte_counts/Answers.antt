use Prim.Native.Nat.{◌+◌, ◌≤◌}
use native.Mathlib.Omega.{arith}
use mathlib.Core.Path.{ap, ◌∙◌}
use lib.ListN.{length, get_or, drop, length-append}
use borrow.Author.Rules.{rules}
use Rattle.numbers.specs.SevenBit.{bytes_of, bytes_of_all, byte_count}
use Rattle.numbers.proofs.ByteLaws.{at_most_10, all_next}
use Rattle.numbers.proofs.count.byte_counts.Goals as goal
use Rattle.numbers.proofs.count.byte_counts.Goals.{After-byte_count-count}

-- one number more takes at most 10 bytes
small : (c : After-byte_count-count) → c.byte_count-count.result ≤ 10
unfolding byte_count
small c =
    let x = get_or c.args.xs.now c.loop-x.x-index 0 in
    omega (arith, c.byte_count-count.ensures, at_most_10 x (omega (arith, c.type_inv.xs c.loop-x.x-index)))

pub loop-x-preserved : goal.loop-x-preserved
unfolding byte_count
loop-x-preserved c =
    let xs = c.args.xs.now in
    let n = ap length (all_next xs c.loop-x.x-index c.loop-x-test.true) ∙ length-append (bytes_of (get_or xs c.loop-x.x-index 0)) (bytes_of_all (drop (c.loop-x.x-index + 1) xs)) in
    (search rules, omega (arith, small (goal.at.loop-x-preserved c).After-byte_count-count, c.loop-x.invariant.1), omega (arith, c.loop-x.invariant.2, n, c.byte_count-count.ensures))
