use native.Mathlib.Omega.{arith}
use mathlib.Core.Path.{sym, ◌∙◌}
use borrow.Author.Rules.{rules}
use Rattle.numbers.proofs.ByteLaws.{length_last, length_more}
use Rattle.numbers.proofs.PlaceLaws.{overwrite_sets}
use Rattle.numbers.proofs.WriteLaws.{write_more, write_last}
use Rattle.numbers.proofs.write.put_number.Goals as goal

pub bounds-bytes-i : goal.bounds-bytes-i
bounds-bytes-i c = omega (arith, c.requires, length_more c.loop-rest.rest c.loop-rest-test.true)

pub loop-rest-preserved : goal.loop-rest-preserved
loop-rest-preserved c =
    let s = c.loop-rest in
    let h = c.loop-rest-test.true in
    (s.invariant.0 ∙ write_more s.bytes s.i s.rest h, omega (arith, s.invariant.1, length_more s.rest h), search rules, omega arith)

pub bounds-bytes-i-2 : goal.bounds-bytes-i-2
bounds-bytes-i-2 c = omega (arith, c.requires, length_last c.loop-rest.rest c.loop-rest-test.false)

pub returns : goal.returns
returns c =
    let s = c.loop-rest in
    let h = c.loop-rest-test.false in
    record { ends = omega (arith, s.invariant.1, length_last s.rest h); leaves = sym (overwrite_sets _ _ _ c.requires ∙ s.invariant.0 ∙ write_last s.bytes s.i s.rest h) }
