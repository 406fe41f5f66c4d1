-- A field ends behind where it began. Assumes nothing.
use Rattle.std.proofs.Common.{arith, sym, le_refl}
use Rattle.numbers.proofs.ReadLaws.{all_bytes}
use Rattle.console.proofs.NumberLaws.{number_behind}
use Rattle.console.proofs.line.put_report.Goals as goal
use Rattle.console.proofs.line.put_report.Goals.{in-Ok+in_ok-write-2, in_default}

pub loop-init : goal.loop-init
loop-init g c = le_refl _

pub loop-preserved : goal.loop-preserved
loop-preserved g c =
    elim c.match-read_number.branch [
      | in-Ok+in_ok-write-2 w ↦
          let b = number_behind c.args.reports.now _ _ (all_bytes _ (λ i. omega (arith, c.type_inv.reports i))) (sym w.in-Ok.ensures) in
          omega (arith, b.0, w.next-is, c.loop.invariant)
      | in_default w ↦ omega (arith, w.next-is, c.loop.invariant)
    ]
