-- A report ends behind where it began. Assumes nothing.
use Rattle.std.proofs.Common.{arith, sym}
use Rattle.numbers.proofs.ReadLaws.{all_bytes}
use Rattle.console.proofs.NumberLaws.{number_behind}
use Rattle.console.proofs.line.put_reports.Goals as goal

pub loop-kind-smaller : goal.loop-kind-smaller
loop-kind-smaller g c =
    let b = number_behind c.args.reports.now _ _ (all_bytes _ (λ i. omega (arith, c.type_inv.reports i))) (sym c.in-Ok.ensures) in
    omega (arith, b.0, b.1, c.in_ok-next.ensures)
