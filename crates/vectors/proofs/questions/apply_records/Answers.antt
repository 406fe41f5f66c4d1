-- Each record ends behind where it began. Assumes nothing.
use Rattle.std.proofs.Common.{arith, sym}
use Rattle.records.proofs.ReadingLaws.{read_behind}
use Rattle.vectors.proofs.questions.apply_records.Goals as goal

pub loop-event-smaller : goal.loop-event-smaller
loop-event-smaller c =
    let b = read_behind c.args.stream.now c.loop-event.next (λ i. omega (arith, c.type_inv.stream i)) (sym c.in-Ok.ensures) in
    omega (arith, b.0, b.1)
