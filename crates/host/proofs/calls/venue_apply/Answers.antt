-- A record that can't be read is refused; the event of any other is applied. Assumes nothing.
use native.Mathlib.Omega.{arith}
use mathlib.Core.Path.{sym}
use Rattle.records.proofs.ReadingLaws.{read_words}
use Rattle.host.proofs.refinement.HostLaws.{read_refusal_range, apply_refused, apply_read}
use Rattle.host.proofs.calls.venue_apply.Goals as goal

pub apply_event-requires : goal.apply_event-requires
apply_event-requires c =
    read_words c.args.«record».now 0 (λ i. omega (arith, c.shared_slice_known-1.given i)) (sym c.in-Ok.ensures)

pub returns-in-Ok : goal.returns-in-Ok
returns-in-Ok c = apply_read _ (sym c.in-Ok.ensures) c.apply_event.ensures

pub refused-requires : goal.refused-requires
refused-requires c = omega (arith, c.from.ensures, read_refusal_range c.in-Err.unreadable)

pub returns-in-Err : goal.returns-in-Err
returns-in-Err c =
    apply_refused _ _ _ c.in-Err.unreadable
    (sym c.in-Err.ensures)
    (omega (arith, c.refused.ensures, c.from.ensures))
