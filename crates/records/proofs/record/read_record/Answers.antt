-- The number at the offset is the kind, and its event is what stands there. Assumes nothing.
use mathlib.Core.Path.{sym}
use Rattle.std.proofs.lemmas.Result.{err_from_is_err_and}
use Rattle.engine.specs.rules.Records.{by_kind, form_at, record_at}
use Rattle.records.proofs.record.read_record.Goals as goal

pub returns-in_err-kind : goal.returns-in_err-kind
unfolding record_at form_at by_kind
returns-in_err-kind c =
    let p = err_from_is_err_and c.from_residual.result c.from_residual.ensures.1 in
    let n = sym c.in_err-kind.ensures in
    rw (p.1, p.2, n)

pub returns : goal.returns
unfolding record_at form_at by_kind
returns c = let n = sym c.in_ok-kind.ensures in rw n c.read_event.ensures
