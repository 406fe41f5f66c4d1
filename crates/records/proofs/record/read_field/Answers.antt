-- The number at the offset is the field, unless it is above 32 bits. Assumes nothing.
use native.Mathlib.Omega.{arith}
use mathlib.Core.Path.{sym}
use Rattle.std.proofs.lemmas.Result.{err_from_is_err_and}
use Rattle.records.proofs.ReadingLaws.{field_refused, field_above, field_given}
use Rattle.records.proofs.record.read_field.Goals as goal

pub returns-in_err-number : goal.returns-in_err-number
returns-in_err-number c =
    let p = err_from_is_err_and c.from_residual.result c.from_residual.ensures.1 in
    rw (p.1, p.2) (sym (field_refused _ _ (sym c.in_err-number.ensures)))

pub returns-in-Ok : goal.returns-in-Ok
returns-in-Ok c = rw c.in-Ok.ensures.1 (sym (field_given _ _ (sym c.in_ok-number.ensures) (omega (arith, c.in-Ok.ensures.0))))

pub returns-in-Err : goal.returns-in-Err
returns-in-Err c = sym (field_above _ _ (sym c.in_ok-number.ensures) (omega (arith, c.in-Err.ensures)))
