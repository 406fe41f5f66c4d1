use native.Mathlib.Omega.{arith}
use mathlib.Core.Path.{sym}
use Rattle.std.proofs.lemmas.Result.{err_from_is_err_and}
use lib.ListN.{length-replicate}
use Rattle.records.proofs.ReadingLaws.{none_so_far, one_refused, one_so_far, all_so_far}
use Rattle.records.proofs.record.read_fields.Goals as goal

pub loop-field-init : goal.loop-field-init
loop-field-init g c = none_so_far _ _ _ _ (length-replicate _ _)

pub returns-in_err-read : goal.returns-in_err-read
returns-in_err-read g c =
    let p = err_from_is_err_and c.from_residual.result c.from_residual.ensures.1 in
    rw (p.1, p.2) (sym (one_refused c.loop-field.invariant (omega arith) (sym c.in_err-read.ensures)))

pub loop-field-preserved : goal.loop-field-preserved
loop-field-preserved g c = one_so_far c.loop-field.invariant (omega arith) (sym c.in_ok-read.ensures)

pub returns : goal.returns
returns g c = sym (all_so_far c.loop-field.invariant (omega arith))
