-- The kind is judged by the count of its fields. Assumes nothing.
use native.Mathlib.Omega.{arith}
use mathlib.Core.Path.{ap}
use Rattle.std.proofs.Common.{rules}
use Rattle.std.proofs.lemmas.Result.{err_from_is_err_and}
use Rattle.numbers.specs.Tests.{pick}
use Rattle.engine.specs.rules.Records.{record_fields, event_of}
use Rattle.records.specs.RecordAnswers.{event_from}
use Rattle.records.proofs.ReadingLaws.{single_read, unknown_kind}
use Rattle.records.proofs.record.read_event.Goals as goal

pub returns-in_err-x-in-1 : goal.returns-in_err-x-in-1
unfolding record_fields pick
returns-in_err-x-in-1 c =
    let p = err_from_is_err_and c.from_residual.result c.from_residual.ensures.1 in
    rw (c.in-1.is, p.1, p.2) (ap (event_from 1) c.in_err-x-in-1.ensures)

pub returns-in_ok-x-in-1 : goal.returns-in_ok-x-in-1
unfolding record_fields event_of pick
returns-in_ok-x-in-1 c = rw (c.in-1.is, c.entry_of.ensures) (ap (event_from 1) c.in_ok-x-in-1.ensures)

pub returns-in-2 : goal.returns-in-2
unfolding record_fields event_of pick
returns-in-2 c = rw c.in-2.is (single_read 2 c.read_single.ensures (λ xs e h. search rules))

pub returns-in-3 : goal.returns-in-3
unfolding record_fields event_of pick
returns-in-3 c = rw c.in-3.is (single_read 3 c.read_single-in-3.ensures (λ xs e h. search rules))

pub returns-in-4 : goal.returns-in-4
unfolding record_fields event_of pick
returns-in-4 c = rw c.in-4.is (single_read 4 c.read_single-in-4.ensures (λ xs e h. search rules))

pub returns-in-5 : goal.returns-in-5
unfolding record_fields event_of pick
returns-in-5 c = rw c.in-5.is (single_read 5 c.read_single-in-5.ensures (λ xs e h. search rules))

pub returns-in_err-x-in-6 : goal.returns-in_err-x-in-6
unfolding record_fields pick
returns-in_err-x-in-6 c =
    let p = err_from_is_err_and c.from_residual-in_err-x-in-6.result c.from_residual-in_err-x-in-6.ensures.1 in
    rw (c.in-6.is, p.1, p.2) (ap (event_from 6) c.in_err-x-in-6.ensures)

pub returns-in_ok-x-in-6 : goal.returns-in_ok-x-in-6
unfolding record_fields event_of pick
returns-in_ok-x-in-6 c = rw (c.in-6.is, c.entry_of-in-6.ensures) (ap (event_from 6) c.in_ok-x-in-6.ensures)

pub returns-in_err-time-in-7 : goal.returns-in_err-time-in-7
unfolding record_fields pick
returns-in_err-time-in-7 c =
    let p = err_from_is_err_and c.from_residual-in_err-time-in-7.result c.from_residual-in_err-time-in-7.ensures.1 in
    rw (c.in-7.is, p.1, p.2) (ap (event_from 7) c.in_err-time-in-7.ensures)

pub returns-in_ok-time-in-7 : goal.returns-in_ok-time-in-7
unfolding record_fields event_of pick
returns-in_ok-time-in-7 c = rw c.in-7.is (ap (event_from 7) c.in_ok-time-in-7.ensures)

-- Any other kind is refused,
-- as it has no count of fields:
-- it is 0, or it is above 7.
pub returns-in_default : goal.returns-in_default
returns-in_default c = rw (unknown_kind c.args.kind (omega arith))
