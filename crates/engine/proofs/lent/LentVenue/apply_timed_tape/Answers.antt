-- A refused timed price changes nothing; any other is done. Assumes nothing.
use mathlib.Core.Path.{sym}
use Rattle.engine.specs.declared.Event.TheVariants.{TimedTape as timed_tape}
use Rattle.std.proofs.lemmas.Result.{err_from_is_err_and}
use Rattle.engine.specs.rules.Layout.{venue_of}
use Rattle.engine.proofs.refinement.ApplyLaws.{kind_refused, kind_may_accept, kind_has_room, kind_accepted}
use Rattle.engine.proofs.lent.LentVenue.apply_timed_tape.Goals as goal

pub new_timed_tape-requires : goal.new_timed_tape-requires
unfolding venue_of
new_timed_tape-requires c =
    let e = timed_tape c.args.x in
    let h = sym (rw c.view.ensures at c.in_ok-check_timed_price.ensures) in
    record { may_accept = (kind_may_accept e c.requires.0 h, h); none_written = c.requires.1; room = kind_has_room e c.requires.0 h c.requires.0.last_id }

pub returns-in_err-check_timed_price-clause-applied : goal.returns-in_err-check_timed_price-clause-applied
returns-in_err-check_timed_price-clause-applied c =
    let p = err_from_is_err_and c.from_residual.result c.from_residual.ensures.1 in
    rw (p.1, p.2) (kind_refused (timed_tape c.args.x) c.requires.0 (sym (rw c.view.ensures at c.in_err-check_timed_price.ensures)))

pub returns-clause-applied : goal.returns-clause-applied
returns-clause-applied c =
    rw c.byte_count.ensures (kind_accepted (timed_tape c.args.x) c.requires.0 (sym (rw c.view.ensures at c.in_ok-check_timed_price.ensures)) c.new_timed_tape.ensures.accepts)
