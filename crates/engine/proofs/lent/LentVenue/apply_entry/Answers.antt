-- A refused entry changes nothing; any other is entered. Assumes nothing.
use native.Mathlib.Omega.{arith}
use mathlib.Core.Path.{sym}
use Rattle.engine.specs.declared.Event.TheVariants.{Entry as entry}
use Rattle.engine.specs.rules.Refusals.{refusal_of_kind}
use Rattle.std.proofs.lemmas.Result.{err_from_is_err_and}
use Rattle.engine.specs.rules.Layout.{venue_of}
use Rattle.engine.proofs.refinement.RefuseLaws.{words_stepped}
use Rattle.engine.proofs.refinement.ApplyLaws.{kind_refused, kind_allowed, kind_may_accept, kind_has_room, kind_accepted}
use Rattle.engine.proofs.lent.LentVenue.apply_entry.Goals as goal

pub check_entry-requires : goal.check_entry-requires
check_entry-requires c = rw c.view.ensures (words_stepped c.args.self.now.words.now c.requires.0.sound)

pub enter-requires : goal.enter-requires
unfolding refusal_of_kind venue_of
enter-requires c =
    let e = entry c.args.e in
    let h = sym (rw c.view.ensures at c.in_ok-check_entry.ensures) in
    let k = kind_allowed e c.requires.0 h in
    record { may_accept = (kind_may_accept e c.requires.0 h, k.place.has_place, k.place.new_id); none_written = c.requires.1; room = kind_has_room e c.requires.0 h (omega arith) }

pub returns-in_err-check_entry-clause-applied : goal.returns-in_err-check_entry-clause-applied
unfolding refusal_of_kind
returns-in_err-check_entry-clause-applied c =
    let p = err_from_is_err_and c.from_residual.result c.from_residual.ensures.1 in
    rw (p.1, p.2) (kind_refused (entry c.args.e) c.requires.0 (sym (rw c.view.ensures at c.in_err-check_entry.ensures)))

pub returns-clause-applied : goal.returns-clause-applied
unfolding refusal_of_kind
returns-clause-applied c =
    rw c.byte_count.ensures (kind_accepted (entry c.args.e) c.requires.0 (sym (rw c.view.ensures at c.in_ok-check_entry.ensures)) c.enter.ensures.accepts)
