-- A price that is not legal is refused; any other is done. Assumes nothing.
use mathlib.Core.Path.{sym}
use Rattle.std.proofs.lemmas.Result.{err_from_is_err_and}
use Rattle.engine.specs.declared.Event.TheVariants.{Tape as tape}
use Rattle.engine.specs.rules.Refusals.{refusal_of_kind}
use Rattle.engine.specs.rules.Layout.{venue_of}
use Rattle.engine.proofs.refinement.RefuseLaws.{words_stepped}
use Rattle.engine.proofs.refinement.ApplyLaws.{kind_refused, kind_may_accept, kind_has_room, kind_accepted}
use Rattle.engine.proofs.lent.LentVenue.apply_tape.Goals as goal

pub check_price-requires : goal.check_price-requires
check_price-requires c = rw c.view.ensures (words_stepped c.args.self.now.words.now c.requires.0.sound)

pub returns-in_err-check_price-clause-applied : goal.returns-in_err-check_price-clause-applied
unfolding refusal_of_kind
returns-in_err-check_price-clause-applied c =
    let p = err_from_is_err_and c.from_residual.result c.from_residual.ensures.1 in
    rw (p.1, p.2) (kind_refused (tape c.args.price) c.requires.0 (sym (rw c.view.ensures at c.in_err-check_price.ensures)))

pub new_tape-requires : goal.new_tape-requires
unfolding refusal_of_kind venue_of
new_tape-requires c =
    let e = tape c.args.price in
    let h = sym (rw c.view.ensures at c.in_ok-check_price.ensures) in
    (kind_may_accept e c.requires.0 h, rw c.requires.1 (kind_has_room e c.requires.0 h c.requires.0.last_id))

pub returns-clause-applied : goal.returns-clause-applied
unfolding refusal_of_kind
returns-clause-applied c =
    let h = sym (rw c.view.ensures at c.in_ok-check_price.ensures) in
    rw c.byte_count.ensures (kind_accepted (tape c.args.price) c.requires.0 h (rw c.requires.1 at c.new_tape.ensures.accepts))
