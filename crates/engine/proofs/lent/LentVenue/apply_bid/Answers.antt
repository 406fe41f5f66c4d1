-- A number that is no bid is refused; a bid is done. Assumes nothing.
use mathlib.Core.Path.{sym}
use Rattle.std.proofs.lemmas.Result.{err_from_is_err_and}
use Rattle.engine.specs.declared.Event.TheVariants.{Bid as bid}
use Rattle.engine.specs.rules.Refusals.{refusal_of_kind}
use Rattle.engine.specs.rules.Layout.{venue_of}
use Rattle.engine.proofs.refinement.RefuseLaws.{words_stepped}
use Rattle.engine.proofs.refinement.ApplyLaws.{kind_refused, kind_allowed, kind_may_accept, kind_has_room, kind_accepted}
use Rattle.engine.proofs.lent.LentVenue.apply_bid.Goals as goal

pub check_bid-requires : goal.check_bid-requires
check_bid-requires c = rw c.view.ensures (words_stepped c.args.self.now.words.now c.requires.0.sound)

pub returns-in_err-check_bid-clause-applied : goal.returns-in_err-check_bid-clause-applied
unfolding refusal_of_kind
returns-in_err-check_bid-clause-applied c =
    let p = err_from_is_err_and c.from_residual.result c.from_residual.ensures.1 in
    rw (p.1, p.2) (kind_refused (bid c.args.price) c.requires.0 (sym (rw c.view.ensures at c.in_err-check_bid.ensures)))

pub new_bid-requires : goal.new_bid-requires
unfolding refusal_of_kind venue_of
new_bid-requires c =
    let e = bid c.args.price in
    let h = sym (rw c.view.ensures at c.in_ok-check_bid.ensures) in
    record { may_accept = (kind_may_accept e c.requires.0 h, kind_allowed e c.requires.0 h); none_written = c.requires.1; room = kind_has_room e c.requires.0 h c.requires.0.last_id }

pub returns-clause-applied : goal.returns-clause-applied
unfolding refusal_of_kind
returns-clause-applied c =
    let h = sym (rw c.view.ensures at c.in_ok-check_bid.ensures) in
    rw c.byte_count.ensures (kind_accepted (bid c.args.price) c.requires.0 h c.new_bid.ensures.accepts)
