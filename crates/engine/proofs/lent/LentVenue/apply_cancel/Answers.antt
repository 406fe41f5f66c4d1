-- A cancel of an order that does not rest is refused; any other takes its order out. Assumes nothing.
use mathlib.Core.Path.{◌≡◌, sym, ap, subst, ◌∙◌}
use Rattle.std.proofs.lemmas.Result.{err_from_is_err_and}
use Rattle.engine.specs.declared.Refusal.TheVariants.{NotResting}
use Prim.Native.Nat.{ℕ}
use Rattle.book.specs.rules.Words.{resting}
use Rattle.book.specs.rules.Orders.{find}
use Rattle.book.specs.steps.Positions.{order_in, Found}
use Rattle.engine.specs.declared.Event.TheVariants.{Cancel as cancel}
use Rattle.engine.specs.rules.Refusals.{refusal_of_kind}
use Rattle.engine.specs.steps.Memory.{Room, effect_in}
use Rattle.engine.specs.rules.Layout.{venue_of}
use Rattle.engine.proofs.refinement.RefuseLaws.{found_allowed, absent_refused}
use Rattle.engine.proofs.refinement.ApplyLaws.{kind_refused, kind_may_accept, kind_has_room, kind_accepted}
use Rattle.engine.proofs.refinement.CancelLaws.{found_at, accepts_as}
use Rattle.engine.proofs.lent.LentVenue.apply_cancel.Goals as goal
use Rattle.engine.proofs.lent.LentVenue.apply_cancel.Goals.{After-find}

-- the answer of the search, and the order that it found

searched : (c : After-find) → let l = resting c.args.self.now.words.now in Found l c.find.result (find c.args.id l)
searched c = rw c.view.ensures at c.find.ensures

pub cancel_order-requires : goal.cancel_order-requires
unfolding refusal_of_kind venue_of
cancel_order-requires c =
    let v = c.args.self.now in
    let r = c.requires in
    let s = searched (goal.at.cancel_order-requires c).After-find in
    let f = found_at s c.in_ok-i.ensures.ok_part in
    let h = found_allowed (sym s.is ∙ ap (order_in (resting v.words.now)) c.in_ok-i.ensures.ok_part) in
    let room = kind_has_room (cancel c.args.id) r.0 h r.0.last_id in
    record { may_accept = (kind_may_accept (cancel c.args.id) r.0 h, f.0); none_written = r.1; room = subst (λ (k : ℕ). Room v.buffer.now 0 (effect_in v.words.now (cancel k)).reports) (sym f.1) room }

pub returns-in_err-i-clause-applied : goal.returns-in_err-i-clause-applied
unfolding refusal_of_kind venue_of
returns-in_err-i-clause-applied c =
    let p = err_from_is_err_and c.from_residual.result c.from_residual.ensures.1 in
    let none = c.in_err-i.ensures.ok_part in
    let s = searched (goal.at.returns-in_err-i-clause-applied c).After-find in
    let refused : c.in_err-i.field-0.0 ≡ NotResting = let e = rw none at c.in_err-i.ensures.value in cc in
    rw (p.1, p.2, refused) (kind_refused (cancel c.args.id) c.requires.0 (absent_refused (sym s.is ∙ ap (order_in (resting c.args.self.now.words.now)) none)))

pub returns-clause-applied : goal.returns-clause-applied
unfolding refusal_of_kind venue_of
returns-clause-applied c =
    let some = c.in_ok-i.ensures.ok_part in
    let s = searched (goal.at.returns-clause-applied c).After-find in
    let h = found_allowed (sym s.is ∙ ap (order_in (resting c.args.self.now.words.now)) some) in
    rw c.byte_count.ensures (kind_accepted (cancel c.args.id) c.requires.0 h (accepts_as (ap cancel (found_at s some).1) c.cancel_order.ensures.accepts))
