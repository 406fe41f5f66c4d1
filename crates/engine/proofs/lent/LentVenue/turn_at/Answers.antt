-- By where the order goes. Assumes nothing.
use mathlib.Core.Path.{◌≡◌, refl, sym, ap, ◌∙◌}
use lib.ListN.{get_or}
use Rattle.book.specs.declared.Order.{Order}
use Rattle.book.specs.rules.Orders.{without}
use Rattle.book.specs.rules.Words.{empty_order, resting}
use Rattle.book.proofs.refinement.HoldsLaws.{holds_as}
use Rattle.engine.specs.declared.Move.{Move}
use Rattle.engine.specs.rules.Reports.{cancelled, opt_out}
use Rattle.engine.specs.rules.Pass.{Effect, after_move}
use Rattle.engine.specs.steps.Steps.{move_in_pass, turn_at}
use Rattle.engine.proofs.refinement.StepLaws.{room_one, room_as, does_none, does_report, does_as, effect_as}
use Rattle.engine.proofs.refinement.WorkingSteps.{taken_ordered}
use Rattle.engine.proofs.refinement.SlideSteps.{does_without, moves, move_room, new_price_reports, new_price_orders}
use Rattle.engine.proofs.lent.LentVenue.turn_at.Goals as goal
use Rattle.engine.proofs.lent.LentVenue.turn_at.Goals.{After-move_in_pass}

-- the order that was read, and its turn
read : (c : After-move_in_pass) → c.order-o.result ≡ get_or (resting c.args.self.now.words.now) c.args.i empty_order
read c = rw c.view.ensures at c.order-o.ensures

moved : (c : After-move_in_pass) → let a = c.args in let l = resting a.self.now.words.now in after_move c.move_in_pass.result c.order-o.result l a.stamp ≡ turn_at a.m a.i l a.stamp
moved c =
    let a = c.args in
    let l = resting a.self.now.words.now in
    ap (λ (v : Move). after_move v c.order-o.result l a.stamp) c.move_in_pass.ensures ∙ ap (λ (x : Order). after_move (move_in_pass a.m x) x l a.stamp) (read c)

pub report_cancelled-requires : goal.report_cancelled-requires
unfolding after_move
report_cancelled-requires c =
    let a = c.args in
    let v = a.self.now in
    let o = c.order-o.result in
    let room = room_as v.buffer.now v.end (sym (ap (λ (x : Effect). x.reports) (moved (goal.at.report_cancelled-requires c).After-move_in_pass))) c.requires.room in
    room_one v.buffer.now v.end (cancelled o.id o.shares opt_out) (move_room v.buffer.now v.end o (resting v.words.now) a.stamp c.in-Cancel.is room)

pub reprice-requires : goal.reprice-requires
reprice-requires c =
    let a = c.args in
    let v = a.self.now in
    let s = (goal.at.reprice-requires c).After-move_in_pass in
    let l = resting v.words.now in
    let x = c.at_new_price in
    let room = room_as v.buffer.now v.end (sym (ap (λ (x : Effect). x.reports) (moved s))) c.requires.room in
    let e = new_price_reports x.result c.order-o.result c.in-Reprice.price a.stamp c.in-Reprice.used l x.ensures in
    record { within = (c.requires.within.0, ap (λ (z : Order). z.id) (x.ensures) ∙ ap (λ (z : Order). z.id) (read s)); room = room_as v.buffer.now v.end (sym e) (move_room v.buffer.now v.end c.order-o.result l a.stamp c.in-Reprice.is room) }

pub returns-in-Stay-clause-does : goal.returns-in-Stay-clause-does
unfolding after_move
returns-in-Stay-clause-does c =
    let a = c.args in
    let v = a.self.now in
    effect_as (moved (goal.at.returns-in-Stay-clause-does c).After-move_in_pass) (moves c.order-o.result (resting v.words.now) a.stamp c.in-Stay.is (record { does = does_none v.words.now v.buffer.now v.end v.ordered; stamped = refl }))

pub returns-in-Cancel-clause-does : goal.returns-in-Cancel-clause-does
unfolding after_move
returns-in-Cancel-clause-does c =
    let a = c.args in
    let v = a.self.now in
    let o = c.order-o.result in
    let l = resting v.words.now in
    let s = (goal.at.returns-in-Cancel-clause-does c).After-move_in_pass in
    let out = holds_as c.remove.ensures (ap (λ (z : Order). without z.id l) (sym (read s))) in
    let r = c.report_cancelled.ensures.reported in
    let told = does_report (cancelled o.id o.shares opt_out) v.ordered r.wrote in
    rw r.words (effect_as (moved s) (moves o l a.stamp c.in-Cancel.is (record { does = does_without o.id v.ordered out told; stamped = refl })))

pub invariant_of-self : goal.invariant_of-self
invariant_of-self c = record { ordered = taken_ordered c.args.self.now.words.now _ c.args.self.now.ordered c.remove.ensures }

pub returns-in-Reprice-clause-does : goal.returns-in-Reprice-clause-does
unfolding after_move
returns-in-Reprice-clause-does c =
    let a = c.args in
    let v = a.self.now in
    let o = c.order-o.result in
    let l = resting v.words.now in
    let x = c.at_new_price in
    let p = c.in-Reprice in
    let s = (goal.at.returns-in-Reprice-clause-does c).After-move_in_pass in
    effect_as (moved s) (moves o l a.stamp p.is (record { does = does_as (new_price_orders x.result o p.price a.stamp p.used l x.ensures) (new_price_reports x.result o p.price a.stamp p.used l x.ensures) c.reprice.ensures.does; stamped = refl }))
