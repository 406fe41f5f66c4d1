-- The turn of the order that is found, or none. Assumes nothing.
use mathlib.Core.Path.{◌≡◌, refl, sym, ap, ◌∙◌, subst}
use Prim.Native.Nat.{ℕ}
use lib.ListN.{get_or}
use Rattle.std.specs.Prelude.{Option as Place, Some}
use Rattle.book.specs.rules.Orders.{find}
use Rattle.book.specs.rules.Words.{empty_order, resting}
use Rattle.book.specs.steps.Positions.{order_in, Found}
use Rattle.engine.specs.rules.Pass.{Effect}
use Rattle.engine.specs.steps.Steps.{turn_at, turn_of}
use Rattle.engine.proofs.refinement.StepLaws.{room_as, does_none, effect_as}
use Rattle.engine.proofs.refinement.SlideSteps.{turn_found, turn_absent}
use Rattle.engine.proofs.lent.LentVenue.turn.Goals as goal
use Rattle.engine.proofs.lent.LentVenue.turn.Goals.{In-Some}

-- the order stands at the position found, and its turn is that of the order there
found : (c : In-Some) → let l = resting c.args.self.now.words.now in Found l (Some c.in-Some.i) (find c.args.id l)
found c = let l = resting c.args.self.now.words.now in subst (λ (p : Place ℕ). Found l p (find c.args.id l)) c.in-Some.is (rw c.view.ensures at c.find_near.ensures)

moved : (c : In-Some) → let a = c.args in let l = resting a.self.now.words.now in turn_at a.m c.in-Some.i l a.passed.stamp ≡ turn_of a.m a.id l a.passed.stamp
moved c = let a = c.args in let l = resting a.self.now.words.now in turn_found a.m a.id l a.passed.stamp (get_or l c.in-Some.i empty_order) _ (sym (found c).is) refl

pub turn_at-requires : goal.turn_at-requires
turn_at-requires c =
    let v = c.args.self.now in
    let s = (goal.at.turn_at-requires c).In-Some in
    record { within = ((found s).below, c.requires.0, c.requires.1); room = room_as v.buffer.now v.end (sym (ap (λ (x : Effect). x.reports) (moved s))) c.requires.2 }

pub returns-in-Some-clause-does : goal.returns-in-Some-clause-does
returns-in-Some-clause-does c = effect_as (moved (goal.at.returns-in-Some-clause-does c).In-Some) c.turn_at.ensures.does

pub returns-in-None-clause-does : goal.returns-in-None-clause-does
returns-in-None-clause-does c =
    let a = c.args in
    let v = a.self.now in
    let l = resting v.words.now in
    let f : Found l c.find_near.result (find a.id l) = rw c.view.ensures at c.find_near.ensures in
    effect_as (turn_absent a.m a.id l a.passed.stamp (sym f.is ∙ ap (order_in l) c.in-None.is)) (record { does = does_none v.words.now v.buffer.now v.end v.ordered; stamped = refl })
