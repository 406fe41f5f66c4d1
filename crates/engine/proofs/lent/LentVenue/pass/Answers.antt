use native.Mathlib.Omega.{arith}
use mathlib.Core.Path.{◌≡◌, refl, sym, ap, ◌∙◌}
use Prim.Native.Nat.{ℕ, ◌+◌, ◌<◌}
use mathlib.Core.List.{◌∷◌}
use lib.ListN.{length, get_or, drop, take}
use Rattle.std.proofs.lemmas.List.{length-take-le, get_or-take}
use Rattle.book.specs.rules.Words.{resting}
use Rattle.engine.specs.steps.Steps.{ids_of, StartsWithIds}
use Rattle.engine.proofs.refinement.StepLaws.{does_none, effect_as}
use Rattle.engine.proofs.refinement.SlideSteps.{passing_start, passing_room, passing_then, passing_end, pass_off, ids_at, ids_end, turn_stamp}
use borrow.Author.Rules.{rules}
use Rattle.engine.proofs.lent.LentVenue.pass.Goals as goal
use Rattle.engine.proofs.lent.LentVenue.pass.Goals.{After-resting_ids-ids, In-loop-id}

-- as many ids are turned to as orders rested at the start
all : (c : After-resting_ids-ids) → length (take c.count-count.result c.resting_ids-ids.result) ≡ length (resting c.args.self.now.words.now)
all c =
    let n : c.count-count.result ≡ length (resting c.args.self.now.words.now) = rw c.view.ensures at c.count-count.ensures in
    let long : length c.resting_ids-ids.result ≡ 256 = search rules in
    length-take-le _ _ (omega (arith, n, long, c.args.self.now.ordered.book.few)) ∙ n

-- the ids still to come start with the one of this turn, which was copied at the start
ids : (c : In-loop-id) → length (take c.count-count.result c.resting_ids-ids.result) ≡ length (resting c.args.self.now.words.now) → let l = resting c.args.self.now.words.now in let i = c.loop-id.id-index in drop i (ids_of l) ≡ get_or (take c.count-count.result c.resting_ids-ids.result) i 0 ∷ drop (i + 1) (ids_of l)
ids c as_many =
    let l = resting c.args.self.now.words.now in
    let i = c.loop-id.id-index in
    let n : c.count-count.result ≡ length l = rw c.view.ensures at c.count-count.ensures in
    let h : i < length l = omega (arith, as_many, c.loop-id-test.true) in
    let there : StartsWithIds c.resting_ids-ids.result l = rw c.view-2.ensures at c.resting_ids-ids.ensures in
    ids_at l i h ∙ ap (λ (k : ℕ). k ∷ drop (i + 1) (ids_of l)) (sym (get_or-take c.count-count.result c.resting_ids-ids.result i 0 (omega (arith, n, h)) ∙ there.there i h))

pub loop-id-init : goal.loop-id-init
loop-id-init c =
    let a = c.args in
    let v = a.self.now in
    record { way = passing_start v.words.now v.buffer.now v.end a.m (ids_of (resting v.words.now)) a.stamp v.ordered; stamps = omega arith; same_loans = (refl, refl) }

pub returns-then-not-restriction_on-clause-does : goal.returns-then-not-restriction_on-clause-does
returns-then-not-restriction_on-clause-does c =
    let a = c.args in
    let v = a.self.now in
    let l = resting v.words.now in
    effect_as (pass_off a.m (ids_of l) l a.stamp (sym c.restriction_on.ensures ∙ c.if-not-restriction_on.true)) (record { does = does_none v.words.now v.buffer.now v.end v.ordered; stamped = refl })

pub turn-passed-requires : goal.turn-passed-requires
turn-passed-requires c =
    let f = c.loop-id.invariant in
    let n = all (goal.at.turn-passed-requires c).After-resting_ids-ids in
    (c.requires.0, omega (arith, f.stamps, c.requires.1, n, c.loop-id-test.true, c.args.self.now.ordered.book.few), passing_room _ _ (ids (goal.at.turn-passed-requires c).In-loop-id n) c.requires.2 f.way)

pub loop-id-preserved : goal.loop-id-preserved
loop-id-preserved c =
    let f = c.loop-id in
    let t = c.turn-passed.ensures in
    record {
      way = passing_then _ _ (ids (goal.at.loop-id-preserved c).In-loop-id (all (goal.at.loop-id-preserved c).After-resting_ids-ids)) c.requires.2 f.invariant.way t.does;
      stamps = omega (arith, f.invariant.stamps, t.does.stamped, turn_stamp c.args.m (get_or (take c.count-count.result c.resting_ids-ids.result) f.id-index 0) (resting f.self.words.now) f.passed.stamp);
      same_loans = (t.same_loans.0 ∙ f.invariant.same_loans.0, t.same_loans.1 ∙ f.invariant.same_loans.1);
    }

pub returns-clause-does : goal.returns-clause-does
returns-clause-does c = passing_end (ids_end (resting c.args.self.now.words.now) c.loop-id.id-index (omega (arith, all (goal.at.returns-clause-does c).After-resting_ids-ids, c.loop-id-test.false))) c.loop-id.invariant.way
