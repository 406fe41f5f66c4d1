-- A meeting by whose the resting order is. Assumes nothing.
use Prim.Native.Nat.{ℕ}
use mathlib.Core.Path.{◌≡◌, sym, ap, ◌∙◌, subst}
use mathlib.Core.Bool.{Bool}
use mathlib.Core.List.{List, [], ◌∷◌}
use lib.ListN.{get_or}
use Rattle.book.specs.declared.Order.{Order}
use Rattle.book.specs.rules.Matching.{Meeting, same_owner}
use Rattle.book.specs.rules.Words.{empty_order, resting}
use Rattle.engine.specs.rules.Working.{happened}
use Rattle.engine.specs.steps.Memory.{Room}
use Rattle.engine.specs.steps.Steps.{Meets}
use Rattle.engine.proofs.refinement.WorkingSteps.{meets_own, meets_other}
use Rattle.engine.proofs.lent.LentVenue.meet.Goals as goal
use Rattle.engine.proofs.lent.LentVenue.meet.Goals.{After-same_owner}

-- the test was of the order at i
asked : (c : After-same_owner) {t : Bool} → c.same_owner.result ≡ t → same_owner c.args.o (get_or (resting c.args.self.now.words.now) c.args.i empty_order) ≡ t
asked c h = ap (same_owner c.args.o) (sym (rw c.view.ensures at c.order.ensures)) ∙ sym c.same_owner.ensures ∙ h

-- room for the report of a meeting is room for that of another that it is, and what the other does it does
same-room : (b : List ℕ) (at : ℕ) {x y : Meeting} → x ≡ y → Room b at (happened x.happening ∷ []) → Room b at (happened y.happening ∷ [])
same-room b at e r = subst (λ (z : Meeting). Room b at (happened z.happening ∷ [])) e r

same_meets : {w w' b b' : List ℕ} {at end : ℕ} {left : Order} {x y : Meeting} → x ≡ y → Meets w w' b b' at y left end → Meets w w' b b' at x left end
same_meets {w} {w'} {b} {b'} {at} {end} {left} e m = subst (λ (z : Meeting). Meets w w' b b' at z left end) (sym e) m

pub withdraw-requires : goal.withdraw-requires
withdraw-requires c =
    let v = c.args.self.now in
    let own = asked (goal.at.withdraw-requires c).After-same_owner c.if-same_owner.true in
    record { within = c.requires.within; room = same-room v.buffer.now v.end (meets_own c.args.o _ (resting v.words.now) own) c.requires.room }

pub returns-then-same_owner-clause-meets : goal.returns-then-same_owner-clause-meets
returns-then-same_owner-clause-meets c =
    same_meets (meets_own c.args.o _ (resting c.args.self.now.words.now) (asked (goal.at.returns-then-same_owner-clause-meets c).After-same_owner c.if-same_owner.true)) c.withdraw.ensures.meets

pub trade_with-requires : goal.trade_with-requires
trade_with-requires c =
    let v = c.args.self.now in
    let other = asked (goal.at.trade_with-requires c).After-same_owner c.if-same_owner.false in
    record { within = c.requires.within; room = same-room v.buffer.now v.end (meets_other c.args.o _ (resting v.words.now) other) c.requires.room }

pub returns-clause-meets : goal.returns-clause-meets
returns-clause-meets c =
    same_meets (meets_other c.args.o _ (resting c.args.self.now.words.now) (asked (goal.at.returns-clause-meets c).After-same_owner c.if-same_owner.false)) c.trade_with.ensures.meets
