use Prim.Native.Nat.{ℕ}
use mathlib.Core.Path.{◌≡◌, refl, sym, ap, ◌∙◌, subst}
use mathlib.Core.Option.{some}
use lib.ListN.{get_or}
use Rattle.std.specs.Prelude.{Option as Place, Some}
use Rattle.book.specs.rules.Matching.{counterparty}
use Rattle.book.specs.rules.Words.{empty_order, resting}
use Rattle.book.specs.steps.Positions.{order_in, Found}
use Rattle.engine.proofs.refinement.WorkingSteps.{matching_start, matching_end, matching_room, matching_then, matching_less}
use Rattle.engine.proofs.lent.LentVenue.match_order.Goals as goal
use Rattle.engine.proofs.lent.LentVenue.match_order.Goals.{In-Some}

-- the order that is met stands at the position found
met : (c : In-Some) → let l = resting c.loop-i.self.words.now in Found l (Some c.in-Some.i) (counterparty c.loop-i.left l)
met c = let l = resting c.loop-i.self.words.now in subst (λ (p : Place ℕ). Found l p (counterparty c.loop-i.left l)) c.in-Some.is (rw c.view.ensures at c.counterparty.ensures)

found : (c : In-Some) → let l = resting c.loop-i.self.words.now in counterparty c.loop-i.left l ≡ some (get_or l c.in-Some.i empty_order)
found c = sym (met c).is

pub loop-i-init : goal.loop-i-init
loop-i-init c = let v = c.args.self.now in record { same_loans = (refl, refl); way = matching_start v.words.now v.buffer.now v.end c.args.o c.requires.0 }

pub meet-left-requires : goal.meet-left-requires
meet-left-requires c =
    let s = (goal.at.meet-left-requires c).In-Some in
    record { within = (met s).below; room = matching_room _ c.loop-i.invariant.way (found s) c.requires.1 }

pub loop-i-smaller : goal.loop-i-smaller
loop-i-smaller c = matching_less _ c.loop-i.invariant.way (found (goal.at.loop-i-smaller c).In-Some) c.meet-left.ensures.meets

pub loop-i-preserved : goal.loop-i-preserved
loop-i-preserved c =
    let f = c.loop-i.invariant in
    let m = c.meet-left.ensures in
    record {
      same_loans = (m.same_loans.0 ∙ f.same_loans.0, m.same_loans.1 ∙ f.same_loans.1);
      way = matching_then _ f.way (found (goal.at.loop-i-preserved c).In-Some) m.meets c.requires.1;
    }

pub returns-clause-matches : goal.returns-clause-matches
returns-clause-matches c =
    let l = resting c.loop-i.self.words.now in
    let a : Found l c.counterparty.result (counterparty c.loop-i.left l) = rw c.view.ensures at c.counterparty.ensures in
    matching_end c.loop-i.invariant.way (sym a.is ∙ ap (order_in l) c.in_default.is)
