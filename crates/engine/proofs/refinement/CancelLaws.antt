-- The order that a cancel finds, and events said otherwise. Assumes nothing.
use Prim.Native.Nat.{ℕ, ◌<◌}
use mathlib.Core.Path.{◌≡◌, sym, subst}
use mathlib.Core.List.{List}
use lib.ListN.{length, get_or}
use Rattle.numbers.specs.Answers.{Outcome}
use Rattle.book.specs.declared.Order.{Order}
use Rattle.std.specs.Prelude.{Option as Place}
use Rattle.std.specs.Prelude.{Some}
use Rattle.book.specs.rules.Orders.{find}
use Rattle.book.specs.rules.Words.{empty_order}
use Rattle.book.specs.steps.Positions.{Found}
use Rattle.book.proofs.definitions.OrderLaws.{find_found}
use Rattle.engine.specs.declared.Event.{Event}
use Rattle.engine.specs.steps.Memory.{Accepts}
use Rattle.engine.specs.claims.Calls.{Applied}

-- an order found at a position is there, and has the id
pub found_at : {l : List Order} {r : Place ℕ} {i id : ℕ} → Found l r (find id l) → r ≡ Some i → (i < length l) × ((get_or l i empty_order).id ≡ id)
found_at {l} {r} {i} {id} f e =
    let g : Found l (Some i) (find id l) = subst (λ (p : Place ℕ). Found l p (find id l)) e f in
    (g.below, (subst (Rattle.book.proofs.definitions.OrderLaws.Found id l) (sym g.is) (find_found id l)).1)

-- an event said otherwise
pub accepts_as : {w w' b b' : List ℕ} {end : ℕ} {e f : Event} → e ≡ f → Accepts w w' b b' e end → Accepts w w' b b' f end
accepts_as {w} {w'} {b} {b'} {end} q a = subst (λ (x : Event). Accepts w w' b b' x end) q a

pub applied_as : {w w' b b' : List ℕ} {o : Outcome ℕ} {e f : Event} → e ≡ f → Applied w e b o w' b' → Applied w f b o w' b'
applied_as {w} {w'} {b} {b'} {o} q a = subst (λ (x : Event). Applied w x b o w' b') q a
