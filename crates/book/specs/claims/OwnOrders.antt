-- Document 02, No. 7: a working order trades with others as if its owner's orders then resting weren't there. Which of these are withdrawn is the rule's (`meeting`). Assumes
-- nothing.
use Rattle.std.specs.Prelude.{ℕ, ◌≡◌, not, ◌⊎◌, T}
use mathlib.Core.List.{List, [], ◌∷◌, Memᴰ}
use Rattle.numbers.specs.Tests.{pick, All}
use Rattle.book.specs.declared.Order.{Order}
use Rattle.book.specs.rules.Matching.{reaches, Execution, Happening, traded, withdrawn, same_owner, matching}
use Rattle.book.specs.rules.Sound.{ids_rise, stamps_differ}
use Rattle.book.specs.claims.OnlyTrading.{only_trading}

-- the orders that aren't of the working order's owner
unfoldable pub others : Order → List Order → List Order
others w [] = []
others w (o ∷ os) = pick (same_owner w o) (others w os) (o ∷ others w os)

-- the executions among what happened
unfoldable pub executions_of : List Happening → List Execution
executions_of [] = []
executions_of (traded x ∷ hs) = x ∷ executions_of hs
executions_of (withdrawn i q ∷ hs) = executions_of hs

-- an order of the book os, of w's owner, with the id and the shares that are withdrawn
pub record OwnOrder (w : Order) (os : List Order) (i q : ℕ) : Type 0 where
  pub order : Order
  pub rests : Memᴰ order os
  pub own : T (same_owner w order)
  pub id : order.id ≡ i
  pub shares : order.shares ≡ q

-- what is withdrawn was one, and rests no longer in the book l
abbrev pub WithdrawsOwn : Order → List Order → List Order → Happening → Type 0
WithdrawsOwn w os l (traded x) = Unit {0}
WithdrawsOwn w os l (withdrawn i q) = OwnOrder w os i q × All (λ (o : Order). o.id ≡ i → ⊥) l

-- the executions, what is left of the working order and what is left of others' orders are those of a book without its owner's; what is withdrawn
-- are resting orders of its owner, with all their shares, and they are gone; those of its owner that still rest are as they were; and nobody that is reached is left while shares are
pub record AsWithoutOwn (w : Order) (os : List Order) : Type 0 where
  pub executions : executions_of (matching w os).happenings ≡ executions_of (only_trading w (others w os)).happenings
  pub left : (matching w os).left ≡ (only_trading w (others w os)).left
  pub orders : others w (matching w os).orders ≡ (only_trading w (others w os)).orders
  pub withdrawals : All (WithdrawsOwn w os (matching w os).orders) (matching w os).happenings
  pub kept : All (λ (o : Order). T (same_owner w o) → Memᴰ o os) (matching w os).orders
  pub ends : ((matching w os).left.shares ≡ 0) ⊎ All (λ (o : Order). T (not (reaches (matching w os).left o))) (matching w os).orders

-- of every book as a sound venue record has it
abbrev pub TradesAsWithoutOwn : Type 0
TradesAsWithoutOwn = (w : Order) (os : List Order) → T (ids_rise 0 os) → T (stamps_differ os) → AsWithoutOwn w os
