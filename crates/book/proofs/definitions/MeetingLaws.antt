-- What an execution and a meeting are: what the layer above relies on. Assumes nothing.
use Prim.Native.Nat.{ℕ, min}
use native.Mathlib.Omega.{arith}
use mathlib.Core.Path.{◌≡◌, refl}
use mathlib.Core.Bool.{not}
use mathlib.Core.List.{List}
use lib.Dec.{T}
use borrow.Author.Tests.{le-ltb}
use Rattle.numbers.specs.Tests.{pick}
use Rattle.numbers.proofs.TestLaws.{by_test, and_no}
use Rattle.book.specs.declared.Order.{Order}
use Rattle.book.specs.rules.Orders.{is_buy, reduced, without}
use Rattle.book.specs.rules.Matching.{Execution, execution, after_trade, traded, withdrawn, Meeting, trading, withdrawing, same_owner, meeting}

-- an execution has the resting order's price, and the working order on its own side
pub execution_by : (P : Execution → Type 0) (w o : Order) (q : ℕ) → (T (is_buy w) → P (record { buyer = w.id; seller = o.id; price = o.price; shares = q })) → (T (not (is_buy w)) → P (record { buyer = o.id; seller = w.id; price = o.price; shares = q })) → P (execution w o q)
unfolding execution
execution_by P w o q f g = by_test P (is_buy w) f g

-- the smaller amount trades, and both orders and the execution say so
pub trading_known : (w o : Order) (os : List Order) → let q : ℕ = min w.shares o.shares in trading w o os ≡ record { happening = traded (execution w o q); left = reduced q w; orders = after_trade o q os }
unfolding trading
trading_known w o os = refl

-- the resting order is gone, with all its shares
pub withdrawing_known : (w o : Order) (os : List Order) → withdrawing w o os ≡ record { happening = withdrawn o.id o.shares; left = w; orders = without o.id os }
unfolding withdrawing
withdrawing_known w o os = refl

-- a meeting, by whose the resting order is
pub meeting_by_owner : (P : Meeting → Type 0) (w o : Order) (os : List Order) → (T (same_owner w o) → P (withdrawing w o os)) → (T (not (same_owner w o)) → P (trading w o os)) → P (meeting w o os)
unfolding meeting
meeting_by_owner P w o os f g = by_test P (same_owner w o) f g

-- a working order that has no owner trades
pub unowned_trades : (w o : Order) (os : List Order) → w.owner ≡ 0 → meeting w o os ≡ trading w o os
unfolding meeting same_owner pick
unowned_trades w o os h = rw (and_no _ (le-ltb 0 w.owner (omega arith)))

-- what holds whoever owns it
pub meeting_by : (P : Meeting → Type 0) (w o : Order) (os : List Order) → P (withdrawing w o os) → P (trading w o os) → P (meeting w o os)
meeting_by P w o os f g = meeting_by_owner P w o os (λ t. f) (λ t. g)
