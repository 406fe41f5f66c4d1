-- What ties the book to the account's tallies: between events, and while an order works. Assumes nothing.
use Prim.Native.Nat.{ℕ, ◌+◌, ◌≤◌, ◌<◌}
use mathlib.Core.Path.{◌≡◌}
use mathlib.Core.Logic.{◌⊎◌}
use mathlib.Core.List.{List, ◌∷◌, foldl}
use lib.Dec.{T}
use Rattle.numbers.specs.Tests.{All}
use Rattle.book.specs.declared.Order.{Order}
use Rattle.book.specs.rules.Orders.{resting_shares, without}
use Rattle.book.proofs.definitions.OrderLaws.{Distinct, without_all}
use Rattle.engine.specs.declared.Market.{Market}
use Rattle.engine.specs.rules.Market.{restricted}
use Rattle.engine.specs.rules.Pass.{Effect}
use Rattle.engine.specs.rules.Venue.{Venue}
use Rattle.engine.specs.claims.Account.{Tallies, Account, read_report}
use Rattle.engine.specs.claims.Demand3.{FilledLawfully}

-- what the tallies know of an order, n being the last id
abbrev pub TalliesKnow : ℕ → Tallies → Order → Type 0
TalliesKnow n c o =
    record {
      id : o.id ≤ n;
      mark : c.mark o.id ≡ o.mark;
      show : c.show o.id ≡ o.show;
      last_given : c.last_given o.id ≡ o.price;
      clear : T o.clear → c.bid_then o.id < o.price;
    }

-- the tallies agree with the orders that have shares left: those that rest and, first, the working one
pub record TalliesAgree (n : ℕ) (os : List Order) (c : Tallies) : Type 0 where
  pub known : All (TalliesKnow n c) os
  pub distinct : Distinct os
  pub shares : (k : ℕ) → c.entered k ≡ c.executed k + c.cancelled k + resting_shares k os
  pub executions : All FilledLawfully c.fills

-- a buy is below the border, any other order is not
abbrev pub Separated : ℕ → Order → Type 0
Separated border o = record { buy : o.mark ≡ 0 → o.price < border; sell : (o.mark ≡ 0 → ⊥) → border ≤ o.price }

pub record Uncrossed (os : List Order) : Type 0 where
  pub border : ℕ
  pub separated : All (Separated border) os

pub without_uncrossed : (i : ℕ) (os : List Order) → Uncrossed os → Uncrossed (without i os)
without_uncrossed i os h = record { border = h.border; separated = without_all (Separated h.border) i os h.separated }

-- above the bid, or displayed and clear
abbrev pub AboveOrClear : Market → Order → Type 0
AboveOrClear m o = (m.bid < o.price) ⊎ ((o.show ≡ 1) × T o.clear)

abbrev pub SafelyPriced : Market → Order → Type 0
SafelyPriced m o = T (restricted m o.mark) → AboveOrClear m o

-- the tallies agree with the book
pub record BookAgrees (n : ℕ) (os : List Order) (c : Tallies) : Type 0 where
  pub tallies : TalliesAgree n os c
  pub uncrossed : Uncrossed os

-- the same while the order w works
pub record WhileWorking (m : Market) (n : ℕ) (w : Order) (os : List Order) (c : Tallies) : Type 0 where
  pub tallies : TalliesAgree n (w ∷ os) c
  pub uncrossed : Uncrossed os
  pub working : c.working ≡ w.id
  pub above : T (restricted m w.mark) → m.bid < w.price
  pub safe : w.mark ≡ 0 → All (SafelyPriced m) os

-- between events
pub record AccountAgrees (v : Venue) (a : Account) : Type 0 where
  pub market : a.market ≡ v.market
  pub book : BookAgrees v.last_id v.orders a.tallies
  pub safe : All (SafelyPriced v.market) v.orders

-- what an accepted event leaves, c being the tallies before its reports and m the market after it
abbrev pub EffectAgrees : Market → ℕ → Effect → Tallies → Type 0
EffectAgrees m n x c = BookAgrees n x.orders (foldl (read_report m) c x.reports) × All (SafelyPriced m) x.orders
