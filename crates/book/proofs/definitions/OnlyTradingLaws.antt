-- A working order without an owner only trades, as before No. 7. Assumes nothing.
use Prim.Native.Nat.{ℕ, zero, suc}
use mathlib.Core.Path.{◌≡◌, refl, ap}
use mathlib.Core.Option.{Option, none, some}
use mathlib.Core.List.{List}
use lib.ListN.{length}
use Rattle.book.specs.declared.Order.{Order}
use Rattle.book.specs.rules.Matching.{counterparty, Meeting, trading, matching_with, matching_up_to, matching}
use Rattle.book.specs.claims.OnlyTrading.{trading_with, trading_up_to, only_trading, UnownedOnlyTrades}
use Rattle.book.proofs.definitions.MeetingLaws.{unowned_trades}
use Rattle.book.proofs.definitions.MatchingLaws.{once_more}

up_to : (n : ℕ) (w : Order) (os : List Order) → w.owner ≡ 0 → matching_up_to n w os ≡ trading_up_to n w os
unfolding matching_up_to matching_with trading_up_to trading_with trading
up_to zero w os h = refl
up_to (suc n) w os h = go (counterparty w os) (up_to n)
  where
    go : (t : Option Order) → ((x : Order) (l : List Order) → x.owner ≡ 0 → matching_up_to n x l ≡ trading_up_to n x l) → matching_with (matching_up_to n) t w os ≡ trading_with (trading_up_to n) t w os
    go none f = refl
    go (some o) f =
        let x : Meeting = trading w o os in
        rw (unowned_trades w o os h) (ap (once_more x.happening) (f x.left x.orders h))

pub unowned_only_trades : UnownedOnlyTrades
unfolding matching only_trading
unowned_only_trades w os h = up_to (length os) w os h
