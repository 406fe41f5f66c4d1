-- Matching as it was before document 02, No. 7: every meeting is a trade. What No. 7 leaves as it was is stated against it. Assumes nothing.
use Rattle.std.specs.Prelude.{ℕ, zero, suc, ◌≡◌, List, [], ◌∷◌, length}
use Rattle.std.proofs.Math.Option.{Option, none, some}
use Rattle.book.specs.declared.Order.{Order}
use Rattle.book.specs.rules.Matching.{counterparty, Meeting, trading, Matched, matching}

unfoldable pub trading_with : (Order → List Order → Matched) → Option Order → Order → List Order → Matched
trading_with further none w os = record { happenings = []; left = w; orders = os }
trading_with further (some o) w os =
    let x : Meeting = trading w o os in
    let m : Matched = further x.left x.orders in
    record { happenings = x.happening ∷ m.happenings; left = m.left; orders = m.orders }

unfoldable pub trading_up_to : ℕ → Order → List Order → Matched
trading_up_to zero w os = record { happenings = []; left = w; orders = os }
trading_up_to (suc n) w os = trading_with (trading_up_to n) (counterparty w os) w os

unfoldable pub only_trading : Order → List Order → Matched
only_trading w os = trading_up_to (length os) w os

-- a working order without an owner only trades, whoever's orders rest
abbrev pub UnownedOnlyTrades : Type 0
UnownedOnlyTrades = (w : Order) (os : List Order) → w.owner ≡ 0 → matching w os ≡ only_trading w os
