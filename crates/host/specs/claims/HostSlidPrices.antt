-- What is claimed of No. 9, prices of a slid order only fall, as a host sees it: bytes, numbers and words. Assumes nothing.
use Rattle.std.specs.Prelude.{ℕ, List, map}
use Rattle.engine.specs.claims.SlidPrices.{PricesFallInCalls}
use Rattle.host.specs.claims.Calls.{HostOpened}
use Rattle.host.specs.claims.HostCalls.{event_calls, applied_call}
use Rattle.host.specs.claims.HostDays.{HostCall, HostChain, one_by_one}

-- any calls of venue_apply and venue_play from the words that venue_open leaves with the answer 0: the law, read from the record bytes, the numbers, the report bytes and
-- the ends; and each order that rests in the words has the price and the stamp last given to it
abbrev pub PricesOnlyFallForHosts : Type 0
PricesOnlyFallForHosts =
    (w : List ℕ) (s close : ℕ) (w₀ : List ℕ) → HostOpened w s close 0 w₀ →
    (hs : List HostCall) (w' : List ℕ) → HostChain w₀ hs w' → PricesFallInCalls (map applied_call (event_calls (one_by_one hs))) w'
