-- No. 9 for hosts: from the theorem of calls of apply. Assumes nothing.
use Rattle.engine.specs.claims.SlidPrices.{PricesFallInCalls}
use Rattle.engine.proofs.requests.SlidPriceLaws.{fall_from}
use Rattle.host.specs.claims.HostSlidPrices.{PricesOnlyFallForHosts}
use Rattle.host.proofs.demand3.HostDayLaws.{for_hosts}

pub prices_only_fall_for_hosts : PricesOnlyFallForHosts
prices_only_fall_for_hosts w s close w₀ h hs w' c = for_hosts PricesFallInCalls (λ i t u f. fall_from s close i t u f) h c
