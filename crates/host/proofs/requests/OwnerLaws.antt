-- No. 7 for hosts: from the theorems of calls of apply. Assumes nothing.
use Prim.Native.Nat.{ℕ}
use mathlib.Core.Path.{subst}
use borrow.Author.Tests.{lt-ltb}
use Rattle.numbers.specs.Tests.{pick}
use Rattle.numbers.specs.Answers.{Outcome}
use Rattle.engine.specs.declared.Event.TheVariants.{OwnedEntry as owned_entry}
use Rattle.engine.specs.claims.Calls.{Applied}
use Rattle.engine.specs.claims.Owners.{FirmsApartInCalls}
use Rattle.engine.proofs.bytes.RecordLaws.{record_unique}
use Rattle.engine.proofs.requests.OwnerLaws.{apart_from, unowned_calls_as_before, entries_trade_as_without_own_in_calls}
use Rattle.host.specs.rules.Host.{outcome_of}
use Rattle.host.specs.claims.Calls.{EventApplied}
use Rattle.host.specs.claims.HostOwners.{NoFirmTradesWithItselfForHosts, UnownedCallsAsBeforeForHosts, EntriesTradeAsWithoutOwnForHosts}
use Rattle.host.proofs.demand3.HostDayLaws.{for_hosts}

pub no_firm_trades_with_itself_for_hosts : NoFirmTradesWithItselfForHosts
no_firm_trades_with_itself_for_hosts w s close w₀ h hs w' c = for_hosts FirmsApartInCalls (λ i t u f. apart_from s close i t u f) h c

pub unowned_calls_as_before_for_hosts : UnownedCallsAsBeforeForHosts
unowned_calls_as_before_for_hosts w bytes b answer w' b' a r e u o =
    let x : EventApplied w r.value b answer w' b' = rw e at a in
    unowned_calls_as_before w r.value b (outcome_of answer) w' b' x.applied u o

pub entries_trade_as_without_own_for_hosts : EntriesTradeAsWithoutOwnForHosts
unfolding outcome_of pick
entries_trade_as_without_own_for_hosts w bytes b answer w' b' t a l e k end r =
    let x : EventApplied w (owned_entry e k) b answer w' b' = rw r at a in
    let i = (record_unique bytes 0 _ t r).words in
    entries_trade_as_without_own_in_calls w e k i.1.0 b answer w' b' (subst (λ (o : Outcome ℕ). Applied w (owned_entry e k) b o w' b') (rw (lt-ltb answer 65_536 l)) x.applied)
