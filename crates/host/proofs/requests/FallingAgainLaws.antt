-- No. 6 for hosts: from the theorems of calls of apply. Assumes nothing.
use Prim.Native.Nat.{ℕ}
use mathlib.Core.Path.{subst}
use borrow.Author.Tests.{lt-ltb}
use Rattle.numbers.specs.Tests.{pick}
use Rattle.numbers.specs.Answers.{Outcome}
use Rattle.engine.specs.declared.Event.TheVariants.{Tape as tape}
use Rattle.engine.specs.claims.Calls.{Applied}
use Rattle.engine.specs.claims.FallingAgain.{CallsByFalls}
use Rattle.engine.proofs.requests.FallingAgainLaws.{tape_calls, by_falls_from}
use Rattle.host.specs.rules.Host.{outcome_of}
use Rattle.host.specs.claims.Calls.{EventApplied}
use Rattle.host.specs.claims.HostFallingAgain.{TapeCallsForHosts, RestrictedByFallsForHosts}
use Rattle.host.proofs.demand3.HostDayLaws.{for_hosts}

pub tape_calls_for_hosts : TapeCallsForHosts
unfolding outcome_of pick
tape_calls_for_hosts w bytes b answer w' b' a l p end e =
    let x : EventApplied w (tape p) b answer w' b' = rw e at a in
    tape_calls w p b answer w' b' (subst (λ (o : Outcome ℕ). Applied w (tape p) b o w' b') (rw (lt-ltb answer 65_536 l)) x.applied)

pub restricted_by_falls_for_hosts : RestrictedByFallsForHosts
restricted_by_falls_for_hosts w s close w₀ h hs w' c = for_hosts (CallsByFalls close) (λ i t u f. by_falls_from s close i t u f) h c
