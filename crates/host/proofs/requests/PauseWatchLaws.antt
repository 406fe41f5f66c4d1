-- No. 10 for hosts: from the theorems of calls of apply. Assumes nothing.
use Prim.Native.Nat.{ℕ}
use mathlib.Core.Path.{subst}
use borrow.Author.Tests.{lt-ltb}
use Rattle.numbers.specs.Tests.{pick}
use Rattle.numbers.specs.Answers.{Outcome}
use Rattle.engine.specs.declared.Event.TheVariants.{TimedTape as timed_tape}
use Rattle.engine.specs.claims.Calls.{Applied}
use Rattle.engine.specs.claims.Pauses.{CallsByPlainLook}
use Rattle.engine.proofs.requests.PauseWatchLaws.{by_plain_look_from, timed_calls_as_tapes, untimed_calls_as_before}
use Rattle.host.specs.rules.Host.{outcome_of}
use Rattle.host.specs.claims.Calls.{EventApplied}
use Rattle.host.specs.claims.HostPauses.{PausesByPlainLookForHosts, TimedCallsAsTapesForHosts, UntimedCallsAsBeforeForHosts}
use Rattle.host.proofs.demand3.HostDayLaws.{for_hosts}

pub pauses_by_plain_look_for_hosts : PausesByPlainLookForHosts
pauses_by_plain_look_for_hosts w s close w₀ h hs w' c = for_hosts CallsByPlainLook (λ i t u f. by_plain_look_from s close i t u f) h c

pub timed_calls_as_tapes_for_hosts : TimedCallsAsTapesForHosts
unfolding outcome_of pick
timed_calls_as_tapes_for_hosts w bytes b answer w' b' a l x end e =
    let y : EventApplied w (timed_tape x) b answer w' b' = rw e at a in
    timed_calls_as_tapes w x b answer w' b' (subst (λ (o : Outcome ℕ). Applied w (timed_tape x) b o w' b') (rw (lt-ltb answer 65_536 l)) y.applied)

pub untimed_calls_as_before_for_hosts : UntimedCallsAsBeforeForHosts
untimed_calls_as_before_for_hosts w bytes b answer w' b' a r e u t =
    let y : EventApplied w r.value b answer w' b' = rw e at a in
    untimed_calls_as_before w r.value b (outcome_of answer) w' b' y.applied u t
