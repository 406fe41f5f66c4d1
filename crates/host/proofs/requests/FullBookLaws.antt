-- No. 8 for hosts: from the theorem of calls of apply. Assumes nothing.
use Rattle.engine.proofs.requests.FullBookLaws.{only_remaining_meet_7_in_calls}
use Rattle.host.specs.rules.Host.{outcome_of}
use Rattle.host.specs.claims.Calls.{EventApplied}
use Rattle.host.specs.claims.HostFullBook.{OnlyRemainingMeet7ForHosts}

pub only_remaining_meet_7_for_hosts : OnlyRemainingMeet7ForHosts
only_remaining_meet_7_for_hosts w bytes b answer w' b' a r e =
    let x : EventApplied w r.value b answer w' b' = rw e at a in
    only_remaining_meet_7_in_calls w r.value b (outcome_of answer) w' b' x.applied
