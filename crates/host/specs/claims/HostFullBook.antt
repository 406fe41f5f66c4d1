-- What is claimed of No. 8, a full book still trades, as a host sees it: bytes, numbers and words. Assumes nothing.
use Rattle.std.specs.Prelude.{ℕ, ◌≡◌, List}
use Rattle.numbers.specs.Answers.{gives, Read}
use Rattle.engine.specs.declared.Event.{Event}
use Rattle.engine.specs.rules.Records.{record_at}
use Rattle.engine.specs.claims.FullBook.{RemainingMeet7InCall}
use Rattle.host.specs.rules.Host.{outcome_of}
use Rattle.host.specs.claims.Calls.{HostApplied}

-- a call of venue_apply on any words whose record reads as an event: against the place test of before, an entry that needs no place no longer meets 7, and nothing else
-- changes; what was accepted before gets the same number and report bytes and leaves the same venue; an entry that needs no place takes none
abbrev pub OnlyRemainingMeet7ForHosts : Type 0
OnlyRemainingMeet7ForHosts =
    (w bytes b : List ℕ) (answer : ℕ) (w' b' : List ℕ) → HostApplied w bytes b answer w' b' →
    (r : Read Event) → record_at bytes 0 ≡ gives r → RemainingMeet7InCall w r.value b (outcome_of answer) w' b'
