-- What is claimed of No. 6, falling again on the second day, as a host sees it: bytes, numbers and words. Assumes nothing.
use Rattle.std.specs.Prelude.{ℕ, ◌<◌, ◌≡◌, List, map}
use Rattle.numbers.specs.Answers.{gives}
use Rattle.engine.specs.declared.Event.TheVariants.{Tape as tape}
use Rattle.engine.specs.rules.Records.{record_at}
use Rattle.engine.specs.claims.FallingAgain.{TapeCallTable, CallsByFalls}
use Rattle.host.specs.claims.Calls.{HostOpened, HostApplied}
use Rattle.host.specs.claims.HostCalls.{event_calls, applied_call}
use Rattle.host.specs.claims.HostDays.{HostCall, HostChain, one_by_one}

-- a call of venue_apply on any words that accepts a tape price: its count, its report bytes, the phase and the venue after it, by the phase before it
abbrev pub TapeCallsForHosts : Type 0
TapeCallsForHosts =
    (w bytes b : List ℕ) (answer : ℕ) (w' b' : List ℕ) → HostApplied w bytes b answer w' b' → answer < 65_536 →
    (p end : ℕ) → record_at bytes 0 ≡ gives (record { value = tape p; end = end }) → TapeCallTable p w b answer w' b'

-- any calls of venue_apply and venue_play from the words that venue_open leaves with the answer 0: the phase, whether the restriction is on, and when reports 5
-- and 6 come, follow from the falls, read from the record bytes, the numbers, the report bytes and the ends
abbrev pub RestrictedByFallsForHosts : Type 0
RestrictedByFallsForHosts =
    (w : List ℕ) (s close : ℕ) (w₀ : List ℕ) → HostOpened w s close 0 w₀ →
    (hs : List HostCall) (w' : List ℕ) → HostChain w₀ hs w' → CallsByFalls close (map applied_call (event_calls (one_by_one hs))) w'
