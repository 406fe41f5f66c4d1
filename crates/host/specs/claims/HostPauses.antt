-- What is claimed of No. 10, the five-minute pause watch, as a host sees it: bytes, numbers and words. Assumes nothing.
use Rattle.std.specs.Prelude.{ℕ, ◌<◌, ◌≡◌, List, map, T, length}
use Rattle.numbers.specs.Answers.{gives, Read}
use Rattle.prices.specs.declared.TimedPrice.{TimedPrice}
use Rattle.prices.specs.Pause.{sound_kept}
use Rattle.engine.specs.declared.Event.{Event}
use Rattle.engine.specs.declared.Event.TheVariants.{Tape as tape, TimedTape as timed_tape}
use Rattle.engine.specs.rules.Records.{record_at}
use Rattle.engine.specs.rules.Layout.{venue_of, step_in}
use Rattle.engine.specs.claims.Calls.{CallDoes}
use Rattle.engine.specs.claims.Pauses.{CallsByPlainLook, watched_step, step_in_before_no10, Untimed}
use Rattle.host.specs.rules.Host.{outcome_of}
use Rattle.host.specs.claims.Calls.{HostOpened, HostApplied}
use Rattle.host.specs.claims.HostCalls.{event_calls, applied_call}
use Rattle.host.specs.claims.HostDays.{HostCall, HostChain, one_by_one}

-- any calls of venue_apply and venue_play from the words that venue_open leaves with the answer 0: report 7, and refusals 22 and 23, are what a plain look at all
-- accepted timed prices of the day gives, read from the record bytes, the numbers, the report bytes and the ends
abbrev pub PausesByPlainLookForHosts : Type 0
PausesByPlainLookForHosts =
    (w : List ℕ) (s close : ℕ) (w₀ : List ℕ) → HostOpened w s close 0 w₀ →
    (hs : List HostCall) (w' : List ℕ) → HostChain w₀ hs w' → CallsByPlainLook (map applied_call (event_calls (one_by_one hs))) w'

-- a call of venue_apply on any words that accepts a timed price: its count, its report bytes and the venue are those of its tape price, with report 7 in front, if
-- there is one, and the price kept
abbrev pub TimedCallsAsTapesForHosts : Type 0
TimedCallsAsTapesForHosts =
    (w bytes b : List ℕ) (answer : ℕ) (w' b' : List ℕ) → HostApplied w bytes b answer w' b' → answer < 65_536 →
    (x : TimedPrice) (end : ℕ) → record_at bytes 0 ≡ gives (record { value = timed_tape x; end = end }) →
    CallDoes (watched_step x (venue_of w).kept (step_in w (tape x.price) (length b))) b (gives answer) w' b'

-- a call of venue_apply on words whose kept prices are sound, or none, whose record reads as an event of another kind, is answered as before, and leaves the report
-- bytes and the venue of before
abbrev pub UntimedCallsAsBeforeForHosts : Type 0
UntimedCallsAsBeforeForHosts =
    (w bytes b : List ℕ) (answer : ℕ) (w' b' : List ℕ) → HostApplied w bytes b answer w' b' →
    (r : Read Event) → record_at bytes 0 ≡ gives r → Untimed r.value → T (sound_kept (venue_of w).market.step (venue_of w).kept) →
    CallDoes (step_in_before_no10 w r.value (length b)) b (outcome_of answer) w' b'
