-- What is claimed of No. 7, firms that don't trade with themselves, as a host sees it: bytes, numbers and words. Assumes nothing.
use Rattle.std.specs.Prelude.{ℕ, ◌<◌, ◌≡◌, List, map}
use Rattle.numbers.specs.Tests.{All}
use Rattle.numbers.specs.Answers.{gives, Read}
use Rattle.numbers.specs.SevenBit.{IsByte}
use Rattle.book.specs.rules.Words.{resting}
use Rattle.engine.specs.declared.Entry.{Entry}
use Rattle.engine.specs.declared.Event.{Event}
use Rattle.engine.specs.declared.Event.TheVariants.{OwnedEntry as owned_entry}
use Rattle.engine.specs.rules.Records.{record_at}
use Rattle.engine.specs.claims.Owners.{FirmsApartInCalls, Unowned, NamesNoOwner, UnownedCallAsBefore, WithoutOwnInBytes}
use Rattle.host.specs.rules.Host.{outcome_of}
use Rattle.host.specs.claims.Calls.{HostOpened, HostApplied}
use Rattle.host.specs.claims.HostCalls.{event_calls, applied_call}
use Rattle.host.specs.claims.HostDays.{HostCall, HostChain, one_by_one}

-- any calls of venue_apply and venue_play from the words that venue_open leaves with the answer 0: no firm trades with itself, cause 5 meets none but a firm's own
-- orders, and the words show the owner that each resting order's entry named, read from the record bytes, the numbers, the report bytes and the ends
abbrev pub NoFirmTradesWithItselfForHosts : Type 0
NoFirmTradesWithItselfForHosts =
    (w : List ℕ) (s close : ℕ) (w₀ : List ℕ) → HostOpened w s close 0 w₀ →
    (hs : List HostCall) (w' : List ℕ) → HostChain w₀ hs w' → FirmsApartInCalls (map applied_call (event_calls (one_by_one hs))) w'

-- a call of venue_apply on any words with owner 0 everywhere, whose record reads as an event that names no owner, is answered as before, and leaves the report
-- bytes and the venue of before
abbrev pub UnownedCallsAsBeforeForHosts : Type 0
UnownedCallsAsBeforeForHosts =
    (w bytes b : List ℕ) (answer : ℕ) (w' b' : List ℕ) → HostApplied w bytes b answer w' b' →
    (r : Read Event) → record_at bytes 0 ≡ gives r → All Unowned (resting w) → NamesNoOwner r.value → UnownedCallAsBefore w r.value b (outcome_of answer) w' b'

-- a call of venue_apply that accepts an entry of kind 6: by its report bytes it executes with others what it would if its owner's orders weren't there
abbrev pub EntriesTradeAsWithoutOwnForHosts : Type 0
EntriesTradeAsWithoutOwnForHosts =
    (w bytes b : List ℕ) (answer : ℕ) (w' b' : List ℕ) → All IsByte bytes → HostApplied w bytes b answer w' b' → answer < 65_536 →
    (e : Entry) (k end : ℕ) → record_at bytes 0 ≡ gives (record { value = owned_entry e k; end = end }) → WithoutOwnInBytes w e k b' answer
