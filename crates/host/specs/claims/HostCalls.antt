-- Calls of venue_apply one after another, as a host sees them: bytes and numbers; and what holds of all of them. Assumes nothing.
use Rattle.std.specs.Prelude.{ℕ, ◌≤◌, ◌≡◌, List, [], ◌∷◌, map, T, length}
use Rattle.std.proofs.Math.Option.{some}
use Rattle.numbers.specs.Tests.{All}
use Rattle.numbers.specs.Answers.{Outcome, gives, refuses, Read}
use Rattle.numbers.specs.SevenBit.{IsByte}
use Rattle.book.specs.declared.Order.{Order}
use Rattle.book.specs.rules.Orders.{find}
use Rattle.book.specs.rules.Words.{resting}
use Rattle.engine.specs.declared.Event.{Event}
use Rattle.engine.specs.rules.Market.{market_after}
use Rattle.engine.specs.rules.Refusals.{least_buffer}
use Rattle.engine.specs.rules.Records.{record_at}
use Rattle.engine.specs.rules.Layout.{venue_of}
use Rattle.engine.specs.claims.Calls.{AppliedCall, Chain, LawfulCalls, reports_got}
use Rattle.engine.specs.claims.MarketOrders.{runs_pass}
use Rattle.engine.specs.claims.WhichCode.{CallAsBefore}
use Rattle.host.specs.rules.Host.{host_answer, outcome_of}
use Rattle.host.specs.claims.Calls.{HostOpened, AnswerTold, RecordRefused, HostApplied}

-- one call: the bytes of the record and the report buffer that the host lends, the number answered, and the buffer afterwards
pub record ApplyCall : Type 0 where
  pub bytes : List ℕ
  pub lent : List ℕ
  pub answer : ℕ
  pub after : List ℕ

-- calls one after another from the words w to the words w', each with any bytes for a record and any buffer, as the contract of venue_apply
-- says it; "nobody else writes the venue meanwhile"
pub data ApplyChain : List ℕ → List ApplyCall → List ℕ → Type 0 where
  none : {w : List ℕ} → ApplyChain w [] w
  more : {w w₁ w' : List ℕ} {c : ApplyCall} {cs : List ApplyCall} → All IsByte c.bytes → HostApplied w c.bytes c.lent c.answer w₁ c.after → ApplyChain w₁ cs w' → ApplyChain w (c ∷ cs) w'

-- The events of the calls

-- a call whose record reads as an event
pub record EventCall : Type 0 where
  pub event : Event
  pub call : ApplyCall

-- a record that can't be read is no event
abbrev pub with_event : Outcome (Read Event) → ApplyCall → List EventCall → List EventCall
with_event (gives r) c later = record { event = r.value; call = c } ∷ later
with_event (refuses n) c later = later

unfoldable pub event_calls : List ApplyCall → List EventCall
event_calls [] = []
event_calls (c ∷ cs) = with_event (record_at c.bytes 0) c (event_calls cs)

-- what the account is fed of such a call: the event, the answer that the number says, and the buffer, from which it reads the reports
abbrev pub applied_call : EventCall → AppliedCall
applied_call c = record { event = c.event; lent = c.call.lent; answer = outcome_of c.call.answer; after = c.call.after }

-- What holds of every chain

-- an answer below 65,536 is a byte count, at most 16,384; any other is a refusal of at least 1
abbrev pub AnswersTold : Type 0
AnswersTold = (w : List ℕ) (cs : List ApplyCall) (w' : List ℕ) → ApplyChain w cs w' → All (λ (c : ApplyCall). AnswerTold c.answer) cs

-- a record that can't be read gets 9 to 12, and every word and every byte is as it was
abbrev pub UnreadableRefused : Type 0
UnreadableRefused =
    (w bytes b : List ℕ) (answer : ℕ) (w' b' : List ℕ) → HostApplied w bytes b answer w' b' →
    (n : ℕ) → record_at bytes 0 ≡ refuses n → RecordRefused n w b answer w' b'

-- a call whose record reads as an event is a call of apply, and any other leaves the words as they were
abbrev pub EventsOfCalls : Type 0
EventsOfCalls = (w : List ℕ) (cs : List ApplyCall) (w' : List ℕ) → ApplyChain w cs w' → Chain w (map applied_call (event_calls cs)) w'

-- No. 1, "With no bid a resting market short stays where it is": a call whose record reads as a bid or tape event that leaves no bid leaves it as it
-- was, in every field
abbrev pub MarketShortsStayForHosts : Type 0
MarketShortsStayForHosts =
    (w bytes b : List ℕ) (answer : ℕ) (w' b' : List ℕ) → HostApplied w bytes b answer w' b' →
    (r : Read Event) → record_at bytes 0 ≡ gives r → T (runs_pass r.value) → (market_after r.value (venue_of w).market).bid ≡ 0 →
    (i : ℕ) (o : Order) → find i (resting w) ≡ some o → T o.market → find i (resting w') ≡ some o

-- No. 3: with 18, 19 and 20 read as 5, a call whose record reads as an event is answered as before, and leaves the report bytes and the venue of before
abbrev pub CallsAsBeforeForHosts : Type 0
CallsAsBeforeForHosts =
    (w bytes b : List ℕ) (answer : ℕ) (w' b' : List ℕ) → HostApplied w bytes b answer w' b' →
    (r : Read Event) → record_at bytes 0 ≡ gives r → CallAsBefore w r.value b (outcome_of answer) w' b'

-- From the words that venue_open leaves with the answer 0; the run may be longer than a venue

-- demand 3: what the account makes of the record bytes, the numbers and the report bytes is lawful
abbrev pub Demand3OfHosts : Type 0
Demand3OfHosts =
    (w : List ℕ) (s close : ℕ) (w₀ : List ℕ) → HostOpened w s close 0 w₀ →
    (cs : List ApplyCall) (w' : List ℕ) → ApplyChain w₀ cs w' → LawfulCalls s close (map applied_call (event_calls cs)) w'

-- "No venue reached from open gets 16": no call answers 16 × 65,536
abbrev pub NoHostGets16 : Type 0
NoHostGets16 =
    (w : List ℕ) (s close : ℕ) (w₀ : List ℕ) → HostOpened w s close 0 w₀ →
    (cs : List ApplyCall) (w' : List ℕ) → ApplyChain w₀ cs w' → All (λ (c : ApplyCall). c.answer ≡ host_answer (refuses 16) → ⊥) cs

-- equal events, equal reports: two chains with the same step and close whose records read as the same events, others that can't be read standing anywhere
-- between, and whose buffers are long enough and hold anything, get equal numbers and equal report bytes for the events, and leave equal venues
abbrev pub LongBuffer : EventCall → Type 0
LongBuffer c = least_buffer ≤ length c.call.lent

pub record SameForHosts (cs ds : List EventCall) (w v : List ℕ) : Type 0 where
  pub answers : map (λ (c : EventCall). c.call.answer) cs ≡ map (λ (c : EventCall). c.call.answer) ds
  pub reports : map (λ (c : EventCall). reports_got (applied_call c)) cs ≡ map (λ (c : EventCall). reports_got (applied_call c)) ds
  pub venue : venue_of w ≡ venue_of v

abbrev pub EqualHostReports : Type 0
EqualHostReports =
    (s close : ℕ) (w v w₀ v₀ : List ℕ) → HostOpened w s close 0 w₀ → HostOpened v s close 0 v₀ →
    (cs ds : List ApplyCall) (w' v' : List ℕ) → ApplyChain w₀ cs w' → ApplyChain v₀ ds v' →
    map (λ (c : EventCall). c.event) (event_calls cs) ≡ map (λ (c : EventCall). c.event) (event_calls ds) →
    All LongBuffer (event_calls cs) → All LongBuffer (event_calls ds) →
    SameForHosts (event_calls cs) (event_calls ds) w' v'
