-- Calls of venue_play and venue_apply one after another, as a host sees them: bytes and numbers; a played day as the same events one by one; and what
-- holds of all of them. Assumes nothing.
use Rattle.std.specs.Prelude.{ℕ, zero, suc, ◌-◌, ◌≤◌, ◌≡◌, ◌⊎◌, List, [], ◌∷◌, ◌++◌, map, T, eqb, length, get_or, take, drop, replicate}
use Rattle.numbers.specs.Tests.{pick, All}
use Rattle.numbers.specs.Answers.{Outcome, gives, refuses}
use Rattle.numbers.specs.SevenBit.{IsByte, overwrite}
use Rattle.engine.specs.rules.Refusals.{least_buffer}
use Rattle.engine.specs.rules.Records.{record_at}
use Rattle.engine.specs.rules.Layout.{venue_of, sound_words}
use Rattle.engine.specs.claims.Calls.{LawfulCalls}
use Rattle.days.specs.Days.{all_played}
use Rattle.host.specs.rules.Host.{host_answer, end_or_zero}
use Rattle.host.specs.claims.Calls.{HostOpened, HostApplied}
use Rattle.host.specs.claims.HostCalls.{ApplyCall, ApplyChain, EventCall, event_calls, applied_call, LongBuffer, SameForHosts}
use Rattle.host.specs.claims.PlayCalls.{HostPlayed}

-- one call of venue_play: the records and the offset, the report buffer, the run for ends and the three numbers that the host lends, the number
-- answered, and the buffer, the ends and the three numbers afterwards
pub record PlayCall : Type 0 where
  pub records : List ℕ
  pub from : ℕ
  pub lent : List ℕ
  pub places : List ℕ
  pub numbers : List ℕ
  pub answer : ℕ
  pub after : List ℕ
  pub ends : List ℕ
  pub progress : List ℕ

-- such a call, from the words w to the words w', as the contract of venue_play says it
pub record PlayedBy (w : List ℕ) (c : PlayCall) (w' : List ℕ) : Type 0 where
  pub bytes : All IsByte c.records
  pub is : HostPlayed w c.records c.from c.lent c.places c.numbers c.answer w' c.after c.ends c.progress

-- The events of a played day, one by one

-- how a host reads the bytes of an event: 00 n is refusal n, any other are its reports
unfoldable pub told : List ℕ → Outcome (List ℕ)
told bytes = pick (eqb (get_or bytes 0 1) 0) (refuses (get_or bytes 1 0)) (gives bytes)

-- the event as a call of venue_apply with its record and a buffer of its own
abbrev pub own_buffer : List ℕ
own_buffer = replicate least_buffer 0

abbrev pub call_told : List ℕ → Outcome (List ℕ) → ApplyCall
call_told bytes (gives reports) =
    record { bytes = bytes; lent = own_buffer; answer = host_answer (gives (length reports)); after = overwrite own_buffer 0 reports }
call_told bytes (refuses n) = record { bytes = bytes; lent = own_buffer; answer = host_answer (refuses n); after = own_buffer }

-- the bytes from an offset up to another
abbrev pub cut : ℕ → ℕ → List ℕ → List ℕ
cut from to bytes = take (to - from) (drop from bytes)

-- the first k records from the offset at on; the bytes of the first event stand in the buffer b from start up to the first of the ends
unfoldable pub calls_told : ℕ → List ℕ → ℕ → List ℕ → ℕ → List ℕ → List ApplyCall
calls_told zero records at b start ends = []
calls_told (suc k) records at b start ends =
    let next : ℕ = end_or_zero (record_at records at) in
    let end : ℕ = get_or ends 0 0 in
    call_told (cut at next records) (told (cut start end b)) ∷ calls_told k records next b end (drop 1 ends)

-- the events of a call, as many as its progress says; none where it is refused with 16
unfoldable pub calls_played : PlayCall → List ApplyCall
calls_played c =
    pick (eqb c.answer (host_answer (refuses 16))) [] (calls_told (get_or c.progress 0 0) c.records c.from c.after 0 c.ends)

-- Calls of both kinds

pub data HostCall : Type 0 where
  apply : ApplyCall → HostCall
  play : PlayCall → HostCall

-- one after another from the words w to the words w'; "nobody else writes the venue meanwhile"
pub data HostChain : List ℕ → List HostCall → List ℕ → Type 0 where
  none : {w : List ℕ} → HostChain w [] w
  applied : {w w₁ w' : List ℕ} {c : ApplyCall} {hs : List HostCall} → All IsByte c.bytes → HostApplied w c.bytes c.lent c.answer w₁ c.after → HostChain w₁ hs w' → HostChain w (apply c ∷ hs) w'
  played : {w w₁ w' : List ℕ} {c : PlayCall} {hs : List HostCall} → PlayedBy w c w₁ → HostChain w₁ hs w' → HostChain w (play c ∷ hs) w'

unfoldable pub one_by_one : List HostCall → List ApplyCall
one_by_one [] = []
one_by_one (apply c ∷ hs) = c ∷ one_by_one hs
one_by_one (play c ∷ hs) = calls_played c ++ one_by_one hs

-- a played day is the same events one by one: calls of both kinds are calls of venue_apply, with the same record bytes, numbers and report bytes,
-- from the same words to the same words
abbrev pub DaysOneByOne : Type 0
DaysOneByOne = (w : List ℕ) (hs : List HostCall) (w' : List ℕ) → HostChain w hs w' → ApplyChain w (one_by_one hs) w'

-- From the words that venue_open leaves with the answer 0; the run may be longer than a venue

-- demand 3 of days and events in any order: what the account makes of the record bytes, the numbers, the report bytes and the ends is lawful
abbrev pub Demand3OfDays : Type 0
Demand3OfDays =
    (w : List ℕ) (s close : ℕ) (w₀ : List ℕ) → HostOpened w s close 0 w₀ →
    (hs : List HostCall) (w' : List ℕ) → HostChain w₀ hs w' → LawfulCalls s close (map applied_call (event_calls (one_by_one hs))) w'

abbrev pub answer_of : HostCall → ℕ
answer_of (apply c) = c.answer
answer_of (play c) = c.answer

-- "No venue reached from open gets 16": no call answers it, and no event of a played day is told it
abbrev pub NoDayGets16 : Type 0
NoDayGets16 =
    (w : List ℕ) (s close : ℕ) (w₀ : List ℕ) → HostOpened w s close 0 w₀ →
    (hs : List HostCall) (w' : List ℕ) → HostChain w₀ hs w' →
    All (λ (h : HostCall). answer_of h ≡ host_answer (refuses 16) → ⊥) hs × All (λ (c : ApplyCall). c.answer ≡ host_answer (refuses 16) → ⊥) (one_by_one hs)

-- equal events, equal reports, however they are played: in days, or one by one in buffers that are long enough
unfoldable pub applied_only : List HostCall → List ApplyCall
applied_only [] = []
applied_only (apply c ∷ hs) = c ∷ applied_only hs
applied_only (play c ∷ hs) = applied_only hs

abbrev pub EqualDayReports : Type 0
EqualDayReports =
    (s close : ℕ) (w v w₀ v₀ : List ℕ) → HostOpened w s close 0 w₀ → HostOpened v s close 0 v₀ →
    (hs gs : List HostCall) (w' v' : List ℕ) → HostChain w₀ hs w' → HostChain v₀ gs v' →
    map (λ (c : EventCall). c.event) (event_calls (one_by_one hs)) ≡ map (λ (c : EventCall). c.event) (event_calls (one_by_one gs)) →
    All LongBuffer (event_calls (applied_only hs)) → All LongBuffer (event_calls (applied_only gs)) →
    SameForHosts (event_calls (one_by_one hs)) (event_calls (one_by_one gs)) w' v'

-- A day in pieces

-- calls one after another from the words w to the words w': the first from the offset from on, each later one from where the one before it stopped.
-- Each is lent the records or a front of them, as a host does that reads them in parts, and the last all of them; it stopped at the offset at with
-- the answer x, and not for want of room: at the end of the records, or at a record that can't be read
pub data Pieces (records : List ℕ) : List ℕ → ℕ → List PlayCall → List ℕ → ℕ → ℕ → Type 0 where
  last : {w w' : List ℕ} {from : ℕ} {c : PlayCall} → PlayedBy w c w' → c.records ≡ records → c.from ≡ from → (c.answer ≡ host_answer (gives all_played)) ⊎ (65_536 ≤ c.answer) → Pieces records w from (c ∷ []) w' (get_or c.progress 1 0) c.answer
  more : {w w₁ w' : List ℕ} {from at x : ℕ} {c : PlayCall} {cs : List PlayCall} (behind : List ℕ) → PlayedBy w c w₁ → c.records ++ behind ≡ records → c.from ≡ from → Pieces records w₁ (get_or c.progress 1 0) cs w' at x → Pieces records w from (c ∷ cs) w' at x

unfoldable pub pieces_played : List PlayCall → List ApplyCall
pieces_played [] = []
pieces_played (c ∷ cs) = calls_played c ++ pieces_played cs

-- however a day is cut, in one piece or in many: the same events with the same record bytes, numbers and report bytes, the same end, the same venue.
-- Of a host that moves the rest of the records to the front EqualDayReports says it
pub record SameDay (cs ds : List PlayCall) (w v : List ℕ) (a b x y : ℕ) : Type 0 where
  pub events : pieces_played cs ≡ pieces_played ds
  pub venue : venue_of w ≡ venue_of v
  pub at : a ≡ b
  pub answer : x ≡ y

abbrev pub PiecesAgree : Type 0
PiecesAgree =
    (records w v : List ℕ) (from : ℕ) → T (sound_words w) → T (sound_words v) → venue_of w ≡ venue_of v →
    (cs ds : List PlayCall) (w' v' : List ℕ) (a b x y : ℕ) → Pieces records w from cs w' a x → Pieces records v from ds v' b y →
    SameDay cs ds w' v' a b x y
