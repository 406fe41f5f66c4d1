-- The calls of open and apply: what they answer and leave, chains of calls, and what holds of every chain. Assumes nothing.
use Rattle.std.specs.Prelude.{ℕ, ◌≤◌, ◌<◌, ◌≡◌, List, [], ◌∷◌, map, T, length, get_or, take, Result}
use Rattle.std.proofs.Math.Option.{Option, none as nothing, some}
use Rattle.numbers.specs.Tests.{All}
use Rattle.numbers.specs.Answers.{Outcome, gives, refuses}
use Rattle.prices.specs.Prices.{is_step, legal}
use Rattle.book.specs.rules.Words.{header_words, venue_words, resting, is_book}
use Rattle.engine.specs.declared.Event.{Event}
use Rattle.engine.specs.declared.Refusal.{Refusal}
use Rattle.engine.specs.rules.Reports.{Report}
use Rattle.engine.specs.rules.Venue.{opening}
use Rattle.engine.specs.rules.Refusals.{least_buffer}
use Rattle.engine.specs.rules.Run.{Step, Answered}
use Rattle.engine.specs.rules.Records.{record_numbers, reports_up_to}
use Rattle.engine.specs.claims.RoundTrips.{Word}
use Rattle.engine.specs.claims.Account.{account_of}
use Rattle.engine.specs.claims.Demand3.{resting_of, Lawful}
use Rattle.engine.specs.rules.Answers.{count_of, buffer_after}
use Rattle.engine.specs.rules.Layout.{venue_of, outcome_of_open, opened_words, step_in}

-- Open

pub record Opens (s close : ℕ) (answer : Result (Unit {0}) Refusal) (words : List ℕ) : Type 0 where
  pub answers : outcome_of_open answer words ≡ opening s close
  pub is : words ≡ opened_words s close

-- Apply

-- what no event changes: the length, the step, the spare words and the number of the layout, the words behind the venue; word 8 counts the kept prices
pub record SameSpare (w w' : List ℕ) : Type 0 where
  pub size : length w' ≡ length w
  pub step : get_or w' 7 0 ≡ get_or w 7 0
  pub spare : (j : ℕ) → 9 ≤ j → j < header_words → get_or w' j 0 ≡ get_or w j 0
  pub behind : (j : ℕ) → venue_words ≤ j → get_or w' j 0 ≡ get_or w j 0

-- the refusal of an answer
abbrev pub refusal_given : {A : Type 0} → Outcome A → Option ℕ
refusal_given (gives x) = nothing
refusal_given (refuses n) = some n

-- one call of apply: the words w and the report buffer b lent to it, the event, the answer, and the words w' and the buffer b' after it
pub record Applied (w : List ℕ) (e : Event) (b : List ℕ) (answer : Outcome ℕ) (w' b' : List ℕ) : Type 0 where
  pub answers : answer ≡ count_of (step_in w e (length b)).answer
  pub buffer : b' ≡ buffer_after b (step_in w e (length b)).answer
  pub venue : venue_of w' ≡ (step_in w e (length b)).venue
  pub layout : T (is_book w) → T (is_book w')
  pub same : SameSpare w w'
  pub refused : (n : ℕ) → answer ≡ refuses n → w' ≡ w

-- a call does what the step s does: its answer, the report buffer and the venue
pub record CallDoes (s : Step) (b : List ℕ) (answer : Outcome ℕ) (w' b' : List ℕ) : Type 0 where
  pub answers : answer ≡ count_of s.answer
  pub buffer : b' ≡ buffer_after b s.answer
  pub venue : venue_of w' ≡ s.venue

-- Chains of calls

-- one call of apply: the event, the report buffer lent to it, the answer, and the buffer afterwards
pub record AppliedCall : Type 0 where
  pub event : Event
  pub lent : List ℕ
  pub answer : Outcome ℕ
  pub after : List ℕ

-- calls one after another, "each later one the venue that the event before it returned or, refused, left", from the words w to the words w';
-- the fields of an event are 32-bit numbers
pub data Chain : List ℕ → List AppliedCall → List ℕ → Type 0 where
  none : {w : List ℕ} → Chain w [] w
  more : {w w₁ w' : List ℕ} {c : AppliedCall} {cs : List AppliedCall} → All Word (record_numbers c.event) → Applied w c.event c.lent c.answer w₁ c.after → Chain w₁ cs w' → Chain w (c ∷ cs) w'

-- what the account reads of a call: the event, the answer, and the reports that stand at the front of the buffer up to the byte count; nothing
-- where other bytes stand there
abbrev pub with_reports : Event → Option (List Report) → Option Answered
with_reports e (some rs) = some (record { event = e; answer = gives rs })
with_reports e nothing = nothing

abbrev pub read_of : Event → List ℕ → Outcome ℕ → Option Answered
read_of e after (gives n) = with_reports e (reports_up_to after n)
read_of e after (refuses n) = some (record { event = e; answer = refuses n })

abbrev pub answered_of : AppliedCall → Option Answered
answered_of c = read_of c.event c.after c.answer

-- each call can be read, and what the account makes of the events, the answers and the report bytes is lawful
pub record LawfulCalls (s close : ℕ) (cs : List AppliedCall) (w' : List ℕ) : Type 0 where
  pub read : List Answered
  pub readable : map answered_of cs ≡ map some read
  pub lawful : Lawful (account_of s close read) (map resting_of (resting w'))

-- Demand 3 of the calls: for every step and close that open takes and every chain of calls from the words that open gives
abbrev pub Demand3OfCalls : Type 0
Demand3OfCalls =
    (s close : ℕ) → T (is_step s) → T (legal s close) → (cs : List AppliedCall) (w' : List ℕ) → Chain (opened_words s close) cs w' → LawfulCalls s close cs w'

-- no venue reached by calls from open gets 16
abbrev pub NoCallGets16 : Type 0
NoCallGets16 =
    (s close : ℕ) → T (is_step s) → T (legal s close) → (cs : List AppliedCall) (w : List ℕ) → Chain (opened_words s close) cs w →
    (e : Event) (b : List ℕ) (answer : Outcome ℕ) (w' b' : List ℕ) → Applied w e b answer w' b' → answer ≡ refuses 16 → ⊥

-- what a call gives besides the answer: the report bytes
abbrev pub bytes_got : List ℕ → Outcome ℕ → List ℕ
bytes_got after (gives n) = take n after
bytes_got after (refuses n) = []

abbrev pub reports_got : AppliedCall → List ℕ
reports_got c = bytes_got c.after c.answer

-- equal events, equal reports: two chains from the same step and close with the same events, whose buffers are long enough and hold anything, get equal
-- answers and equal report bytes, and leave equal venues
abbrev pub LongEnough : AppliedCall → Type 0
LongEnough c = least_buffer ≤ length c.lent

pub record SameForBoth (cs ds : List AppliedCall) (w v : List ℕ) : Type 0 where
  pub answers : map (λ (c : AppliedCall). c.answer) cs ≡ map (λ (c : AppliedCall). c.answer) ds
  pub reports : map reports_got cs ≡ map reports_got ds
  pub venue : venue_of w ≡ venue_of v

abbrev pub EqualReports : Type 0
EqualReports =
    (s close : ℕ) (cs ds : List AppliedCall) (w v : List ℕ) → Chain (opened_words s close) cs w → Chain (opened_words s close) ds v →
    map (λ (c : AppliedCall). c.event) cs ≡ map (λ (c : AppliedCall). c.event) ds → All LongEnough cs → All LongEnough ds →
    SameForBoth cs ds w v
