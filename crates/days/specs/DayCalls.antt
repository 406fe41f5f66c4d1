-- One call of play: what it answers and leaves, and the calls of apply that it stands for. Assumes nothing.
use Rattle.std.specs.Prelude.{ℕ, ◌≤◌, ◌≡◌, false, List, [], ◌∷◌, T, length}
use Rattle.numbers.specs.Tests.{All}
use Rattle.numbers.specs.Answers.{Outcome, gives, refuses, Read}
use Rattle.numbers.specs.SevenBit.{Put}
use Rattle.engine.specs.declared.Event.{Event}
use Rattle.engine.specs.rules.Reports.{Report}
use Rattle.engine.specs.rules.Refusals.{least_buffer}
use Rattle.engine.specs.rules.Run.{step}
use Rattle.engine.specs.rules.Records.{record_numbers, record_at}
use Rattle.engine.specs.rules.Answers.{count_of, buffer_after}
use Rattle.engine.specs.rules.Layout.{venue_of, sound_words}
use Rattle.engine.specs.claims.RoundTrips.{Word}
use Rattle.engine.specs.claims.Calls.{SameSpare, Applied}
use Rattle.records.specs.ReadRefusals.{read_refusal_number}
use Rattle.days.specs.declared.Played.{Played}
use Rattle.days.specs.declared.Stop.{Stop}
use Rattle.days.specs.declared.Stop.TheVariants.{AllPlayed, EndsFull, ReportsFull, Unreadable, VenueBroken}
use Rattle.days.specs.Days.{answer_bytes, all_played, ends_full, reports_full, played}

-- why playing stopped, by numbers
abbrev pub outcome_of_stop : Stop → Outcome ℕ
outcome_of_stop AllPlayed = gives all_played
outcome_of_stop EndsFull = gives ends_full
outcome_of_stop ReportsFull = gives reports_full
outcome_of_stop (Unreadable r) = refuses (read_refusal_number r)
outcome_of_stop VenueBroken = refuses 16

-- One event

-- what an event answers on sound words w, with any buffer that is long enough
unfoldable pub answer_in : List ℕ → Event → Outcome (List Report)
answer_in w e = (step (venue_of w) e least_buffer).answer

-- from the words w to the words w' by one event: whatever buffer is lent that is long enough, this is a call of apply
pub record Stepped (w : List ℕ) (e : Event) (w' : List ℕ) : Type 0 where
  pub words : All Word (record_numbers e)
  pub applies : (b : List ℕ) → least_buffer ≤ length b → Applied w e b (count_of (answer_in w e)) w' (buffer_after b (answer_in w e))
  pub fits : length (answer_bytes (answer_in w e)) ≤ least_buffer

-- an event of a day on sound words w: its bytes stand in the buffer from an offset up to an end
pub record EventPlayed (w : List ℕ) (e : Event) (at : ℕ) (b : List ℕ) (end : ℕ) (w' b' : List ℕ) : Type 0 where
  pub sound : T (sound_words w')
  pub venue : venue_of w' ≡ (step (venue_of w) e least_buffer).venue
  pub same : SameSpare w w'
  pub stepped : Stepped w e w'
  pub wrote : Put (answer_bytes (answer_in w e)) at b end b'
  pub inside : end ≤ length b

-- One call

-- the events es are those of the records from an offset up to another
pub data Reads (records : List ℕ) : ℕ → List Event → ℕ → Type 0 where
  none : {at : ℕ} → Reads records at [] at
  more : {at at' : ℕ} {r : Read Event} {es : List Event} → record_at records at ≡ gives r → Reads records r.end es at' → Reads records at (r.value ∷ es) at'

-- from the words w to the words w' by the events es, each on the words that the one before it left
pub data Steps : List ℕ → List Event → List ℕ → Type 0 where
  still : {w : List ℕ} → Steps w [] w
  then : {w w₁ w' : List ℕ} {e : Event} {es : List Event} → Stepped w e w₁ → Steps w₁ es w' → Steps w (e ∷ es) w'

-- as many events as were played, read from the records and applied to the words
pub record EventsPlayed (w records : List ℕ) (from events at : ℕ) (w' : List ℕ) : Type 0 where
  pub read : List Event
  pub count : length read ≡ events
  pub reads : Reads records from read at
  pub steps : Steps w read w'

-- the words w, the records and the offset, the report buffer b and the run es for ends lent to a call, and what it leaves of them
pub record DayDone (w records : List ℕ) (from : ℕ) (b es w' b' es' : List ℕ) : Type 0 where
  pub venue : venue_of w' ≡ (played w records from b es).day.venue
  pub buffer : b' ≡ (played w records from b es).day.bytes
  pub ends : es' ≡ (played w records from b es).day.ends
  pub same : SameSpare w w'
  pub refused : sound_words w ≡ false → w' ≡ w
  pub sound : T (sound_words w) → T (sound_words w')
  pub applied : T (sound_words w) → EventsPlayed w records from (played w records from b es).day.events (played w records from b es).day.at w'

-- one call of play, with its answer
pub record DayPlayed (w records : List ℕ) (from : ℕ) (b es : List ℕ) (r : Played) (w' b' es' : List ℕ) : Type 0 where
  pub stops : outcome_of_stop r.stop ≡ (played w records from b es).stop
  pub events : r.events ≡ (played w records from b es).day.events
  pub at : r.at ≡ (played w records from b es).day.at
  pub end : r.end ≡ (played w records from b es).day.end
  pub inside : r.end ≤ length b'
  pub broken : r.stop ≡ VenueBroken → sound_words w ≡ false
  pub done : DayDone w records from b es w' b' es'
