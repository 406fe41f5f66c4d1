-- One call of venue_open, and one of venue_apply: what it answers, and what it leaves. Assumes nothing.
use Rattle.std.specs.Prelude.{ℕ, ◌≤◌, ◌≡◌, List}
use Rattle.numbers.specs.Answers.{Outcome, gives, refuses, Read}
use Rattle.engine.specs.declared.Event.{Event}
use Rattle.engine.specs.rules.Refusals.{least_buffer}
use Rattle.engine.specs.rules.Records.{record_at}
use Rattle.engine.specs.claims.Calls.{Applied}
use Rattle.host.specs.rules.Host.{host_answer, outcome_of, host_opening, words_opened}

-- one call of venue_open: the words w lent to it, the step s, the close, the answer, and the words w' after it
pub record HostOpened (w : List ℕ) (s close answer : ℕ) (w' : List ℕ) : Type 0 where
  pub answers : answer ≡ host_answer (host_opening w s close)
  pub leaves : w' ≡ words_opened w s close (host_opening w s close)

-- a byte count is at most 16,384, a refusal at least 1
abbrev pub AnswerFits : Outcome ℕ → Type 0
AnswerFits (gives count) = count ≤ least_buffer
AnswerFits (refuses n) = 1 ≤ n

-- the number is just one of the two: a byte count below 65,536, or a refusal × 65,536
pub record AnswerTold (answer : ℕ) : Type 0 where
  pub answers : answer ≡ host_answer (outcome_of answer)
  pub fits : AnswerFits (outcome_of answer)

-- one call of apply with the event e, as `Applied` says it, the answer read from the number
pub record EventApplied (w : List ℕ) (e : Event) (b : List ℕ) (answer : ℕ) (w' b' : List ℕ) : Type 0 where
  pub told : AnswerTold answer
  pub applied : Applied w e b (outcome_of answer) w' b'

-- a record that can't be read is refused with 9 to 12, and every word and every byte is as it was
pub record RecordRefused (n : ℕ) (w b : List ℕ) (answer : ℕ) (w' b' : List ℕ) : Type 0 where
  pub answers : answer ≡ host_answer (refuses n)
  pub range : (9 ≤ n) × (n ≤ 12)
  pub words : w' ≡ w
  pub buffer : b' ≡ b

-- by what stands in the record: an event, or a refusal ("Read a record": 9 to 12)
abbrev pub RecordApplied : Outcome (Read Event) → List ℕ → List ℕ → ℕ → List ℕ → List ℕ → Type 0
RecordApplied (gives r) w b answer w' b' = EventApplied w r.value b answer w' b'
RecordApplied (refuses n) w b answer w' b' = RecordRefused n w b answer w' b'

-- one call of venue_apply: the words w, the bytes of the record and the report buffer b lent to it, the answer, and the words w' and the
-- buffer b' after it; the record is read at offset 0, and bytes behind it don't matter
abbrev pub HostApplied : List ℕ → List ℕ → List ℕ → ℕ → List ℕ → List ℕ → Type 0
HostApplied w bytes b answer w' b' = RecordApplied (record_at bytes 0) w b answer w' b'
