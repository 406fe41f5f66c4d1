-- What venue_play answers and leaves. Assumes nothing.
use Rattle.std.specs.Prelude.{ℕ, ◌≤◌, ◌≡◌, false, ◌⊎◌, List, [], ◌∷◌}
use Rattle.numbers.specs.Tests.{pick}
use Rattle.numbers.specs.Answers.{Outcome, gives, refuses}
use Rattle.engine.specs.rules.Layout.{sound_words}
use Rattle.days.specs.Days.{Day, reports_full, played}
use Rattle.days.specs.DayCalls.{DayDone}
use Rattle.host.specs.rules.Host.{host_answer, outcome_of}

-- how far a call came: the events played, the offset reached in the records, the bytes written
abbrev pub progress_of : Day → List ℕ
progress_of d = d.events ∷ d.at ∷ d.end ∷ []

-- the number is just one of these: a stop, 0 to 2, or a refusal × 65,536, 9 to 12 or 16
abbrev pub StopFits : Outcome ℕ → Type 0
StopFits (gives k) = k ≤ reports_full
StopFits (refuses n) = ((9 ≤ n) × (n ≤ 12)) ⊎ (n ≡ 16)

pub record StopTold (answer : ℕ) : Type 0 where
  pub answers : answer ≡ host_answer (outcome_of answer)
  pub fits : StopFits (outcome_of answer)

-- one call: the words w, the records and the offset, the report buffer b, the run es for ends and the three numbers p lent to it, the answer,
-- and what is left of them; 16 is given only where the words aren't a sound venue record, and leaves the three numbers as they were
pub record HostPlayed (w records : List ℕ) (from : ℕ) (b es p : List ℕ) (answer : ℕ) (w' b' es' p' : List ℕ) : Type 0 where
  pub told : StopTold answer
  pub answers : answer ≡ host_answer (played w records from b es).stop
  pub progress : p' ≡ pick (sound_words w) (progress_of (played w records from b es).day) p
  pub refused : answer ≡ host_answer (refuses 16) → sound_words w ≡ false
  pub done : DayDone w records from b es w' b' es'
