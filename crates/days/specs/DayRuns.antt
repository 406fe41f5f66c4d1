-- A played day is the same events one by one, as a statement about the definitions. Assumes nothing.
use Rattle.std.specs.Prelude.{ℕ, ◌+◌, ◌≤◌, ◌≡◌, List, [], ◌∷◌, ◌++◌, map, length}
use Rattle.std.proofs.lemmas.List.Edits.{sets}
use Rattle.numbers.specs.SevenBit.{overwrite}
use Rattle.engine.specs.declared.Event.{Event}
use Rattle.engine.specs.rules.Refusals.{least_buffer}
use Rattle.engine.specs.rules.Run.{Call, Answered, run}
use Rattle.days.specs.Days.{answer_bytes, Day, play_on}
use Rattle.days.specs.DayCalls.{Reads}

-- an event with a buffer of its own
abbrev pub call_of : Event → Call
call_of e = record { event = e; buffer = least_buffer }

-- the bytes of answers one after another, and where each ends
abbrev pub answered_bytes : List Answered → List ℕ
answered_bytes [] = []
answered_bytes (a ∷ more) = answer_bytes a.answer ++ answered_bytes more

abbrev pub ends_from : ℕ → List Answered → List ℕ
ends_from at [] = []
ends_from at (a ∷ more) = (at + length (answer_bytes a.answer)) ∷ ends_from (at + length (answer_bytes a.answer)) more

-- from d to d': the events of as many records, at most n, were applied one by one, and their bytes and ends were written
pub record OneByOne (n : ℕ) (records : List ℕ) (d d' : Day) : Type 0 where
  pub read : List Event
  pub reads : Reads records d.at read d'.at
  pub few : length read ≤ n
  pub count : d'.events ≡ d.events + length read
  pub venue : d'.venue ≡ (run d.venue (map call_of read)).venue
  pub end : d'.end ≡ d.end + length (answered_bytes (run d.venue (map call_of read)).answered)
  pub bytes : d'.bytes ≡ overwrite d.bytes d.end (answered_bytes (run d.venue (map call_of read)).answered)
  pub ends : d'.ends ≡ sets d.ends d.events (ends_from d.end (run d.venue (map call_of read)).answered)

abbrev pub PlayedOneByOne : Type 0
PlayedOneByOne =
    (n : ℕ) (records : List ℕ) (d : Day) → d.end ≤ length d.bytes → OneByOne n records d (play_on n records d).day
