-- A day in one call: the step, event after event, over the records of a run of bytes. Beyond document 01, which has each rule of it. Assumes
-- nothing.
use Rattle.std.specs.Prelude.{ℕ, zero, suc, ◌+◌, ◌-◌, List, [], ◌∷◌, leb, length, set}
use Rattle.numbers.specs.Tests.{pick}
use Rattle.numbers.specs.Answers.{Outcome, gives, refuses, Read}
use Rattle.numbers.specs.SevenBit.{bytes_of_all, overwrite}
use Rattle.engine.specs.declared.Event.{Event}
use Rattle.engine.specs.rules.Reports.{Report}
use Rattle.engine.specs.rules.Venue.{Venue}
use Rattle.engine.specs.rules.Refusals.{least_buffer}
use Rattle.engine.specs.rules.Run.{Step, step}
use Rattle.engine.specs.rules.Records.{reports_bytes, record_at}
use Rattle.engine.specs.rules.Layout.{venue_of, sound_words}

-- "It prints each report .., and "0 n" for refusal n", as bytes
abbrev pub answer_bytes : Outcome (List Report) → List ℕ
answer_bytes (gives rs) = reports_bytes rs
answer_bytes (refuses n) = bytes_of_all (0 ∷ n ∷ [])

-- a day while it is played: the venue, the report buffer, the ends, the offset in the records, the bytes written, the events played
pub record Day : Type 0 where
  pub venue : Venue
  pub bytes : List ℕ
  pub ends : List ℕ
  pub at : ℕ
  pub end : ℕ
  pub events : ℕ

-- the day after one more event: the step, its bytes behind those before, and where they end
unfoldable pub day_after : Day → Read Event → Day
day_after d r =
    let s : Step = step d.venue r.value least_buffer in
    let new : List ℕ = answer_bytes s.answer in
    record {
      venue = s.venue;
      bytes = overwrite d.bytes d.end new;
      ends = set d.ends d.events (d.end + length new);
      at = r.end;
      end = d.end + length new;
      events = d.events + 1;
    }

-- why playing stops where nothing is refused: the records are at their end, no place is left for an end, fewer than 16,384 bytes are left
abbrev pub all_played : ℕ
all_played = 0

abbrev pub ends_full : ℕ
ends_full = 1

abbrev pub reports_full : ℕ
reports_full = 2

-- a day, and why it stopped: one of these, or a refusal
pub record Stopped : Type 0 where
  pub day : Day
  pub stop : Outcome ℕ

abbrev pub stopped : Day → Outcome ℕ → Stopped
stopped d s = record { day = d; stop = s }

-- by what stands at the offset: an event, or a refusal 9 to 12
abbrev pub by_record : (Day → Stopped) → Day → Outcome (Read Event) → Stopped
by_record later d (gives r) = later (day_after d r)
by_record later d (refuses n) = stopped d (refuses n)

-- the fold of the step over the records, with n places left for ends
unfoldable pub play_on : ℕ → List ℕ → Day → Stopped
play_on zero records d = pick (leb (length records) d.at) (stopped d (gives all_played)) (stopped d (gives ends_full))
play_on (suc n) records d =
    pick (leb (length records) d.at) (stopped d (gives all_played))
    (pick (leb least_buffer (length d.bytes - d.end)) (by_record (play_on n records) d (record_at records d.at)) (stopped d (gives reports_full)))

-- from the words w and the offset from on, with the report buffer b and the run es for ends
abbrev pub day_starts : List ℕ → ℕ → List ℕ → List ℕ → Day
day_starts w from b es = record { venue = venue_of w; bytes = b; ends = es; at = from; end = 0; events = 0 }

-- the record check, once and before all else: 16, and nothing is played
unfoldable pub played : List ℕ → List ℕ → ℕ → List ℕ → List ℕ → Stopped
played w records from b es =
    pick (sound_words w) (play_on (length es) records (day_starts w from b es)) (stopped (day_starts w from b es) (refuses 16))
