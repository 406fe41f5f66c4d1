-- What holds of every venue reached from open, and of every sound venue record, as statements. Assumes nothing.
use Rattle.std.specs.Prelude.{ℕ, ◌*◌, ◌^◌, ◌≤◌, ◌<◌, ◌≡◌, List, length}
use Rattle.numbers.specs.Answers.{gives, refuses}
use Rattle.engine.specs.declared.Event.{Event}
use Rattle.engine.specs.rules.Reports.{Report}
use Rattle.engine.specs.rules.Venue.{Venue, opening, last_id_after}
use Rattle.engine.specs.rules.Refusals.{least_buffer}
use Rattle.engine.specs.rules.Run.{Call, run, step}
use Rattle.engine.specs.rules.Records.{reports_bytes}

-- "No venue reached from open gets 16", whatever comes next
abbrev pub ReachedIsSound : Type 0
ReachedIsSound =
    (s close : ℕ) (v : Venue) → opening s close ≡ gives v → (cs : List Call) (e : Event) (buffer : ℕ) →
    (step (run v cs).venue e buffer).answer ≡ refuses 16 → ⊥

-- "last stamp at most 256 × accepted events"
abbrev pub StampsBounded : Type 0
StampsBounded =
    (s close : ℕ) (v : Venue) → opening s close ≡ gives v → (cs : List Call) →
    let w : Venue = (run v cs).venue in
    w.last_stamp ≤ 256 * w.accepted_events

-- the reports of an accepted event fit the smallest buffer that is allowed, from every sound record and not only from reached ones; the
-- ids are 32-bit numbers
abbrev pub ReportsFit : Type 0
ReportsFit =
    (v : Venue) (e : Event) (buffer : ℕ) → last_id_after v e < 2 ^ 32 →
    (rs : List Report) → (step v e buffer).answer ≡ gives rs → length (reports_bytes rs) ≤ least_buffer
