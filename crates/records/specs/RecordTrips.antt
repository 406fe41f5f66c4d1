-- Round trips of the calls `read_record` and `write_record`. Assumes nothing.
use Rattle.std.specs.Prelude.{ℕ, ◌≡◌, List, Result, Ok}
use Rattle.numbers.specs.Tests.{All}
use Rattle.numbers.specs.SevenBit.{IsByte, Written, outcome_of_write}
use Rattle.engine.specs.declared.Event.{Event}
use Rattle.engine.specs.rules.Records.{record_numbers, record_bytes, record_at}
use Rattle.engine.specs.claims.RoundTrips.{Word}
use Rattle.numbers.specs.declared.write.NoRoom.{NoRoom}
use Rattle.records.specs.declared.ReadRefusal.{ReadRefusal}
use Rattle.records.specs.declared.EventAt.{EventAt}
use Rattle.records.specs.RecordAnswers.{outcome_of_record_read}

-- what `read_record` and `write_record` ensure of their arguments, their answer and the buffer after

abbrev pub ReadCall : List ℕ → ℕ → Result EventAt ReadRefusal → Type 0
ReadCall bytes at answer = outcome_of_record_read answer ≡ record_at bytes at

abbrev pub WriteCall : Event → List ℕ → ℕ → Result ℕ NoRoom → List ℕ → Type 0
WriteCall event before at answer after = Written (record_bytes event) at before (outcome_of_write answer) after

-- what was written reads back as the same event and end
abbrev pub WrittenReadsBack : Type 0
WrittenReadsBack =
    (event : Event) (before after : List ℕ) (at end : ℕ) (answer : Result EventAt ReadRefusal) → All Word (record_numbers event) → WriteCall event before at (Ok end) after → ReadCall after at answer → answer ≡ Ok (record { event = event; end = end })

-- what was read is exactly what writing that event gives: the same end, and no byte is changed
abbrev pub ReadIsWritten : Type 0
ReadIsWritten =
    (event : Event) (bytes after : List ℕ) (at end : ℕ) (answer : Result ℕ NoRoom) → All IsByte bytes → ReadCall bytes at (Ok (record { event = event; end = end })) → WriteCall event bytes at answer after → (answer ≡ Ok end) × (after ≡ bytes)
