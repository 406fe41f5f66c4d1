-- Theorems of the calls: what was written reads back, and what was read is what writing gives. Assumes nothing.
use Prim.Native.Nat.{ℕ, ◌+◌, ◌≤◌}
use native.Mathlib.Omega.{arith}
use mathlib.Core.Path.{◌≡◌, sym, ap, ◌∙◌}
use mathlib.Core.List.{List}
use lib.ListN.{length}
use borrow.Author.Tests.{le-leb}
use Rattle.numbers.specs.Tests.{pick}
use Rattle.numbers.specs.Answers.{Outcome, gives, Read}
use Rattle.numbers.specs.SevenBit.{Stands, overwrite, Written}
use Rattle.numbers.proofs.PlaceLaws.{stands_same}
use Rattle.numbers.proofs.WriteLaws.{written_stands}
use Rattle.engine.specs.declared.Event.{Event}
use Rattle.std.specs.Prelude.{Result, Ok, Err}
use Rattle.numbers.specs.SevenBit.{outcome_of_write}
use Rattle.numbers.specs.declared.write.NoRoom.{NoRoom}
use Rattle.records.specs.declared.ReadRefusal.{ReadRefusal}
use Rattle.records.specs.declared.EventAt.{EventAt}
use Rattle.records.specs.RecordAnswers.{outcome_of_record_read}
use Rattle.records.specs.RecordTrips.{WrittenReadsBack, ReadIsWritten}
use Rattle.engine.proofs.bytes.RecordLaws.{given, not_given, record_read_back, record_unique}

-- an answer by its outcome

record_answer : {r : Read Event} (answer : Result EventAt ReadRefusal) → outcome_of_record_read answer ≡ gives r → answer ≡ Ok (record { event = r.value; end = r.end })
record_answer (Ok x) e = ap (λ (r : Read Event). Ok (record { event = r.value; end = r.end })) (given e)
record_answer (Err n) e = absurd (not_given e)

end_answer : {end : ℕ} (answer : Result ℕ NoRoom) → outcome_of_write answer ≡ gives end → answer ≡ Ok end
end_answer (Ok e) h = ap Ok (given h)
end_answer (Err _) h = absurd (not_given h)

pub written_reads_back : WrittenReadsBack
written_reads_back event before after at end answer words w r =
    record_answer answer (r ∙ record_read_back after at (record { value = event; end = end }) (record { words = words; stands = written_stands w }))

-- writing what stands there
written_there : {new bytes after : List ℕ} {at end : ℕ} {answer : Outcome ℕ} → Stands bytes at new end → Written new at bytes answer after → (answer ≡ gives end) × (after ≡ bytes)
unfolding pick
written_there {new} {bytes} {after} {at} {end} {answer} s w =
    let fits : at + length new ≤ length bytes = omega (arith, s.ends, s.inside) in
    let same : after ≡ overwrite bytes at new = rw (le-leb (at + length new) (length bytes) fits) at w.leaves in
    let answers : answer ≡ gives (at + length new) = rw (le-leb (at + length new) (length bytes) fits) at w.answers in
    (answers ∙ ap gives (sym s.ends), same ∙ stands_same s)

pub read_is_written : ReadIsWritten
read_is_written event bytes after at end answer all r w =
    let s = record_unique bytes at (record { value = event; end = end }) all (sym r) in
    let t = written_there s.stands w in
    (end_answer answer t.0, t.1)
