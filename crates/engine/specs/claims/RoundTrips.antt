-- Round trips of event records and reports. Assumes nothing.
use Rattle.std.specs.Prelude.{ℕ, ◌≤◌, ◌≡◌, List}
use Rattle.std.proofs.Math.Option.{some}
use Rattle.numbers.specs.Tests.{All}
use Rattle.numbers.specs.Answers.{Outcome, gives, Read}
use Rattle.numbers.specs.SevenBit.{IsByte, Stands}
use Rattle.engine.specs.rules.Reports.{Report}
use Rattle.engine.specs.rules.Records.{record_numbers, report_numbers, record_bytes, report_bytes, reports_bytes, highest_field, record_at, report_at, reports_up_to}

-- "each field a 32-bit whole number"
abbrev pub Word : ℕ → Type 0
Word x = x ≤ highest_field

-- the bytes of x stand from an offset up to an end; each of its numbers is one of 32 bits
pub record StandsAs {A : Type 0} (numbers bytes_of : A → List ℕ) (bytes : List ℕ) (at : ℕ) (r : Read A) : Type 0 where
  pub words : All Word (numbers r.value)
  pub stands : Stands bytes at (bytes_of r.value) r.end

-- what stands there is read there, with its end
abbrev pub ReadsBack : {A : Type 0} → (A → List ℕ) → (A → List ℕ) → (List ℕ → ℕ → Outcome (Read A)) → Type 0
ReadsBack {A} numbers bytes_of read_at =
    (bytes : List ℕ) (at : ℕ) (r : Read A) → StandsAs numbers bytes_of bytes at r → read_at bytes at ≡ gives r

-- what is read there stands there: no other bytes read as it
abbrev pub ReadsOnly : {A : Type 0} → (A → List ℕ) → (A → List ℕ) → (List ℕ → ℕ → Outcome (Read A)) → Type 0
ReadsOnly {A} numbers bytes_of read_at =
    (bytes : List ℕ) (at : ℕ) (r : Read A) → All IsByte bytes → read_at bytes at ≡ gives r → StandsAs numbers bytes_of bytes at r

-- the round trips of event records and of reports
abbrev pub RecordsReadBack : Type 0
RecordsReadBack = ReadsBack record_numbers record_bytes record_at

abbrev pub RecordsReadOnly : Type 0
RecordsReadOnly = ReadsOnly record_numbers record_bytes record_at

abbrev pub ReportsReadBack : Type 0
ReportsReadBack = ReadsBack report_numbers report_bytes report_at

abbrev pub ReportsReadOnly : Type 0
ReportsReadOnly = ReadsOnly report_numbers report_bytes report_at

-- each number of a report is one of 32 bits
abbrev pub ReportWords : Report → Type 0
ReportWords r = All Word (report_numbers r)

-- the same of reports one after another, at the front of a buffer: `count` is their byte count
abbrev pub ReportsStand : List ℕ → ℕ → List Report → Type 0
ReportsStand bytes count rs = All ReportWords rs × Stands bytes 0 (reports_bytes rs) count

abbrev pub AllReportsReadBack : Type 0
AllReportsReadBack = (bytes : List ℕ) (count : ℕ) (rs : List Report) → ReportsStand bytes count rs → reports_up_to bytes count ≡ some rs

abbrev pub AllReportsReadOnly : Type 0
AllReportsReadOnly = (bytes : List ℕ) (count : ℕ) (rs : List Report) → All IsByte bytes → reports_up_to bytes count ≡ some rs → ReportsStand bytes count rs
