-- Document 01's numbers of the refusals of reading a record. Assumes nothing.
use Rattle.std.specs.Prelude.{ℕ}
use Rattle.records.specs.declared.ReadRefusal.{ReadRefusal}
use Rattle.records.specs.declared.ReadRefusal.TheVariants.{MissingByte, BadNumber, UnknownKind, FieldTooLarge}

abbrev pub read_refusal_number : ReadRefusal → ℕ
read_refusal_number MissingByte = 9
read_refusal_number BadNumber = 10
read_refusal_number UnknownKind = 11
read_refusal_number FieldTooLarge = 12
