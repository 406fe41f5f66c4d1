-- The loop of `read_fields`: the fields so far, in front of what is still to be read, are all of them. Assumes nothing.
use Rattle.records.proofs.ReadingLaws.{FieldsSoFar}
use Rattle.records.proofs.record.read_fields.Given as goal

abbrev pub invariant-loop-field : goal.invariant-loop-field
invariant-loop-field g l = FieldsSoFar l.bytes l.at g.row.N l.field-items l.field-index l.end
