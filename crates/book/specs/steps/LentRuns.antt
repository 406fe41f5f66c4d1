-- What the loops over a lent run of order records need. Assumes nothing.
use Rattle.book.specs.declared.OrderRecord.{OrderRecord}
use Rattle.book.specs.rules.Words.{empty_order}
use Rattle.book.specs.rules.OrderRecords.{record_of}

-- what a run gives past its end
abbrev pub empty_record : OrderRecord
empty_record = record_of empty_order
