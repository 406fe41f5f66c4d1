-- Each kind of event is written as its record. Assumes nothing.
use Rattle.engine.specs.rules.Records.{record_bytes}
use Rattle.records.proofs.record.write_record.Goals as goal

pub returns-in-Entry : goal.returns-in-Entry
unfolding record_bytes
returns-in-Entry c = rw (c.in-Entry.is) (rw c.entry_numbers.ensures at c.write_numbers.ensures)

pub returns-in-Cancel : goal.returns-in-Cancel
unfolding record_bytes
returns-in-Cancel c = rw (c.in-Cancel.is) (rw c.from.ensures at c.write_numbers-in-Cancel.ensures)

pub returns-in-Bid : goal.returns-in-Bid
unfolding record_bytes
returns-in-Bid c = rw (c.in-Bid.is) (rw c.from-in-Bid.ensures at c.write_numbers-in-Bid.ensures)

pub returns-in-Tape : goal.returns-in-Tape
unfolding record_bytes
returns-in-Tape c = rw (c.in-Tape.is) (rw c.from-in-Tape.ensures at c.write_numbers-in-Tape.ensures)

pub returns-in-DayEnd : goal.returns-in-DayEnd
unfolding record_bytes
returns-in-DayEnd c = rw (c.in-DayEnd.is) (rw c.from-in-DayEnd.ensures at c.write_numbers-in-DayEnd.ensures)

pub returns-in-OwnedEntry : goal.returns-in-OwnedEntry
unfolding record_bytes
returns-in-OwnedEntry c = rw (c.in-OwnedEntry.is) (rw c.entry_numbers-in-OwnedEntry.ensures at c.write_numbers-in-OwnedEntry.ensures)

pub returns-in-TimedTape : goal.returns-in-TimedTape
unfolding record_bytes
returns-in-TimedTape c = rw (c.in-TimedTape.is) (rw (c.from-in-TimedTape.ensures, c.from-in-TimedTape-2.ensures) at c.write_numbers-in-TimedTape.ensures)
