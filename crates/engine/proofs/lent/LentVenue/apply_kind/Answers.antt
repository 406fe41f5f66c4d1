-- Each kind of event is judged and done. Assumes nothing.
use mathlib.Core.Path.{sym}
use Rattle.engine.proofs.refinement.CancelLaws.{applied_as}
use Rattle.engine.proofs.lent.LentVenue.apply_kind.Goals as goal

pub returns-in-Entry-clause-applied : goal.returns-in-Entry-clause-applied
returns-in-Entry-clause-applied c = applied_as (sym c.in-Entry.is) c.apply_entry.ensures.applied

pub returns-in-Cancel-clause-applied : goal.returns-in-Cancel-clause-applied
returns-in-Cancel-clause-applied c = applied_as (sym c.in-Cancel.is) c.apply_cancel.ensures.applied

pub returns-in-Bid-clause-applied : goal.returns-in-Bid-clause-applied
returns-in-Bid-clause-applied c = applied_as (sym c.in-Bid.is) c.apply_bid.ensures.applied

pub returns-in-Tape-clause-applied : goal.returns-in-Tape-clause-applied
returns-in-Tape-clause-applied c = applied_as (sym c.in-Tape.is) c.apply_tape.ensures.applied

pub returns-in-DayEnd-clause-applied : goal.returns-in-DayEnd-clause-applied
returns-in-DayEnd-clause-applied c = applied_as (sym c.in-DayEnd.is) c.apply_day_end.ensures.applied

pub returns-in-OwnedEntry-clause-applied : goal.returns-in-OwnedEntry-clause-applied
returns-in-OwnedEntry-clause-applied c = applied_as (sym c.in-OwnedEntry.is) c.apply_owned_entry.ensures.applied

pub returns-in-TimedTape-clause-applied : goal.returns-in-TimedTape-clause-applied
returns-in-TimedTape-clause-applied c = applied_as (sym c.in-TimedTape.is) c.apply_timed_tape.ensures.applied
