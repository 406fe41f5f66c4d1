-- Events with another chain of an entry's refusals: what No. 3 and No. 8 leave as it was is stated against it. Assumes nothing.
use Rattle.std.specs.Prelude.{ℕ, List, leb, ltb}
use Rattle.std.proofs.Math.Option.{Option, none}
use Rattle.numbers.specs.Tests.{pick}
use Rattle.book.specs.rules.Words.{is_book}
use Rattle.engine.specs.declared.Entry.{Entry}
use Rattle.engine.specs.declared.Event.{Event}
use Rattle.engine.specs.declared.Event.TheVariants.{Entry as entry, Cancel as cancel, Bid as bid, Tape as tape, DayEnd as day_end, OwnedEntry as owned_entry, TimedTape as timed_tape}
use Rattle.engine.specs.rules.Venue.{Venue}
use Rattle.engine.specs.rules.Sound.{most_events, sound}
use Rattle.engine.specs.rules.Refusals.{refuse_unless, refusal_of_owner, refusal_of_kind, least_buffer}
use Rattle.engine.specs.rules.Run.{Step, step_unless}
use Rattle.engine.specs.rules.Layout.{venue_of, refused_layout}

-- the refusals of an entry, given those of its owner
abbrev pub EntryRefusals : Type 0
EntryRefusals = Venue → Entry → Option ℕ → Option ℕ

-- of each kind of event, of an event, and what it does, with those; every kind but the two of entries is refused as now
abbrev pub kind_with : EntryRefusals → Venue → Event → Option ℕ
kind_with of_entry v (entry e) = of_entry v e none
kind_with of_entry v (cancel i) = refusal_of_kind v (cancel i)
kind_with of_entry v (bid b) = refusal_of_kind v (bid b)
kind_with of_entry v (tape p) = refusal_of_kind v (tape p)
kind_with of_entry v (day_end c) = refusal_of_kind v (day_end c)
kind_with of_entry v (owned_entry e k) = of_entry v e (refusal_of_owner k)
kind_with of_entry v (timed_tape x) = refusal_of_kind v (timed_tape x)

abbrev pub refusal_with : EntryRefusals → Venue → Event → ℕ → Option ℕ
refusal_with of_entry v x n =
    refuse_unless (sound v) 16
    (refuse_unless (leb least_buffer n) 1
    (refuse_unless (ltb v.accepted_events most_events) 2
    (kind_with of_entry v x)))

abbrev pub step_with : EntryRefusals → Venue → Event → ℕ → Step
step_with of_entry v x n = step_unless (refusal_with of_entry v x n) v x

-- of the venue that words mean; words that are laid out as none are refused with 16
abbrev pub step_in_with : EntryRefusals → List ℕ → Event → ℕ → Step
step_in_with of_entry w x n = pick (is_book w) (step_with of_entry (venue_of w) x n) (refused_layout w)
