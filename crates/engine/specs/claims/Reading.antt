-- How accounts of entries and reports read a list: each event, its answer and its reports, in order. No definition here names the venue. Assumes nothing.
use Rattle.std.specs.Prelude.{ℕ}
use mathlib.Core.List.{List, foldl}
use Rattle.std.proofs.Math.Option.{Option, none, some}
use Rattle.numbers.specs.Answers.{Outcome, gives, refuses}
use Rattle.engine.specs.declared.Entry.{Entry}
use Rattle.engine.specs.declared.Event.{Event}
use Rattle.engine.specs.declared.Event.TheVariants.{Entry as entry, Cancel as cancel, Bid as bid, Tape as tape, DayEnd as day_end, OwnedEntry as owned_entry, TimedTape as timed_tape}
use Rattle.engine.specs.rules.Reports.{Report}
use Rattle.engine.specs.rules.Run.{Answered}

-- an entry of either kind with its owner; No. 7: "Event kind 6 is an entry with an owner .. kind 1 has owner 0"
pub record Entered : Type 0 where
  pub entry : Entry
  pub owner : ℕ

abbrev pub entered_by : Event → Option Entered
entered_by (entry e) = some (record { entry = e; owner = 0 })
entered_by (cancel i) = none
entered_by (bid b) = none
entered_by (tape p) = none
entered_by (day_end c) = none
entered_by (owned_entry e k) = some (record { entry = e; owner = k })
entered_by (timed_tape x) = none

-- what an accepted event does to an account before its reports, by the entry that it is or by being none, and what a report does
pub record Reading (A : Type 0) : Type 0 where
  pub begin : Option Entered → A → A
  pub read : A → Report → A

-- one event with its answer: "A refused event changes nothing", and an accepted one's "reports are read in order"
abbrev pub after_answer : {A : Type 0} → Reading A → A → Event → Outcome (List Report) → A
after_answer r c e (refuses n) = c
after_answer r c e (gives rs) = foldl r.read (r.begin (entered_by e) c) rs

abbrev pub read_from : {A : Type 0} → Reading A → A → List Answered → A
read_from {A} r c xs = foldl (λ (d : A) (x : Answered). after_answer r d x.event x.answer) c xs
