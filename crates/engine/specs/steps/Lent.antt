-- The engine's steps over what the host lends to an event: what Memory.antt and Steps.antt say of the words, of the bytes of the reports, and of the
-- offset behind those that are written. Assumes nothing.
use Rattle.std.specs.Prelude.{ℕ, ◌+◌, ◌≤◌, ◌≡◌, List, length}
use Rattle.numbers.specs.SevenBit.{Put}
use Rattle.numbers.specs.Answers.{Outcome}
use Rattle.book.specs.declared.Order.{Order}
use Rattle.book.specs.rules.Matching.{Meeting}
use Rattle.book.specs.rules.Words.{resting}
use Rattle.engine.specs.declared.Event.{Event}
use Rattle.engine.specs.declared.lent.LentVenue.{LentVenue}
use Rattle.engine.specs.rules.Reports.{Report}
use Rattle.engine.specs.rules.Working.{Worked}
use Rattle.engine.specs.rules.Pass.{Effect}
use Rattle.engine.specs.rules.Venue.{Venue}
use Rattle.engine.specs.rules.Records.{report_bytes, reports_bytes}
use Rattle.engine.specs.rules.Layout.{venue_of}
use Rattle.engine.specs.steps.Memory as memory
use Rattle.engine.specs.steps.Steps as steps
use Rattle.engine.specs.claims.Calls as calls

-- the words, the venue that they are, and its orders
abbrev pub words_in : LentVenue → List ℕ
words_in v = v.words.now

abbrev pub venue_in : LentVenue → Venue
venue_in v = venue_of (words_in v)

abbrev pub resting_in : LentVenue → List Order
resting_in v = resting (words_in v)

-- words and buffer are still the lent ones
abbrev pub SameLoans : LentVenue → LentVenue → Type 0
SameLoans v v' = (v'.words.ghost_name ≡ v.words.ghost_name) × (v'.buffer.ghost_name ≡ v.buffer.ghost_name)

-- behind the bytes that are written there is room for a report, and for several
abbrev pub HasRoomFor : LentVenue → Report → Type 0
HasRoomFor v x = v.end + length (report_bytes x) ≤ length v.buffer.now

abbrev pub HasRoom : LentVenue → List Report → Type 0
HasRoom v xs = memory.Room v.buffer.now v.end xs

-- v' is v with a report behind those before it, and with several
pub record Reported (v v' : LentVenue) (x : Report) : Type 0 where
  pub words : words_in v' ≡ words_in v
  pub wrote : Put (report_bytes x) v.end v.buffer.now v'.end v'.buffer.now

pub record ReportedAll (v v' : LentVenue) (xs : List Report) : Type 0 where
  pub words : words_in v' ≡ words_in v
  pub wrote : Put (reports_bytes xs) v.end v.buffer.now v'.end v'.buffer.now

-- a step of the header, or of the kept prices: v' is then the venue u, and has no other reports
pub record Becomes (v v' : LentVenue) (u : Venue) : Type 0 where
  pub venue : memory.Becomes (words_in v) (words_in v') u
  pub buffer : v'.buffer.now ≡ v.buffer.now
  pub end : v'.end ≡ v.end

-- an order may enter the book
abbrev pub MayEnter : Order → LentVenue → Type 0
MayEnter o v = steps.MayEnter o (words_in v)

-- a step of the engine: v' then holds the orders os under the header of v, and has the reports xs behind those of v
abbrev pub Does : LentVenue → LentVenue → List Order → List Report → Type 0
Does v v' os xs = memory.Does (words_in v) (words_in v') v.buffer.now v'.buffer.now v.end os xs v'.end

-- an order has worked
abbrev pub Works : LentVenue → LentVenue → Worked → Type 0
Works v v' x = Does v v' x.orders x.reports

-- the same of a step that gives stamps, the last of which is given
abbrev pub DoesEffect : LentVenue → LentVenue → Effect → ℕ → Type 0
DoesEffect v v' x stamp = memory.DoesEffect (words_in v) (words_in v') v.buffer.now v'.buffer.now v.end x v'.end stamp

-- one meeting, and all of a working order's, done, and what is left of it
abbrev pub Meets : LentVenue → LentVenue → Meeting → Order → Type 0
Meets v v' x left = steps.Meets (words_in v) (words_in v') v.buffer.now v'.buffer.now v.end x left v'.end

abbrev pub Matches : LentVenue → LentVenue → Order → Order → Type 0
Matches v v' o left = steps.Matches (words_in v) (words_in v') v.buffer.now v'.buffer.now v.end o left v'.end

-- the pass and the end of an event, done
abbrev pub PassesAndFinishes : LentVenue → LentVenue → Type 0
PassesAndFinishes v v' =
    steps.PassesAndFinishes (words_in v) (words_in v') v.buffer.now v'.buffer.now v.end v'.end

-- what an accepted event does
abbrev pub effect_in : LentVenue → Event → Effect
effect_in v e = memory.effect_in (words_in v) e

-- a sound venue that hasn't accepted all its events
abbrev pub MayAccept : LentVenue → Type 0
MayAccept v = memory.MayAccept (words_in v)

-- an accepted event, done, with its reports behind those before it
abbrev pub AcceptsFrom : LentVenue → LentVenue → Event → Type 0
AcceptsFrom v v' e = memory.AcceptsFrom (words_in v) (words_in v') v.buffer.now v'.buffer.now e v.end v'.end

-- none is written yet
abbrev pub NoneWritten : LentVenue → Type 0
NoneWritten v = v.end ≡ 0

-- there is room for all reports of an event at the front, and an accepted event, done, with its reports there
abbrev pub HasRoomInFront : LentVenue → List Report → Type 0
HasRoomInFront v xs = memory.Room v.buffer.now 0 xs

abbrev pub Accepts : LentVenue → LentVenue → Event → Type 0
Accepts v v' e = memory.Accepts (words_in v) (words_in v') v.buffer.now v'.buffer.now e v'.end

-- only the refusals of the kind are left, and an event, judged and done
abbrev pub MayJudge : LentVenue → Type 0
MayJudge v = memory.MayJudge (words_in v) v.buffer.now × NoneWritten v

abbrev pub Applied : LentVenue → Event → Outcome ℕ → LentVenue → Type 0
Applied v e o v' = calls.Applied (words_in v) e v.buffer.now o (words_in v') v'.buffer.now
