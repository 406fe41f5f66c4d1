-- What the engine's steps leave in the words and in the report buffer. Assumes nothing.
use Rattle.std.specs.Prelude.{ℕ, ◌+◌, ◌≤◌, ◌<◌, ◌≡◌, List, T, length, get_or}
use Rattle.numbers.specs.SevenBit.{Put}
use Rattle.prices.specs.Prices.{is_step}
use Rattle.prices.specs.Pause.{most_kept, times_in_order}
use Rattle.book.specs.declared.Order.{Order}
use Rattle.book.specs.rules.Sound.{ids_rise}
use Rattle.book.specs.rules.Words.{header_words, book_words, resting}
use Rattle.book.specs.steps.BookSteps.{Book}
use Rattle.engine.specs.declared.Market.{Market}
use Rattle.engine.specs.declared.Event.{Event}
use Rattle.engine.specs.rules.Market.{market_after}
use Rattle.engine.specs.rules.Reports.{Report}
use Rattle.engine.specs.rules.Pass.{Effect}
use Rattle.engine.specs.rules.Venue.{Venue, effect_of, venue_after}
use Rattle.engine.specs.rules.Sound.{most_events, sound}
use Rattle.engine.specs.rules.Refusals.{least_buffer}
use Rattle.engine.specs.rules.Records.{highest_field, reports_bytes}
use Rattle.engine.specs.rules.Layout.{venue_of, sound_words}
use Rattle.engine.specs.claims.Calls.{SameSpare}

-- words and a report buffer for which 16, 1 and 2 aren't given, so that only the refusals of the kind are left; the last id is a 32-bit word
pub record MayJudge (w b : List ℕ) : Type 0 where
  pub sound : T (sound_words w)
  pub buffer : least_buffer ≤ length b
  pub events : (venue_of w).accepted_events < most_events
  pub last_id : (venue_of w).last_id ≤ highest_field

-- words that are a book whose ids rise: what every step of the engine needs, and leaves
pub record Ordered (w : List ℕ) : Type 0 where
  pub book : Book w
  pub rises : T (ids_rise 0 (resting w))

-- the step of words is 50 or 100
abbrev pub HasStep : List ℕ → Type 0
HasStep w = T (is_step (venue_of w).market.step)

-- the kept prices of words are at most 512 and in the order of their times
pub record KeepsOrdered (w : List ℕ) : Type 0 where
  pub few : length (venue_of w).kept ≤ most_kept
  pub in_order : T (times_in_order 0 (venue_of w).kept)

-- what no step but the last of an event changes: the length, the header but for the count, the words behind the book
pub record SameHeader (w w' : List ℕ) : Type 0 where
  pub size : length w' ≡ length w
  pub header : (j : ℕ) → 0 < j → j < header_words → get_or w' j 0 ≡ get_or w j 0
  pub behind : (j : ℕ) → book_words ≤ j → get_or w' j 0 ≡ get_or w j 0

-- a step of the header, or of a whole event: the words w' are then the venue v
pub record Becomes (w w' : List ℕ) (v : Venue) : Type 0 where
  pub ordered : Ordered w'
  pub venue : venue_of w' ≡ v
  pub same : SameSpare w w'

-- there is room for the bytes of these reports from an offset on
abbrev pub Room : List ℕ → ℕ → List Report → Type 0
Room b at rs = at + length (reports_bytes rs) ≤ length b

-- a step of the engine: the words w' then hold the orders os under the header of w, and the buffer b' is b with the reports rs from the
-- offset at up to end
pub record Does (w w' b b' : List ℕ) (at : ℕ) (os : List Order) (rs : List Report) (end : ℕ) : Type 0 where
  pub ordered : Ordered w'
  pub same : SameHeader w w'
  pub orders : resting w' ≡ os
  pub wrote : Put (reports_bytes rs) at b end b'

-- the same of a step that gives stamps, stamp being the last of them
pub record DoesEffect (w w' b b' : List ℕ) (at : ℕ) (x : Effect) (end stamp : ℕ) : Type 0 where
  pub does : Does w w' b b' at x.orders x.reports end
  pub stamped : stamp ≡ x.stamp

-- the venue in another market, with other orders, and at the end of an accepted event
abbrev pub in_market : Market → Venue → Venue
in_market m v = record { market = m; orders = v.orders; kept = v.kept; last_id = v.last_id; last_stamp = v.last_stamp; accepted_events = v.accepted_events }

abbrev pub with_orders : List Order → Venue → Venue
with_orders os v =
    record { market = v.market; orders = os; kept = v.kept; last_id = v.last_id; last_stamp = v.last_stamp; accepted_events = v.accepted_events }

abbrev pub finished : ℕ → ℕ → Venue → Venue
finished id stamp v =
    record { market = v.market; orders = v.orders; kept = v.kept; last_id = id; last_stamp = stamp; accepted_events = v.accepted_events + 1 }

-- what an accepted event does to the venue of the words w
unfoldable pub effect_in : List ℕ → Event → Effect
effect_in w e = let v : Venue = venue_of w in effect_of (market_after e v.market) v e

-- the words of a sound venue that hasn't accepted all its events
pub record MayAccept (w : List ℕ) : Type 0 where
  pub ordered : Ordered w
  pub sound : T (sound (venue_of w))
  pub events : (venue_of w).accepted_events < most_events

-- an accepted event, done: the words w' are the venue after it, and b' has its reports from the offset at up to end
pub record AcceptsFrom (w w' b b' : List ℕ) (e : Event) (at end : ℕ) : Type 0 where
  pub ordered : Ordered w'
  pub venue : venue_of w' ≡ venue_after (venue_of w) e (effect_in w e)
  pub same : SameSpare w w'
  pub wrote : Put (reports_bytes (effect_in w e).reports) at b end b'

-- with its reports at the front
abbrev pub Accepts : List ℕ → List ℕ → List ℕ → List ℕ → Event → ℕ → Type 0
Accepts w w' b b' e end = AcceptsFrom w w' b b' e 0 end
