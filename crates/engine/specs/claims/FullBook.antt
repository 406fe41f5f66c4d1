-- Document 02, No. 8, a full book still trades, as claims: against the place test of before, an entry that needs no place no longer meets 7, and nothing else changes; such
-- an entry takes none. Assumes nothing.
use Rattle.std.specs.Prelude.{ℕ, ◌≤◌, ◌≡◌, Bool, false, not, ◌&&◌, ◌||◌, List, T, ltb, eqb, length}
use Rattle.std.proofs.Math.Option.{Option, none, some}
use Rattle.numbers.specs.Tests.{pick, All}
use Rattle.numbers.specs.Answers.{Outcome, gives, refuses}
use Rattle.book.specs.declared.Order.{Order}
use Rattle.book.specs.rules.Orders.{find}
use Rattle.book.specs.rules.Words.{resting}
use Rattle.engine.specs.declared.Market.{Market}
use Rattle.engine.specs.declared.Entry.{Entry}
use Rattle.engine.specs.declared.Event.{Event}
use Rattle.engine.specs.declared.Event.TheVariants.{Entry as entry, Cancel as cancel, Bid as bid, Tape as tape, DayEnd as day_end, OwnedEntry as owned_entry, TimedTape as timed_tape}
use Rattle.engine.specs.rules.Market.{restricted}
use Rattle.engine.specs.rules.Reports.{Report}
use Rattle.engine.specs.rules.Working.{is_market}
use Rattle.engine.specs.rules.Venue.{Venue}
use Rattle.engine.specs.rules.Sound.{most_orders}
use Rattle.engine.specs.rules.Refusals.{refuse_unless, first_of, refusal_of_terms, refusal_of_codes, needs_no_place, rests}
use Rattle.engine.specs.rules.Run.{Step, step}
use Rattle.engine.specs.rules.Layout.{venue_of}
use Rattle.engine.specs.claims.Calls.{refusal_given, Applied, CallDoes}
use Rattle.engine.specs.claims.OtherRefusals.{EntryRefusals, step_with, step_in_with}

-- Who needs no place

-- by its fields and the market: its life is 1, or its price is 0 and it isn't a restricted short with a bid present
abbrev pub NoPlaceByTerms : Type 0
NoPlaceByTerms =
    (m : Market) (e : Entry) →
    needs_no_place m e ≡ (eqb e.life 1 || (is_market e.price && not (restricted m e.mark && ltb 0 m.bid)))

-- an event that needs no place: an entry, of either kind, that needs none
abbrev pub event_needs_no_place : Market → Event → Bool
event_needs_no_place m (entry e) = needs_no_place m e
event_needs_no_place m (cancel i) = false
event_needs_no_place m (bid b) = false
event_needs_no_place m (tape p) = false
event_needs_no_place m (day_end c) = false
event_needs_no_place m (timed_tape x) = false
event_needs_no_place m (owned_entry e k) = needs_no_place m e

-- As before

-- Before No. 8: "7 if 256 orders rest", whatever the entry
abbrev pub place_before : Venue → Entry → Option ℕ
place_before v e =
    refuse_unless (ltb v.last_id e.id) 6
    (refuse_unless (ltb (length v.orders) most_orders) 7
    none)

-- the refusals of an entry with that place, behind the terms, codes and owner of now
abbrev pub before_no8 : EntryRefusals
before_no8 v e of_owner =
    first_of (refusal_of_terms (v.market.step) e.price e.shares) (first_of (refusal_of_codes e) (first_of of_owner (place_before v e)))

-- a refusal of before, and none for a 7 where no place is needed
abbrev pub without7 : Bool → Option ℕ → Option ℕ
without7 no_place none = none
without7 no_place (some n) = pick (no_place && eqb n 7) none (some n)

-- an event that was refused with n and is accepted now, and the orders after it
pub record NewlyAccepted (v : Venue) (x : Event) (n : ℕ) (after : List Order) : Type 0 where
  pub refused_with7 : n ≡ 7
  pub full : length v.orders ≡ most_orders
  pub no_place : T (event_needs_no_place v.market x)
  pub at_most256 : length after ≤ most_orders

-- No place is taken

-- an order rested before under its id
abbrev pub Rested : List Order → Order → Type 0
Rested before o = T (rests (find o.id before))

-- no more orders rest than before, and each of them rested before
pub record NoPlaceTaken (before after : List Order) : Type 0 where
  pub no_more : length after ≤ length before
  pub rested : All (Rested before) after

-- The claim

-- an event x to the venue v, as it is answered now and as it was
pub record RemainingMeet7 (v : Venue) (x : Event) (now was : Step) : Type 0 where
  -- "only the remaining orders meet 7"; of every other refusal, and of every other event, nothing changes
  pub refusal : refusal_given now.answer ≡ without7 (event_needs_no_place v.market x) (refusal_given was.answer)
  -- "Every entry that was accepted before gets the same reports and leaves the same venue"
  pub accepted_before : (rs : List Report) → was.answer ≡ gives rs → now ≡ was
  -- what is refused now was refused so before
  pub refused_now : (n : ℕ) → now.answer ≡ refuses n → now ≡ was
  pub newly_accepted : (rs : List Report) (n : ℕ) → now.answer ≡ gives rs → was.answer ≡ refuses n → NewlyAccepted v x n now.venue.orders
  pub no_place_taken : (rs : List Report) → T (event_needs_no_place v.market x) → now.answer ≡ gives rs → NoPlaceTaken v.orders now.venue.orders

-- of every venue, event and buffer length
abbrev pub OnlyRemainingMeet7 : Type 0
OnlyRemainingMeet7 = (v : Venue) (x : Event) (b : ℕ) → RemainingMeet7 v x (step v x b) (step_with before_no8 v x b)

-- the same of every call of apply, on any words and any buffer
pub record RemainingMeet7InCall (w : List ℕ) (x : Event) (b : List ℕ) (answer : Outcome ℕ) (w' b' : List ℕ) : Type 0 where
  pub refusal : refusal_given answer ≡ without7 (event_needs_no_place (venue_of w).market x) (refusal_given (step_in_with before_no8 w x (length b)).answer)
  pub accepted_before :
      (rs : List Report) → (step_in_with before_no8 w x (length b)).answer ≡ gives rs →
      CallDoes (step_in_with before_no8 w x (length b)) b answer w' b'
  pub refused_now : (n : ℕ) → answer ≡ refuses n → CallDoes (step_in_with before_no8 w x (length b)) b answer w' b'
  pub newly_accepted :
      (count n : ℕ) → answer ≡ gives count → (step_in_with before_no8 w x (length b)).answer ≡ refuses n →
      NewlyAccepted (venue_of w) x n (resting w')
  pub no_place_taken :
      (count : ℕ) → T (event_needs_no_place (venue_of w).market x) → answer ≡ gives count → NoPlaceTaken (resting w) (resting w')

abbrev pub OnlyRemainingMeet7InCalls : Type 0
OnlyRemainingMeet7InCalls =
    (w : List ℕ) (x : Event) (b : List ℕ) (answer : Outcome ℕ) (w' b' : List ℕ) → Applied w x b answer w' b' →
    RemainingMeet7InCall w x b answer w' b'
