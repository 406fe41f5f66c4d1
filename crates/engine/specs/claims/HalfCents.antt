-- Document 02, No. 2, as claims: a step of 100 leaves every event as it was, and every other step than 50 and 100 is refused. Those of prices stand in
-- `HalfCents` of the crate prices. Assumes nothing.
use Rattle.std.specs.Prelude.{ℕ, ◌*◌, max, ◌≡◌, Bool, not, ◌&&◌, ◌||◌, [], ◌∷◌, T, leb, ltb, eqb, length}
use Rattle.std.proofs.Math.Option.{Option, none}
use Rattle.numbers.specs.Tests.{pick, conj, every}
use Rattle.numbers.specs.Answers.{gives, refuses}
use Rattle.prices.specs.Prices.{is_step, permitted}
use Rattle.prices.specs.HalfCents.{legal_before, is_bid_before, permitted_before}
use Rattle.prices.specs.Pause.{sound_kept}
use Rattle.book.specs.declared.Order.{Order}
use Rattle.book.specs.rules.Orders.{find}
use Rattle.book.specs.rules.Sound.{most_shares, most_owner, slide_allowed, market_allowed, ids_rise, stamps_differ}
use Rattle.engine.specs.declared.Market.{Market}
use Rattle.engine.specs.declared.Entry.{Entry}
use Rattle.engine.specs.declared.Event.{Event}
use Rattle.engine.specs.declared.Event.TheVariants.{Entry as entry, Cancel as cancel, Bid as bid, Tape as tape, DayEnd as day_end, OwnedEntry as owned_entry, TimedTape as timed_tape}
use Rattle.engine.specs.declared.Move.{Move}
use Rattle.engine.specs.declared.Move.TheVariants.{Stay, Cancel, Reprice}
use Rattle.engine.specs.rules.Market.{market_after, restricted}
use Rattle.engine.specs.rules.Working.{is_market, limit_of, working_price}
use Rattle.engine.specs.rules.Pass.{displayed_clear, move_down, slide_once, may_slide, move_of}
use Rattle.engine.specs.rules.Venue.{Venue, opened, opening, effect_of}
use Rattle.engine.specs.rules.Sound.{most_orders, most_events}
use Rattle.engine.specs.rules.Refusals.{refuse_unless, first_of, refusal_of_codes, refusal_of_owner, refusal_of_place, refusal_of_time, rests, least_buffer, refusal}
use Rattle.engine.specs.rules.Run.{step}

-- Before No. 2: the parts of an event that look at a price, a bid or a permitted price, with document 01's; codes, owner and place are those of
-- now, and so is the test of kept prices (No. 10), at a step of 100

-- the conditions of a venue record (16)
abbrev pub order_before : ℕ → ℕ → Order → Bool
order_before last_id last_stamp o =
    conj
    (leb o.id last_id ∷ leb o.mark 3 ∷ legal_before o.limit ∷ leb 1 o.shares ∷ leb o.shares most_shares ∷ leb o.show 1 ∷ eqb o.life 0
    ∷ slide_allowed o.mark o.slide ∷ leb 1 o.stamp ∷ leb o.stamp last_stamp ∷ legal_before o.price ∷ is_bid_before o.entry_bid
    ∷ market_allowed o.market o.mark o.limit ∷ leb o.owner most_owner ∷ [])

abbrev pub sound_before : Venue → Bool
sound_before v =
    conj
    (leb (length v.orders) most_orders ∷ ids_rise 0 v.orders ∷ every (order_before v.last_id v.last_stamp) v.orders ∷ stamps_differ v.orders ∷ sound_kept 100 v.kept
    ∷ leb (v.market.phase) 2 ∷ legal_before (v.market.close) ∷ is_bid_before (v.market.bid) ∷ leb v.accepted_events most_events
    ∷ leb v.last_stamp (256 * v.accepted_events) ∷ [])

-- the refusals of each kind
abbrev pub refusal_of_entry_before : Venue → Entry → Option ℕ → Option ℕ
refusal_of_entry_before v e of_owner =
    first_of
    (refuse_unless (is_market e.price || legal_before e.price) 3
    (refuse_unless (leb 1 e.shares) 4
    (refuse_unless (leb e.shares most_shares) 4
    none)))
    (first_of (refusal_of_codes e) (first_of of_owner (refusal_of_place v e)))

abbrev pub refusal_before : Venue → Event → Option ℕ
refusal_before v (entry e) = refusal_of_entry_before v e none
refusal_before v (cancel i) = refuse_unless (rests (find i v.orders)) 8 none
refusal_before v (bid b) = refuse_unless (is_bid_before b) 3 none
refusal_before v (tape p) = refuse_unless (legal_before p) 3 none
refusal_before v (day_end c) = refuse_unless (legal_before c) 3 none
refusal_before v (owned_entry e k) = refusal_of_entry_before v e (refusal_of_owner k)
refusal_before v (timed_tape x) = refuse_unless (legal_before x.price) 3 (refusal_of_time v.kept x.time)

-- the price that an entry works at
abbrev pub working_before : Market → ℕ → ℕ → ℕ
working_before m mark price = pick (restricted m mark) (max (limit_of mark price) (permitted_before m.bid)) (limit_of mark price)

-- where a restricted order goes in the pass
abbrev pub slide_before : Market → Order → Move
slide_before m o =
    pick (eqb o.slide 0) (move_down (max o.limit (permitted_before m.bid)) o.used o)
    (pick (eqb o.slide 1) (slide_once m o)
    Stay)

abbrev pub goes_before : Market → Order → Move
goes_before m o =
    pick (leb o.price m.bid && not (displayed_clear o))
    (pick (eqb o.slide 3) Cancel (Reprice (permitted_before m.bid) o.used))
    (pick (may_slide m o) (slide_before m o) Stay)

-- at a step of 100 the step stays, an event is refused as before, an entry works at the price that it did, and every order goes where it went
pub record EventsAsBefore (v : Venue) : Type 0 where
  pub kept : (e : Event) → (market_after e v.market).step ≡ 100
  pub refusal : (e : Event) (n : ℕ) → refusal v e n ≡ refuse_unless (sound_before v) 16 (refuse_unless (leb least_buffer n) 1 (refuse_unless (ltb v.accepted_events most_events) 2 (refusal_before v e)))

pub record PricesGivenAsBefore (m : Market) : Type 0 where
  pub works : (mark price : ℕ) → working_price m mark price ≡ working_before m mark price
  pub moves : (o : Order) → move_of m o ≡ goes_before m o

-- two steps that give the bid the same permitted price, as any two do below 10,000, have the same effect of every accepted event
abbrev pub with_step : ℕ → Market → Market
with_step s m = record { close = m.close; phase = m.phase; bid = m.bid; step = s }

abbrev pub venue_with_step : ℕ → Venue → Venue
venue_with_step s v = record { market = with_step s v.market; orders = v.orders; kept = v.kept; last_id = v.last_id; last_stamp = v.last_stamp; accepted_events = v.accepted_events }

abbrev pub ByPermittedPrice : Type 0
ByPermittedPrice =
    (s t : ℕ) (m : Market) → permitted s m.bid ≡ permitted t m.bid →
    (v : Venue) (e : Event) → effect_of (with_step s m) (venue_with_step s v) e ≡ effect_of (with_step t m) (venue_with_step t v) e

pub record CentsAsBefore : Type 0 where
  pub opening : (close : ℕ) → opening 100 close ≡ pick (legal_before close) (gives (opened 100 close)) (refuses 3)
  pub events : (v : Venue) → v.market.step ≡ 100 → EventsAsBefore v
  pub prices : (m : Market) → m.step ≡ 100 → PricesGivenAsBefore m
  pub effects : ByPermittedPrice

-- "Any other step is refused with 17, before the close or price is looked at; in a venue record it is a broken condition"
pub record OthersRefused (s : ℕ) : Type 0 where
  pub opening : (close : ℕ) → opening s close ≡ refuses 17
  pub event : (v : Venue) → v.market.step ≡ s → (e : Event) (n : ℕ) → (step v e n).answer ≡ refuses 16

abbrev pub OtherStepsRefused : Type 0
OtherStepsRefused = (s : ℕ) → T (not (is_step s)) → OthersRefused s
