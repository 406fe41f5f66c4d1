-- The refusals of an event and of a question, in their order: document 01, "Operations", and document 02, No. 1 to No. 4, No. 7, No. 8 and No. 10. Assumes nothing.
use Rattle.std.specs.Prelude.{ℕ, Bool, true, false, ◌||◌, List, leb, ltb, eqb, length}
use Rattle.std.proofs.Math.Option.{Option, none, some}
use Rattle.prices.specs.declared.TimedPrice.{TimedPrice}
use Rattle.prices.specs.Prices.{legal, is_bid}
use Rattle.prices.specs.Pause.{most_kept, within, last_time}
use Rattle.book.specs.declared.Order.{Order}
use Rattle.book.specs.rules.Orders.{find}
use Rattle.engine.specs.declared.Market.{Market}
use Rattle.engine.specs.declared.Entry.{Entry}
use Rattle.engine.specs.declared.Event.{Event}
use Rattle.engine.specs.declared.Event.TheVariants.{Entry as entry, Cancel as cancel, Bid as bid, Tape as tape, DayEnd as day_end, OwnedEntry as owned_entry, TimedTape as timed_tape}
use Rattle.engine.specs.rules.Working.{is_market, life_of}
use Rattle.engine.specs.rules.Venue.{Venue}
use Rattle.book.specs.rules.Sound.{most_shares, most_owner}
use Rattle.engine.specs.rules.Sound.{most_orders, most_events, sound}

-- refusal n unless the test holds, else what comes later in the order
unfoldable pub refuse_unless : Bool → ℕ → Option ℕ → Option ℕ
refuse_unless true n later = later
refuse_unless false n later = some n

-- the first of two refusals
unfoldable pub first_of : Option ℕ → Option ℕ → Option ℕ
first_of (some n) later = some n
first_of none later = later

-- the refusals of an entry, in parts

-- its terms: "3 price not legal; 4 shares"; No. 1: "refusal 3 no longer meets an entry price of 0"; No. 2: prices are
-- legal at a step
unfoldable pub refusal_of_terms : ℕ → ℕ → ℕ → Option ℕ
refusal_of_terms step price shares =
    refuse_unless (is_market price || legal step price) 3
    (refuse_unless (leb 1 shares) 4
    (refuse_unless (leb shares most_shares) 4
    none))

-- its codes, No. 3: "A bad mark, a bad slide code, and a slide on an order that isn't short become their own answers. A bad show or life keeps 5. They are
-- looked for in the order mark, show, life, slide code, slide on the wrong mark. These carry 18, 19 and 20, in the place where 5 stands"
-- No. 4 tests the mark too, and no other code
abbrev pub refusal_of_mark : ℕ → Option ℕ → Option ℕ
refusal_of_mark mark later = refuse_unless (leb mark 3) 18 later

abbrev pub refusal_of_other_codes : Entry → Option ℕ
refusal_of_other_codes e =
    refuse_unless (leb e.show 1) 5
    (refuse_unless (leb e.life 1) 5
    (refuse_unless (leb e.slide 3) 19
    (refuse_unless (eqb e.slide 0 || eqb e.mark 2) 20
    none)))

unfoldable pub refusal_of_codes : Entry → Option ℕ
refusal_of_codes e = refusal_of_mark e.mark (refusal_of_other_codes e)

-- its owner, No. 7: "an entry with an owner, 1 to 65,535"; "an owner outside its range is 21, after the slide codes"
unfoldable pub refusal_of_owner : ℕ → Option ℕ
refusal_of_owner k =
    refuse_unless (leb 1 k) 21
    (refuse_unless (leb k most_owner) 21
    none)

-- No. 8: "an immediate or cancel order needs no place, nor does a market order taken as one", by what counts as its life and not by what becomes of it
abbrev pub needs_no_place : Market → Entry → Bool
needs_no_place m e = eqb (life_of m e.mark e.price e.life) 1

-- unless it needs none, fewer than 256 orders rest
abbrev pub has_place : Venue → Entry → Bool
has_place v e = ltb (length v.orders) most_orders || needs_no_place v.market e

-- its place: "6 id not above the last accepted id (0 never is); 7 if 256 orders rest"; No. 8: "only the remaining orders meet 7"
unfoldable pub refusal_of_place : Venue → Entry → Option ℕ
refusal_of_place v e =
    refuse_unless (ltb v.last_id e.id) 6
    (refuse_unless (has_place v e) 7
    none)

-- No. 4: "price, shares and mark are refused as in an entry"
unfoldable pub refusal_of_asked : ℕ → ℕ → ℕ → ℕ → Option ℕ
refusal_of_asked step mark price shares = first_of (refusal_of_terms step price shares) (refusal_of_mark mark none)

-- an entry's, its parts in their order; kind 1 has no owner to refuse
unfoldable pub refusal_of_entry : Venue → Entry → Option ℕ → Option ℕ
refusal_of_entry v e of_owner =
    first_of (refusal_of_terms (v.market.step) e.price e.shares)
    (first_of (refusal_of_codes e)
    (first_of of_owner
    (refusal_of_place v e)))

-- an order was found
unfoldable pub rests : Option Order → Bool
rests none = false
rests (some o) = true

-- No. 10: "Checked after the price: time before the last one of the day is 22, and a 513th kept price is 23"; what the new time drops isn't counted
unfoldable pub refusal_of_time : List TimedPrice → ℕ → Option ℕ
refusal_of_time kept t =
    refuse_unless (leb (last_time kept) t) 22
    (refuse_unless (ltb (length (within t kept)) most_kept) 23
    none)

-- the refusals of each kind of event: an entry's, a cancel's "8 if the id doesn't rest", "3 for a bid that isn't a bid, or a tape price or
-- close that isn't legal", all at the venue's step (No. 2)
unfoldable pub refusal_of_kind : Venue → Event → Option ℕ
refusal_of_kind v (entry e) = refusal_of_entry v e none
refusal_of_kind v (cancel i) = refuse_unless (rests (find i v.orders)) 8 none
refusal_of_kind v (bid b) = refuse_unless (is_bid (v.market.step) b) 3 none
refusal_of_kind v (tape p) = refuse_unless (legal (v.market.step) p) 3 none
refusal_of_kind v (day_end c) = refuse_unless (legal (v.market.step) c) 3 none
refusal_of_kind v (owned_entry e k) = refusal_of_entry v e (refusal_of_owner k)
refusal_of_kind v (timed_tape x) = refuse_unless (legal (v.market.step) x.price) 3 (refusal_of_time v.kept x.time)

-- "16 if the venue record breaks a condition .. Then 1 if the buffer has under 16,384 bytes; 2 if 16,777,215 events were accepted", then
-- the kind's own; n is the length of the lent report buffer
abbrev pub least_buffer : ℕ
least_buffer = 16_384

unfoldable pub refusal : Venue → Event → ℕ → Option ℕ
refusal v e n =
    refuse_unless (sound v) 16
    (refuse_unless (leb least_buffer n) 1
    (refuse_unless (ltb v.accepted_events most_events) 2
    (refusal_of_kind v e)))
