-- The conditions of a venue record: document 01, "Event", refusal 16, and document 02, No. 2 and No. 10. Those of the orders stand in the book's `Sound`, those of the kept prices in `Pause` of the crate prices. Assumes nothing.
use Rattle.std.specs.Prelude.{ℕ, ◌*◌, Bool, List, [], ◌∷◌, leb, length}
use Rattle.numbers.specs.Tests.{conj, every}
use Rattle.prices.specs.Prices.{is_step, legal, is_bid}
use Rattle.prices.specs.Pause.{sound_kept}
use Rattle.book.specs.rules.Sound.{ids_rise, stamps_differ, sound_order}
use Rattle.engine.specs.rules.Venue.{Venue}

-- "keeps up to 256 orders"
abbrev pub most_orders : ℕ
most_orders = 256

-- "accepted events at most 16,777,215"
abbrev pub most_events : ℕ
most_events = 16_777_215

-- ".. the phase among them ..; close legal; bid .. a bid ..; accepted events at most 16,777,215; last stamp at most 256 × accepted events";
-- No. 2, of any other step than 50 and 100: "in a venue record it is a broken condition"
abbrev pub header_conditions : Venue → List Bool
header_conditions v =
    is_step (v.market.step) ∷ leb (v.market.phase) 2 ∷ legal (v.market.step) (v.market.close) ∷ is_bid (v.market.step) (v.market.bid)
    ∷ leb v.accepted_events most_events ∷ leb v.last_stamp (256 * v.accepted_events) ∷ []

-- "at most 256 orders; ids rising, from 1 ..; stamps different .."; No. 10's conditions on the kept prices
abbrev pub venue_conditions : Venue → List Bool
venue_conditions v =
    leb (length v.orders) most_orders ∷ ids_rise 0 v.orders ∷ every (sound_order (v.market.step) v.last_id v.last_stamp) v.orders
    ∷ stamps_differ v.orders ∷ sound_kept (v.market.step) v.kept ∷ header_conditions v

unfoldable pub sound : Venue → Bool
sound v = conj (venue_conditions v)
