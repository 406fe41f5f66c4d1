-- The conditions on the orders of a venue record: document 01, "Event", refusal 16, and document 02, No. 1, No. 2 and No. 7. Assumes nothing.
use Rattle.std.specs.Prelude.{ℕ, Bool, true, not, ◌&&◌, ◌||◌, List, [], ◌∷◌, leb, ltb, eqb}
use Rattle.numbers.specs.Tests.{conj, every}
use Rattle.prices.specs.Prices.{legal, is_bid}
use Rattle.book.specs.declared.Order.{Order}

-- "shares 1 to 1,000,000"
abbrev pub most_shares : ℕ
most_shares = 1_000_000

-- "slide (0 continuous, 1 once, 2 no more, 3 opt-out; 0 for marks other than 2)"
abbrev pub slide_allowed : ℕ → ℕ → Bool
slide_allowed mark slide = leb slide 3 && (eqb slide 0 || eqb mark 2)

-- No. 1: the record says that an order is a market short; "said of anything but a short with limit 1, that breaks the venue record"
abbrev pub market_allowed : Bool → ℕ → ℕ → Bool
market_allowed market mark limit = not market || (eqb mark 2 && eqb limit 1)

-- No. 7: "the owner, 0 to 65,535 in a sound venue record"
abbrev pub most_owner : ℕ
most_owner = 65_535

-- "ids rising", all above k
unfoldable pub ids_rise : ℕ → List Order → Bool
ids_rise k [] = true
ids_rise k (o ∷ os) = ltb k o.id && ids_rise o.id os

-- "stamps different"
unfoldable pub stamps_differ : List Order → Bool
stamps_differ [] = true
stamps_differ (o ∷ os) = every (λ (x : Order). not (eqb o.stamp x.stamp)) os && stamps_differ os

-- at the venue's step (No. 2): "to the last id; prices and limits legal; shares and codes .. in range; slide 0 unless the mark is 2; each life 0; stamps .. from 1
-- to the last stamp; .. entry bids each a bid"; No. 1's condition on market shorts, No. 7's on owners
abbrev pub order_conditions : ℕ → ℕ → ℕ → Order → List Bool
order_conditions step last_id last_stamp o =
    leb o.id last_id ∷ leb o.mark 3 ∷ legal step o.limit ∷ leb 1 o.shares ∷ leb o.shares most_shares ∷ leb o.show 1 ∷ eqb o.life 0
    ∷ slide_allowed o.mark o.slide ∷ leb 1 o.stamp ∷ leb o.stamp last_stamp ∷ legal step o.price ∷ is_bid step o.entry_bid
    ∷ market_allowed o.market o.mark o.limit ∷ leb o.owner most_owner ∷ []

unfoldable pub sound_order : ℕ → ℕ → ℕ → Order → Bool
sound_order step last_id last_stamp o = conj (order_conditions step last_id last_stamp o)
