-- Prices (17 CFR 242.612): document 01, "Prices", and document 02, No. 2. A price is a number of ten-thousandths of a dollar. Assumes nothing.
use Rattle.std.specs.Prelude.{ℕ, ◌+◌, ◌-◌, ◌%◌, Bool, ◌&&◌, ◌||◌, leb, ltb, eqb, Result, Ok, Err}
use Rattle.numbers.specs.Tests.{pick}
use Rattle.numbers.specs.Answers.{Outcome, gives, refuses}
use Rattle.prices.specs.declared.Price.{Price}
use Rattle.prices.specs.declared.PriceError.{PriceError}
use Rattle.prices.specs.declared.BidError.{BidError}
use Rattle.prices.specs.PriceErrors.{price_error_number, bid_error_number}

-- "The price kind carries its highest value and its dollar border"
abbrev pub highest : ℕ
highest = 100_000_000

abbrev pub dollar_border : ℕ
dollar_border = 10_000

-- No. 2: "Opening takes a step, 50 or 100, for prices from 10,000 up"
unfoldable pub is_step : ℕ → Bool
is_step step = eqb step 50 || eqb step 100

-- "legal from 1 to 100,000,000"; No. 2: from 10,000 up "legal prices are its multiples", those of the step
unfoldable pub legal : ℕ → ℕ → Bool
legal step p = leb 1 p && (leb p highest && (ltb p dollar_border || eqb (p % step) 0))

-- No. 2: "The highest bid is 100,000,000 less the step"
abbrev pub highest_bid : ℕ → ℕ
highest_bid step = highest - step

-- "A bid is 0 (no bid) or a legal price up to" the highest bid
unfoldable pub is_bid : ℕ → ℕ → Bool
is_bid step b = eqb b 0 || (legal step b && leb b (highest_bid step))

-- "Permitted price of bid b: 1 if b = 0; b + 1 if 1 ≤ b < 10,000"; No. 2: from 10,000 up "the permitted price is bid + step"
unfoldable pub permitted : ℕ → ℕ → ℕ
permitted step b = pick (eqb b 0) 1 (pick (ltb b dollar_border) (b + 1) (b + step))

-- No. 2: "Any other step is refused with 17, before the close or price is looked at"
unfoldable pub at_step : {A : Type 0} → ℕ → Outcome A → Outcome A
at_step step answer = pick (is_step step) answer (refuses 17)

-- a number taken as a price, and the permitted price of a number taken as a bid: 3 where it isn't a legal price, or isn't a bid
unfoldable pub price_of : ℕ → ℕ → Outcome ℕ
price_of step p = at_step step (pick (legal step p) (gives p) (refuses 3))

unfoldable pub permitted_of : ℕ → ℕ → Outcome ℕ
permitted_of step b = at_step step (pick (is_bid step b) (gives (permitted step b)) (refuses 3))

-- the paper's terms for these answers: a price, or 3, or 17
abbrev pub outcome_of_price : Result Price PriceError → Outcome ℕ
outcome_of_price (Ok p) = gives p.value
outcome_of_price (Err e) = refuses (price_error_number e)

abbrev pub outcome_of_permitted : Result Price BidError → Outcome ℕ
outcome_of_permitted (Ok p) = gives p.value
outcome_of_permitted (Err e) = refuses (bid_error_number e)
