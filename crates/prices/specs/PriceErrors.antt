-- Document 01's numbers of the price errors: 3 a price that isn't legal, or no bid; 17 the step (document 02, No. 2). Assumes nothing.
use Rattle.std.specs.Prelude.{ℕ}
use Rattle.prices.specs.declared.PriceError.{PriceError}
use Rattle.prices.specs.declared.PriceError.TheVariants.{NotStep, NotLegal}
use Rattle.prices.specs.declared.BidError.{BidError}
use Rattle.prices.specs.declared.BidError.TheVariants.{NotStep as bid_no_step, NotBid}

abbrev pub price_error_number : PriceError → ℕ
price_error_number NotLegal = 3
price_error_number NotStep = 17

abbrev pub bid_error_number : BidError → ℕ
bid_error_number NotBid = 3
bid_error_number bid_no_step = 17

-- a number is no bid where the price above it isn't legal
abbrev pub bid_error_of : PriceError → BidError
bid_error_of NotLegal = NotBid
bid_error_of NotStep = bid_no_step
