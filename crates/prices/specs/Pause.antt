-- The five-minute pause watch: document 02, No. 10, of timed prices in the order in which they were accepted. Assumes nothing.
use Rattle.std.specs.Prelude.{ℕ, ◌-◌, ◌*◌, Bool, true, ◌&&◌, List, [], ◌∷◌, ◌++◌, leb, length}
use Rattle.numbers.specs.Tests.{pick, conj, every, any}
use Rattle.prices.specs.declared.TimedPrice.{TimedPrice}
use Rattle.prices.specs.Prices.{legal}

-- the rolling five minutes, in "whole seconds"
abbrev pub rolling_seconds : ℕ
rolling_seconds = 300

-- "Prices whose time is at least the new time less 300": at a new time below 300 every price is one
unfoldable pub within : ℕ → List TimedPrice → List TimedPrice
within t [] = []
within t (x ∷ xs) = pick (leb (t - rolling_seconds) x.time) (x ∷ within t xs) (within t xs)

-- they "are kept", the new one behind them
unfoldable pub keeping : ℕ → ℕ → List TimedPrice → List TimedPrice
keeping t p kept = within t kept ++ record { time = t; price = p } ∷ []

-- "at most 512 with the new one"
abbrev pub most_kept : ℕ
most_kept = 512

-- "some earlier kept price q has 10 × p ≤ 9 × q"; "some q has 10 × p ≥ 11 × q"
abbrev pub is_fall : ℕ → TimedPrice → Bool
is_fall p q = leb (10 * p) (9 * q.price)

abbrev pub is_rise : ℕ → TimedPrice → Bool
is_rise p q = leb (11 * q.price) (10 * p)

unfoldable pub some_fall : ℕ → List TimedPrice → Bool
some_fall p earlier = any (is_fall p) earlier

unfoldable pub some_rise : ℕ → List TimedPrice → Bool
some_rise p earlier = any (is_rise p) earlier

-- the direction that report 7 gives, 1 for a fall, "else" 2 for a rise; 0 where there is no report 7
unfoldable pub direction : ℕ → List TimedPrice → ℕ
direction p earlier = pick (some_fall p earlier) 1 (pick (some_rise p earlier) 2 0)

-- the times of the first and the last price, 0 where there is none
abbrev pub first_time : List TimedPrice → ℕ
first_time [] = 0
first_time (x ∷ xs) = x.time

-- the last time, k where there is none
abbrev pub last_time_from : ℕ → List TimedPrice → ℕ
last_time_from k [] = k
last_time_from k (x ∷ xs) = last_time_from x.time xs

unfoldable pub last_time : List TimedPrice → ℕ
last_time xs = last_time_from 0 xs

-- no time is before the one in front of it, k being in front of the first
unfoldable pub times_in_order : ℕ → List TimedPrice → Bool
times_in_order k [] = true
times_in_order k (x ∷ xs) = leb k x.time && times_in_order x.time xs

-- "Over 512 kept prices, an illegal one, times that fall or span more than 300 seconds break the venue record", at its step
unfoldable pub sound_kept : ℕ → List TimedPrice → Bool
sound_kept step kept =
    conj (leb (length kept) most_kept ∷ every (λ (x : TimedPrice). legal step x.price) kept ∷ times_in_order 0 kept ∷ leb (last_time kept - first_time kept) rolling_seconds ∷ [])
