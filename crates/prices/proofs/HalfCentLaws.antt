-- No. 2, of prices: a step of 100 leaves all as it was, so does every step below 10,000, and every other step is refused. Assumes nothing.
use Prim.Native.Nat.{ℕ}
use native.Mathlib.Omega.{arith}
use mathlib.Core.Path.{◌≡◌, refl}
use mathlib.Core.Bool.{false, not}
use lib.Dec.{T}
use borrow.Author.Tests.{le-leb, lt-ltb}
use Rattle.numbers.specs.Tests.{pick}
use Rattle.numbers.proofs.TestLaws.{T_false}
use Rattle.prices.specs.Prices.{dollar_border, highest_bid, is_step, legal, is_bid, permitted, at_step, price_of, permitted_of}
use Rattle.prices.specs.Watch.{watched_phase, watched, watch_outcome}
use Rattle.prices.specs.HalfCents.{AsBefore, BelowAsBefore, RefusedWith17, StepsOfPrices}
use Rattle.prices.proofs.PriceLaws.{step_known}

as_before_lem : AsBefore
unfolding is_step legal is_bid permitted at_step price_of permitted_of watched_phase watch_outcome pick
as_before_lem =
    record { legal = λ p. refl; is_bid = λ b. refl; permitted = λ b. refl; phase = λ close phase p. refl; price = λ p. refl; permitted_price = λ b. refl; watch = λ p. refl }

below : (s : ℕ) → T (is_step s) → BelowAsBefore s
unfolding legal is_bid permitted pick
below s is =
    record {
      legal = λ p l. simp (lt-ltb p dollar_border l);
      is_bid = λ b l. simp (lt-ltb b dollar_border l, le-leb b (highest_bid s) (omega (arith, (step_known s is).small)), le-leb b 99_999_900 (omega arith));
      permitted = λ b l. simp (lt-ltb b dollar_border l);
    }

refused : (s : ℕ) → T (not (is_step s)) → RefusedWith17 s
unfolding at_step price_of permitted_of watch_outcome watched watched_phase pick
refused s n =
    let f : is_step s ≡ false = T_false (is_step s) n in
    record { price = λ p. rw f; permitted_price = λ b. rw f; watch = λ p. rw f; watched = λ w p. rw f }

pub steps_of_prices : StepsOfPrices
steps_of_prices = (as_before_lem, below, refused)
