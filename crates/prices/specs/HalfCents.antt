-- Document 02, No. 2, as claims of prices: what a step of 100 leaves as document 01 has it, what every step does below 10,000, and that every other step is
-- refused. Assumes nothing.
use Rattle.std.specs.Prelude.{ℕ, ◌+◌, ◌%◌, ◌<◌, ◌≡◌, Bool, not, ◌&&◌, ◌||◌, T, leb, ltb, eqb}
use Rattle.numbers.specs.Tests.{pick}
use Rattle.numbers.specs.Answers.{gives, refuses}
use Rattle.prices.specs.declared.Watch.{Watch}
use Rattle.prices.specs.Prices.{is_step, legal, is_bid, permitted, price_of, permitted_of}
use Rattle.prices.specs.Restriction.{phase_after_tape}
use Rattle.prices.specs.Watch.{watched_phase, watched, watch_outcome}

-- Before No. 2

-- "legal from 1 to 100,000,000; from 10,000 up it is a multiple of 100"
abbrev pub legal_before : ℕ → Bool
legal_before p = leb 1 p && (leb p 100_000_000 && (ltb p 10_000 || eqb (p % 100) 0))

-- "A bid is 0 (no bid) or a legal price up to 99,999,900"
abbrev pub is_bid_before : ℕ → Bool
is_bid_before b = eqb b 0 || (legal_before b && leb b 99_999_900)

-- "Permitted price of bid b: 1 if b = 0; b + 1 if 1 ≤ b < 10,000; otherwise b + 100"
abbrev pub permitted_before : ℕ → ℕ
permitted_before b = pick (eqb b 0) 1 (pick (ltb b 10_000) (b + 1) (b + 100))

-- at a step of 100 all is as before No. 2: the three, the prices at which a watch changes its phase, which it does by the rule of No. 6, and the answers
pub record AsBefore : Type 0 where
  pub legal : (p : ℕ) → legal 100 p ≡ legal_before p
  pub is_bid : (b : ℕ) → is_bid 100 b ≡ is_bid_before b
  pub permitted : (b : ℕ) → permitted 100 b ≡ permitted_before b
  pub phase : (close phase p : ℕ) → watched_phase 100 close phase p ≡ pick (legal_before p) (phase_after_tape close phase p) phase
  pub price : (p : ℕ) → price_of 100 p ≡ pick (legal_before p) (gives p) (refuses 3)
  pub permitted_price : (b : ℕ) → permitted_of 100 b ≡ pick (is_bid_before b) (gives (permitted_before b)) (refuses 3)
  pub watch : (p : ℕ) → watch_outcome 100 p ≡ pick (legal_before p) (gives tt) (refuses 3)

-- "below, both stay as they were", at every step
pub record BelowAsBefore (s : ℕ) : Type 0 where
  pub legal : (p : ℕ) → p < 10_000 → legal s p ≡ legal_before p
  pub is_bid : (b : ℕ) → b < 10_000 → is_bid s b ≡ is_bid_before b
  pub permitted : (b : ℕ) → b < 10_000 → permitted s b ≡ permitted_before b

-- "Any other step is refused with 17, before the close or price is looked at", and the watch record stays as it was
pub record RefusedWith17 (s : ℕ) : Type 0 where
  pub price : (p : ℕ) → price_of s p ≡ refuses 17
  pub permitted_price : (b : ℕ) → permitted_of s b ≡ refuses 17
  pub watch : (p : ℕ) → watch_outcome s p ≡ refuses 17
  pub watched : (w : Watch) (p : ℕ) → watched s w p ≡ w

abbrev pub StepsOfPrices : Type 0
StepsOfPrices = AsBefore × ((s : ℕ) → T (is_step s) → BelowAsBefore s) × ((s : ℕ) → T (not (is_step s)) → RefusedWith17 s)
