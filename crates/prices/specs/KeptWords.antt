-- Kept prices in a run of words, two words each, time and price, from an index on, and what the step that keeps a new one leaves. Assumes nothing.
use Rattle.std.specs.Prelude.{ℕ, ◌+◌, ◌-◌, ◌*◌, ◌≤◌, ◌<◌, ◌≡◌, List, [], ◌∷◌, ◌++◌, length, get_or, drop}
use Rattle.numbers.specs.Lists.{tabulate}
use Rattle.prices.specs.declared.TimedPrice.{TimedPrice}
use Rattle.prices.specs.Pause.{most_kept}

-- the words of the kept prices
abbrev pub kept_words : ℕ
kept_words = 2 * most_kept

-- the price at position i of those from index at on
abbrev pub price_at : List ℕ → ℕ → ℕ → TimedPrice
price_at w at i = record { time = get_or w (at + 2 * i) 0; price = get_or w (at + 2 * i + 1) 0 }

unfoldable pub kept_in : List ℕ → ℕ → ℕ → List TimedPrice
kept_in w at n = tabulate n (price_at w at)

-- n words from index at + by on moved down by by words: what is in front of at, and from at + n on, stays
pub record MovedDown (w w' : List ℕ) (at by n : ℕ) : Type 0 where
  pub size : length w' ≡ length w
  pub below : (j : ℕ) → j < at → get_or w' j 0 ≡ get_or w j 0
  pub moved : (j : ℕ) → j < n → get_or w' (at + j) 0 ≡ get_or w (at + (by + j)) 0
  pub above : (j : ℕ) → at + n ≤ j → get_or w' j 0 ≡ get_or w j 0

-- the prices from position from on and a new one behind them are the first of the words w', which are w outside of the words of kept prices
pub record KeepsNew (w w' : List ℕ) (at from n : ℕ) (new : TimedPrice) : Type 0 where
  pub size : length w' ≡ length w
  pub below : (j : ℕ) → j < at → get_or w' j 0 ≡ get_or w j 0
  pub behind : (j : ℕ) → at + kept_words ≤ j → get_or w' j 0 ≡ get_or w j 0
  pub kept : kept_in w' at (n - from + 1) ≡ drop from (kept_in w at n) ++ new ∷ []
