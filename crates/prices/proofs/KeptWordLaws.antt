-- Laws of kept prices in words: what stands at a position, words moved down, and a new price behind the others. Assumes nothing.
use Prim.Native.Nat.{ℕ, ◌+◌, ◌-◌, ◌*◌, ◌≤◌, ◌<◌}
use native.Mathlib.Numerals.{add-one}
use native.Mathlib.Omega.{arith}
use mathlib.Core.Path.{◌≡◌, refl, sym, ap, ap₂, ◌∙◌}
use mathlib.Core.List.{List, [], ◌∷◌, ◌++◌}
use lib.ListN.{length, get_or, set, drop, length-set}
use lib.Seq.{drop-cons, get_or-set_same, get_or-set_other}
use Rattle.numbers.proofs.TabulateLaws.{length-tabulate, get_d_tabulate, tabulate_ext, drop-tabulate, tabulate_last}
use Rattle.prices.specs.declared.TimedPrice.{TimedPrice}
use Rattle.prices.specs.Pause.{most_kept}
use Rattle.prices.specs.KeptWords.{kept_words, price_at, kept_in, MovedDown, KeepsNew}

-- the prices in words

abbrev timed_price : ℕ → ℕ → TimedPrice
timed_price t p = record { time = t; price = p }

timed : {t t' p p' : ℕ} → t ≡ t' → p ≡ p' → timed_price t p ≡ timed_price t' p'
timed e f = ap₂ timed_price e f

pub kept_length : (w : List ℕ) (at n : ℕ) → length (kept_in w at n) ≡ n
unfolding kept_in
kept_length w at n = length-tabulate n (price_at w at)

pub kept_none : (w : List ℕ) (at : ℕ) → kept_in w at 0 ≡ []
unfolding kept_in
kept_none w at = refl

pub kept_same : (w w' : List ℕ) (at n : ℕ) → ((j : ℕ) → at ≤ j → get_or w' j 0 ≡ get_or w j 0) → kept_in w' at n ≡ kept_in w at n
unfolding kept_in
kept_same w w' at n h =
    tabulate_ext n (price_at w' at) (price_at w at) (λ i l. timed (h (at + 2 * i) (omega arith)) (h (at + 2 * i + 1) (omega arith)))

-- those from a position on: the one there and those behind it

pub kept_next : (w : List ℕ) (at n i : ℕ) → i < n → drop i (kept_in w at n) ≡ price_at w at i ∷ drop (i + 1) (kept_in w at n)
unfolding kept_in
kept_next w at n i h =
    let l = kept_in w at n in
    let d = price_at w at i in
    drop-cons l i d (omega (arith, kept_length w at n)) ∙ ap₂ (λ (x : TimedPrice) (k : ℕ). x ∷ drop k l) (get_d_tabulate n (price_at w at) i d h) (sym (add-one i))

-- the words after the two steps that keep a new price
module _ (w w₁ : List ℕ) (at from n : ℕ) (new : TimedPrice) (f : from ≤ n) (m : n - from < most_kept) (fits : at + kept_words ≤ length w) (c : MovedDown w w₁ at (2 * from) (2 * (n - from))) where
  abbrev left : ℕ
  left = n - from

  abbrev w₂ : List ℕ
  w₂ = set w₁ (at + 2 * left) new.time

  abbrev w₃ : List ℕ
  w₃ = set w₂ (at + 2 * left + 1) new.price

  -- other words are as before the two
  other : (j : ℕ) → (j ≡ at + 2 * left → ⊥) → (j ≡ at + 2 * left + 1 → ⊥) → get_or w₃ j 0 ≡ get_or w₁ j 0
  other j a b = get_or-set_other w₂ (at + 2 * left + 1) j new.price 0 b ∙ get_or-set_other w₁ (at + 2 * left) j new.time 0 a

  new_there : price_at w₃ at left ≡ new
  new_there =
      timed
      (get_or-set_other w₂ (at + 2 * left + 1) (at + 2 * left) new.price 0 (λ e. omega arith) ∙ get_or-set_same w₁ (at + 2 * left) new.time 0 (omega (arith, c.size)))
      (get_or-set_same w₂ (at + 2 * left + 1) new.price 0 (omega (arith, c.size, length-set w₁ (at + 2 * left) new.time)))

  moved_there : (i : ℕ) → i < left → price_at w₃ at i ≡ price_at w at (from + i)
  moved_there i l =
      timed
      (other (at + 2 * i) (λ e. omega arith) (λ e. omega arith) ∙ c.moved (2 * i) (omega arith) ∙ ap (λ (j : ℕ). get_or w j 0) (omega arith))
      (other (at + 2 * i + 1) (λ e. omega arith) (λ e. omega arith) ∙ ap (λ (j : ℕ). get_or w₁ j 0) (omega arith) ∙ c.moved (2 * i + 1) (omega arith) ∙ ap (λ (j : ℕ). get_or w j 0) (omega arith))

  pub keeps_new : KeepsNew w (set (set w₁ (at + 2 * (n - from)) new.time) (at + 2 * (n - from) + 1) new.price) at from n new
  unfolding kept_in
  keeps_new =
      record {
        size = length-set w₂ (at + 2 * left + 1) new.price ∙ length-set w₁ (at + 2 * left) new.time ∙ c.size;
        below = λ j l. other j (λ e. omega arith) (λ e. omega arith) ∙ c.below j l;
        behind = λ j l. other j (λ e. omega arith) (λ e. omega arith) ∙ c.above j (omega arith);
        kept =
            rw (add-one left)
            (tabulate_last left (price_at w₃ at) ∙ ap₂ (λ (l : List TimedPrice) (x : TimedPrice). l ++ x ∷ []) (tabulate_ext left (price_at w₃ at) (λ i. price_at w at (from + i)) moved_there ∙ sym (drop-tabulate from n (price_at w at) f)) new_there);
      }
