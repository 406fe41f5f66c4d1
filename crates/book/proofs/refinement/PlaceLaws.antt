-- Laws of the places for orders as parts of the words: each is the words of its order, and what writing one leaves. Assumes nothing.
use Prim.Native.Nat.{ℕ, zero, suc, ◌+◌, ◌-◌, ◌*◌, ◌/◌, ◌≤◌, ◌<◌}
use native.Mathlib.Nat.{le_of_suc-le-suc, not-suc-le-zero}
use native.Mathlib.Omega.{arith}
use mathlib.Core.Path.{◌≡◌, refl, ap, ap₂, sym, ◌∙◌}
use mathlib.Core.Bool.{Bool, true, false}
use mathlib.Core.List.{List, [], ◌∷◌}
use lib.ListN.{length, get_or, take, drop, length-drop}
use lib.Seq.{get_or-take, get_or-drop, length-take-le}
use Rattle.std.specs.Simd.{first_chunks}
use Rattle.std.specs.Int.{from_bool}
use Rattle.numbers.specs.Lists.{tabulate}
use Rattle.numbers.proofs.TabulateLaws.{length-tabulate, tabulate_ext, get_d_tabulate}
use Rattle.book.specs.declared.Order.{Order}
use Rattle.book.specs.rules.Words.{order_width, book_words, header_words, venue_words, place_from, word, flag_word, order_of, empty_order, resting}
use Rattle.book.specs.steps.BookSteps.{Book}
use Rattle.book.specs.steps.WordSteps.{place_in}
use Rattle.book.proofs.refinement.WordLaws.{resting_at_lem}

-- a flag as a word
pub flag_is : (b : Bool) → from_bool b ≡ flag_word b
flag_is true = refl
flag_is false = refl

-- the places

at_word : (w : List ℕ) (i j : ℕ) → i ≡ j → get_or w i 0 ≡ get_or w j 0
at_word w i j e = ap (λ (q : ℕ). get_or w q 0) e

take_tabulate : {A : Type 0} (k n : ℕ) (f : ℕ → A) → k ≤ n → take k (tabulate n f) ≡ tabulate k f
take_tabulate zero n f h = refl
take_tabulate (suc k) zero f h = absurd (not-suc-le-zero h)
take_tabulate (suc k) (suc n) f h = ap (λ (l : List _). f zero ∷ l) (take_tabulate k n (λ i. f (suc i)) (le_of_suc-le-suc h))

taken : (n : ℕ) (xs : List ℕ) → n ≤ length xs → take n xs ≡ tabulate n (λ j. get_or xs j 0)
taken zero xs h = refl
taken (suc n) [] h = absurd (not-suc-le-zero h)
taken (suc n) (x ∷ xs) h = ap (λ (l : List ℕ). x ∷ l) (taken n xs (le_of_suc-le-suc h))

rows : (k : ℕ) (xs : List ℕ) → k * order_width ≤ length xs → first_chunks order_width k xs ≡ tabulate k (λ i. tabulate order_width (λ j. get_or xs (i * order_width + j) 0))
rows zero xs h = refl
rows (suc k) xs h =
    ap₂ ◌∷◌ (taken order_width xs (omega arith) ∙ tabulate_ext order_width _ _ (λ j l. at_word xs j (zero * order_width + j) (omega arith))) (rows k (drop order_width xs) (omega (arith, length-drop order_width xs)) ∙ tabulate_ext k _ _ (λ i l. tabulate_ext order_width _ _ (λ j m. get_or-drop order_width xs (i * order_width + j) 0 ∙ at_word xs (order_width + (i * order_width + j)) (suc i * order_width + j) (omega arith))))

-- the words behind the header as places

module _ (w : List ℕ) (h : venue_words ≤ length w) where
  abbrev part : List ℕ
  part = take (book_words - header_words) (drop header_words w)

  part_length : length part ≡ 256 * order_width
  part_length = length-take-le (book_words - header_words) (drop header_words w) (omega (arith, length-drop header_words w))

  part_word : (i j : ℕ) → i < 256 → j < order_width → get_or part (i * order_width + j) 0 ≡ word w i j
  part_word i j l m =
      get_or-take (book_words - header_words) (drop header_words w) (i * order_width + j) 0 (omega arith) ∙ get_or-drop header_words w (i * order_width + j) 0 ∙ at_word w (header_words + (i * order_width + j)) (place_from i + j) (omega arith)

  pub places_are : first_chunks order_width (length part / order_width) part ≡ tabulate 256 (place_in w)
  places_are =
      ap (λ (n : ℕ). first_chunks order_width (n / order_width) part) part_length ∙ (rows 256 part (omega (arith, part_length)) ∙ tabulate_ext 256 _ _ (λ i l. tabulate_ext order_width _ _ (λ j m. part_word i j l m)))

-- a place, and a word of it

pub place_at : {places : List (List ℕ)} (w d : List ℕ) (i : ℕ) → places ≡ tabulate 256 (place_in w) → i < 256 → get_or places i d ≡ place_in w i
place_at w d i e b = ap (λ (l : List (List ℕ)). get_or l i d) e ∙ get_d_tabulate 256 (place_in w) i d b

pub word_in_place : {places : List (List ℕ)} (w d : List ℕ) (i k : ℕ) → places ≡ tabulate 256 (place_in w) → i < 256 → k < order_width → get_or (get_or places i d) k 0 ≡ word w i k
word_in_place w d i k e b h = ap (λ (l : List ℕ). get_or l k 0) (place_at w d i e b) ∙ get_d_tabulate order_width (word w i) k 0 h

-- the order in a place
pub order_in_place : {places : List (List ℕ)} (w d : List ℕ) (i : ℕ) → places ≡ tabulate 256 (place_in w) → i < 256 → i < length (resting w) → order_of (get_or places i d) ≡ get_or (resting w) i empty_order
order_in_place w d i e b h = ap order_of (place_at w d i e b) ∙ sym (resting_at_lem w i h)

-- the places in use

used_take : (w : List ℕ) (n : ℕ) → n ≤ 256 → take n (tabulate 256 (place_in w)) ≡ tabulate n (place_in w)
used_take w n h = take_tabulate n 256 (place_in w) h

pub used_are : {places : List (List ℕ)} {n : ℕ} (w : List ℕ) → Book w → places ≡ tabulate 256 (place_in w) → n ≡ length (resting w) → take n places ≡ tabulate (length (resting w)) (place_in w)
used_are {places} {n} w b e en = rw (e, en) (used_take w (length (resting w)) b.few)

pub used_length : {used : List (List ℕ)} (w : List ℕ) → used ≡ tabulate (length (resting w)) (place_in w) → length used ≡ length (resting w)
used_length w e = rw e (length-tabulate (length (resting w)) (place_in w))

pub used_id : {used : List (List ℕ)} (w : List ℕ) → Book w → used ≡ tabulate (length (resting w)) (place_in w) → (j : ℕ) → j < length (resting w) → get_or (get_or used j []) 0 0 ≡ (get_or (resting w) j empty_order).id
used_id w b e j h =
    ap (λ (l : List (List ℕ)). get_or (get_or l j []) 0 0) e ∙ ap (λ (l : List ℕ). get_or l 0 0) (get_d_tabulate (length (resting w)) (place_in w) j [] h) ∙ ap (λ (o : Order). o.id) (sym (resting_at_lem w j h))
