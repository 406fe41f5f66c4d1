-- What the steps over single words do: an order stored, words shifted by one place. Assumes nothing.
use Rattle.std.specs.Prelude.{ℕ, ◌+◌, ◌≤◌, ◌<◌, ◌≡◌, List, length, get_or}
use Rattle.numbers.specs.Lists.{tabulate}
use Rattle.book.specs.declared.Order.{Order}
use Rattle.book.specs.rules.Words.{order_width, first_flag, past_flags, place_from, word, order_at, order_of}

-- the words of place i
abbrev pub place_in : List ℕ → ℕ → List ℕ
place_in w i = tabulate order_width (word w i)

-- the list is the words of the order o
pub record Row (row : List ℕ) (o : Order) : Type 0 where
  pub is : order_of row ≡ o
  pub flags : (k : ℕ) → first_flag ≤ k → k < past_flags → get_or row k 0 ≤ 1

-- w' is w with the first n words of row from index at on
pub record Copied (w w' : List ℕ) (at : ℕ) (row : List ℕ) (n : ℕ) : Type 0 where
  pub size : length w' ≡ length w
  pub new : (k : ℕ) → k < n → get_or w' (at + k) 0 ≡ get_or row k 0
  pub below : (j : ℕ) → j < at → get_or w' j 0 ≡ get_or w j 0
  pub above : (j : ℕ) → at + n ≤ j → get_or w' j 0 ≡ get_or w j 0

-- w' is w with the order o in place i
pub record Stored (w w' : List ℕ) (i : ℕ) (o : Order) : Type 0 where
  pub size : length w' ≡ length w
  pub new : order_at w' i ≡ o
  pub flags : (k : ℕ) → first_flag ≤ k → k < past_flags → word w' i k ≤ 1
  pub below : (j : ℕ) → j < place_from i → get_or w' j 0 ≡ get_or w j 0
  pub above : (j : ℕ) → place_from i + order_width ≤ j → get_or w' j 0 ≡ get_or w j 0

-- w' is w, but for the words from index from up to index to, which are those one place on
pub record ShiftedDown (w w' : List ℕ) (from to : ℕ) : Type 0 where
  pub size : length w' ≡ length w
  pub below : (j : ℕ) → j < from → get_or w' j 0 ≡ get_or w j 0
  pub moved : (j : ℕ) → from ≤ j → j < to → get_or w' j 0 ≡ get_or w (j + order_width) 0
  pub above : (j : ℕ) → to ≤ j → get_or w' j 0 ≡ get_or w j 0

-- w' is w outside the words from index from up to index to moved up by one place
pub record ShiftedUp (w w' : List ℕ) (from to : ℕ) : Type 0 where
  pub size : length w' ≡ length w
  pub below : (j : ℕ) → j < from + order_width → get_or w' j 0 ≡ get_or w j 0
  pub moved : (j : ℕ) → from ≤ j → j < to → get_or w' (j + order_width) 0 ≡ get_or w j 0
  pub above : (j : ℕ) → to + order_width ≤ j → get_or w' j 0 ≡ get_or w j 0
