-- Words that are a book, and what a step leaves of them. Assumes nothing.
use Rattle.std.specs.Prelude.{ℕ, ◌≤◌, ◌<◌, ◌≡◌, List, T, length, get_or, set}
use Rattle.book.specs.declared.Order.{Order}
use Rattle.book.specs.rules.Sound.{ids_rise}
use Rattle.book.specs.rules.Words.{header_words, book_words, venue_words, layout_number, layout_word, first_flag, past_flags, word, resting}

-- the layout of a book (`is_book`), as facts
pub record Book (w : List ℕ) : Type 0 where
  pub long : venue_words ≤ length w
  pub numbered : get_or w layout_word 0 ≡ layout_number
  pub few : length (resting w) ≤ 256
  pub flags : (i k : ℕ) → i < length (resting w) → first_flag ≤ k → k < past_flags → word w i k ≤ 1

-- the ids of the orders rise
abbrev pub IdsRise : List ℕ → Type 0
IdsRise w = T (ids_rise 0 (resting w))

-- what a step leaves: the words w' are a book with the orders l; of w, they keep the header words but for the count, and the
-- words behind the book
pub record Holds (w w' : List ℕ) (l : List Order) : Type 0 where
  pub book : Book w'
  pub rests : resting w' ≡ l
  pub size : length w' ≡ length w
  pub header : (j : ℕ) → 0 < j → j < header_words → get_or w' j 0 ≡ get_or w j 0
  pub behind : (j : ℕ) → book_words ≤ j → get_or w' j 0 ≡ get_or w j 0

-- header word k becomes x, and nothing else changes
pub record HeaderSet (w w' : List ℕ) (k x : ℕ) : Type 0 where
  pub book : Book w'
  pub rests : resting w' ≡ resting w
  pub is : w' ≡ set w k x
