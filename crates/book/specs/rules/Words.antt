-- What a run of words means as a book: the header, whose first word is the number of orders and whose last is the number of the layout, then
-- 256 places, each the words of an order, the used ones in front. Behind it are the words of the kept prices; a longer run has further words behind
-- these. Assumes nothing.
use Rattle.std.specs.Prelude.{ℕ, ◌+◌, ◌-◌, ◌*◌, Bool, true, false, ◌&&◌, List, [], leb, eqb, length, get_or}
use Rattle.numbers.specs.Tests.{conj, every}
use Rattle.numbers.specs.Lists.{tabulate}
use Rattle.prices.specs.KeptWords.{kept_words}
use Rattle.book.specs.declared.Order.{Order}
use Rattle.book.specs.rules.Sound.{ids_rise, sound_order, stamps_differ}

-- the words of the header, of an order (one a field), of the book's part and of a venue
abbrev pub header_words : ℕ
header_words = 16

abbrev pub order_width : ℕ
order_width = 15

abbrev pub book_words : ℕ
book_words = header_words + 256 * order_width

abbrev pub venue_words : ℕ
venue_words = book_words + kept_words

-- the number of this layout, and the header word that has it: words that were stored under another layout are no venue
abbrev pub layout_number : ℕ
layout_number = 5

abbrev pub layout_word : ℕ
layout_word = 15

-- the flags among the words of an order: from this word on, and before that one
abbrev pub first_flag : ℕ
first_flag = 10

abbrev pub past_flags : ℕ
past_flags = 14

-- the order whose words these are, in the order of its fields; a flag is the word 0 or 1
abbrev pub order_of : List ℕ → Order
order_of l =
    record {
      id = get_or l 0 0;
      mark = get_or l 1 0;
      limit = get_or l 2 0;
      shares = get_or l 3 0;
      show = get_or l 4 0;
      life = get_or l 5 0;
      slide = get_or l 6 0;
      stamp = get_or l 7 0;
      price = get_or l 8 0;
      entry_bid = get_or l 9 0;
      adjusted = eqb (get_or l 10 0) 1;
      used = eqb (get_or l 11 0) 1;
      clear = eqb (get_or l 12 0) 1;
      market = eqb (get_or l 13 0) 1;
      owner = get_or l 14 0;
    }

abbrev pub flag_word : Bool → ℕ
flag_word true = 1
flag_word false = 0

-- what a list gives past its end
abbrev pub empty_order : Order
empty_order = order_of []

-- the index of the first word of place i
abbrev pub place_from : ℕ → ℕ
place_from i = header_words + i * order_width

-- word k of place i
abbrev pub word : List ℕ → ℕ → ℕ → ℕ
word w i k = get_or w (place_from i + k) 0

abbrev pub order_at : List ℕ → ℕ → Order
order_at w i = order_of (tabulate order_width (word w i))

-- the orders of a run of words
unfoldable pub resting : List ℕ → List Order
resting w = tabulate (get_or w 0 0) (order_at w)

-- the layout: long enough, with the number of this layout, at most 256 orders, and the flags of each are 0 or 1

unfoldable pub flags_at : List ℕ → ℕ → Bool
flags_at w i = conj (tabulate (past_flags - first_flag) (λ k. leb (word w i (first_flag + k)) 1))

unfoldable pub header_laid_out : List ℕ → Bool
header_laid_out w = leb venue_words (length w) && (eqb (get_or w layout_word 0) layout_number && leb (get_or w 0 0) 256)

unfoldable pub is_book : List ℕ → Bool
is_book w = header_laid_out w && conj (tabulate (get_or w 0 0) (flags_at w))

-- the words are a book, and its orders meet the conditions of refusal 16
unfoldable pub sound_book : ℕ → ℕ → ℕ → List ℕ → Bool
sound_book step last_id last_stamp w =
    is_book w && (ids_rise 0 (resting w) && (every (sound_order step last_id last_stamp) (resting w) && stamps_differ (resting w)))
