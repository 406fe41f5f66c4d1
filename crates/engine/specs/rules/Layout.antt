-- The venue that a run of words means: the words of open, and one event of words. Assumes nothing.
use Rattle.std.specs.Prelude.{ℕ, Bool, ◌&&◌, List, get_or, set, replicate, Result, Ok, Err}
use Rattle.numbers.specs.Tests.{pick}
use Rattle.numbers.specs.Answers.{Outcome, gives, refuses}
use Rattle.prices.specs.Prices.{is_step, legal}
use Rattle.prices.specs.KeptWords.{kept_in}
use Rattle.book.specs.rules.Words.{book_words, venue_words, layout_number, layout_word, resting, is_book}
use Rattle.engine.specs.declared.Event.{Event}
use Rattle.engine.specs.declared.Refusal.{Refusal}
use Rattle.engine.specs.rules.Venue.{Venue}
use Rattle.engine.specs.rules.Sound.{sound}
use Rattle.engine.specs.rules.Run.{Step, step}
use Rattle.engine.specs.rules.Answers.{refusal_number}

-- header words 1 to 7, the orders, and the kept prices behind them, which word 8 counts; words 9 to 14 are spare, and word 15 is the number of the layout
unfoldable pub venue_of : List ℕ → Venue
venue_of w =
    record {
      market = record { close = get_or w 1 0; phase = get_or w 2 0; bid = get_or w 3 0; step = get_or w 7 0 };
      orders = resting w;
      kept = kept_in w book_words (get_or w 8 0);
      last_id = get_or w 4 0;
      last_stamp = get_or w 5 0;
      accepted_events = get_or w 6 0;
    }

-- words that are laid out as a venue and meet the conditions of refusal 16
unfoldable pub sound_words : List ℕ → Bool
sound_words w = is_book w && sound (venue_of w)

-- the paper's terms for the answer of open, whose words are the venue
abbrev pub outcome_of_open : Result (Unit {0}) Refusal → List ℕ → Outcome Venue
outcome_of_open (Ok _) words = gives (venue_of words)
outcome_of_open (Err r) words = refuses (refusal_number r)

-- the words of a fresh venue, 0 but for the close, the step s and the number of the layout; all 0 where no venue is made
abbrev pub fresh_words : ℕ → ℕ → List ℕ
fresh_words s close = set (set (set (replicate venue_words 0) 1 close) 7 s) layout_word layout_number

unfoldable pub opened_words : ℕ → ℕ → List ℕ
opened_words s close = pick (is_step s && legal s close) (fresh_words s close) (replicate venue_words 0)

-- words that are laid out as no venue are refused with 16
abbrev pub refused_layout : List ℕ → Step
refused_layout w = record { answer = refuses 16; venue = venue_of w }

-- one event of the venue that the words mean
unfoldable pub step_in : List ℕ → Event → ℕ → Step
step_in w e n = pick (is_book w) (step (venue_of w) e n) (refused_layout w)
