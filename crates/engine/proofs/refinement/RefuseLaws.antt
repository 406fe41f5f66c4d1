-- The refusals over words: the conditions of refusal 16 in the order in which they are judged, and what follows where none is given.
-- Assumes nothing.
use Prim.Native.Nat.{ℕ, ◌<◌}
use native.Mathlib.Omega.{arith}
use mathlib.Core.Path.{◌≡◌, refl}
use mathlib.Core.Bool.{Bool, true, false, ◌&&◌}
use mathlib.Core.Option.{Option, none, some}
use mathlib.Core.List.{List}
use lib.Dec.{T, leb, le→leb, not_T}
use lib.ListN.{length, get_or}
use Rattle.numbers.specs.Tests.{conj}
use Rattle.prices.specs.Pause.{sound_kept}
use Rattle.prices.specs.KeptWords.{kept_in}
use Rattle.prices.proofs.PauseLaws.{sound_few, sound_ordered}
use Rattle.numbers.proofs.TestLaws.{T_true, T_false, and_T, T_and, bool_ext, Each, conj_T, T-conj, every_T, T-every}
use Rattle.book.specs.declared.Order.{Order}
use Rattle.book.specs.rules.Sound.{sound_order}
use Rattle.book.specs.rules.Words.{book_words, venue_words, resting, is_book, sound_book}
use Rattle.book.proofs.refinement.WordLaws.{resting_length, is_book-laid_out, is_book_book}
use Rattle.book.proofs.refinement.SoundBookLaws.{sound_book_parts, parts_sound_book}
use Rattle.engine.specs.rules.Sound.{most_orders, header_conditions, venue_conditions, sound}
use Rattle.engine.specs.rules.Refusals.{refuse_unless, first_of, rests}
use Rattle.engine.specs.steps.Memory.{Ordered, HasStep, KeepsOrdered}
use Rattle.engine.specs.rules.Layout.{venue_of, sound_words}

pub refuse_yes : (b : Bool) (n : ℕ) (later : Option ℕ) → b ≡ true → refuse_unless b n later ≡ later
unfolding refuse_unless
refuse_yes b n later e = rw e

pub refuse_no : (b : Bool) (n : ℕ) (later : Option ℕ) → b ≡ false → refuse_unless b n later ≡ some n
unfolding refuse_unless
refuse_no b n later e = rw e

pub unrefused : (b : Bool) (n : ℕ) (later : Option ℕ) → refuse_unless b n later ≡ none → T b × (later ≡ none)
unfolding refuse_unless
unrefused true n later e = (tt, e)
unrefused false n later e = let z : ◌≡◌ {A = ℕ} 0 1 = cc in absurd (omega arith)

-- one test of a chain, asked by itself
pub refuse_given : (b : Bool) (n : ℕ) {k : ℕ} (later : Option ℕ) → refuse_unless b n none ≡ some k → refuse_unless b n later ≡ some k
unfolding refuse_unless
refuse_given true n later e = let z : ◌≡◌ {A = ℕ} 0 1 = cc in absurd (omega arith)
refuse_given false n later e = e

pub refuse_none : (b : Bool) (n : ℕ) (later : Option ℕ) → refuse_unless b n none ≡ none → refuse_unless b n later ≡ later
refuse_none b n later e = refuse_yes b n later (T_true b (unrefused b n none e).0)

pub first_given : {r : Option ℕ} {n : ℕ} (later : Option ℕ) → r ≡ some n → first_of r later ≡ some n
unfolding first_of
first_given later e = rw e

pub first_nothing : (r later : Option ℕ) → first_of r later ≡ none → (r ≡ none) × (later ≡ none)
unfolding first_of
first_nothing none later e = (refl, e)
first_nothing (some n) later e = let z : ◌≡◌ {A = ℕ} 0 1 = cc in absurd (omega arith)

pub first_none : {r : Option ℕ} (later : Option ℕ) → r ≡ none → first_of r later ≡ later
unfolding first_of
first_none later e = rw e

-- the refusal of a cancel, by what was found
pub found_allowed : {x : Option Order} {o : Order} → x ≡ some o → refuse_unless (rests x) 8 none ≡ none
unfolding refuse_unless rests
found_allowed e = rw e

pub absent_refused : {x : Option Order} → x ≡ none → refuse_unless (rests x) 8 none ≡ some 8
unfolding refuse_unless rests
absent_refused e = rw e

-- words that are sound

module _ (w : List ℕ) where
  abbrev KeptTests : Bool
  KeptTests = sound_kept (get_or w 7 0) (kept_in w book_words (get_or w 8 0))

  abbrev BookTests : Bool
  BookTests = sound_book (get_or w 7 0) (get_or w 4 0) (get_or w 5 0) w

  words_each : T (sound_words w) → T (is_book w) × Each (venue_conditions (venue_of w))
  unfolding sound_words sound
  words_each t = let a = and_T (is_book w) (sound (venue_of w)) t in (a.0, conj_T (venue_conditions (venue_of w)) a.1)

  pub words_ordered : T (sound_words w) → Ordered w
  unfolding venue_of
  words_ordered t = let a = words_each t in record { book = is_book_book w a.0; rises = a.1.1.0 }

  pub words_book : T (sound_words w) → T (is_book w)
  unfolding sound_words
  words_book t = (and_T (is_book w) (sound (venue_of w)) t).0

  pub words_sound : T (sound_words w) → T (sound (venue_of w))
  unfolding sound_words
  words_sound t = (and_T (is_book w) (sound (venue_of w)) t).1

  pub words_stepped : T (sound_words w) → HasStep w
  words_stepped t = (words_each t).1.1.1.1.1.1.0

  pub words_kept : T (sound_words w) → KeepsOrdered w
  words_kept t =
      let k = (words_each t).1.1.1.1.1.0 in
      record { few = sound_few _ _ k; in_order = sound_ordered _ _ k }

  pub sound_words_lem : T (is_book w) → T (sound (venue_of w)) → T (sound_words w)
  unfolding sound_words
  sound_words_lem t s = T_and (is_book w) (sound (venue_of w)) t s

  -- the header first, then the kept prices, then the orders in one walk
  pub header_first : sound_words w ≡ (conj (header_conditions (venue_of w)) && (KeptTests && BookTests))
  unfolding sound_words sound venue_of
  header_first = bool_ext (sound_words w) (conj (header_conditions (venue_of w)) && (KeptTests && BookTests)) there back
    where
      few : T (is_book w) → T (leb (length (resting w)) most_orders)
      few t = le→leb (length (resting w)) most_orders (omega (arith, resting_length w, (is_book-laid_out w t).header.few))

      there : T (sound_words w) → T (conj (header_conditions (venue_of w)) && (KeptTests && BookTests))
      there t =
          let a = words_each t in
          T_and (conj (header_conditions (venue_of w))) (KeptTests && BookTests) (T-conj (header_conditions (venue_of w)) a.1.1.1.1.1.1) (T_and KeptTests BookTests a.1.1.1.1.1.0 (parts_sound_book (get_or w 7 0) (get_or w 4 0) (get_or w 5 0) w (record { layout = a.0; rising = a.1.1.0; orders = every_T (sound_order (get_or w 7 0) (get_or w 4 0) (get_or w 5 0)) (resting w) a.1.1.1.0; stamps = a.1.1.1.1.0 })))

      back : T (conj (header_conditions (venue_of w)) && (KeptTests && BookTests)) → T (sound_words w)
      back t =
          let h = and_T (conj (header_conditions (venue_of w))) (KeptTests && BookTests) t in
          let k = and_T KeptTests BookTests h.1 in
          let p = sound_book_parts (get_or w 7 0) (get_or w 4 0) (get_or w 5 0) w k.1 in
          T_and (is_book w) (sound (venue_of w)) p.layout (T-conj (venue_conditions (venue_of w)) (few p.layout, (p.rising, (T-every (sound_order (get_or w 7 0) (get_or w 4 0) (get_or w 5 0)) (resting w) p.orders, (p.stamps, (k.0, conj_T (header_conditions (venue_of w)) h.0))))))

  pub short_words : length w < venue_words → sound_words w ≡ false
  short_words l = T_false (sound_words w) (not_T (sound_words w) (λ t. omega (arith, (is_book-laid_out w (words_each t).0).header.long)))
