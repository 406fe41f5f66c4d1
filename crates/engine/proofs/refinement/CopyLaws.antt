-- The run that the loop of `copy_out` makes is the one that its contract says. Assumes nothing.
use mathlib.Core.Path.{◌≡◌, refl, sym, ap, ◌∙◌}
use Prim.Native.Nat.{ℕ, zero, suc, ◌+◌, ◌≤◌}
use native.Mathlib.Nat.{not-suc-le-zero, le_of_suc-le-suc}
use native.Mathlib.Omega.{arith}
use native.Mathlib.Numerals.{add-one}
use mathlib.Core.Bool.{Bool, true, false}
use mathlib.Core.List.{List, [], ◌∷◌, ◌++◌, map, append-nil}
use lib.Dec.{leb}
use lib.ListN.{length, get_or, set, drop, length-set}
use Rattle.std.proofs.lemmas.List.{drop_all}
use borrow.Author.Tests.{leb-true}
use Rattle.numbers.specs.Tests.{pick}
use Rattle.numbers.specs.Answers.{Outcome, gives, refuses}
use Rattle.numbers.proofs.TestLaws.{answered_T}
use Rattle.book.specs.declared.OrderRecord.{OrderRecord}
use Rattle.book.specs.rules.Words.{empty_order, resting}
use Rattle.book.specs.steps.BookSteps.{Book}
use Rattle.book.specs.rules.OrderRecords.{record_of}
use Rattle.engine.specs.rules.Layout.{sound_words}
use Rattle.engine.specs.rules.Copy.{copy_outcome, run_after, copied}
use Rattle.engine.proofs.refinement.RefuseLaws.{words_ordered}

-- ---- the outcome, by the tests
module _ (w : List ℕ) (n : ℕ) where
  pub copy_broken : sound_words w ≡ false → copy_outcome w n ≡ refuses 16
  unfolding copy_outcome pick
  copy_broken s = simp s

  pub copy_short : sound_words w ≡ true → leb (length (resting w)) n ≡ false → copy_outcome w n ≡ refuses 14
  unfolding copy_outcome pick
  copy_short s l = simp (s, l)

  pub copy_fills : sound_words w ≡ true → leb (length (resting w)) n ≡ true → copy_outcome w n ≡ gives (length (resting w))
  unfolding copy_outcome pick
  copy_fills s l = simp (s, l)

never : {n k : ℕ} → gives n ≡ refuses k → ⊥
never e = let z : ◌≡◌ {A = ℕ} 0 1 = cc in omega arith

pub sound_book_lem : {b : Bool} (w : List ℕ) → b ≡ sound_words w → b ≡ true → Book w
sound_book_lem w e y = (words_ordered w (answered_T e y)).book

-- ---- l with f 0, .., f (n - 1) in its first n places, as the loop makes it
unfoldable pub fill_to : {A : Type 0} → ℕ → (ℕ → A) → List A → List A
fill_to zero f l = l
fill_to (suc n) f l = set (fill_to n f l) n (f n)

module _ {A : Type 0} where
  pub fill_none : (f : ℕ → A) (l : List A) → l ≡ fill_to 0 f l
  unfolding fill_to
  fill_none f l = refl

  pub fill_next : (i : ℕ) (f : ℕ → A) (l : List A) → set (fill_to i f l) i (f i) ≡ fill_to (i + 1) f l
  unfolding fill_to
  fill_next i f l = rw (add-one i)

  pub fill_length : (i : ℕ) (f : ℕ → A) (l : List A) → length (fill_to i f l) ≡ length l
  unfolding fill_to
  fill_length zero f l = refl
  fill_length (suc i) f l = length-set (fill_to i f l) i (f i) ∙ fill_length i f l

  fill_cons : (i : ℕ) (f : ℕ → A) (x : A) (l : List A) → fill_to (suc i) f (x ∷ l) ≡ f 0 ∷ fill_to i (λ k. f (suc k)) l
  unfolding fill_to
  fill_cons zero f x l = refl
  fill_cons (suc i) f x l = ap (λ (m : List A). set m (suc i) (f (suc i))) (fill_cons i f x l)

  -- with each element of another list, under g
  fill_all : {B : Type 0} (g : B → A) (xs : List B) (l : List A) (e : B) → length xs ≤ length l → fill_to (length xs) (λ k. g (get_or xs k e)) l ≡ map g xs ++ drop (length xs) l
  unfolding fill_to
  fill_all g [] l e h = refl
  fill_all g (x ∷ xs) [] e h = absurd (not-suc-le-zero h)
  fill_all g (x ∷ xs) (y ∷ l) e h =
      fill_cons (length xs) (λ k. g (get_or (x ∷ xs) k e)) y l ∙ ap (λ (m : List A). g x ∷ m) (fill_all g xs l e (le_of_suc-le-suc h))

-- ---- what copy out fills
abbrev pub record_out : List ℕ → ℕ → OrderRecord
record_out w i = record_of (get_or (resting w) i empty_order)

-- a run of as many records, each written
pub all_out : (w : List ℕ) (l : List OrderRecord) → length l ≡ length (resting w) → fill_to (length l) (record_out w) l ≡ map record_of (resting w)
all_out w l e =
    let none : drop (length (resting w)) l ≡ [] = drop_all (length (resting w)) l (omega (arith, e)) in
    rw e (rw (none, append-nil) at (fill_all record_of (resting w) l empty_order (omega (arith, e))))

-- what a count says of the words and of the run, and what the run is then
pub record Copies (w : List ℕ) (n count : ℕ) : Type 0 where
  pub book : Book w
  pub is : count ≡ length (resting w)
  pub few : count ≤ n

copies_at : (w : List ℕ) (n : ℕ) {count : ℕ} (y z : Bool) → sound_words w ≡ y → leb (length (resting w)) n ≡ z → gives count ≡ copy_outcome w n → Copies w n count
copies_at w n {count} true true s h e =
    let f : ◌≡◌ {A = Outcome ℕ} (gives count) (gives (length (resting w))) = e ∙ copy_fills w n s h in
    let i : count ≡ length (resting w) = cc in
    record { book = sound_book_lem w (sym s) refl; is = i; few = omega (arith, i, leb-true (length (resting w)) n h) }
copies_at w n true false s h e = absurd (never (e ∙ copy_short w n s h))
copies_at w n false z s h e = absurd (never (e ∙ copy_broken w n s))

pub copy_given : {w : List ℕ} {n count : ℕ} → gives count ≡ copy_outcome w n → Copies w n count
copy_given {w} {n} e = copies_at w n (sound_words w) (leb (length (resting w)) n) refl refl e

pub copy_done : (w : List ℕ) (l : List OrderRecord) {count : ℕ} → gives count ≡ copy_outcome w (length l) → map record_of (resting w) ++ drop count l ≡ copied w l
unfolding copied
copy_done w l e = ap (λ (o : Outcome ℕ). run_after o (map record_of (resting w)) l) e

-- a refusal leaves it
pub copy_kept : (w : List ℕ) (l : List OrderRecord) {k : ℕ} → refuses k ≡ copy_outcome w (length l) → l ≡ copied w l
unfolding copied
copy_kept w l e = ap (λ (o : Outcome ℕ). run_after o (map record_of (resting w)) l) e
