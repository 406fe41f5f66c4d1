-- The question whether an entry would fill, over words: its refusals in their order, and what is told where none is given. Assumes nothing.
use Prim.Native.Nat.{ℕ, ◌≤◌}
use native.Mathlib.Omega.{arith}
use mathlib.Core.Path.{◌≡◌, refl, sym, ap, ◌∙◌}
use mathlib.Core.Bool.{Bool, true, false, ◌||◌}
use mathlib.Core.Option.{Option, none, some}
use mathlib.Core.List.{List}
use lib.Dec.{T, leb, leb→le}
use Rattle.numbers.specs.Answers.{Outcome, gives, refuses}
use Rattle.numbers.proofs.TestLaws.{by_test, pick_yes, T_true, and_yes}
use Rattle.prices.specs.Prices.{legal}
use Rattle.book.specs.declared.FrontRead.{FrontRead}
use Rattle.book.specs.rules.Fill.{front_read}
use Rattle.book.specs.rules.Words.{resting, is_book}
use Rattle.book.proofs.definitions.FillLaws.{front_bound}
use Rattle.book.proofs.refinement.WordLaws.{is_book_book}
use Rattle.engine.specs.rules.Working.{is_market}
use Rattle.engine.specs.rules.Venue.{Venue}
use Rattle.engine.specs.rules.Sound.{sound}
use Rattle.engine.specs.rules.Refusals.{refuse_unless, first_of, refusal_of_terms, refusal_of_asked}
use Rattle.engine.specs.rules.Layout.{venue_of, sound_words}
use Rattle.engine.specs.rules.Fill.{asked_order, fill_unless, would_fill, would_fill_in}
use Rattle.engine.specs.claims.Fill.{FillFits, FillsFit}
use Rattle.engine.proofs.refinement.RefuseLaws.{refuse_yes, refuse_no, unrefused, first_nothing, words_book, words_sound}

-- what holds of 3, 4 and 18 holds of every refusal but 16

abbrev Given : (ℕ → Type 0) → Option ℕ → Type 0
Given P none = Unit {0}
Given P (some n) = P n

module _ (P : ℕ → Type 0) where
  refuse_given_as : (b : Bool) (n : ℕ) (later : Option ℕ) → P n → Given P later → Given P (refuse_unless b n later)
  unfolding refuse_unless
  refuse_given_as true n later p h = h
  refuse_given_as false n later p h = p

  first_given_as : (r later : Option ℕ) → Given P r → Given P later → Given P (first_of r later)
  unfolding first_of
  first_given_as none later r h = h
  first_given_as (some n) later r h = r

  asked_given_as : P 3 → P 4 → P 18 → (s mark price shares : ℕ) → Given P (refusal_of_asked s mark price shares)
  unfolding refusal_of_asked refusal_of_terms
  asked_given_as p q r s mark price shares =
      first_given_as _ _ (refuse_given_as _ 3 _ p (refuse_given_as _ 4 _ q (refuse_given_as _ 4 none q tt))) (refuse_given_as _ 18 none r tt)

asked_positive : (s mark price shares : ℕ) → Given (λ n. 1 ≤ n) (refusal_of_asked s mark price shares)
asked_positive = asked_given_as (λ n. 1 ≤ n) (omega arith) (omega arith) (omega arith)

asked_not_16 : (s mark price shares : ℕ) → Given (λ n. n ≡ 16 → ⊥) (refusal_of_asked s mark price shares)
asked_not_16 = asked_given_as (λ n. n ≡ 16 → ⊥) (λ e. omega arith) (λ e. omega arith) (λ e. omega arith)

-- where none is given there are shares to fill
pub asked_shares : (s mark price shares : ℕ) → refusal_of_asked s mark price shares ≡ none → 1 ≤ shares
unfolding refusal_of_asked refusal_of_terms
asked_shares s mark price shares h =
    let p = unrefused (is_market price || legal s price) 3 _ (first_nothing (refusal_of_terms s price shares) _ h).0 in
    leb→le 1 shares (unrefused (leb 1 shares) 4 _ p.1).0

pub fills_fit : FillsFit
unfolding would_fill_in would_fill fill_unless venue_of
fills_fit w mark price shares =
    by_test
    FillFits
    (is_book w)
    (λ t. go t (refuse_unless (sound (venue_of w)) 16 (refusal_of_asked (venue_of w).market.step mark price shares)) (refuse_given_as (λ n. 1 ≤ n) _ 16 _ (omega arith) (asked_positive _ mark price shares)))
    (λ t. omega arith)
  where
    go : T (is_book w) → (x : Option ℕ) → Given (λ n. 1 ≤ n) x → FillFits (fill_unless x (venue_of w) mark price shares)
    go t none p = omega (arith, front_bound (asked_order (venue_of w).market mark price shares) (resting w), (is_book_book w t).few)
    go t (some n) p = p

-- a sound venue isn't refused with 16
unless_not_16 : (x : Option ℕ) → Given (λ n. n ≡ 16 → ⊥) x → (v : Venue) (mark price shares : ℕ) → fill_unless x v mark price shares ≡ refuses 16 → ⊥
unfolding fill_unless
unless_not_16 none h v mark price shares e = let z : ◌≡◌ {A = ℕ} 0 1 = cc in absurd (omega arith)
unless_not_16 (some n) h v mark price shares e = let z : n ≡ 16 = cc in h z

pub sound_not_16 : (v : Venue) → T (sound v) → (mark price shares : ℕ) → would_fill v mark price shares ≡ refuses 16 → ⊥
unfolding would_fill
sound_not_16 v s mark price shares e =
    unless_not_16 _ (asked_not_16 (v.market.step) mark price shares) v mark price shares (ap (λ (x : Option ℕ). fill_unless x v mark price shares) (sym (refuse_yes (sound v) 16 _ (T_true (sound v) s))) ∙ e)

-- by the words

module _ (w : List ℕ) (mark price shares : ℕ) where
  abbrev refused : Option ℕ
  refused = refusal_of_asked (venue_of w).market.step mark price shares

  -- 16 first
  pub question_broken : sound_words w ≡ false → refuses 16 ≡ would_fill_in w mark price shares
  unfolding would_fill_in would_fill fill_unless sound_words
  question_broken h =
      by_test
      (λ (x : Outcome FrontRead). refuses 16 ≡ x)
      (is_book w)
      (λ t. sym (ap (λ (x : Option ℕ). fill_unless x (venue_of w) mark price shares) (refuse_no (sound (venue_of w)) 16 refused (sym (and_yes (sound (venue_of w)) (T_true (is_book w) t)) ∙ h))))
      (λ t. refl)

  module _ (s : T (sound_words w)) where
    -- then the others
    question_sound : would_fill_in w mark price shares ≡ fill_unless refused (venue_of w) mark price shares
    unfolding would_fill_in would_fill
    question_sound =
        pick_yes (is_book w) _ _ (words_book w s) ∙ ap (λ (x : Option ℕ). fill_unless x (venue_of w) mark price shares) (refuse_yes (sound (venue_of w)) 16 refused (T_true _ (words_sound w s)))

    pub words_not_16 : would_fill_in w mark price shares ≡ refuses 16 → ⊥
    words_not_16 e = unless_not_16 _ (asked_not_16 _ mark price shares) (venue_of w) mark price shares (sym question_sound ∙ e)

    pub question_refused : {k : ℕ} → refused ≡ some k → refuses k ≡ would_fill_in w mark price shares
    unfolding fill_unless
    question_refused h = sym (question_sound ∙ ap (λ (x : Option ℕ). fill_unless x (venue_of w) mark price shares) h)

    pub question_told : {r : FrontRead} → refused ≡ none → r ≡ front_read (asked_order (venue_of w).market mark price shares) (resting w) → gives r ≡ would_fill_in w mark price shares
    unfolding fill_unless venue_of
    question_told h e = ap gives e ∙ sym (question_sound ∙ ap (λ (x : Option ℕ). fill_unless x (venue_of w) mark price shares) h)
