-- What an opened venue is, and what the words of open mean. Assumes nothing.
use Prim.Native.Nat.{ℕ}
use native.Mathlib.Omega.{arith}
use mathlib.Core.Path.{◌≡◌, refl, sym, ap, ◌∙◌, subst}
use mathlib.Core.Bool.{not, ◌&&◌}
use Rattle.std.specs.Prelude.{Ok, Err}
use mathlib.Core.List.{List, [], ◌++◌, append-nil}
use lib.Dec.{T, not_T}
use lib.ListN.{length, set, replicate, length-append, length-replicate, length-set}
use Rattle.numbers.specs.Answers.{Outcome, gives, refuses}
use Rattle.numbers.proofs.TestLaws.{by_test, T_and, pick_yes, pick_no}
use Rattle.prices.specs.Prices.{is_step, legal, at_step, price_of}
use Rattle.prices.proofs.KeptWordLaws.{kept_none}
use Rattle.prices.proofs.PriceLaws.{price_given, price_refused, price_refusal}
use Rattle.book.specs.rules.Words.{book_words, venue_words, layout_number, layout_word, is_book}
use Rattle.book.proofs.refinement.WordLaws.{resting_tabulate, is_book-laid_out, laid_out-is_book}
use Rattle.engine.specs.declared.Event.{Event}
use Rattle.engine.specs.declared.Refusal.{Refusal}
use Rattle.engine.specs.rules.Venue.{Venue, opened, opening}
use Rattle.engine.specs.rules.Run.{Step, step}
use Rattle.engine.specs.rules.Layout.{venue_of, fresh_words, opened_words, step_in}
use Rattle.engine.specs.rules.Answers.{refusal_number}
use Rattle.engine.specs.claims.Calls.{Opens}

pub record Opened (s close : ℕ) (v : Venue) : Type 0 where
  pub is : T (is_step s)
  pub legal : T (legal s close)
  pub fresh : v ≡ opened s close

pub opening_known : (s close : ℕ) (v : Venue) → opening s close ≡ gives v → Opened s close v
unfolding opening at_step
opening_known s close v =
    by_test
    Known
    (is_step s)
    (λ i. by_test Known (legal s close) (λ t e. record { is = i; legal = t; fresh = cc }) (λ t e. absurd (never e)))
    (λ i e. absurd (never e))
  where
    Known : Outcome Venue → Type 0
    Known o = o ≡ gives v → Opened s close v

    never : {n : ℕ} → refuses n ≡ gives v → ⊥
    never e = let z : ◌≡◌ {A = ℕ} 0 1 = cc in omega arith

pub opening_gives : (s close : ℕ) → T (is_step s) → T (legal s close) → opening s close ≡ gives (opened s close)
unfolding opening at_step
opening_gives s close i t = pick_yes (is_step s) _ _ i ∙ pick_yes (legal s close) _ _ t

-- the words of a fresh venue

pub fresh_length : (s x : ℕ) → length (fresh_words s x) ≡ venue_words
fresh_length s x =
    length-set (set (set (replicate venue_words 0) 1 x) 7 s) layout_word layout_number ∙ length-set (set (replicate venue_words 0) 1 x) 7 s ∙ length-set (replicate venue_words 0) 1 x ∙ length-replicate {A = ℕ} venue_words 0

fresh_book : (s x : ℕ) (behind : List ℕ) → T (is_book (fresh_words s x ++ behind))
fresh_book s x behind =
    laid_out-is_book (fresh_words s x ++ behind) (record { header = record { long = omega (arith, length-append (fresh_words s x) behind, fresh_length s x); numbered = refl; few = omega arith }; flags = λ i l. absurd (omega arith) })

fresh_venue : (s x : ℕ) (behind : List ℕ) → venue_of (fresh_words s x ++ behind) ≡ opened s x
unfolding venue_of opened
fresh_venue s x behind = rw (resting_tabulate (fresh_words s x ++ behind) 0 [] refl refl, kept_none (fresh_words s x ++ behind) book_words)

fresh_none : (s x : ℕ) → venue_of (fresh_words s x) ≡ opened s x
fresh_none s x = rw append-nil at (fresh_venue s x [])

-- the words that open gives, with further words behind them, and without

module _ (s close : ℕ) (i : T (is_step s)) (t : T (legal s close)) where
  opened_yes : opened_words s close ≡ fresh_words s close
  unfolding opened_words
  opened_yes = pick_yes (is_step s && legal s close) _ _ (T_and (is_step s) (legal s close) i t)

  pub opened_book_with : (behind : List ℕ) → T (is_book (opened_words s close ++ behind))
  opened_book_with behind = rw opened_yes (fresh_book s close behind)

  pub opened_venue_with : (behind : List ℕ) → venue_of (opened_words s close ++ behind) ≡ opened s close
  opened_venue_with behind = ap (λ (w : List ℕ). venue_of (w ++ behind)) opened_yes ∙ fresh_venue s close behind

  pub opened_book : T (is_book (opened_words s close))
  opened_book = rw append-nil at (opened_book_with [])

  pub opened_venue : venue_of (opened_words s close) ≡ opened s close
  opened_venue = rw append-nil at (opened_venue_with [])

-- one event of words that are a book
pub step_in_lem : (w : List ℕ) (e : Event) (n : ℕ) → T (is_book w) → step_in w e n ≡ step (venue_of w) e n
unfolding step_in
step_in_lem w e n t = pick_yes (is_book w) _ _ t

-- words of which all are 0 don't have the number of the layout
zeros_no_book : T (is_book (replicate venue_words 0)) → ⊥
zeros_no_book t = let z : 0 ≡ layout_number = (is_book-laid_out (replicate venue_words 0) t).header.numbered in omega arith

opened_no : (s close : ℕ) → T (not (is_step s && legal s close)) → opened_words s close ≡ replicate venue_words 0
unfolding opened_words
opened_no s close t = pick_no (is_step s && legal s close) _ _ t

-- the words that open leaves where it makes no venue are refused with 16
pub not_opened : (s close : ℕ) → T (not (is_step s && legal s close)) → (e : Event) (n : ℕ) → (step_in (opened_words s close) e n).answer ≡ refuses 16
unfolding step_in
not_opened s close t e n = rw (opened_no s close t) (ap (λ (r : Step). r.answer) (pick_no (is_book (replicate venue_words 0)) _ _ (not_T (is_book (replicate venue_words 0)) zeros_no_book)))

-- what open answers and leaves

pub opens_yes : (s close p : ℕ) (u : Unit {0}) → gives p ≡ price_of s close → Opens s close (Ok u) (fresh_words s p)
opens_yes s close p u e =
    let (i, t, q) = price_given s close p e in
    subst (λ (x : ℕ). Opens s close (Ok u) (fresh_words s x)) (sym q) (record { answers = ap gives (fresh_none s close) ∙ sym (opening_gives s close i t); is = sym (opened_yes s close i t) })

pub opens_no : (s close : ℕ) (r : Refusal) → refuses (refusal_number r) ≡ price_of s close → Opens s close (Err r) (replicate venue_words 0)
unfolding opening
opens_no s close r e =
    record { answers = price_refusal s (opened s close) close e; is = sym (opened_no s close (price_refused s close (refusal_number r) e)) }
