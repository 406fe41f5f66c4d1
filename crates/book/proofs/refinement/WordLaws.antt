-- Laws of a book's words: its orders by their words, and the layout test. Assumes nothing.
use Prim.Native.Nat.{ℕ, zero, suc, ◌+◌, ◌-◌, ◌≤◌, ◌<◌, zero-le, suc-le-suc}
use native.Mathlib.Nat.{le_of_suc-le-suc, not-suc-le-zero}
use native.Mathlib.Omega.{arith}
use mathlib.Core.Path.{◌≡◌, refl, ap, ◌∙◌, subst}
use mathlib.Core.Bool.{Bool, true, false}
use mathlib.Core.List.{List, [], ◌∷◌}
use lib.Dec.{T, eqb, leb, leb→le, le→leb, eqb→eq}
use lib.ListN.{length, get_or}
use Rattle.numbers.specs.Tests.{conj}
use Rattle.numbers.proofs.TestLaws.{and_T, T_and, eq→T}
use Rattle.book.specs.declared.Order.{Order}
use Rattle.numbers.specs.Lists.{tabulate}
use Rattle.book.specs.rules.Words.{order_width, venue_words, layout_number, layout_word, first_flag, past_flags, order_of, flag_word, empty_order, word, order_at, resting, flags_at, header_laid_out, is_book}
use Rattle.book.specs.steps.BookSteps.{Book}
use Rattle.book.specs.steps.WordSteps.{Row}
use Rattle.numbers.proofs.TabulateLaws.{by_order, length-tabulate, get_d_tabulate, tabulate_ext}

-- two orders whose words are the same are one
pub order_ext : (f g : ℕ → ℕ) → ((k : ℕ) → k < order_width → f k ≡ g k) → order_of (tabulate order_width f) ≡ order_of (tabulate order_width g)
order_ext f g h = ap order_of (tabulate_ext order_width f g h)

pub resting_length : (w : List ℕ) → length (resting w) ≡ get_or w 0 0
unfolding resting
resting_length w = length-tabulate (get_or w 0 0) (order_at w)

pub resting_at_lem : (w : List ℕ) (i : ℕ) → i < length (resting w) → get_or (resting w) i empty_order ≡ order_at w i
unfolding resting
resting_at_lem w i h = get_d_tabulate (get_or w 0 0) (order_at w) i empty_order (rw length-tabulate at h)

-- the orders of words whose count is n
pub resting_tabulate : (w : List ℕ) (n : ℕ) (l : List Order) → get_or w 0 0 ≡ n → tabulate n (order_at w) ≡ l → resting w ≡ l
unfolding resting
resting_tabulate w n l e h = ap (λ (m : ℕ). tabulate m (order_at w)) e ∙ h

pub resting_is : (w : List ℕ) → tabulate (get_or w 0 0) (order_at w) ≡ resting w
unfolding resting
resting_is w = refl

pub resting_n : (w : List ℕ) (n : ℕ) → n ≡ length (resting w) → tabulate n (order_at w) ≡ resting w
resting_n w n e = ap (λ (m : ℕ). tabulate m (order_at w)) (e ∙ resting_length w) ∙ resting_is w

-- a flag as a word

flag_back : (b : Bool) (n : ℕ) → n ≡ flag_word b → eqb n 1 ≡ b
flag_back true n e = rw e
flag_back false n e = rw e

flag_small : (b : Bool) (n : ℕ) → n ≡ flag_word b → n ≤ 1
flag_small true n e = omega arith
flag_small false n e = omega arith

-- the flags are among the words of an order
pub flag_inside : {k : ℕ} → k < past_flags → k < order_width
flag_inside h = omega arith

-- what holds at 10 to 13
pub at_flags : (P : ℕ → Type 0) → P 10 → P 11 → P 12 → P 13 → (k : ℕ) → first_flag ≤ k → k < past_flags → P k
at_flags P a b c d k l h =
    by_order k 11 (λ m. subst P {x = 10} (omega arith) a) (λ m. by_order k 12 (λ n. subst P {x = 11} (omega arith) b) (λ n. by_order k 13 (λ q. subst P {x = 12} (omega arith) c) (λ q. subst P {x = 13} (omega arith) d)))

pub row_is : (o : Order) (a u c m : ℕ) → a ≡ flag_word o.adjusted → u ≡ flag_word o.used → c ≡ flag_word o.clear → m ≡ flag_word o.market → Row (o.id ∷ o.mark ∷ o.limit ∷ o.shares ∷ o.show ∷ o.life ∷ o.slide ∷ o.stamp ∷ o.price ∷ o.entry_bid ∷ a ∷ u ∷ c ∷ m ∷ o.owner ∷ []) o
row_is o a u c m p q r t =
    record {
      is =
          λ i. record {
            id = o.id;
            mark = o.mark;
            limit = o.limit;
            shares = o.shares;
            show = o.show;
            life = o.life;
            slide = o.slide;
            stamp = o.stamp;
            price = o.price;
            entry_bid = o.entry_bid;
            adjusted = flag_back o.adjusted a p i;
            used = flag_back o.used u q i;
            clear = flag_back o.clear c r i;
            market = flag_back o.market m t i;
            owner = o.owner;
          };
      flags =
          at_flags (λ (k : ℕ). get_or (o.id ∷ o.mark ∷ o.limit ∷ o.shares ∷ o.show ∷ o.life ∷ o.slide ∷ o.stamp ∷ o.price ∷ o.entry_bid ∷ a ∷ u ∷ c ∷ m ∷ o.owner ∷ []) k 0 ≤ 1)
          (flag_small o.adjusted a p)
          (flag_small o.used u q)
          (flag_small o.clear c r)
          (flag_small o.market m t);
    }

-- the layout test

-- the layout test as facts at each place
pub record HeaderLaidOut (w : List ℕ) : Type 0 where
  pub long : venue_words ≤ length w
  pub numbered : get_or w layout_word 0 ≡ layout_number
  pub few : get_or w 0 0 ≤ 256

pub record LaidOut (w : List ℕ) : Type 0 where
  pub header : HeaderLaidOut w
  pub flags : (i : ℕ) → i < get_or w 0 0 → T (flags_at w i)

conj_at : (n : ℕ) (f : ℕ → Bool) → T (conj (tabulate n f)) → (i : ℕ) → i < n → T (f i)
conj_at zero f t i l = absurd (not-suc-le-zero l)
conj_at (suc n) f t zero l = (and_T (f zero) (conj (tabulate n (λ k. f (suc k)))) t).0
conj_at (suc n) f t (suc i) l = conj_at n (λ k. f (suc k)) (and_T (f zero) (conj (tabulate n (λ k. f (suc k)))) t).1 i (le_of_suc-le-suc l)

at_conj : (n : ℕ) (f : ℕ → Bool) → ((i : ℕ) → i < n → T (f i)) → T (conj (tabulate n f))
at_conj zero f h = tt
at_conj (suc n) f h =
    T_and (f zero) (conj (tabulate n (λ k. f (suc k)))) (h zero (suc-le-suc zero-le)) (at_conj n (λ k. f (suc k)) (λ i l. h (suc i) (suc-le-suc l)))

flags_at-T : (w : List ℕ) (i : ℕ) → T (flags_at w i) → (k : ℕ) → first_flag ≤ k → k < past_flags → word w i k ≤ 1
unfolding flags_at
flags_at-T w i t k l h =
    subst (λ (q : ℕ). word w i q ≤ 1) {x = first_flag + (k - first_flag)} (omega arith) (leb→le _ _ (conj_at (past_flags - first_flag) (λ q. leb (word w i (first_flag + q)) 1) t (k - first_flag) (omega arith)))

T-flags_at : (w : List ℕ) (i : ℕ) → ((k : ℕ) → first_flag ≤ k → k < past_flags → word w i k ≤ 1) → T (flags_at w i)
unfolding flags_at
T-flags_at w i h =
    at_conj (past_flags - first_flag) (λ q. leb (word w i (first_flag + q)) 1) (λ q l. le→leb _ _ (h (first_flag + q) (omega arith) (omega arith)))

pub header_laid_out_facts : (w : List ℕ) → T (header_laid_out w) → HeaderLaidOut w
unfolding header_laid_out
header_laid_out_facts w t =
    let a = and_T (leb venue_words (length w)) _ t in
    let b = and_T (eqb (get_or w layout_word 0) layout_number) (leb (get_or w 0 0) 256) a.1 in
    record { long = leb→le _ _ a.0; numbered = eqb→eq _ _ b.0; few = leb→le _ _ b.1 }

pub facts_header_laid_out : (w : List ℕ) → HeaderLaidOut w → T (header_laid_out w)
unfolding header_laid_out
facts_header_laid_out w h =
    T_and (leb venue_words (length w)) _ (le→leb _ _ h.long) (T_and (eqb (get_or w layout_word 0) layout_number) _ (eq→T h.numbered) (le→leb _ _ h.few))

pub is_book-laid_out : (w : List ℕ) → T (is_book w) → LaidOut w
unfolding is_book
is_book-laid_out w t =
    let n = get_or w 0 0 in
    let a = and_T (header_laid_out w) (conj (tabulate n (flags_at w))) t in
    record { header = header_laid_out_facts w a.0; flags = conj_at n (flags_at w) a.1 }

pub laid_out-is_book : (w : List ℕ) → LaidOut w → T (is_book w)
unfolding is_book
laid_out-is_book w h =
    T_and (header_laid_out w) _ (facts_header_laid_out w h.header) (at_conj (get_or w 0 0) (flags_at w) h.flags)

pub is_book_book : (w : List ℕ) → T (is_book w) → Book w
is_book_book w t =
    let h = is_book-laid_out w t in
    let k = h.header in
    record { long = k.long; numbered = k.numbered; few = omega (arith, resting_length w, k.few); flags = λ i k l. flags_at-T w i (h.flags i (omega (arith, resting_length w))) k }

pub book_is_book : (w : List ℕ) → Book w → T (is_book w)
book_is_book w b =
    laid_out-is_book w (record { header = record { long = b.long; numbered = b.numbered; few = omega (arith, resting_length w, b.few) }; flags = λ i l. T-flags_at w i (λ k. b.flags i k (omega (arith, resting_length w))) })
