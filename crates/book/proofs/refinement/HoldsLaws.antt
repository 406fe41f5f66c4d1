-- Laws of what each step leaves in the words. Assumes nothing.
use Prim.Native.Nat.{ℕ, suc, ◌+◌, ◌-◌, ◌≤◌, ◌<◌}
use native.Mathlib.Omega.{arith}
use native.Mathlib.Numerals.{add-one}
use mathlib.Core.Path.{◌≡◌, refl, sym, ap, ◌∙◌, subst}
use mathlib.Core.List.{List, []}
use lib.ListN.{length, get_or, set, length-set}
use lib.Seq.{get_or-set_same, get_or-set_other}
use Rattle.book.specs.declared.Order.{Order}
use Rattle.book.specs.rules.Words.{order_width, book_words, venue_words, layout_number, layout_word, first_flag, past_flags, place_from, word, order_at, resting}
use Rattle.book.specs.steps.BookSteps.{Book, Holds, HeaderSet}
use Rattle.book.specs.steps.WordSteps.{Stored, ShiftedDown, ShiftedUp}
use Rattle.book.specs.steps.Positions.{remove_at, insert_at}
use Rattle.numbers.proofs.TabulateLaws.{by_order, tabulate_ext}
use Rattle.book.proofs.refinement.TabulateLaws.{set-tabulate, remove_tabulate, insert_tabulate}
use Rattle.book.proofs.refinement.WordLaws.{flag_inside, order_ext, resting_length, resting_tabulate, resting_is, resting_n}

-- the same orders, said otherwise
pub holds_as : {w w' : List ℕ} {l m : List Order} → Holds w w' l → l ≡ m → Holds w w' m
holds_as a e = record { book = a.book; rests = a.rests ∙ e; size = a.size; header = a.header; behind = a.behind }

-- the count set to m in words w₁

module _ (w₁ : List ℕ) (m : ℕ) (long : venue_words ≤ length w₁) where
  counted_at : get_or (set w₁ 0 m) 0 0 ≡ m
  counted_at = get_or-set_same w₁ 0 m 0 (omega arith)

  counted_kept : (j : ℕ) → 0 < j → get_or (set w₁ 0 m) j 0 ≡ get_or w₁ j 0
  counted_kept j h = get_or-set_other w₁ 0 j m 0 (λ e. omega arith)

  counted_book : get_or w₁ layout_word 0 ≡ layout_number → m ≤ 256 → ((i k : ℕ) → i < m → first_flag ≤ k → k < past_flags → word w₁ i k ≤ 1) → Book (set w₁ 0 m)
  counted_book e h f =
      record {
        long = omega (arith, length-set w₁ 0 m);
        numbered = counted_kept layout_word (omega arith) ∙ e;
        few = omega (arith, resting_length (set w₁ 0 m), counted_at);
        flags =
            λ i k l a b. subst (λ (x : ℕ). x ≤ 1) (sym (counted_kept (place_from i + k) (omega arith))) (f i k (omega (arith, resting_length (set w₁ 0 m), counted_at)) a b);
      }

pub cleared : (w : List ℕ) → Book w → Holds w (set w 0 0) []
cleared w k =
    let b = k.long in
    record {
      book = counted_book w 0 b k.numbered (omega arith) (λ i k l. absurd (omega arith));
      rests = resting_tabulate (set w 0 0) 0 [] (counted_at w 0 b) refl;
      size = length-set w 0 0;
      header = λ j h₀ h. counted_kept w 0 b j h₀;
      behind = λ j h. counted_kept w 0 b j (omega arith);
    }

pub header_set : (w : List ℕ) (k x : ℕ) → 0 < k → k < layout_word → Book w → HeaderSet w (set w k x) k x
header_set w k x h₀ h b =
    let w' = set w k x in
    let other : (j : ℕ) → (j ≡ k → ⊥) → get_or w' j 0 ≡ get_or w j 0 = λ j ne. get_or-set_other w k j x 0 ne in
    let r : resting w' ≡ resting w = resting_tabulate w' (get_or w 0 0) (resting w) (other 0 (λ e. omega arith)) (tabulate_ext (get_or w 0 0) (order_at w') (order_at w) (λ i hi. order_ext (word w' i) (word w i) (λ q hq. other (place_from i + q) (λ e. omega arith))) ∙ resting_is w) in
    record {
      book =
          record {
            long = omega (arith, b.long, length-set w k x);
            numbered = other layout_word (λ e. omega arith) ∙ b.numbered;
            few = omega (arith, b.few, ap length r);
            flags =
                λ i q l a c. subst (λ (y : ℕ). y ≤ 1) (sym (other (place_from i + q) (λ e. omega arith))) (b.flags i q (omega (arith, ap length r)) a c);
          };
      rests = r;
      is = refl;
    }

-- words that differ behind the book alone are the same book
pub book_same : (w w' : List ℕ) → Book w → length w' ≡ length w → ((j : ℕ) → j < book_words → get_or w' j 0 ≡ get_or w j 0) → Book w' × (resting w' ≡ resting w)
book_same w w' b size same = (
  record {
    long = omega (arith, size, b.long);
    numbered = same layout_word (omega arith) ∙ b.numbered;
    few = omega (arith, b.few, ap length r);
    flags =
        λ i q l a c. let h = flag_inside c in subst (λ (y : ℕ). y ≤ 1) (sym (same (place_from i + q) (omega (arith, b.few, ap length r)))) (b.flags i q (omega (arith, ap length r)) a c);
  },
  r,
)
  where
    r : resting w' ≡ resting w
    r =
        resting_tabulate w' (get_or w 0 0) (resting w) (same 0 (omega arith)) (tabulate_ext (get_or w 0 0) (order_at w') (order_at w) (λ i hi. order_ext (word w' i) (word w i) (λ q hq. same (place_from i + q) (omega (arith, b.few, resting_length w)))) ∙ resting_is w)

-- the orders behind position i shifted down, and the count lowered
pub removed : (w w₁ : List ℕ) (i n from to : ℕ) → n ≡ length (resting w) → from ≡ place_from i → to ≡ place_from (n - 1) → Book w → i < length (resting w) → ShiftedDown w w₁ from to → Holds w (set w₁ 0 (n - 1)) (remove_at i (resting w))
removed w w₁ i n from to e ef et b h c =
    let last = n - 1 in
    let w' = set w₁ 0 last in
    let long : venue_words ≤ length w₁ = omega (arith, c.size, b.long) in
    let kept : (j : ℕ) → 0 < j → get_or w' j 0 ≡ get_or w₁ j 0 = counted_kept w₁ last long in
    let low : (j k : ℕ) → j < i → k < order_width → word w₁ j k ≡ word w j k = λ j k hj hk. c.below (place_from j + k) (omega arith) in
    let high : (j k : ℕ) → i ≤ j → j < last → k < order_width → word w₁ j k ≡ word w (suc j) k = λ j k hi hj hk. c.moved (place_from j + k) (omega arith) (omega arith) ∙ ap (λ (p : ℕ). get_or w p 0) (omega arith) in
    record {
      book =
          counted_book w₁ last long (c.below layout_word (omega arith) ∙ b.numbered) (omega (arith, b.few)) (λ j k l a z. by_order j i (λ hj. subst (λ (x : ℕ). x ≤ 1) (sym (low j k hj (flag_inside z))) (b.flags j k (omega arith) a z)) (λ hj. subst (λ (x : ℕ). x ≤ 1) (sym (high j k hj l (flag_inside z))) (b.flags (suc j) k (omega arith) a z)));
      rests =
          resting_tabulate w' last _ (counted_at w₁ last long) (remove_tabulate last (order_at w) (order_at w') i (omega arith) (λ j hj. order_ext (word w' j) (word w j) (λ k hk. kept (place_from j + k) (omega arith) ∙ low j k hj hk)) (λ j hi hj. order_ext (word w' j) (word w (suc j)) (λ k hk. kept (place_from j + k) (omega arith) ∙ high j k hi hj hk)) ∙ ap (remove_at i) (resting_n w (suc last) (omega arith)));
      size = length-set w₁ 0 last ∙ c.size;
      header = λ j h₀ hj. kept j h₀ ∙ c.below j (omega arith);
      behind = λ j hj. kept j (omega arith) ∙ c.above j (omega (arith, b.few));
    }

-- an order stored over the one at position i
pub replaced : (w w' : List ℕ) (i : ℕ) (o : Order) → Book w → i < length (resting w) → Stored w w' i o → Holds w w' (set (resting w) i o)
replaced w w' i o b h c =
    let n : get_or w' 0 0 ≡ get_or w 0 0 = c.below 0 (omega arith) in
    let other : (j k : ℕ) → (j ≡ i → ⊥) → k < order_width → word w' j k ≡ word w j k = λ j k ne hk. by_order j i (λ l. c.below (place_from j + k) (omega arith)) (λ l. c.above (place_from j + k) (let z : i < j = omega arith in omega arith)) in
    record {
      book =
          record {
            long = omega (arith, c.size, b.long);
            numbered = c.below layout_word (omega arith) ∙ b.numbered;
            few = omega (arith, b.few, resting_length w', resting_length w);
            flags =
                λ j k l a z. by_order j i (λ q. subst (λ (x : ℕ). x ≤ 1) (sym (other j k (λ e. omega arith) (flag_inside z))) (b.flags j k (omega arith) a z)) (λ q. by_order i j (λ q₂. subst (λ (x : ℕ). x ≤ 1) (sym (other j k (λ e. omega arith) (flag_inside z))) (b.flags j k (omega (arith, resting_length w', resting_length w)) a z)) (λ q₂. subst (λ (y : ℕ). word w' y k ≤ 1) {x = i} (omega arith) (c.flags k a z)));
          };
      rests =
          resting_tabulate w' (get_or w 0 0) _ n (set-tabulate (get_or w 0 0) (order_at w) (order_at w') i o (omega (arith, resting_length w)) c.new (λ j hj ne. order_ext (word w' j) (word w j) (λ k hk. other j k ne hk)) ∙ ap (λ (l : List Order). set l i o) (resting_is w));
      size = c.size;
      header = λ j h₀ hj. c.below j (omega arith);
      behind = λ j hj. c.above j (omega (arith, b.few));
    }

-- the orders from position i on shifted up, an order stored in place i, and the count raised
pub inserted : (w w₁ w₂ : List ℕ) (o : Order) (i n from to : ℕ) → n ≡ length (resting w) → from ≡ place_from i → to ≡ place_from n → i ≤ length (resting w) → Book w → length (resting w) < 256 → ShiftedUp w w₁ from to → Stored w₁ w₂ i o → Holds w (set w₂ 0 (n + 1)) (insert_at i o (resting w))
inserted w w₁ w₂ o i n from to e ef et hi b h r c =
    let w' = set w₂ 0 (n + 1) in
    let long : venue_words ≤ length w₂ = omega (arith, c.size, r.size, b.long) in
    let kept : (j : ℕ) → 0 < j → get_or w' j 0 ≡ get_or w₂ j 0 = counted_kept w₂ (n + 1) long in
    let low : (j k : ℕ) → j < i → k < order_width → word w₂ j k ≡ word w j k = λ j k hj hk. c.below (place_from j + k) (omega arith) ∙ r.below (place_from j + k) (omega arith) in
    let high : (j k : ℕ) → i ≤ j → j < n → k < order_width → word w₂ (suc j) k ≡ word w j k = λ j k hj hn hk. c.above (place_from (suc j) + k) (omega arith) ∙ ap (λ (p : ℕ). get_or w₁ p 0) (omega arith) ∙ r.moved (place_from j + k) (omega arith) (omega arith) in
    record {
      book =
          counted_book w₂ (n + 1) long (c.below layout_word (omega arith) ∙ r.below layout_word (omega arith) ∙ b.numbered) (omega arith) (λ j k l a z. by_order j i (λ hj. subst (λ (x : ℕ). x ≤ 1) (sym (low j k hj (flag_inside z))) (b.flags j k (omega arith) a z)) (λ hj. by_order i j (λ hk. subst (λ (y : ℕ). word w₂ y k ≤ 1) {x = suc (j - 1)} (omega arith) (subst (λ (x : ℕ). x ≤ 1) (sym (high (j - 1) k (omega arith) (omega arith) (flag_inside z))) (b.flags (j - 1) k (omega arith) a z))) (λ hk. subst (λ (y : ℕ). word w₂ y k ≤ 1) {x = i} (omega arith) (c.flags k a z))));
      rests =
          resting_tabulate w' (suc n) _ (counted_at w₂ (n + 1) long ∙ add-one n) (insert_tabulate n (order_at w) (order_at w') i o (omega arith) (λ j hj. order_ext (word w' j) (word w j) (λ k hk. kept (place_from j + k) (omega arith) ∙ low j k hj hk)) (order_ext (word w' i) (word w₂ i) (λ k hk. kept (place_from i + k) (omega arith)) ∙ c.new) (λ j hj hn. order_ext (word w' (suc j)) (word w j) (λ k hk. kept (place_from (suc j) + k) (omega arith) ∙ high j k hj hn hk)) ∙ ap (insert_at i o) (resting_n w n e));
      size = length-set w₂ 0 (n + 1) ∙ c.size ∙ r.size;
      header = λ j h₀ hj. kept j h₀ ∙ c.below j (omega arith) ∙ r.below j (omega arith);
      behind = λ j hj. kept j (omega arith) ∙ c.above j (omega arith) ∙ r.above j (omega arith);
    }
