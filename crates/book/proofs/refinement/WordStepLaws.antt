-- Laws of words moved by one place: none yet, one word more, and within a run. Assumes nothing.
use Prim.Native.Nat.{ℕ, ◌+◌, ◌-◌, ◌≤◌, ◌<◌, zero-le}
use native.Mathlib.Nat.{not-suc-le-zero}
use native.Mathlib.Omega.{arith}
use mathlib.Core.Path.{◌≡◌, refl, ◌∙◌, ap, subst, sym}
use mathlib.Core.List.{List, [], ◌++◌, append-nil}
use lib.ListN.{length, get_or, set, take, drop, length-set, length-drop, drop_of_length-le, take-append-drop, get_or-append}
use lib.Seq.{get_or-set_same, get_or-set_other, length-take-le, get_or-append-add, get_or-take, get_or-drop}
use borrow.Rule.Slice.PartMut.{mid_of, put_mid, same_len_mid}
use Rattle.book.specs.declared.Order.{Order}
use Rattle.book.specs.rules.Words.{order_width, place_from, word}
use Rattle.book.specs.steps.WordSteps.{Row, Copied, Stored, ShiftedDown, ShiftedUp}
use Rattle.numbers.proofs.TabulateLaws.{by_order}
use Rattle.book.proofs.refinement.WordLaws.{flag_inside, order_ext}

pub copied_none : (w : List ℕ) (at : ℕ) (row : List ℕ) → Copied w w at row 0
copied_none w at row =
    record { size = refl; new = λ k h. absurd (not-suc-le-zero h); below = λ j h. refl; above = λ j h. refl }

pub copied_more : (w₀ w : List ℕ) (at : ℕ) (row : List ℕ) (k : ℕ) → Copied w₀ w at row k → at + k < length w → Copied w₀ (set w (at + k) (get_or row k 0)) at row (k + 1)
copied_more w₀ w at row k c h =
    let v = get_or row k 0 in
    record {
      size = length-set w (at + k) v ∙ c.size;
      new =
          λ q hq. by_order q k (λ l. get_or-set_other w (at + k) (at + q) v 0 (λ e. omega arith) ∙ c.new q l) (λ l. let e : q ≡ k = omega arith in rw e (get_or-set_same w (at + k) v 0 h));
      below = λ j hj. get_or-set_other w (at + k) j v 0 (λ e. omega arith) ∙ c.below j hj;
      above = λ j hj. get_or-set_other w (at + k) j v 0 (λ e. omega arith) ∙ c.above j (omega arith);
    }

pub copied_stored : (w w' row : List ℕ) (i : ℕ) (o : Order) → Row row o → Copied w w' (place_from i) row order_width → Stored w w' i o
copied_stored w w' row i o r c =
    record {
      size = c.size;
      new = order_ext (word w' i) (λ k. get_or row k 0) (λ k hk. c.new k hk) ∙ r.is;
      flags = λ k l h. subst (λ (x : ℕ). x ≤ 1) (sym (c.new k (flag_inside h))) (r.flags k l h);
      below = c.below;
      above = c.above;
    }

-- a step on the words from an index on is one on all words

module _ (w s' : List ℕ) (from to : ℕ) (a : from ≤ to) (h : from ≤ length w) where
  abbrev rest : ℕ
  rest = length w - from

  abbrev back : List ℕ
  back = put_mid from rest w s'

  no_more : drop rest (drop from w) ≡ []
  no_more = drop_of_length-le (drop from w) {i = rest} (omega (arith, length-drop from w))

  part_at : (j : ℕ) → get_or (mid_of from rest w) j 0 ≡ get_or w (from + j) 0
  part_at j =
      ap (λ (l : List ℕ). get_or l j 0) (sym (append-nil (take rest (drop from w))) ∙ ap (λ (l : List ℕ). take rest (drop from w) ++ l) (sym no_more) ∙ take-append-drop rest (drop from w)) ∙ get_or-drop from w j 0

  back_below : (j : ℕ) → j < from → get_or back j 0 ≡ get_or w j 0
  back_below j l = get_or-append (take from w) _ 0 j (omega (arith, length-take-le from w h)) ∙ get_or-take from w j 0 l

  back_at : (j : ℕ) → from ≤ j → get_or back j 0 ≡ get_or s' (j - from) 0
  back_at j l =
      let e : j ≡ length (take from w) + (j - from) = omega (arith, length-take-le from w h) in
      ap (λ (i : ℕ). get_or back i 0) e ∙ get_or-append-add (take from w) _ (j - from) 0 ∙ ap (λ (l : List ℕ). get_or (s' ++ l) (j - from) 0) no_more ∙ ap (λ (l : List ℕ). get_or l (j - from) 0) (append-nil s')

  at : (j k : ℕ) → from + j ≡ k → get_or (mid_of from rest w) j 0 ≡ get_or w k 0
  at j k e = part_at j ∙ ap (λ (i : ℕ). get_or w i 0) e

  pub part_down : ShiftedDown (mid_of from (length w - from) w) s' 0 (to - from) → ShiftedDown w (put_mid from (length w - from) w s') from to
  part_down c =
      record {
        size = same_len_mid from rest w s' c.size;
        below = back_below;
        moved = λ j l m. back_at j l ∙ c.moved (j - from) zero-le (omega arith) ∙ at (j - from + order_width) (j + order_width) (omega arith);
        above = λ j l. back_at j (omega arith) ∙ c.above (j - from) (omega arith) ∙ at (j - from) j (omega arith);
      }

  pub part_up : ShiftedUp (mid_of from (length w - from) w) s' 0 (to - from) → ShiftedUp w (put_mid from (length w - from) w s') from to
  part_up c =
      record {
        size = same_len_mid from rest w s' c.size;
        below = λ j l. by_order j from (back_below j) (λ m. back_at j m ∙ c.below (j - from) (omega arith) ∙ at (j - from) j (omega arith));
        moved =
            λ j l m. back_at (j + order_width) (omega arith) ∙ ap (λ (i : ℕ). get_or s' i 0) (omega arith) ∙ c.moved (j - from) zero-le (omega arith) ∙ at (j - from) j (omega arith);
        above = λ j l. back_at j (omega arith) ∙ c.above (j - from) (omega arith) ∙ at (j - from) j (omega arith);
      }
