-- Steps by position as the definitions' steps by id, where ids rise; lengths; and the search for the best order. Assumes nothing.
use Prim.Native.Nat.{ℕ, zero, suc, ◌+◌, ◌≤◌, ◌<◌}
use native.Mathlib.Nat.{le_of_suc-le-suc, not-suc-le-zero}
use native.Mathlib.Numerals.{add-one}
use mathlib.Core.Path.{◌≡◌, refl, sym, ap, ap₂, ◌∙◌}
use mathlib.Core.Bool.{true, false}
use mathlib.Core.Option.{Option, none, some}
use mathlib.Core.List.{List, [], ◌∷◌, ◌++◌}
use lib.ListN.{length, get_or, set, take, drop, drop_of_length-le}
use borrow.Author.Tests.{le-leb, lt-leb}
use Rattle.numbers.specs.Tests.{pick}
use Rattle.book.specs.declared.Order.{Order}
use Rattle.std.specs.Prelude.{Option as Place}
use Rattle.std.specs.Prelude.{Some, None}
use Rattle.book.specs.rules.Orders.{reduced, without}
use Rattle.book.specs.rules.Matching.{reaches, better, better_of, best_from, best, after_trade}
use Rattle.book.specs.rules.Words.{empty_order}
use Rattle.book.specs.steps.Positions.{remove_at, insert_at, order_in, considered}
use Rattle.book.proofs.definitions.RisingLaws.{Rises}
use Rattle.book.proofs.refinement.PositionLaws.{without_at, set_at, best_from_at}

-- lengths

pub length-remove_at : (l : List Order) (i : ℕ) → i < length l → length l ≡ suc (length (remove_at i l))
length-remove_at [] i h = absurd (not-suc-le-zero h)
length-remove_at (x ∷ xs) zero h = refl
length-remove_at (x ∷ xs) (suc i) h = ap suc (length-remove_at xs i (le_of_suc-le-suc h))

pub length-insert_at : (l : List Order) (i : ℕ) (o : Order) → length (insert_at i o l) ≡ suc (length l)
length-insert_at l zero o = refl
length-insert_at [] (suc i) o = refl
length-insert_at (x ∷ xs) (suc i) o = ap suc (length-insert_at xs i o)

-- by position and by id

remove_at_split : (l : List Order) (i : ℕ) → i < length l → remove_at i l ≡ take i l ++ drop (suc i) l
remove_at_split [] i h = absurd (not-suc-le-zero h)
remove_at_split (x ∷ xs) zero h = refl
remove_at_split (x ∷ xs) (suc i) h = ap (λ (l : List Order). x ∷ l) (remove_at_split xs i (le_of_suc-le-suc h))

module _ (l : List Order) (i : ℕ) (r : Rises 0 l) (h : i < length l) where
  pub remove_at_without : remove_at i l ≡ without (get_or l i empty_order).id l
  remove_at_without = remove_at_split l i h ∙ sym (without_at 0 l empty_order i r h)

  pub trade_all : (q : ℕ) → (get_or l i empty_order).shares ≤ q → remove_at i l ≡ after_trade (get_or l i empty_order) q l
  unfolding after_trade pick
  trade_all q p = remove_at_without ∙ sym (rw (le-leb (get_or l i empty_order).shares q p))

  pub trade_part : (q : ℕ) → q < (get_or l i empty_order).shares → set l i (reduced q (get_or l i empty_order)) ≡ after_trade (get_or l i empty_order) q l
  unfolding after_trade pick
  trade_part q p = sym (set_at 0 l empty_order (reduced q (get_or l i empty_order)) i r h refl) ∙ sym (rw (lt-leb (get_or l i empty_order).shares q p))

-- the search for the best order: one order considered

module _ (w : Order) (l : List Order) (i : ℕ) where
  pub consider_first : reaches w (get_or l i empty_order) ≡ true → considered w l None i ≡ some (get_or l i empty_order)
  unfolding pick better_of
  consider_first r = rw r

  pub consider_better : (b : ℕ) → reaches w (get_or l i empty_order) ≡ true → better w (get_or l i empty_order) (get_or l b empty_order) ≡ true → considered w l (Some b) i ≡ some (get_or l i empty_order)
  unfolding pick better_of
  consider_better b r e = rw (r, e)

  pub consider_worse : (b : ℕ) → reaches w (get_or l i empty_order) ≡ true → better w (get_or l i empty_order) (get_or l b empty_order) ≡ false → considered w l (Some b) i ≡ some (get_or l b empty_order)
  unfolding pick better_of
  consider_worse b r e = rw (r, e)

  pub consider_unreached : (f : Place ℕ) → reaches w (get_or l i empty_order) ≡ false → considered w l f i ≡ order_in l f
  unfolding pick
  consider_unreached f r = rw r

-- and all of them

pub best_start : (w : Order) (l : List Order) → best w l ≡ best_from w none (drop 0 l)
unfolding best
best_start w l = refl

pub best_more : (w : Order) (l : List Order) (f g : Place ℕ) (i : ℕ) → i < length l → order_in l g ≡ considered w l f i → best_from w (order_in l f) (drop i l) ≡ best_from w (order_in l g) (drop (i + 1) l)
best_more w l f g i h e =
    best_from_at w (order_in l f) l empty_order i h ∙ ap₂ (λ x k. best_from w x (drop k l)) (sym e) (sym (add-one i))

pub best_end : (w : Order) (l : List Order) (x : Option Order) (i : ℕ) → length l ≤ i → best_from w x (drop i l) ≡ x
unfolding best_from
best_end w l x i h = rw (drop_of_length-le l h)
