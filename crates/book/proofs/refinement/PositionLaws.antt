-- The book's steps by id as steps by position, which code over an array is compared with. Assumes nothing.
use Prim.Native.Nat.{ℕ, zero, suc, ◌≤◌, ◌<◌}
use native.Mathlib.Omega.{arith}
use mathlib.Core.Path.{◌≡◌, refl, ap, sym, ◌∙◌, subst}
use mathlib.Core.Bool.{not}
use mathlib.Core.Option.{Option, some}
use mathlib.Core.List.{List, [], ◌∷◌, ◌++◌}
use lib.Dec.{T, ltb, eqb, eqb_refl, le→leb, not_T}
use lib.ListN.{length, get_or, take, drop, set}
use lib.Seq.{drop-cons}
use Rattle.numbers.specs.Tests.{pick, All}
use Rattle.numbers.proofs.TestLaws.{pick_yes, pick_no, ne→T, eq→T, tests, all_map}
use Rattle.book.specs.declared.Order.{Order}
use Rattle.book.specs.rules.Orders.{resting_shares, find, without, insert}
use Rattle.book.specs.rules.Matching.{reaches, better_of, best_from}
use Rattle.book.proofs.definitions.ShareLaws.{if_same_same, if_same_other}
use Rattle.book.proofs.definitions.OrderLaws.{Other, without_none, shares_none}
use Rattle.book.proofs.definitions.RisingLaws.{Rises, rises_all}

above_ne : {m n : ℕ} → m < n → T (not (eqb n m))
above_ne {m} {n} l = ne→T n m (λ (e : n ≡ m). omega arith)

above_not : {m n : ℕ} → m ≤ n → T (not (ltb n m))
above_not {m} {n} l = not_T (ltb n m) (λ (t : T (ltb n m)). omega tests)

-- the id at a position is above what the book rises from
pub id_above : (k : ℕ) (os : List Order) (d : Order) (i : ℕ) → Rises k os → i < length os → k < (get_or os i d).id
id_above k [] d i r l = absurd (omega arith)
id_above k (o ∷ os) d zero r l = r.0
id_above k (o ∷ os) d (suc i) r l = let h = id_above o.id os d i r.1 (omega arith) in omega (arith, r.0)

pub find_at : (k : ℕ) (os : List Order) (d : Order) (i : ℕ) → Rises k os → i < length os → find (get_or os i d).id os ≡ some (get_or os i d)
unfolding find
find_at k [] d i r l = absurd (omega arith)
find_at k (o ∷ os) d zero r l = pick_yes _ _ _ (eqb_refl o.id)
find_at k (o ∷ os) d (suc i) r l =
    pick_no _ _ _ (above_ne (id_above o.id os d i r.1 (omega arith))) ∙ find_at o.id os d i r.1 (omega arith)

pub shares_at : (k : ℕ) (os : List Order) (d : Order) (i : ℕ) → Rises k os → i < length os → resting_shares (get_or os i d).id os ≡ (get_or os i d).shares
unfolding resting_shares
shares_at k [] d i r l = absurd (omega arith)
shares_at k (o ∷ os) d zero r l = omega (arith, if_same_same o.id o.shares, shares_none o.id os (all_map (λ x h e. omega arith) os (rises_all o.id os r.1)))
shares_at k (o ∷ os) d (suc i) r l =
    let h = id_above o.id os d i r.1 (omega arith) in
    omega (arith, shares_at o.id os d i r.1 (omega arith), if_same_other (get_or os i d).id o.id o.shares (λ (e : (get_or os i d).id ≡ o.id). omega arith))

pub without_at : (k : ℕ) (os : List Order) (d : Order) (i : ℕ) → Rises k os → i < length os → without (get_or os i d).id os ≡ take i os ++ drop (suc i) os
unfolding without
without_at k [] d i r l = absurd (omega arith)
without_at k (o ∷ os) d zero r l = pick_yes _ _ _ (eqb_refl o.id) ∙ without_none o.id os (all_map (λ x h e. omega arith) os (rises_all o.id os r.1))
without_at k (o ∷ os) d (suc i) r l =
    pick_no _ _ _ (above_ne (id_above o.id os d i r.1 (omega arith))) ∙ ap (λ (z : List Order). o ∷ z) (without_at o.id os d i r.1 (omega arith))

pub insert_first : (x : Order) (os : List Order) → Rises x.id os → insert x os ≡ x ∷ os
unfolding insert
insert_first x [] r = refl
insert_first x (o ∷ os) r = pick_yes _ _ _ (le→leb _ _ r.0)

pub insert_last : (x : Order) (os : List Order) → All (λ (o : Order). o.id ≤ x.id) os → insert x os ≡ os ++ (x ∷ [])
unfolding insert
insert_last x [] r = refl
insert_last x (o ∷ os) r = pick_no _ _ _ (above_not r.0) ∙ ap (λ (z : List Order). o ∷ z) (insert_last x os r.1)

-- an order in place of the one with its id
pub set_at : (k : ℕ) (os : List Order) (d x : Order) (i : ℕ) → Rises k os → i < length os → (get_or os i d).id ≡ x.id → insert x (without x.id os) ≡ set os i x
unfolding insert without
set_at k [] d x i r l e = absurd (omega arith)
set_at k (o ∷ os) d x zero r l e =
    ap (insert x) (pick_yes _ _ _ (eq→T (sym e)) ∙ without_none x.id os (others os (rises_all o.id os r.1))) ∙ insert_first x os (subst (λ (z : ℕ). Rises z os) e r.1)
  where
    others : (os : List Order) → All (λ (y : Order). o.id < y.id) os → All (Other x.id) os
    others os h = all_map {Q = Other x.id} (λ (y : Order) (l : o.id < y.id) (z : y.id ≡ x.id). omega (arith, e)) os h
set_at k (o ∷ os) d x (suc i) r l e =
    let h : o.id < x.id = subst (λ (z : ℕ). o.id < z) e (id_above o.id os d i r.1 (omega arith)) in
    ap (insert x) (pick_no _ _ _ (above_ne h)) ∙ pick_no _ _ _ (above_not {m = o.id} {n = x.id} (omega arith)) ∙ ap (λ (z : List Order). o ∷ z) (set_at o.id os d x i r.1 (omega arith) e)

-- one turn of the search for the best
pub best_from_at : (w : Order) (x : Option Order) (os : List Order) (d : Order) (i : ℕ) → i < length os → best_from w x (drop i os) ≡ best_from w (pick (reaches w (get_or os i d)) (better_of w x (get_or os i d)) x) (drop (suc i) os)
unfolding best_from
best_from_at w x os d i l = rw (drop-cons os i d)
