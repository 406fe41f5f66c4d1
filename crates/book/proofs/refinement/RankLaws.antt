-- Laws of an id's rank in a book, by which a binary search finds orders and places. Assumes nothing.
use Prim.Native.Nat.{ℕ, zero, suc, ◌+◌, ◌-◌, ◌/◌, ◌≤◌, ◌<◌, zero-le}
use native.Mathlib.Nat.{le_of_suc-le-suc, not-suc-le-zero}
use native.Mathlib.Omega.{arith}
use mathlib.Core.Path.{◌≡◌, refl, sym, ap, ◌∙◌, subst}
use mathlib.Core.Bool.{Bool, true, false, not}
use mathlib.Core.Option.{none, some}
use mathlib.Core.List.{List, [], ◌∷◌}
use lib.Dec.{T, ltb, lt→ltb, ltb→lt, not_T}
use lib.ListN.{length, get_or, take, drop, length-drop}
use lib.Seq.{get_or-take, get_or-drop, length-take-le}
use Rattle.numbers.specs.Tests.{pick}
use Rattle.numbers.proofs.TestLaws.{by_test, pick_yes, pick_no, ne→T}
use Rattle.book.specs.declared.Order.{Order}
use Rattle.book.specs.rules.Orders.{find, insert}
use Rattle.book.specs.rules.Words.{empty_order}
use Rattle.std.specs.Prelude.{Result, Ok, Err, IfOk, IfErr}
use Rattle.std.specs.Result.{result_ok}
use Rattle.book.specs.steps.Positions.{insert_at, rank_of, IsIdAt, IsGapFor, Found}
use Rattle.numbers.proofs.TabulateLaws.{by_order}
use Rattle.book.proofs.definitions.RisingLaws.{Rises}
use Rattle.book.proofs.refinement.PositionLaws.{id_above, find_at}

-- the id at a position
abbrev pub id_in : List Order → ℕ → ℕ
id_in l i = (get_or l i empty_order).id

pub ids_rise_lem : (k : ℕ) (l : List Order) (i j : ℕ) → Rises k l → i < j → j < length l → id_in l i < id_in l j
ids_rise_lem k [] i j r a b = absurd (not-suc-le-zero b)
ids_rise_lem k (o ∷ os) i zero r a b = absurd (not-suc-le-zero a)
ids_rise_lem k (o ∷ os) zero (suc j) r a b = id_above o.id os empty_order j r.1 (le_of_suc-le-suc b)
ids_rise_lem k (o ∷ os) (suc i) (suc j) r a b = ids_rise_lem o.id os i j r.1 (le_of_suc-le-suc a) (le_of_suc-le-suc b)

-- one test of the search: nothing up to m is above the id, or all from m on

module _ (l : List Order) (id m : ℕ) (r : Rises 0 l) (h : m < length l) where
  pub none_above : id_in l m ≤ id → (j : ℕ) → j < m + 1 → id_in l j ≤ id
  none_above t j a =
      by_order j m (λ b. omega (arith, ids_rise_lem 0 l j m r b h)) (λ b. let e : m ≡ j = omega arith in subst (λ (x : ℕ). id_in l x ≤ id) e t)

  pub all_above : id < id_in l m → (j : ℕ) → m ≤ j → j < length l → id < id_in l j
  all_above t j a c =
      by_order m j (λ b. omega (arith, ids_rise_lem 0 l m j r b c)) (λ b. let e : m ≡ j = omega arith in subst (λ (x : ℕ). id < id_in l x) e t)

-- the rank of an id

no_more : (m n : ℕ) → n ≤ m → T (not (ltb m n))
no_more m n h = not_T (ltb m n) (λ t. omega (arith, ltb→lt m n t))

pub rank_is : (id : ℕ) (l : List Order) (r : ℕ) → r ≤ length l → ((j : ℕ) → j < r → id_in l j ≤ id) → (r < length l → id < id_in l r) → rank_of id l ≡ r
unfolding rank_of
rank_is id [] r h a b = omega arith
rank_is id (o ∷ os) zero h a b = pick_yes _ _ _ (lt→ltb id o.id (b (omega arith)))
rank_is id (o ∷ os) (suc r) h a b =
    pick_no _ _ _ (no_more id o.id (a 0 (omega arith))) ∙ ap suc (rank_is id os r (le_of_suc-le-suc h) (λ j l. a (suc j) (omega arith)) (λ l. b (omega arith)))

pub rank_length : (id : ℕ) (l : List Order) → rank_of id l ≤ length l
unfolding rank_of
rank_length id [] = zero-le
rank_length id (o ∷ os) =
    by_test (λ (n : ℕ). n ≤ suc (length os)) _ (λ t. zero-le) (λ t. omega (arith, rank_length id os))

-- an order with the id stands just before its rank
pub rank_of_found : (id : ℕ) (l : List Order) (j : ℕ) → Rises 0 l → j < length l → id_in l j ≡ id → suc j ≡ rank_of id l
rank_of_found id l j r h e =
    sym (rank_is id l (suc j) h (λ i a. by_order i j (λ b. omega (arith, ids_rise_lem 0 l i j r b h)) (λ b. let q : j ≡ i = omega arith in subst (λ (x : ℕ). id_in l x ≤ id) q (omega arith))) (λ a. omega (arith, ids_rise_lem 0 l j (suc j) r (omega arith) a)))

-- the searches

find_none : (id : ℕ) (l : List Order) → ((j : ℕ) → j < length l → id_in l j ≡ id → ⊥) → find id l ≡ none
unfolding find
find_none id [] h = refl
find_none id (o ∷ os) h =
    pick_no _ _ _ (ne→T id o.id (λ e. h 0 (omega arith) (sym e))) ∙ find_none id os (λ j l. h (suc j) (omega arith))

-- where the ids before position i are below id, and those from it on above, i is the gap
pub gap_for : (l : List Order) (id i : ℕ) → i ≤ length l → ((j : ℕ) → j < i → id_in l j < id) → ((j : ℕ) → i ≤ j → j < length l → id < id_in l j) → IsGapFor id l i
gap_for l id i h low high =
    (sym (rank_is id l i h (λ j b. omega (arith, low j b)) (λ b. high i (omega arith) b)), find_none id l (λ j b e. by_order j i (λ c. omega (arith, low j c)) (λ c. omega (arith, high j c b))))

pub gap_of_empty : (l : List Order) (id : ℕ) → length l ≡ 0 → IsGapFor id l 0
gap_of_empty l id e = gap_for l id 0 zero-le (λ j h. absurd (not-suc-le-zero h)) (λ j h b. absurd (omega (arith, e, b)))

-- where a search by id stands: before counts the orders in front of the places that are left to look at; every id behind these is above id, and the
-- first of them isn't above it, unless before is 0
pub record Searched (l : List Order) (id before : ℕ) (places : List (List ℕ)) : Type 0 where
  pub inside : before + length places ≤ length l
  pub left : 0 < length places
  pub ids : (j : ℕ) → j < length places → get_or (get_or places j []) 0 0 ≡ id_in l (before + j)
  pub lower : 0 < before → id_in l before ≤ id
  pub upper : (j : ℕ) → before + length places ≤ j → j < length l → id < id_in l j

pub search_start : (l : List Order) (id : ℕ) (places : List (List ℕ)) → 0 < length places → length places ≡ length l → ((j : ℕ) → j < length l → get_or (get_or places j []) 0 0 ≡ id_in l j) → Searched l id 0 places
search_start l id places left size is =
    record { inside = omega (arith, size); left = left; ids = λ j h. is j (omega (arith, size)) ∙ ap (id_in l) (omega arith); lower = λ h. absurd (omega arith); upper = λ j h b. absurd (omega (arith, size)) }

module _ {l : List Order} {id before : ℕ} {places : List (List ℕ)} (r : Rises 0 l) (s : Searched l id before places) where
  abbrev half : ℕ
  half = length places / 2

  -- it goes on from the middle place on
  pub search_upper : 1 < length places → get_or (get_or places half []) 0 0 ≤ id → Searched l id (before + half) (take (length places - half) (drop half places))
  search_upper n h =
      let size : length (take (length places - half) (drop half places)) ≡ length places - half = length-take-le (length places - half) (drop half places) (omega (arith, length-drop half places)) in
      record {
        inside = omega (arith, size, s.inside);
        left = omega (arith, size, n);
        ids = λ j b. ap (λ (place : List ℕ). get_or place 0 0) (get_or-take (length places - half) (drop half places) j [] (omega (arith, size, b)) ∙ get_or-drop half places j []) ∙ (s.ids (half + j) (omega (arith, size, b)) ∙ ap (id_in l) (omega arith));
        lower = λ k. omega (arith, h, s.ids half (omega (arith, n)));
        upper = λ j k b. s.upper j (omega (arith, size, k)) b;
      }

  -- or in as many places from the first on
  pub search_lower : 1 < length places → id < get_or (get_or places half []) 0 0 → Searched l id before (take (length places - half) places)
  search_lower n h =
      let size : length (take (length places - half) places) ≡ length places - half = length-take-le (length places - half) places (omega arith) in
      let middle : id < id_in l (before + half) = omega (arith, h, s.ids half (omega (arith, n))) in
      record {
        inside = omega (arith, size, s.inside);
        left = omega (arith, size, n);
        ids = λ j b. ap (λ (place : List ℕ). get_or place 0 0) (get_or-take (length places - half) places j [] (omega (arith, size, b))) ∙ s.ids j (omega (arith, size, b));
        lower = s.lower;
        upper = λ j k b. all_above l id (before + half) r (omega (arith, n, s.inside)) middle j (omega (arith, size, k)) b;
      }

  -- one place is left
  module _ (one : length places ≤ 1) where
    abbrev last : ℕ
    last = get_or (get_or places 0 []) 0 0

    last_id : last ≡ id_in l before
    last_id = s.ids 0 s.left ∙ ap (id_in l) (omega arith)

    pub search_equal : last ≡ id → IsIdAt id l before
    search_equal h = (omega (arith, s.left, s.inside), sym last_id ∙ h)

    pub search_less : last < id → IsGapFor id l (before + 1)
    search_less h =
        let below : id_in l before < id = omega (arith, h, last_id) in
        gap_for l id (before + 1) (omega (arith, s.left, s.inside)) (λ j b. by_order j before (λ c. omega (arith, below, ids_rise_lem 0 l j before r c (omega (arith, s.left, s.inside)))) (λ c. subst (λ (x : ℕ). id_in l x < id) {x = before} (omega arith) below)) (λ j b c. s.upper j (omega (arith, one, b)) c)

    pub search_greater : id < last → IsGapFor id l before
    search_greater h =
        let above : id < id_in l before = omega (arith, h, last_id) in
        gap_for l id before (omega (arith, s.left, s.inside)) (λ j b. absurd (omega (arith, above, s.lower (omega (arith, b))))) (all_above l id before r (omega (arith, s.left, s.inside)) above)

pub found_id : (l : List Order) → Rises 0 l → (id : ℕ) (end : Result ℕ ℕ) → IfOk end (IsIdAt id l) → IfErr end (IsGapFor id l) → Found l (result_ok end) (find id l)
found_id l r id (Ok i) at gap =
    record { is = sym (subst (λ (x : ℕ). find x l ≡ some (get_or l i empty_order)) at.1 (find_at 0 l empty_order i r at.0)); below = at.0 }
found_id l r id (Err i) at gap = record { is = sym gap.1; below = tt }

-- by position and by id: no rising ids are needed
pub insert_rank : (o : Order) (l : List Order) → insert o l ≡ insert_at (rank_of o.id l) o l
unfolding insert rank_of pick
insert_rank o [] = refl
insert_rank o (x ∷ xs) = go (ltb o.id x.id) (insert_rank o xs)
  where
    go : (b : Bool) → insert o xs ≡ insert_at (rank_of o.id xs) o xs → pick b (o ∷ x ∷ xs) (x ∷ insert o xs) ≡ insert_at (pick b 0 (suc (rank_of o.id xs))) o (x ∷ xs)
    go true e = refl
    go false e = ap (λ (l : List Order). x ∷ l) e
