-- Laws of orders and of the book: one order and the rest of the book. Assumes nothing.
use Prim.Native.Nat.{ℕ, suc, ◌+◌, ◌≤◌}
use native.Mathlib.Omega.{arith}
use mathlib.Core.Path.{◌≡◌, refl, ap, sym, ◌∙◌, subst}
use mathlib.Core.Option.{Option, none, some}
use mathlib.Core.List.{List, [], ◌∷◌, Memᴰ}
use lib.Dec.{eqb, eqb→eq, eqb_refl}
use lib.ListN.{length}
use Rattle.numbers.specs.Tests.{All}
use Rattle.numbers.proofs.TestLaws.{by_test, pick_yes, pick_no, eq→T, ne→T, neqb, all_map}
use Rattle.book.specs.declared.Order.{Order}
use Rattle.book.specs.rules.Orders.{find, if_same, resting_shares, without, insert}
use Rattle.book.proofs.definitions.ShareLaws.{if_same_same, if_same_other, if_same_zero, if_same_plus}

abbrev pub id_of : Order → ℕ
id_of o = o.id

abbrev pub stamp_of : Order → ℕ
stamp_of o = o.stamp

-- the order has another id than i
abbrev pub Other : ℕ → Order → Type 0
Other i o = o.id ≡ i → ⊥

-- no two orders have the same f
abbrev pub Differ : (Order → ℕ) → List Order → Type 0
Differ f [] = Unit {0}
Differ f (o ∷ os) = All (λ (x : Order). f x ≡ f o → ⊥) os × Differ f os

abbrev pub Distinct : List Order → Type 0
Distinct os = Differ id_of os

-- one order taken out of a list

-- rs is os with one o taken out
pub data TakenOut (o : Order) : List Order → List Order → Type 0 where
  here : {os : List Order} → TakenOut o (o ∷ os) os
  there : {x : Order} {os rs : List Order} → TakenOut o os rs → TakenOut o (x ∷ os) (x ∷ rs)

pub taken_all : (P : Order → Type 0) {o : Order} {os rs : List Order} → TakenOut o os rs → All P os → P o × All P rs
taken_all P here h = h
taken_all P (there t) h = let r = taken_all P t h.1 in (r.0, (h.0, r.1))

pub all_taken : (P : Order → Type 0) {o : Order} {os rs : List Order} → TakenOut o os rs → P o → All P rs → All P os
all_taken P here p h = (p, h)
all_taken P (there t) p h = (h.0, all_taken P t p h.1)

pub taken_differ : (f : Order → ℕ) {o : Order} {os rs : List Order} → TakenOut o os rs → Differ f os → All (λ (x : Order). f x ≡ f o → ⊥) rs × Differ f rs
taken_differ f here d = d
taken_differ f (there {x = y} t) d =
    let r = taken_differ f t d.1 in
    let s = taken_all (λ (x : Order). f x ≡ f y → ⊥) t d.0 in
    ((λ e. s.0 (sym e), r.0), (s.1, r.1))

pub differ_taken : (f : Order → ℕ) {o : Order} {os rs : List Order} → TakenOut o os rs → All (λ (x : Order). f x ≡ f o → ⊥) rs → Differ f rs → Differ f os
differ_taken f here h d = (h, d)
differ_taken f (there {x = y} t) h d =
    (all_taken (λ (x : Order). f x ≡ f y → ⊥) t (λ e. h.0 (sym e)) d.0, differ_taken f t h.1 d.1)

pub taken_shares : {o : Order} {os rs : List Order} → TakenOut o os rs → (k : ℕ) → resting_shares k os ≡ if_same k o.id o.shares + resting_shares k rs
unfolding resting_shares
taken_shares here k = refl
taken_shares (there t) k = omega (arith, taken_shares t k)

pub taken_length : {o : Order} {os rs : List Order} → TakenOut o os rs → length os ≡ suc (length rs)
taken_length here = refl
taken_length (there t) = ap suc (taken_length t)

-- the book without an id

pub without_none : (i : ℕ) (os : List Order) → All (Other i) os → without i os ≡ os
unfolding without
without_none i [] h = refl
without_none i (x ∷ xs) h = pick_no (eqb i x.id) _ _ (ne→T i x.id (λ e. h.0 (sym e))) ∙ ap (λ (l : List Order). x ∷ l) (without_none i xs h.1)

pub without_all : (P : Order → Type 0) (i : ℕ) (os : List Order) → All P os → All P (without i os)
unfolding without
without_all P i [] h = tt
without_all P i (x ∷ xs) h = by_test (All P) _ (λ t. without_all P i xs h.1) (λ t. (h.0, without_all P i xs h.1))

pub without_other : (i : ℕ) (os : List Order) → All (Other i) (without i os)
unfolding without
without_other i [] = tt
without_other i (x ∷ xs) =
    by_test (All (Other i)) _ (λ t. without_other i xs) (λ t. ((λ e. neqb i x.id t (sym e)), without_other i xs))

pub without_differ : (f : Order → ℕ) (i : ℕ) (os : List Order) → Differ f os → Differ f (without i os)
unfolding without
without_differ f i [] d = tt
without_differ f i (x ∷ xs) d =
    by_test (Differ f) _ (λ t. without_differ f i xs d.1) (λ t. (without_all (λ (y : Order). f y ≡ f x → ⊥) i xs d.0, without_differ f i xs d.1))

pub without_length : (i : ℕ) (os : List Order) → length (without i os) ≤ length os
unfolding without
without_length i [] = omega arith
without_length i (x ∷ xs) =
    let h = without_length i xs in
    by_test (λ (l : List Order). length l ≤ suc (length xs)) _ (λ t. omega arith) (λ t. omega arith)

pub without_shares : (i k : ℕ) (os : List Order) → resting_shares k os ≡ if_same k i (resting_shares i os) + resting_shares k (without i os)
unfolding without resting_shares
without_shares i k [] = omega (arith, if_same_zero k i)
without_shares i k (x ∷ xs) =
    by_test
    (λ (l : List Order). if_same k x.id x.shares + resting_shares k xs ≡ if_same k i (if_same i x.id x.shares + resting_shares i xs) + resting_shares k l)
    _
    (λ t. let e : i ≡ x.id = eqb→eq i x.id t in omega (arith, without_shares i k xs, if_same_plus k i (if_same i x.id x.shares) (resting_shares i xs), whole e))
    (λ t. omega (arith, without_shares i k xs, if_same_plus k i (if_same i x.id x.shares) (resting_shares i xs), nothing (neqb i x.id t)))
  where
    whole : i ≡ x.id → if_same k i (if_same i x.id x.shares) ≡ if_same k x.id x.shares
    whole e = rw e (ap (if_same k x.id) (if_same_same x.id x.shares))

    nothing : (i ≡ x.id → ⊥) → if_same k i (if_same i x.id x.shares) ≡ 0
    nothing h = ap (if_same k i) (if_same_other i x.id x.shares h) ∙ if_same_zero k i

pub mem_taken : {o : Order} {os : List Order} → Memᴰ o os → Distinct os → TakenOut o os (without o.id os)
unfolding without
mem_taken (Memᴰ.head {x = x} {xs = xs} e) d =
    subst (λ (z : Order). TakenOut z (x ∷ xs) (without z.id (x ∷ xs))) (sym e) (subst (λ (l : List Order). TakenOut x (x ∷ xs) l) (sym (pick_yes (eqb x.id x.id) _ _ (eqb_refl x.id) ∙ without_none x.id xs d.0)) here)
mem_taken {o} (Memᴰ.tail {x = x} {xs = xs} m) d =
    let t : TakenOut o xs (without o.id xs) = mem_taken m d.1 in
    subst (λ (l : List Order). TakenOut o (x ∷ xs) l) (sym (pick_no (eqb o.id x.id) _ _ (ne→T o.id x.id (taken_all (Other x.id) t d.0).0))) (there t)

-- the book with an order put in

pub insert_taken : (o : Order) (os : List Order) → TakenOut o (insert o os) os
unfolding insert
insert_taken o [] = here
insert_taken o (x ∷ xs) = by_test (λ (l : List Order). TakenOut o l (x ∷ xs)) _ (λ t. here) (λ t. there (insert_taken o xs))

-- the order that rests under an id

-- what is known where the search for an id gave this
abbrev pub Found : ℕ → List Order → Option Order → Type 0
Found i os none = All (Other i) os
Found i os (some o) = Memᴰ o os × (o.id ≡ i)

pub find_found : (i : ℕ) (os : List Order) → Found i os (find i os)
unfolding find
find_found i [] = tt
find_found i (x ∷ xs) =
    by_test (Found i (x ∷ xs)) _ (λ t. (Memᴰ.head refl, sym (eqb→eq i x.id t))) (λ t. further (find i xs) (λ e. neqb i x.id t (sym e)) (find_found i xs))
  where
    further : (m : Option Order) → Other i x → Found i xs m → Found i (x ∷ xs) m
    further none h f = (h, f)
    further (some o) h f = (Memᴰ.tail f.0, f.1)

-- the shares that rest under an id, order by order
pub shares_empty : (k : ℕ) → resting_shares k [] ≡ 0
unfolding resting_shares
shares_empty k = refl

pub shares_first : (k : ℕ) (o : Order) (os : List Order) → resting_shares k (o ∷ os) ≡ if_same k o.id o.shares + resting_shares k os
unfolding resting_shares
shares_first k o os = refl

pub shares_none : (i : ℕ) (os : List Order) → All (Other i) os → resting_shares i os ≡ 0
unfolding resting_shares
shares_none i [] h = refl
shares_none i (x ∷ xs) h = omega (arith, shares_none i xs h.1, if_same_other i x.id x.shares (λ e. h.0 (sym e)))

-- the shares that rest under the id of a resting order are its own
pub shares_found : {o : Order} {os : List Order} → Memᴰ o os → Distinct os → resting_shares o.id os ≡ o.shares
shares_found {o} {os} m d =
    omega (arith, taken_shares (mem_taken m d) o.id, if_same_same o.id o.shares, shares_none o.id (without o.id os) (without_other o.id os))

-- orders of the book

pub all_members : (os : List Order) → All (λ (o : Order). Memᴰ o os) os
all_members [] = tt
all_members (x ∷ xs) = (Memᴰ.head refl, all_map (λ y m. Memᴰ.tail m) xs (all_members xs))

-- one order that stays in the book

pub taken_mem : {o x : Order} {os rs : List Order} → TakenOut x os rs → Memᴰ o rs → Memᴰ o os
taken_mem here m = Memᴰ.tail m
taken_mem (there t) (Memᴰ.head e) = Memᴰ.head e
taken_mem (there t) (Memᴰ.tail m) = Memᴰ.tail (taken_mem t m)

pub without_mem : {o : Order} {os : List Order} (i : ℕ) → Other i o → Memᴰ o os → Memᴰ o (without i os)
unfolding without
without_mem {o} i n (Memᴰ.head {x = x} e) =
    by_test (Memᴰ o) _ (λ t. absurd (n (ap id_of e ∙ sym (eqb→eq i x.id t)))) (λ t. Memᴰ.head e)
without_mem {o} i n (Memᴰ.tail m) =
    by_test (Memᴰ o) _ (λ t. without_mem i n m) (λ t. Memᴰ.tail (without_mem i n m))

-- it is the one that rests under its id
pub find_mem : {o : Order} {os : List Order} → Memᴰ o os → Distinct os → find o.id os ≡ some o
unfolding find
find_mem {o} (Memᴰ.head {x = x} e) d = pick_yes (eqb o.id x.id) _ _ (eq→T (ap id_of e)) ∙ ap some (sym e)
find_mem {o} (Memᴰ.tail {x = x} m) d =
    pick_no (eqb o.id x.id) _ _ (ne→T o.id x.id (taken_all (Other x.id) (mem_taken m d.1) d.0).0) ∙ find_mem m d.1

pub same_id : {o x : Order} {os : List Order} → Memᴰ o os → Memᴰ x os → Distinct os → o.id ≡ x.id → o ≡ x
same_id {o} {x} {os} m n d e =
    let z : some o ≡ some x = sym (find_mem m d) ∙ ap (λ (i : ℕ). find i os) e ∙ find_mem n d in
    cc
