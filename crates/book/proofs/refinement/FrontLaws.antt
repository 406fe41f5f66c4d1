-- Reading the front of the book order by order, as the loop of `read_front` does. Assumes nothing.
use Prim.Native.Nat.{ℕ, zero, suc, ◌+◌, ◌-◌, ◌≤◌, ◌<◌}
use native.Mathlib.Numerals.{add-one}
use native.Mathlib.Omega.{arith}
use mathlib.Core.Path.{◌≡◌, refl, sym, ap, ap₂, ◌∙◌}
use mathlib.Core.Bool.{Bool, true, false}
use mathlib.Core.List.{List, [], ◌∷◌}
use lib.Dec.{leb, leb→le, le→leb}
use lib.ListN.{length, get_or, take, drop, drop_of_length-le}
use lib.Seq.{drop-cons}
use borrow.Author.Tests.{le-leb, lt-leb}
use Rattle.numbers.specs.Tests.{pick}
use Rattle.numbers.proofs.TestLaws.{bool_ext}
use Rattle.book.specs.declared.Order.{Order}
use Rattle.book.specs.declared.FrontRead.{FrontRead}
use Rattle.book.specs.rules.Fill.{shares_reached, all_reached, suffices, least_below, front_length, front_read}
use Rattle.book.specs.rules.Matching.{reaches}
use Rattle.book.specs.rules.Words.{empty_order}

-- reading order by order: n shares are missing, i orders were read
abbrev pub read_on : ℕ → ℕ → Order → List Order → FrontRead
read_on n i w os = record { fills = suffices n w os; read = i + front_length n w os }

least_ext : (m : ℕ) (f g : ℕ → Bool) → ((k : ℕ) → f k ≡ g k) → least_below m f ≡ least_below m g
unfolding least_below
least_ext zero f g h = refl
least_ext (suc m) f g h = ap₂ (λ (b : Bool) (k : ℕ). pick b zero (suc k)) (h zero) (least_ext m (λ k. f (suc k)) (λ k. g (suc k)) (λ k. h (suc k)))

least_zero : (m : ℕ) (f : ℕ → Bool) → f zero ≡ true → least_below m f ≡ zero
unfolding least_below pick
least_zero zero f e = refl
least_zero (suc m) f e = rw e

-- the first order has enough
first_enough : (n : ℕ) (w o : Order) (os : List Order) → 0 < n → n ≤ shares_reached w o → (suffices n w (o ∷ os) ≡ true) × (front_length n w (o ∷ os) ≡ 1)
unfolding suffices front_length least_below all_reached pick
first_enough n w o os l h =
    let e : (k : ℕ) → leb n (shares_reached w o + k) ≡ true = λ k. le-leb n (shares_reached w o + k) (omega (arith, h)) in
    (e (all_reached w os), rw (lt-leb n 0 l) (ap suc (least_zero (length os) (λ k. leb n (all_reached w (o ∷ take k os))) (e (all_reached w [])))))

-- the first order hasn't enough
first_short : (n : ℕ) (w o : Order) (os : List Order) → shares_reached w o < n → (suffices n w (o ∷ os) ≡ suffices (n - shares_reached w o) w os) × (front_length n w (o ∷ os) ≡ suc (front_length (n - shares_reached w o) w os))
unfolding suffices front_length least_below all_reached pick
first_short n w o os h =
    (less (all_reached w os), rw (lt-leb n 0 (omega (arith, h))) (ap suc (least_ext (length os) (λ k. leb n (shares_reached w o + all_reached w (take k os))) (λ k. leb (n - shares_reached w o) (all_reached w (take k os))) (λ k. less (all_reached w (take k os))))))
  where
    less : (k : ℕ) → leb n (shares_reached w o + k) ≡ leb (n - shares_reached w o) k
    less k = bool_ext _ _ (λ t. le→leb (n - shares_reached w o) k (omega (arith, leb→le n (shares_reached w o + k) t))) (λ t. le→leb n (shares_reached w o + k) (omega (arith, h, leb→le (n - shares_reached w o) k t)))

-- the shares of an order that is reached, and of one that isn't
pub shares_of_reached : (w o : Order) → true ≡ reaches w o → shares_reached w o ≡ o.shares
unfolding shares_reached pick
shares_of_reached w o e = rw (← e)

pub shares_of_unreached : (w o : Order) → false ≡ reaches w o → shares_reached w o ≡ 0
unfolding shares_reached pick
shares_of_unreached w o e = rw (← e)

-- the same of the order at the place i
module _ (n : ℕ) (w : Order) (l : List Order) (i : ℕ) (h : i < length l) where
  abbrev next : Order
  next = get_or l i empty_order

  pub read_enough : 0 < n → n ≤ shares_reached w next → read_on n i w (drop i l) ≡ record { fills = true; read = i + 1 }
  read_enough p e =
      let r = first_enough n w next (drop (suc i) l) p e in
      rw (drop-cons l i empty_order h) (ap₂ (λ (b : Bool) (k : ℕ). record { fills = b; read = i + k }) r.0 r.1)

  pub read_short : shares_reached w next < n → read_on n i w (drop i l) ≡ read_on (n - shares_reached w next) (i + 1) w (drop (i + 1) l)
  read_short e =
      let r = first_short n w next (drop (suc i) l) e in
      rw (drop-cons l i empty_order h, add-one) (ap₂ (λ (b : Bool) (k : ℕ). record { fills = b; read = k }) r.0 (ap (λ (k : ℕ). i + k) r.1 ∙ omega arith))

  -- the same, m being what is missing behind that order
  pub read_next : (m : ℕ) → shares_reached w next < n → m ≡ n - shares_reached w next → read_on n i w (drop i l) ≡ read_on m (i + 1) w (drop (i + 1) l)
  read_next m e is =
      read_short e ∙ ap (λ (k : ℕ). read_on k (i + 1) w (drop (i + 1) l)) (sym is)

pub read_start : (w : Order) (l : List Order) → read_on w.shares 0 w (drop 0 l) ≡ front_read w l
unfolding front_read
read_start w l = ap (λ (k : ℕ). record { fills = suffices w.shares w l; read = k }) (omega arith)

pub read_none : (n : ℕ) (w : Order) (l : List Order) (i : ℕ) → 0 < n → length l ≤ i → read_on n i w (drop i l) ≡ record { fills = false; read = i }
unfolding suffices front_length least_below all_reached
read_none n w l i p h = rw (drop_of_length-le l h, lt-leb n 0 p) (ap (λ (k : ℕ). record { fills = false; read = k }) (omega arith))
