-- Laws of books in rising id. Assumes nothing.
use Prim.Native.Nat.{ℕ, ◌≤◌, ◌<◌}
use native.Mathlib.Omega.{arith}
use mathlib.Core.Bool.{not}
use mathlib.Core.List.{List, [], ◌∷◌, Memᴰ}
use lib.Dec.{T, ltb, leb→le, le→leb}
use Rattle.numbers.specs.Tests.{All}
use Rattle.numbers.proofs.TestLaws.{by_test, and_T, T_and, tests, all_map}
use Rattle.book.specs.declared.Order.{Order}
use Rattle.book.specs.rules.Orders.{reduced, without, insert}
use Rattle.book.specs.rules.Matching.{after_trade}
use Rattle.book.specs.rules.Sound.{ids_rise}
use Rattle.book.proofs.definitions.OrderLaws.{Other, Distinct, taken_all, mem_taken, without_other}

-- ids rise, all above k
abbrev pub Rises : ℕ → List Order → Type 0
Rises k [] = Unit {0}
Rises k (o ∷ os) = (k < o.id) × Rises o.id os

pub ids_rise_rises : (k : ℕ) (os : List Order) → T (ids_rise k os) → Rises k os
unfolding ids_rise
ids_rise_rises k [] t = tt
ids_rise_rises k (o ∷ os) t = let r = and_T (ltb k o.id) (ids_rise o.id os) t in (leb→le _ _ r.0, ids_rise_rises o.id os r.1)

pub rises_ids_rise : (k : ℕ) (os : List Order) → Rises k os → T (ids_rise k os)
unfolding ids_rise
rises_ids_rise k [] h = tt
rises_ids_rise k (o ∷ os) h = T_and (ltb k o.id) (ids_rise o.id os) (le→leb _ _ h.0) (rises_ids_rise o.id os h.1)

pub rises_from : (j k : ℕ) (os : List Order) → j ≤ k → Rises k os → Rises j os
rises_from j k [] l h = tt
rises_from j k (o ∷ os) l h = (omega (arith, h.0), h.1)

pub rises_all : (k : ℕ) (os : List Order) → Rises k os → All (λ (o : Order). k < o.id) os
rises_all k [] h = tt
rises_all k (o ∷ os) h = (h.0, all_map (λ x l. omega (arith, h.0)) os (rises_all o.id os h.1))

pub rises_distinct : (k : ℕ) (os : List Order) → Rises k os → Distinct os
rises_distinct k [] h = tt
rises_distinct k (o ∷ os) h = (all_map (λ x l e. omega arith) os (rises_all o.id os h.1), rises_distinct o.id os h.1)

pub rises_without : (k i : ℕ) (os : List Order) → Rises k os → Rises k (without i os)
unfolding without
rises_without k i [] h = tt
rises_without k i (o ∷ os) h =
    by_test
    (Rises k)
    _
    (λ t. rises_from k o.id (without i os) (omega (arith, h.0)) (rises_without o.id i os h.1))
    (λ t. (h.0, rises_without o.id i os h.1))

pub rises_insert : (k : ℕ) (w : Order) (os : List Order) → k < w.id → All (Other w.id) os → Rises k os → Rises k (insert w os)
unfolding insert
rises_insert k w [] l z h = (l, tt)
rises_insert k w (o ∷ os) l z h =
    by_test
    (Rises k)
    _
    (λ t. (l, (leb→le _ _ t, h.1)))
    (λ t. (h.0, rises_insert o.id w os (further t z.0) z.1 h.1))
  where
    further : T (not (ltb w.id o.id)) → Other w.id o → o.id < w.id
    further t e = omega tests

pub rises_after_trade : (k : ℕ) (o : Order) (q : ℕ) (os : List Order) → Memᴰ o os → Rises k os → Rises k (after_trade o q os)
unfolding after_trade
rises_after_trade k o q os m h =
    by_test (Rises k) _ (λ t. rises_without k o.id os h) (λ t. rises_insert k (reduced q o) (without o.id os) (taken_all (λ (x : Order). k < x.id) (mem_taken m (rises_distinct k os h)) (rises_all k os h)).0 (without_other o.id os) (rises_without k o.id os h))
