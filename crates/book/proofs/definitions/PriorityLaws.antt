-- Laws of priority: a counterparty is the best of the orders that are reached. Assumes nothing.
use Prim.Native.Nat.{ℕ, ◌+◌, ◌≤◌, ◌<◌}
use native.Mathlib.Omega.{arith}
use native.Mathlib.Decide.{dec_lt}
use mathlib.Core.Path.{◌≡◌, refl, sym, subst}
use mathlib.Core.Bool.{Bool, true, false, not, ◌&&◌, ◌||◌}
use mathlib.Core.Logic.{◌⊎◌, inl, inr}
use mathlib.Core.Option.{Option, none, some}
use mathlib.Core.List.{List, [], ◌∷◌}
use lib.Dec.{T, ltb, eqb, ltb→lt, lt→ltb, eqb→eq, not_T, T_not}
use Rattle.numbers.specs.Tests.{pick, All}
use Rattle.numbers.proofs.TestLaws.{by_test, and_T, T_and, or_T, T-inl, T-inr, eq→T}
use Rattle.book.specs.declared.Order.{Order}
use Rattle.book.specs.rules.Orders.{is_buy}
use Rattle.book.specs.rules.Matching.{reaches, better, better_of, best_from, best, counterparty}

-- the first three numbers come before the other three: by the lower p, then the higher s, then the lower t; and they don't
abbrev Before : ℕ → ℕ → ℕ → ℕ → ℕ → ℕ → Type 0
Before p s t p' s' t' = (p < p') ⊎ ((p ≡ p') × ((s' < s) ⊎ ((s ≡ s') × (t < t'))))

abbrev NotBefore : ℕ → ℕ → ℕ → ℕ → ℕ → ℕ → Type 0
NotBefore p s t p' s' t' = (p' < p) ⊎ ((p ≡ p') × ((s < s') ⊎ ((s ≡ s') × (t' ≤ t))))

-- the test of `better`; e tests that p and p' are equal
abbrev before_test : Bool → ℕ → ℕ → ℕ → ℕ → ℕ → ℕ → Bool
before_test e p s t p' s' t' = ltb p p' || (e && (ltb s' s || (eqb s s' && ltb t t')))

module _ (e : Bool) (p s t p' s' t' : ℕ) where
  test_before : (T e → p ≡ p') → T (before_test e p s t p' s' t') → Before p s t p' s' t'
  test_before k h = first (or_T (ltb p p') _ h)
    where
      third : T (ltb s' s) ⊎ T (eqb s s' && ltb t t') → (s' < s) ⊎ ((s ≡ s') × (t < t'))
      third (inl x) = inl (ltb→lt s' s x)
      third (inr x) = let r = and_T (eqb s s') (ltb t t') x in inr (eqb→eq s s' r.0, ltb→lt t t' r.1)

      first : T (ltb p p') ⊎ T (e && (ltb s' s || (eqb s s' && ltb t t'))) → Before p s t p' s' t'
      first (inl x) = inl (ltb→lt p p' x)
      first (inr x) = let r = and_T e _ x in inr (k r.0, third (or_T (ltb s' s) _ r.1))

  before_test_lem : (p ≡ p' → T e) → Before p s t p' s' t' → T (before_test e p s t p' s' t')
  before_test_lem k (inl x) = T-inl (ltb p p') _ (lt→ltb p p' x)
  before_test_lem k (inr (x, inl y)) = T-inr (ltb p p') _ (T_and e _ (k x) (T-inl (ltb s' s) _ (lt→ltb s' s y)))
  before_test_lem k (inr (x, inr (y, z))) =
      T-inr (ltb p p') _ (T_and e _ (k x) (T-inr (ltb s' s) _ (T_and (eqb s s') _ (eq→T y) (lt→ltb t t' z))))

module _ (p s t p' s' t' : ℕ) where
  either : Before p s t p' s' t' ⊎ NotBefore p s t p' s' t'
  either = price (dec_lt p p') (dec_lt p' p)
    where
      stamp : p ≡ p' → s ≡ s' → Dec (t < t') → Before p s t p' s' t' ⊎ NotBefore p s t p' s' t'
      stamp x y (yes l) = inl (inr (x, inr (y, l)))
      stamp x y (no l) = inr (inr (x, inr (y, omega arith)))

      show : p ≡ p' → Dec (s' < s) → Dec (s < s') → Before p s t p' s' t' ⊎ NotBefore p s t p' s' t'
      show x (yes l) m = inl (inr (x, inl l))
      show x (no l) (yes m) = inr (inr (x, inl m))
      show x (no l) (no m) = stamp x (omega arith) (dec_lt t t')

      price : Dec (p < p') → Dec (p' < p) → Before p s t p' s' t' ⊎ NotBefore p s t p' s' t'
      price (yes l) m = inl (inl l)
      price (no l) (yes m) = inr (inl m)
      price (no l) (no m) = show (omega arith) (dec_lt s' s) (dec_lt s s')

  never_both : Before p s t p' s' t' → NotBefore p s t p' s' t' → ⊥
  never_both (inl x) (inl y) = omega arith
  never_both (inl x) (inr y) = omega (arith, y.0)
  never_both (inr x) (inl y) = omega (arith, x.0)
  never_both (inr (x, inl y)) (inr (z, inl v)) = omega arith
  never_both (inr (x, inl y)) (inr (z, inr v)) = omega (arith, v.0)
  never_both (inr (x, inr y)) (inr (z, inl v)) = omega (arith, y.0)
  never_both (inr (x, inr y)) (inr (z, inr v)) = omega (arith, y.1, v.1)

before_not : {p s t p' s' t' : ℕ} → Before p s t p' s' t' → NotBefore p' s' t' p s t
before_not (inl x) = inl x
before_not (inr (x, inl y)) = inr (sym x, inl y)
before_not (inr (x, inr (y, z))) = inr (sym x, inr (sym y, omega arith))

-- the numbers of the equation are prices, whichever of two counts as the better one
not_before_trans : {p s t p' s' t' r r' s'' t'' u u' : ℕ} → u + p' + r' ≡ u' + p + r → NotBefore p s t p' s' t' → NotBefore r s' t' r' s'' t'' → NotBefore u s t u' s'' t''
not_before_trans e (inl x) (inl y) = inl (omega arith)
not_before_trans e (inl x) (inr y) = inl (omega (arith, y.0))
not_before_trans e (inr x) (inl y) = inl (omega (arith, x.0))
not_before_trans e (inr (x, inl y)) (inr (z, inl v)) = inr (omega arith, inl (omega arith))
not_before_trans e (inr (x, inl y)) (inr (z, inr v)) = inr (omega arith, inl (omega (arith, v.0)))
not_before_trans e (inr (x, inr y)) (inr (z, inl v)) = inr (omega arith, inl (omega (arith, y.0)))
not_before_trans e (inr (x, inr y)) (inr (z, inr v)) = inr (omega arith, inr (omega (arith, y.0, v.0), omega (arith, y.1, v.1)))

-- `better`, for a buy or for a sell
better_for : Bool → Order → Order → Bool
better_for buy a b =
    pick buy (ltb a.price b.price) (ltb b.price a.price) || (eqb a.price b.price && (ltb b.show a.show || (eqb a.show b.show && ltb a.stamp b.stamp)))

abbrev NotBetter : Bool → Order → Order → Type 0
NotBetter true a b = NotBefore a.price a.show a.stamp b.price b.show b.stamp
NotBetter false a b = NotBefore b.price a.show a.stamp a.price b.show b.stamp

abbrev IsBetter : Bool → Order → Order → Type 0
IsBetter true a b = Before a.price a.show a.stamp b.price b.show b.stamp
IsBetter false a b = Before b.price a.show a.stamp a.price b.show b.stamp

is_better : (buy : Bool) (a b : Order) → T (better_for buy a b) → IsBetter buy a b
unfolding better_for pick
is_better true a b h = test_before (eqb a.price b.price) a.price a.show a.stamp b.price b.show b.stamp (λ t. eqb→eq _ _ t) h
is_better false a b h = test_before (eqb a.price b.price) b.price a.show a.stamp a.price b.show b.stamp (λ t. sym (eqb→eq _ _ t)) h

better_is : (buy : Bool) (a b : Order) → IsBetter buy a b → T (better_for buy a b)
unfolding better_for pick
better_is true a b h = before_test_lem (eqb a.price b.price) a.price a.show a.stamp b.price b.show b.stamp (λ e. eq→T e) h
better_is false a b h = before_test_lem (eqb a.price b.price) b.price a.show a.stamp a.price b.show b.stamp (λ e. eq→T (sym e)) h

not_better : (buy : Bool) (a b : Order) → T (not (better_for buy a b)) → NotBetter buy a b
not_better buy a b h = go buy a b (λ x. T_not (better_for buy a b) h (better_is buy a b x))
  where
    other : {A B : Type 0} → A ⊎ B → (A → ⊥) → B
    other (inl x) k = absurd (k x)
    other (inr x) k = x

    go : (buy : Bool) (a b : Order) → (IsBetter buy a b → ⊥) → NotBetter buy a b
    go true a b k = other (either a.price a.show a.stamp b.price b.show b.stamp) k
    go false a b k = other (either b.price a.show a.stamp a.price b.show b.stamp) k

better_not : (buy : Bool) (a b : Order) → NotBetter buy a b → T (not (better_for buy a b))
better_not buy a b h = not_T (better_for buy a b) (λ t. go buy a b (is_better buy a b t) h)
  where
    go : (buy : Bool) (a b : Order) → IsBetter buy a b → NotBetter buy a b → ⊥
    go true a b x y = never_both a.price a.show a.stamp b.price b.show b.stamp x y
    go false a b x y = never_both b.price a.show a.stamp a.price b.show b.stamp x y

-- `better` is a strict order, and of two orders with different stamps one is better

pub better_self : (w a : Order) → T (not (better w a a))
unfolding better better_for
better_self w a = better_not (is_buy w) a a (go (is_buy w))
  where
    go : (buy : Bool) → NotBetter buy a a
    go true = inr (refl, inr (refl, omega arith))
    go false = inr (refl, inr (refl, omega arith))

pub better_asym : (w a b : Order) → T (better w a b) → T (not (better w b a))
unfolding better better_for
better_asym w a b h = better_not (is_buy w) b a (go (is_buy w) (is_better (is_buy w) a b h))
  where
    go : (buy : Bool) → IsBetter buy a b → NotBetter buy b a
    go true x = before_not x
    go false x = before_not x

pub not_better_trans : (w a b c : Order) → T (not (better w a b)) → T (not (better w b c)) → T (not (better w a c))
unfolding better better_for
not_better_trans w a b c h k = better_not (is_buy w) a c (go (is_buy w) (not_better (is_buy w) a b h) (not_better (is_buy w) b c k))
  where
    go : (buy : Bool) → NotBetter buy a b → NotBetter buy b c → NotBetter buy a c
    go true x y = not_before_trans (omega arith) x y
    go false x y = not_before_trans (omega arith) x y

pub better_total : (w a b : Order) → (a.stamp ≡ b.stamp → ⊥) → T (not (better w a b)) → T (better w b a)
unfolding better better_for
better_total w a b z h = better_is (is_buy w) b a (go (is_buy w) (not_better (is_buy w) a b h))
  where
    before_other : {p s p' s' : ℕ} → NotBefore p s a.stamp p' s' b.stamp → Before p' s' b.stamp p s a.stamp
    before_other (inl x) = inl x
    before_other (inr (x, inl y)) = inr (sym x, inl y)
    before_other (inr (x, inr (y, l))) = inr (sym x, inr (sym y, omega arith))

    go : (buy : Bool) → NotBetter buy a b → IsBetter buy b a
    go true x = before_other x
    go false x = before_other x

-- the search for the best order

-- a isn't better than what the search gave
abbrev NoBetter : Order → Order → Option Order → Type 0
NoBetter w a none = Unit {0}
NoBetter w a (some r) = T (not (better w a r))

no_better_trans : (w a b : Order) (r : Option Order) → T (not (better w a b)) → NoBetter w b r → NoBetter w a r
no_better_trans w a b none h k = tt
no_better_trans w a b (some r) h k = not_better_trans w a b r h k

-- neither the best so far nor an order that is reached is better
abbrev NoneBetter : Order → Option Order → List Order → Option Order → Type 0
NoneBetter w none os r = All (λ (o : Order). T (reaches w o) → NoBetter w o r) os
NoneBetter w (some y) os r = NoBetter w y r × All (λ (o : Order). T (reaches w o) → NoBetter w o r) os

best_from_best : (w : Order) (x : Option Order) (os : List Order) → NoneBetter w x os (best_from w x os)
unfolding best_from better_of
best_from_best w none [] = tt
best_from_best w (some y) [] = (better_self w y, tt)
best_from_best w none (o ∷ os) =
    by_test
    (λ (z : Option Order). NoneBetter w none (o ∷ os) (best_from w z os))
    _
    (λ t. let r = best_from_best w (some o) os in ((λ s. r.0), r.1))
    (λ t. ((λ s. absurd (T_not (reaches w o) t s)), best_from_best w none os))
best_from_best w (some y) (o ∷ os) =
    by_test
    (λ (z : Option Order). NoneBetter w (some y) (o ∷ os) (best_from w z os))
    _
    (λ t. by_test (λ (z : Option Order). NoneBetter w (some y) (o ∷ os) (best_from w z os)) _ (λ b. let r = best_from_best w (some o) os in (no_better_trans w y o (best_from w (some o) os) (better_asym w o y b) r.0, ((λ s. r.0), r.1))) (λ b. let r = best_from_best w (some y) os in (r.0, ((λ s. no_better_trans w o y (best_from w (some y) os) b r.0), r.1))))
    (λ t. let r = best_from_best w (some y) os in (r.0, ((λ s. absurd (T_not (reaches w o) t s)), r.1)))

-- no order that is reached is better than the counterparty
pub counterparty_best : (w o : Order) (os : List Order) → counterparty w os ≡ some o → All (λ (x : Order). T (reaches w x) → T (not (better w x o))) os
unfolding counterparty best
counterparty_best w o os =
    by_test
    (λ (r : Option Order). r ≡ some o → All (λ (x : Order). T (reaches w x) → T (not (better w x o))) os)
    _
    (λ t e. absurd (never e))
    (λ t e. subst (NoneBetter w none os) e (best_from_best w none os))
  where
    never : none ≡ some o → ⊥
    never e = let z : ◌≡◌ {A = ℕ} 0 1 = cc in omega arith
