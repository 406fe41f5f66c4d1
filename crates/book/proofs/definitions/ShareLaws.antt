-- Laws of amounts that count where two ids are the same. Assumes nothing.
use Prim.Native.Nat.{ℕ, ◌+◌, ◌-◌, ◌≤◌}
use native.Mathlib.Omega.{arith}
use mathlib.Core.Path.{◌≡◌, refl}
use mathlib.Core.Bool.{Bool, true, false}
use lib.Dec.{eqb, eqb_refl}
use Rattle.numbers.specs.Tests.{pick}
use Rattle.numbers.proofs.TestLaws.{by_test, pick_yes, pick_no, ne→T}
use Rattle.book.specs.rules.Orders.{if_same}

pub if_same_same : (k n : ℕ) → if_same k k n ≡ n
unfolding if_same
if_same_same k n = pick_yes (eqb k k) _ _ (eqb_refl k)

pub if_same_other : (k j n : ℕ) → (k ≡ j → ⊥) → if_same k j n ≡ 0
unfolding if_same
if_same_other k j n h = pick_no (eqb k j) _ _ (ne→T k j h)

pub if_same_zero : (k j : ℕ) → if_same k j 0 ≡ 0
unfolding if_same
if_same_zero k j = by_test (λ (x : ℕ). x ≡ 0) (eqb k j) (λ h. refl) (λ h. refl)

pub if_same_plus : (k j m n : ℕ) → if_same k j (m + n) ≡ if_same k j m + if_same k j n
unfolding if_same pick
if_same_plus k j m n = go (eqb k j)
  where
    go : (b : Bool) → pick b (m + n) 0 ≡ pick b m 0 + pick b n 0
    go true = refl
    go false = refl

pub if_same_less : (k j n q : ℕ) → q ≤ n → if_same k j (n - q) + if_same k j q ≡ if_same k j n
unfolding if_same pick
if_same_less k j n q h = go (eqb k j)
  where
    go : (b : Bool) → pick b (n - q) 0 + pick b q 0 ≡ pick b n 0
    go true = omega arith
    go false = refl
