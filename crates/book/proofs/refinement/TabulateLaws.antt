-- Laws of tabulated lists with an element set, taken out or put in. Assumes nothing.
use Prim.Native.Nat.{ℕ, zero, suc, ◌≤◌, ◌<◌, zero-le, suc-le-suc}
use native.Mathlib.Nat.{le_of_suc-le-suc, not-suc-le-zero}
use native.Mathlib.Omega.{arith}
use mathlib.Core.Path.{◌≡◌, ap₂}
use mathlib.Core.List.{◌∷◌}
use lib.ListN.{set}
use Rattle.numbers.specs.Lists.{tabulate}
use Rattle.numbers.proofs.TabulateLaws.{tabulate_ext}
use Rattle.book.specs.steps.Positions.{remove_at, insert_at}

module _ {ℓ} {A : Type ℓ} where
  pub set-tabulate : (n : ℕ) (f g : ℕ → A) (i : ℕ) (x : A) → i < n → g i ≡ x → ((j : ℕ) → j < n → (j ≡ i → ⊥) → g j ≡ f j) → tabulate n g ≡ set (tabulate n f) i x
  set-tabulate zero f g i x h e o = absurd (not-suc-le-zero h)
  set-tabulate (suc n) f g zero x h e o =
      ap₂ ◌∷◌ e (tabulate_ext n (λ k. g (suc k)) (λ k. f (suc k)) (λ j p. o (suc j) (suc-le-suc p) (λ q. omega arith)))
  set-tabulate (suc n) f g (suc i) x h e o =
      ap₂ ◌∷◌ (o zero (suc-le-suc zero-le) (λ q. omega arith))
      (set-tabulate n (λ k. f (suc k)) (λ k. g (suc k)) i x (le_of_suc-le-suc h) e (λ j p r. o (suc j) (suc-le-suc p) (λ q. r (omega arith))))

  pub remove_tabulate : (n : ℕ) (f g : ℕ → A) (i : ℕ) → i ≤ n → ((j : ℕ) → j < i → g j ≡ f j) → ((j : ℕ) → i ≤ j → j < n → g j ≡ f (suc j)) → tabulate n g ≡ remove_at i (tabulate (suc n) f)
  remove_tabulate n f g zero h a b = tabulate_ext n g (λ k. f (suc k)) (λ j p. b j zero-le p)
  remove_tabulate zero f g (suc i) h a b = absurd (not-suc-le-zero h)
  remove_tabulate (suc n) f g (suc i) h a b =
      ap₂ ◌∷◌ (a zero (suc-le-suc zero-le))
      (remove_tabulate n (λ k. f (suc k)) (λ k. g (suc k)) i (le_of_suc-le-suc h) (λ j p. a (suc j) (suc-le-suc p)) (λ j p q. b (suc j) (suc-le-suc p) (suc-le-suc q)))

  pub insert_tabulate : (n : ℕ) (f g : ℕ → A) (i : ℕ) (x : A) → i ≤ n → ((j : ℕ) → j < i → g j ≡ f j) → g i ≡ x → ((j : ℕ) → i ≤ j → j < n → g (suc j) ≡ f j) → tabulate (suc n) g ≡ insert_at i x (tabulate n f)
  insert_tabulate n f g zero x h a e b = ap₂ ◌∷◌ e (tabulate_ext n (λ k. g (suc k)) f (λ j p. b j zero-le p))
  insert_tabulate zero f g (suc i) x h a e b = absurd (not-suc-le-zero h)
  insert_tabulate (suc n) f g (suc i) x h a e b =
      ap₂ ◌∷◌ (a zero (suc-le-suc zero-le))
      (insert_tabulate n (λ k. f (suc k)) (λ k. g (suc k)) i x (le_of_suc-le-suc h) (λ j p. a (suc j) (suc-le-suc p)) e (λ j p q. b (suc j) (suc-le-suc p) (suc-le-suc q)))
