-- Laws of tabulated lists: each says what holds of the list from what holds at each index. Assumes nothing.
use Prim.Native.Nat.{ℕ, zero, suc, ◌+◌, ◌-◌, ◌≤◌, ◌<◌, zero-le, suc-le-suc}
use native.Mathlib.Nat.{le_of_suc-le-suc, not-suc-le-zero, sub-zero, suc-sub-suc}
use native.Mathlib.Decide.{dec_lt}
use native.Mathlib.Omega.{arith}
use mathlib.Core.Path.{◌≡◌, refl, ap, ap₂, ◌∙◌}
use mathlib.Core.List.{List, [], ◌∷◌, ◌++◌}
use lib.ListN.{length, get_or, drop}
use Rattle.numbers.specs.Tests.{All}
use Rattle.numbers.specs.Lists.{tabulate}

pub by_order {ℓ} : {P : Type ℓ} (m n : ℕ) → (m < n → P) → (n ≤ m → P) → P
by_order m n a b = elim (dec_lt m n) [ yes h ↦ a h | no h ↦ b (omega arith) ]

module _ {ℓ} {A : Type ℓ} where
  pub length-tabulate : (n : ℕ) (f : ℕ → A) → length (tabulate n f) ≡ n
  length-tabulate zero f = refl
  length-tabulate (suc n) f = ap suc (length-tabulate n (λ k. f (suc k)))

  pub get_d_tabulate : (n : ℕ) (f : ℕ → A) (i : ℕ) (d : A) → i < n → get_or (tabulate n f) i d ≡ f i
  get_d_tabulate zero f i d h = absurd (not-suc-le-zero h)
  get_d_tabulate (suc n) f zero d h = refl
  get_d_tabulate (suc n) f (suc i) d h = get_d_tabulate n (λ k. f (suc k)) i d (le_of_suc-le-suc h)

  pub tabulate_ext : (n : ℕ) (f g : ℕ → A) → ((i : ℕ) → i < n → f i ≡ g i) → tabulate n f ≡ tabulate n g
  tabulate_ext zero f g h = refl
  tabulate_ext (suc n) f g h =
      ap₂ ◌∷◌ (h zero (suc-le-suc zero-le)) (tabulate_ext n (λ k. f (suc k)) (λ k. g (suc k)) (λ i p. h (suc i) (suc-le-suc p)))

-- tabulated lists from a position on, and with one more at the end

module _ {ℓ} {A : Type ℓ} where
  pub drop-tabulate : (k n : ℕ) (f : ℕ → A) → k ≤ n → drop k (tabulate n f) ≡ tabulate (n - k) (λ i. f (k + i))
  drop-tabulate zero n f h = rw sub-zero (tabulate_ext n f (λ i. f (0 + i)) (λ i l. ap f (omega arith)))
  drop-tabulate (suc k) zero f h = absurd (not-suc-le-zero h)
  drop-tabulate (suc k) (suc n) f h =
      rw suc-sub-suc
      (drop-tabulate k n (λ i. f (suc i)) (le_of_suc-le-suc h) ∙ tabulate_ext (n - k) (λ i. f (suc (k + i))) (λ i. f (suc k + i)) (λ i l. ap f (omega arith)))

  pub tabulate_last : (n : ℕ) (f : ℕ → A) → tabulate (suc n) f ≡ tabulate n f ++ f n ∷ []
  tabulate_last zero f = refl
  tabulate_last (suc n) f = ap (λ (l : List A). f zero ∷ l) (tabulate_last n (λ k. f (suc k)))

-- what holds of each element, and what holds at each index

pub all_tabulate : {A : Type 0} (P : A → Type 0) (n : ℕ) (f : ℕ → A) → All P (tabulate n f) → (i : ℕ) → i < n → P (f i)
all_tabulate P zero f h i l = absurd (not-suc-le-zero l)
all_tabulate P (suc n) f h zero l = h.0
all_tabulate P (suc n) f h (suc i) l = all_tabulate P n (λ k. f (suc k)) h.1 i (le_of_suc-le-suc l)

pub tabulate_all : {A : Type 0} (P : A → Type 0) (n : ℕ) (f : ℕ → A) → ((i : ℕ) → i < n → P (f i)) → All P (tabulate n f)
tabulate_all P zero f h = tt
tabulate_all P (suc n) f h = (h zero (suc-le-suc zero-le), tabulate_all P n (λ k. f (suc k)) (λ i l. h (suc i) (suc-le-suc l)))
