-- The bytes of a number, group by group, and how many they are. Assumes nothing.
use Prim.Native.Nat.{ℕ, zero, suc, ◌+◌, ◌*◌, ◌^◌, ◌/◌, ◌%◌, ◌≤◌, ◌<◌}
use native.Mathlib.Nat.{pow-suc}
use native.Mathlib.Decide.{dec_lt}
use native.Mathlib.Omega.{arith}
use mathlib.Core.Path.{◌≡◌, refl, ap}
use native.Mathlib.Numerals.{add-one}
use mathlib.Core.List.{List, [], ◌∷◌, ◌++◌}
use lib.ListN.{length, get_or, drop, length-append, drop_of_length-le}
use lib.Seq.{drop-cons}
use borrow.Author.Tests.{lt-ltb, le-ltb}
use Rattle.numbers.specs.Tests.{pick, All}
use Rattle.numbers.specs.SevenBit.{IsByte, groups, bytes_of, bytes_of_all}
use Rattle.numbers.proofs.TestLaws.{all_append}

-- any count of groups that is enough gives the same bytes
groups_enough : (m n x : ℕ) → x ≤ m → x ≤ n → groups m x ≡ groups n x
unfolding groups pick
groups_enough zero zero x h k = refl
groups_enough zero (suc n) x h k = rw (lt-ltb x 128 (omega arith))
groups_enough (suc m) zero x h k = rw (lt-ltb x 128 (omega arith))
groups_enough (suc m) (suc n) x h k =
    elim (dec_lt x 128) [
      | yes l ↦ rw (lt-ltb x 128 l)
      | no l ↦ rw (le-ltb x 128 (omega arith), groups_enough m n (x / 128) (omega arith) (omega arith))
    ]

-- a number of one group
pub bytes_last : (x : ℕ) → x < 128 → bytes_of x ≡ x ∷ []
unfolding bytes_of groups pick
bytes_last zero h = refl
bytes_last (suc x) h = rw (lt-ltb (suc x) 128 h)

-- a number of more groups: the low group comes first
pub bytes_more : (x : ℕ) → 128 ≤ x → bytes_of x ≡ (x % 128 + 128) ∷ bytes_of (x / 128)
unfolding bytes_of groups pick
bytes_more zero h = absurd (omega arith)
bytes_more (suc x) h =
    rw (le-ltb (suc x) 128 h) (ap (λ l. (suc x % 128 + 128) ∷ l) (groups_enough x (suc x / 128) (suc x / 128) (omega arith) (omega arith)))

pub length_last : (x : ℕ) → x < 128 → length (bytes_of x) ≡ 1
length_last x h = ap length (bytes_last x h)

pub length_more : (x : ℕ) → 128 ≤ x → length (bytes_of x) ≡ suc (length (bytes_of (x / 128)))
length_more x h = ap length (bytes_more x h)

pub length_positive : (x : ℕ) → 1 ≤ length (bytes_of x)
length_positive x =
    elim (dec_lt x 128) [
      | yes l ↦ omega (arith, length_last x l)
      | no l ↦ omega (arith, length_more x (omega arith))
    ]

-- k groups hold every number below 128 ^ k
pub length_bound : (k x : ℕ) → x < 128 ^ suc k → length (bytes_of x) ≤ suc k
length_bound zero x h = omega (arith, length_last x h)
length_bound (suc k) x h =
    elim (dec_lt x 128) [
      | yes l ↦ omega (arith, length_last x l)
      | no l ↦ omega (arith, length_more x (omega arith), length_bound k (x / 128) (omega (arith, pow-suc 128 (suc k))))
    ]

-- the bounds that the layers above count with
pub at_most_10 : (x : ℕ) → x < 2 ^ 64 → length (bytes_of x) ≤ 10
at_most_10 x h = length_bound 9 x (omega arith)

pub at_most_5 : (x : ℕ) → x < 2 ^ 32 → length (bytes_of x) ≤ 5
at_most_5 x h = length_bound 4 x (omega arith)

pub at_most_4 : (x : ℕ) → x < 2 ^ 28 → length (bytes_of x) ≤ 4
at_most_4 x h = length_bound 3 x h

pub at_most_3 : (x : ℕ) → x < 2 ^ 21 → length (bytes_of x) ≤ 3
at_most_3 x h = length_bound 2 x h

-- the bytes of several numbers

pub numbers_size : (xs : List ℕ) → All (λ (x : ℕ). x < 2 ^ 32) xs → length (bytes_of_all xs) ≤ 5 * length xs
unfolding bytes_of_all
numbers_size [] h = omega arith
numbers_size (x ∷ xs) h = simp length-append (omega (arith, at_most_5 x h.0, numbers_size xs h.1))

pub all_next : (xs : List ℕ) (i : ℕ) → i < length xs → bytes_of_all (drop i xs) ≡ bytes_of (get_or xs i 0) ++ bytes_of_all (drop (i + 1) xs)
unfolding bytes_of_all
all_next xs i h = rw (add-one, drop-cons xs i 0)

pub all_none : (xs : List ℕ) (i : ℕ) → length xs ≤ i → bytes_of_all (drop i xs) ≡ []
unfolding bytes_of_all
all_none xs i h = rw (drop_of_length-le xs {i = i} h)

-- a kind below 128 and 32-bit fields
pub kind_size : (k : ℕ) (xs : List ℕ) → k < 128 → All (λ (x : ℕ). x < 2 ^ 32) xs → length (bytes_of_all (k ∷ xs)) ≤ 1 + 5 * length xs
unfolding bytes_of_all
kind_size k xs l h = simp length-append (omega (arith, length_last k l, numbers_size xs h))

-- two numbers of one group
pub two_bytes : (x y : ℕ) → x < 128 → y < 128 → bytes_of_all (x ∷ y ∷ []) ≡ x ∷ y ∷ []
unfolding bytes_of_all
two_bytes x y h k = rw (bytes_last x h, bytes_last y k)

-- the bytes of numbers are bytes

groups_bytes : (n x : ℕ) → x ≤ n → All IsByte (bytes_of x)
groups_bytes zero x h = rw (bytes_last x (omega arith)) (omega (arith, h), tt)
groups_bytes (suc n) x h =
    elim (dec_lt x 128) [
      | yes l ↦ rw (bytes_last x l) (omega (arith, l), tt)
      | no l ↦ rw (bytes_more x (omega arith)) (omega arith, groups_bytes n (x / 128) (omega arith))
    ]

pub numbers_bytes : (xs : List ℕ) → All IsByte (bytes_of_all xs)
unfolding bytes_of_all
numbers_bytes [] = tt
numbers_bytes (x ∷ xs) = all_append IsByte (bytes_of x) (bytes_of_all xs) (groups_bytes x x (omega arith)) (numbers_bytes xs)
