-- Bit lengths, and the count of a number's bytes by its bit length. Assumes nothing.
use Prim.Native.Nat.{ℕ, zero, suc, ◌+◌, ◌-◌, ◌^◌, ◌/◌, ◌≤◌, ◌<◌}
use native.Mathlib.Decide.{dec_lt, dec_le}
use native.Mathlib.Omega.{arith}
use mathlib.Core.Path.{◌≡◌, refl, sym, ap, ◌∙◌}
use lib.ListN.{length}
use lib.Pow.{pow_pos, pow_mono, pow-add}
use lib.Count.{count_leading_zeros, leading_top, leading_of_zero}
use borrow.Author.Tests.{ne_eqb}
use Rattle.numbers.specs.Tests.{pick}
use Rattle.numbers.specs.SevenBit.{bytes_of, byte_count, BitLength, length_taken, count_of_bits}
use Rattle.numbers.proofs.ByteLaws.{length_last, length_more}

-- a number has one bit length
pub bit_length_unique : (x m n : ℕ) → BitLength x m → BitLength x n → m ≡ n
bit_length_unique zero m n h k = h.none refl ∙ sym (k.none refl)
bit_length_unique (suc x) m n h k =
    elim (dec_lt m n) [
      | yes l ↦ absurd (below m n l h.high (k.low (omega arith)))
      | no l ↦ elim (dec_lt n m) [ yes r ↦ absurd (below n m r k.high (h.low (omega arith))) | no r ↦ omega arith ]
    ]
  where
    below : (m n : ℕ) → m < n → suc x < 2 ^ m → 2 ^ (n - 1) ≤ suc x → ⊥
    below m n l a b = let c : 2 ^ m ≤ 2 ^ (n - 1) = pow_mono {i = m} {j = n - 1} (omega arith) in omega arith

-- "64 less its leading zeros", at any width
pub bit_length_of : (k x : ℕ) → x < 2 ^ k → BitLength x (k - count_leading_zeros k x)
bit_length_of k zero h = record { none = λ e. omega (arith, leading_of_zero k); low = λ p. absurd (omega arith); high = below }
  where
    below : 0 < 2 ^ (k - count_leading_zeros k zero)
    below = pow_pos (k - count_leading_zeros k zero)
bit_length_of k (suc x) h =
    let t = leading_top k (suc x) (omega arith) h in
    let e : k - count_leading_zeros k (suc x) ≡ suc t.0 = omega (arith, t.1) in
    let d : suc t.0 - 1 ≡ t.0 = omega arith in
    rw e (record { none = λ z. absurd (omega arith); low = λ p. rw d t.2; high = t.3 })

-- the formula's count: one for at most seven bits, and one more for seven more
count_small : (n : ℕ) → n ≤ 7 → count_of_bits n ≡ 1
unfolding count_of_bits length_taken pick
count_small zero h = refl
count_small (suc n) h = rw (ne_eqb (suc n) 0 (λ e. omega arith)) (omega arith)

count_more : (n : ℕ) → count_of_bits (n + 8) ≡ suc (count_of_bits (n + 1))
unfolding count_of_bits length_taken pick
count_more n = rw (ne_eqb (n + 8) 0 (λ e. omega arith), ne_eqb (n + 1) 0 (λ e. omega arith)) (omega arith)

-- a number below 2 ^ k has at most k bits
bits_bound : (k x n : ℕ) → x < 2 ^ k → BitLength x n → n ≤ k
bits_bound k zero n l h = omega (arith, h.none refl)
bits_bound k (suc x) n l h =
    elim (dec_le n k) [
      | yes r ↦ r
      | no r ↦ absurd (let c : 2 ^ k ≤ 2 ^ (n - 1) = pow_mono {i = k} {j = n - 1} (omega arith) in omega (arith, h.low (omega arith)))
    ]

-- with eight bits or more, the first group takes seven of them
bits_more : (x n : ℕ) → BitLength x n → 128 ≤ x → (m : ℕ) × (n ≡ m + 8) × BitLength (x / 128) (m + 1)
bits_more x n h l = (m, e, record { none = λ z. absurd (omega arith); low = λ p. rw one (omega (arith, pow-add 2 m 7, low)); high = omega (arith, pow-add 2 m 1, pow-add 2 m 8, high) })
  where
    eight : Dec (8 ≤ n) → 8 ≤ n
    eight (yes r) = r
    eight (no r) = absurd (let c : 2 ^ n ≤ 2 ^ 7 = pow_mono {i = n} {j = 7} (omega arith) in omega (arith, h.high))

    m : ℕ
    m = n - 8

    e : n ≡ m + 8
    e = omega (arith, eight (dec_le 8 n))

    one : (m + 1) - 1 ≡ m
    one = omega arith

    low : 2 ^ (m + 7) ≤ x
    low = let d : n - 1 ≡ m + 7 = omega (arith, e) in rw d at (h.low (omega arith))

    high : x < 2 ^ (m + 8)
    high = rw e at h.high

-- the formula's count is the length of the number's bytes
by_bits : (f x n : ℕ) → x ≤ f → BitLength x n → length (bytes_of x) ≡ count_of_bits n
by_bits zero x n l h = length_last x (omega arith) ∙ sym (count_small n (bits_bound 7 x n (omega arith) h))
by_bits (suc f) x n l h =
    elim (dec_lt x 128) [
      | yes s ↦ length_last x s ∙ sym (count_small n (bits_bound 7 x n s h))
      | no s ↦
          let b = bits_more x n h (omega arith) in
          length_more x (omega arith) ∙ ap suc (by_bits f (x / 128) (b.0 + 1) (omega arith) b.2) ∙ sym (ap count_of_bits b.1 ∙ count_more b.0)
    ]

pub count_by_bits : (x n : ℕ) → BitLength x n → byte_count x ≡ count_of_bits n
unfolding byte_count
count_by_bits x n h = by_bits x x n (omega arith) h
