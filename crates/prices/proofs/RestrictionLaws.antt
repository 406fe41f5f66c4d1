-- Laws of the short sale restriction. Assumes nothing.
use Prim.Native.Nat.{ℕ, ◌*◌, ◌≤◌}
use native.Mathlib.Omega.{arith}
use mathlib.Core.Path.{◌≡◌, refl}
use mathlib.Core.Bool.{true, false}
use lib.Dec.{T, le→leb}
use Rattle.prices.specs.Restriction.{triggers, phase_after_tape, phase_after_day_end, restriction_on}
use Rattle.numbers.proofs.TestLaws.{by_test, tests}

-- what triggers the restriction also does so from a higher close or at a lower price
pub triggers_monotone : (c d p q : ℕ) → c ≤ d → p ≤ q → T (triggers c q) → T (triggers d p)
unfolding triggers
triggers_monotone c d p q h l t = le→leb (10 * p) (9 * d) (omega tests)

-- a phase stays a phase
pub tape_phase : (close phase p : ℕ) → phase ≤ 2 → phase_after_tape close phase p ≤ 2
unfolding phase_after_tape
tape_phase close phase p h = by_test (λ (x : ℕ). x ≤ 2) _ (λ t. omega arith) (λ t. h)

pub day_end_phase : (phase : ℕ) → phase_after_day_end phase ≤ 2
unfolding phase_after_day_end
day_end_phase phase = by_test (λ (x : ℕ). x ≤ 2) _ (λ t. omega arith) (λ t. omega arith)

-- phase 0 is off, 1 and 2 are on

pub off_in_0 : restriction_on 0 ≡ false
unfolding restriction_on
off_in_0 = refl

pub on_in_1 : restriction_on 1 ≡ true
unfolding restriction_on
on_in_1 = refl

pub on_in_2 : restriction_on 2 ≡ true
unfolding restriction_on
on_in_2 = refl
