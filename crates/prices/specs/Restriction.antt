-- The short sale restriction (17 CFR 242.201(b)): document 01, "Restriction", and document 02, No. 6. Assumes nothing.
-- "Phase 0 is off, 1 on since today, 2 on since yesterday"
use Rattle.std.specs.Prelude.{ℕ, ◌*◌, Bool, ◌&&◌, ◌||◌, leb, eqb}
use Rattle.numbers.specs.Tests.{pick}

-- the price is 10% or more below the close: "10 × p ≤ 9 × close"
unfoldable pub triggers : ℕ → ℕ → Bool
triggers close p = leb (10 * p) (9 * close)

-- the phases in which a fall starts a period: off, and No. 6: "a new 10% fall on the carried day starts a new period"
abbrev pub may_start : ℕ → Bool
may_start phase = eqb phase 0 || eqb phase 2

-- "In phase 0 a tape price p with 10 × p ≤ 9 × close makes phase 1"; No. 6: "In phase 2 a tape price that meets the trigger gives phase 1 ..
-- In phase 1 it still leaves the phase alone"
unfoldable pub phase_after_tape : ℕ → ℕ → ℕ → ℕ
phase_after_tape close phase p = pick (may_start phase && triggers close p) 1 phase

-- "A day end turns 1 into 2, and 2 or 0 into 0"
unfoldable pub phase_after_day_end : ℕ → ℕ
phase_after_day_end phase = pick (eqb phase 1) 2 0

-- "The restriction is on in phases 1 and 2" ("The account of demand 3")
unfoldable pub restriction_on : ℕ → Bool
restriction_on phase = eqb phase 1 || eqb phase 2
