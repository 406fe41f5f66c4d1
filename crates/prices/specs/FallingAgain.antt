-- Document 02, No. 6, falling again on the second day, as claims of prices: what a tape price and a day end make of every phase. Assumes nothing.
use Rattle.std.specs.Prelude.{ℕ, ◌≤◌, ◌<◌, ◌≡◌, not, ◌&&◌, T, eqb}
use Rattle.numbers.specs.Tests.{pick}
use Rattle.prices.specs.Prices.{is_step, legal}
use Rattle.prices.specs.Restriction.{triggers, phase_after_tape, phase_after_day_end, restriction_on}
use Rattle.prices.specs.Watch.{watched}

-- Before No. 6: "In phase 0 a tape price p with 10 × p ≤ 9 × close makes phase 1. In phases 1 and 2 a tape price leaves the phase alone"
abbrev pub phase_before : ℕ → ℕ → ℕ → ℕ
phase_before close phase p = pick (eqb phase 0 && triggers close p) 1 phase

-- what a tape price p makes of a phase, `after phase`, under a close
pub record PhaseTable (close p : ℕ) (after : ℕ → ℕ) : Type 0 where
  -- "In phase 0 a tape price p with 10 × p ≤ 9 × close makes phase 1"
  pub starts : T (triggers close p) → after 0 ≡ 1
  -- "In phase 2 a tape price that meets the trigger gives phase 1"
  pub falls_again : T (triggers close p) → after 2 ≡ 1
  -- "In phase 1 it still leaves the phase alone", whatever the price
  pub same_day_stays : after 1 ≡ 1
  -- a price that doesn't meet the trigger leaves every number alone
  pub no_fall_stays : (phase : ℕ) → T (not (triggers close p)) → after phase ≡ phase
  -- every price leaves a number that is no phase alone
  pub no_phase_stays : (phase : ℕ) → 2 < phase → after phase ≡ phase
  -- in every number but 2 as before No. 6
  pub as_before : (phase : ℕ) → (phase ≡ 2 → ⊥) → after phase ≡ phase_before close phase p
  -- in every number, 2 among them, the restriction is on after the price exactly if it was before No. 6
  pub on_as_before : (phase : ℕ) → restriction_on (after phase) ≡ restriction_on (phase_before close phase p)

-- "A day end turns 1 into 2, and 2 or 0 into 0"; so the day end after a fall, in whatever phase that was, makes phase 2
pub record DayEndTable : Type 0 where
  pub carried : phase_after_day_end 1 ≡ 2
  pub ends : phase_after_day_end 2 ≡ 0
  pub off : phase_after_day_end 0 ≡ 0
  pub again : (close phase p : ℕ) → phase ≤ 2 → T (triggers close p) → phase_after_day_end (phase_after_tape close phase p) ≡ 2

-- of a venue, at every price; of a watch, "The watch follows the same rule", at every price that it takes; and of day ends
pub record FallingAgain : Type 0 where
  pub venue : (close p : ℕ) → PhaseTable close p (λ phase. phase_after_tape close phase p)
  pub watch : (s close p : ℕ) → T (is_step s) → T (legal s p) → PhaseTable close p (λ phase. (watched s (record { close = close; phase = phase }) p).phase)
  pub day_end : DayEndTable
