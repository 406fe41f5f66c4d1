-- The host's own watch of a close: document 01, "Watch", and document 02, No. 2 and No. 6. Assumes nothing.
use Rattle.std.specs.Prelude.{ℕ, ◌&&◌, Result, Ok, Err}
use Rattle.numbers.specs.Tests.{pick}
use Rattle.numbers.specs.Answers.{Outcome, gives, refuses}
use Rattle.prices.specs.declared.Watch.{Watch}
use Rattle.prices.specs.declared.PriceError.{PriceError}
use Rattle.prices.specs.PriceErrors.{price_error_number}
use Rattle.prices.specs.Prices.{is_step, legal, at_step}
use Rattle.prices.specs.Restriction.{phase_after_tape}

-- the phase of a watch after a tape price; a number that isn't a step and a price that isn't legal leave it
unfoldable pub watched_phase : ℕ → ℕ → ℕ → ℕ → ℕ
watched_phase step close phase p = pick (is_step step && legal step p) (phase_after_tape close phase p) phase

-- "a tape price updates the host's own watch record (close, phase) by the phase-0 rule, for any close"
-- No. 2: "The C call and the watch take the step with each call"; No. 6: "The watch follows the same rule"
unfoldable pub watched : ℕ → Watch → ℕ → Watch
watched step w p = record { close = w.close; phase = watched_phase step w.close w.phase p }

-- "3 if the price isn't legal"; otherwise nothing is answered beside the record
unfoldable pub watch_outcome : ℕ → ℕ → Outcome (Unit {0})
watch_outcome step p = at_step step (pick (legal step p) (gives tt) (refuses 3))

-- the paper's terms for an answer
abbrev pub outcome_of_watch : Result (Unit {0}) PriceError → Outcome (Unit {0})
outcome_of_watch (Ok _) = gives tt
outcome_of_watch (Err e) = refuses (price_error_number e)
