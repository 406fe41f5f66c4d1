-- No. 6, of prices: what a tape price and a day end make of every phase, for a venue and for a watch. Assumes nothing.
use Prim.Native.Nat.{ℕ, zero, suc, ◌≤◌, ◌<◌}
use native.Mathlib.Omega.{arith}
use mathlib.Core.Path.{◌≡◌, refl, ap, ◌∙◌}
use mathlib.Core.Bool.{Bool, true, false, not, ◌&&◌, or-false}
use lib.Dec.{T, eqb, eqb→eq}
use borrow.Author.Tests.{ne_eqb}
use Rattle.numbers.specs.Tests.{pick}
use Rattle.numbers.proofs.TestLaws.{by_test, pick_yes, T_false, T_and, and-false, neqb}
use Rattle.prices.specs.Prices.{is_step, legal}
use Rattle.prices.specs.Restriction.{triggers, may_start, phase_after_tape, phase_after_day_end, restriction_on}
use Rattle.prices.specs.Watch.{watched_phase, watched}
use Rattle.prices.specs.FallingAgain.{phase_before, PhaseTable, DayEndTable, FallingAgain}

-- what a tape price makes of a phase

starts : (close p : ℕ) → T (triggers close p) → phase_after_tape close 0 p ≡ 1
unfolding phase_after_tape
starts close p t = pick_yes (triggers close p) 1 0 t

pub falls_again_lem : (close p : ℕ) → T (triggers close p) → phase_after_tape close 2 p ≡ 1
unfolding phase_after_tape
falls_again_lem close p t = pick_yes (triggers close p) 1 2 t

pub same_day_stays_lem : (close p : ℕ) → phase_after_tape close 1 p ≡ 1
unfolding phase_after_tape pick
same_day_stays_lem close p = refl

pub no_fall_stays_lem : (close phase p : ℕ) → T (not (triggers close p)) → phase_after_tape close phase p ≡ phase
unfolding phase_after_tape pick
no_fall_stays_lem close phase p t = rw (T_false (triggers close p) t, and-false (may_start phase))

no_phase_stays_lem : (close phase p : ℕ) → 2 < phase → phase_after_tape close phase p ≡ phase
unfolding phase_after_tape pick
no_phase_stays_lem close phase p l = simp (ne_eqb phase 0 (omega arith), ne_eqb phase 2 (omega arith))

-- a price that meets the trigger makes phase 1 of every phase
pub falls : (close phase p : ℕ) → phase ≤ 2 → T (triggers close p) → phase_after_tape close phase p ≡ 1
falls close zero p l t = starts close p t
falls close (suc zero) p l t = same_day_stays_lem close p
falls close (suc (suc zero)) p l t = falls_again_lem close p t
falls close (suc (suc (suc n))) p l t = absurd (omega arith)

-- Before No. 6

as_before_lem : (close phase p : ℕ) → (phase ≡ 2 → ⊥) → phase_after_tape close phase p ≡ phase_before close phase p
unfolding phase_after_tape
as_before_lem close phase p n = rw (ne_eqb phase 2 n, or-false (eqb phase 0))

-- in phase 2 the restriction is on after a tape price, whether or not it starts a period
on_from_2 : (close p : ℕ) → restriction_on (phase_after_tape close 2 p) ≡ restriction_on (phase_before close 2 p)
unfolding phase_after_tape restriction_on pick
on_from_2 close p = by_test (λ (x : ℕ). restriction_on x ≡ true) (triggers close p) (λ t. refl) (λ t. refl)

on_as_before_lem : (close phase p : ℕ) → restriction_on (phase_after_tape close phase p) ≡ restriction_on (phase_before close phase p)
on_as_before_lem close phase p = go (eqb phase 2) refl
  where
    go : (b : Bool) → eqb phase 2 ≡ b → restriction_on (phase_after_tape close phase p) ≡ restriction_on (phase_before close phase p)
    go true e = rw (eqb→eq phase 2 (rw e tt)) (on_from_2 close p)
    go false e = ap restriction_on (as_before_lem close phase p (neqb phase 2 (rw e tt)))

-- the table of a function that gives the phase after the price
table : (close p : ℕ) (after : ℕ → ℕ) → ((phase : ℕ) → after phase ≡ phase_after_tape close phase p) → PhaseTable close p after
table close p after is =
    record {
      starts = λ t. is 0 ∙ starts close p t;
      falls_again = λ t. is 2 ∙ falls_again_lem close p t;
      same_day_stays = is 1 ∙ same_day_stays_lem close p;
      no_fall_stays = λ phase t. is phase ∙ no_fall_stays_lem close phase p t;
      no_phase_stays = λ phase l. is phase ∙ no_phase_stays_lem close phase p l;
      as_before = λ phase n. is phase ∙ as_before_lem close phase p n;
      on_as_before = λ phase. ap restriction_on (is phase) ∙ on_as_before_lem close phase p;
    }

-- a watch has the phase of a venue, at every price that it takes
watched_phase_lem : (s close p : ℕ) → T (is_step s) → T (legal s p) → (phase : ℕ) → (watched s (record { close = close; phase = phase }) p).phase ≡ phase_after_tape close phase p
unfolding watched watched_phase
watched_phase_lem s close p i l phase = pick_yes (is_step s && legal s p) _ phase (T_and (is_step s) (legal s p) i l)

pub day_ends : DayEndTable
unfolding phase_after_day_end pick
day_ends = record { carried = refl; ends = refl; off = refl; again = λ close phase p l t. rw (falls close phase p l t) }

pub falling_again : FallingAgain
falling_again =
    record {
      venue = λ close p. table close p _ (λ phase. refl);
      watch = λ s close p i l. table close p _ (watched_phase_lem s close p i l);
      day_end = day_ends;
    }
