-- No. 10: 512 timed prices of one second lead from open to the examples' venue of 512 kept prices. Assumes nothing.
use Prim.Native.Nat.{ℕ, zero, suc, ◌+◌, ◌≤◌, ◌<◌}
use native.Mathlib.Omega.{arith}
use mathlib.Core.Path.{◌≡◌, refl, ap, ◌∙◌, subst}
use mathlib.Core.List.{List, [], ◌∷◌, ◌++◌, map}
use mathlib.Core.Option.{none}
use lib.Dec.{T}
use lib.ListN.{replicate, length-replicate, replicate-append-replicate}
use borrow.Author.Tests.{lt-ltb, le-leb}
use Rattle.numbers.specs.Tests.{pick}
use Rattle.numbers.proofs.TestLaws.{T_true}
use Rattle.prices.specs.declared.TimedPrice.{TimedPrice}
use Rattle.prices.specs.Prices.{is_step, legal}
use Rattle.prices.specs.Restriction.{triggers, phase_after_tape}
use Rattle.prices.specs.Pause.{within, keeping, most_kept, last_time_from, last_time}
use Rattle.prices.proofs.PauseLaws.{within_yes, within_none}
use Rattle.engine.specs.declared.Event.{Event}
use Rattle.engine.specs.rules.Pass.{pass_over}
use Rattle.engine.specs.rules.Venue.{Venue, opened, the_pass, effect_of}
use Rattle.engine.specs.rules.Sound.{most_events, sound}
use Rattle.engine.specs.rules.Refusals.{refuse_unless, refusal_of_time, refusal_of_kind, least_buffer, refusal}
use Rattle.engine.specs.rules.Run.{step_unless, step, run}
use Rattle.engine.specs.claims.Examples.{call_of, timed_at, timed, kept_venue, in_one_second, FullWatchReached}
use Rattle.engine.proofs.demand3.SoundLaws.{venue_sound}
use Rattle.engine.proofs.demand3.ReachedLaws.{step_sound, opened_sound}

-- n times the same price: none is before the new one less 300 seconds, so all "are kept"

module _ (x : TimedPrice) where
  same_within : (n : ℕ) → within x.time (replicate n x) ≡ replicate n x
  same_within zero = within_none x.time
  same_within (suc n) = within_yes x.time x (replicate n x) (omega arith) ∙ ap (λ (l : List TimedPrice). x ∷ l) (same_within n)

  same_kept : (n : ℕ) → keeping x.time x.price (replicate n x) ≡ replicate (n + 1) x
  unfolding keeping
  same_kept n = ap (λ (l : List TimedPrice). l ++ x ∷ []) (same_within n) ∙ replicate-append-replicate n 1 x

  same_last_from : (k n : ℕ) → k ≤ x.time → last_time_from k (replicate n x) ≤ x.time
  same_last_from k zero h = h
  same_last_from k (suc n) h = same_last_from x.time n (omega arith)

  same_last : (n : ℕ) → last_time (replicate n x) ≤ x.time
  unfolding last_time
  same_last n = same_last_from 0 n (omega arith)

-- one timed price, the close: the phase stays, and no order rests

module _ (s : ℕ) (legal-price : T (legal s 100_000)) where
  abbrev x : TimedPrice
  x = timed_at 1_000 100_000

  abbrev next : Event
  next = timed 1_000 100_000

  abbrev after : ℕ → Venue
  after n = kept_venue s (in_one_second n)

  allowed : (n : ℕ) → n < most_kept → T (sound (after n)) → refusal (after n) next least_buffer ≡ none
  unfolding refusal refusal_of_kind refusal_of_time refuse_unless
  allowed n l t =
      rw (T_true (sound (after n)) t, same_within x n, length-replicate n x, lt-ltb n most_events (omega (arith, l)), T_true (legal s 100_000) legal-price, le-leb (last_time (in_one_second n)) 1_000 (same_last x n), lt-ltb n most_kept l) refl

  stepped : (n : ℕ) → n < most_kept → T (sound (after n)) → (step (after n) next least_buffer).venue ≡ after (n + 1)
  unfolding step step_unless effect_of the_pass pass_over phase_after_tape triggers pick
  stepped n l t = rw (allowed n l t, same_kept x n, length-replicate n x, length-replicate (n + 1) x) refl

  all_stepped : (n i : ℕ) → i + n ≤ most_kept → T (sound (after i)) → (run (after i) (map call_of (replicate n next))).venue ≡ after (i + n)
  unfolding run
  all_stepped zero i l t = let as_many : i ≡ i + 0 = omega arith in ap after as_many
  all_stepped (suc n) i l t =
      let e = stepped i (omega (arith, l)) t in
      let as_many : i + 1 + n ≡ i + suc n = omega arith in
      ap (λ (v : Venue). (run v (map call_of (replicate n next))).venue) e
      ∙ all_stepped n (i + 1) (omega (arith, l)) (subst (λ (v : Venue). T (sound v)) e (step_sound (after i) next least_buffer t))
      ∙ ap after as_many

reached : (s : ℕ) → T (is_step s) → T (legal s 100_000) → (run (opened s 100_000) (map call_of (replicate 512 (timed 1_000 100_000)))).venue ≡ kept_venue s (in_one_second 512)
unfolding opened
reached s i l = all_stepped s l 512 0 (omega arith) (venue_sound (opened s 100_000) (opened_sound s 100_000 i l))

pub full_watch_reached : FullWatchReached
unfolding is_step legal
full_watch_reached = (reached 100 tt tt, (reached 50 tt tt, tt))
