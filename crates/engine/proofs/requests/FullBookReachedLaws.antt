-- No. 8: 256 entries lead from open to the full book of the examples. Assumes nothing.
use Prim.Native.Nat.{ℕ, zero, suc, ◌+◌, ◌≤◌, ◌<◌}
use native.Mathlib.Omega.{arith}
use mathlib.Core.Path.{◌≡◌, refl, ap, ◌∙◌, subst}
use mathlib.Core.List.{List, [], ◌∷◌, map}
use mathlib.Core.Option.{none}
use lib.Dec.{T}
use lib.ListN.{length}
use borrow.Author.Tests.{lt-ltb, le-ltb}
use Rattle.numbers.specs.Tests.{pick}
use Rattle.numbers.proofs.TestLaws.{T_true}
use Rattle.prices.specs.Prices.{is_step, legal}
use Rattle.prices.specs.Restriction.{restriction_on}
use Rattle.book.specs.declared.Order.{Order}
use Rattle.book.specs.rules.Orders.{insert}
use Rattle.book.specs.rules.Matching.{reaches, best_from, best, counterparty}
use Rattle.book.proofs.definitions.MatchingLaws.{matching_none}
use Rattle.engine.specs.declared.Event.{Event}
use Rattle.engine.specs.rules.Market.{restricted}
use Rattle.engine.specs.rules.Working.{limit_of, follows_bid, life_of, working_price, order_of, remainder, after_remainder, work}
use Rattle.engine.specs.rules.Venue.{Venue, opened, entering, effect_of_entry, effect_of}
use Rattle.engine.specs.rules.Sound.{most_orders, most_events, sound}
use Rattle.engine.specs.rules.Refusals.{refuse_unless, first_of, refusal_of_terms, refusal_of_codes, refusal_of_place, refusal_of_entry, refusal_of_kind, least_buffer, refusal}
use Rattle.engine.specs.rules.Run.{step_unless, step, run}
use Rattle.engine.specs.claims.Examples.{call_of, one_share, buy_of, buys_from, venue_of_buys, full_venue, buy_entries_from, FullBookReached}
use Rattle.engine.proofs.demand3.SoundLaws.{venue_sound}
use Rattle.engine.proofs.demand3.ReachedLaws.{step_sound, opened_sound}

-- the book

buys_count : (i n : ℕ) → length (buys_from 0 i n) ≡ n
buys_count i zero = refl
buys_count i (suc n) = ap suc (buys_count (i + 1) n)

none_reached : (j i n : ℕ) → best_from (buy_of 0 j) none (buys_from 0 i n) ≡ none
unfolding best_from reaches pick
none_reached j i zero = refl
none_reached j i (suc n) = none_reached j (i + 1) n

no_counterparty : (j i n : ℕ) → counterparty (buy_of 0 j) (buys_from 0 i n) ≡ none
unfolding counterparty best pick
no_counterparty j i n = none_reached j i n

-- a buy with the next id stands last
inserted_last : (j i n : ℕ) → j ≡ i + n → insert (buy_of 0 j) (buys_from 0 i n) ≡ buys_from 0 i (suc n)
unfolding insert pick
inserted_last j i zero e = ap (λ (k : ℕ). buy_of 0 k ∷ []) (omega (arith, e))
inserted_last j i (suc n) e =
    rw (le-ltb j i (omega (arith, e))) (ap (λ (l : List Order). buy_of 0 i ∷ l) (inserted_last j (i + 1) n (omega (arith, e))))

rests_last : (n : ℕ) → work (buy_of 0 (n + 1)) (buys_from 0 1 n) ≡ record { reports = []; orders = buys_from 0 1 (n + 1) }
unfolding work remainder after_remainder pick
rests_last n =
    let one_more_lem : suc n ≡ n + 1 = omega arith in
    rw
    (matching_none (buy_of 0 (n + 1)) (buys_from 0 1 n) (no_counterparty (n + 1) 1 n), inserted_last (n + 1) 1 n (omega arith))
    (ap (λ (k : ℕ). record { reports = []; orders = buys_from 0 1 k }) one_more_lem)

-- one entry

module _ (s : ℕ) where
  abbrev after : ℕ → Venue
  after n = venue_of_buys n s 0 0 0

  abbrev next : ℕ → Event
  next n = one_share (n + 1) 0 100 0

  allowed : (n : ℕ) → n < most_orders → T (sound (after n)) → refusal (after n) (next n) least_buffer ≡ none
  unfolding refusal refusal_of_kind refusal_of_entry refusal_of_terms refusal_of_codes refusal_of_place refuse_unless first_of legal
  allowed n l t =
      rw (T_true (sound (after n)) t, lt-ltb n most_events (omega (arith, l)), lt-ltb n (n + 1) (omega arith), buys_count 1 n, lt-ltb n most_orders l) refl

  stepped : (n : ℕ) → n < most_orders → T (sound (after n)) → (step (after n) (next n) least_buffer).venue ≡ after (n + 1)
  unfolding step step_unless effect_of effect_of_entry entering order_of limit_of follows_bid life_of working_price restricted restriction_on pick
  stepped n l t = rw (allowed n l t, rests_last n) refl

  all_stepped : (n i : ℕ) → i + n ≤ most_orders → T (sound (after i)) → (run (after i) (map call_of (buy_entries_from (i + 1) n))).venue ≡ after (i + n)
  unfolding run
  all_stepped zero i l t = let as_many : i ≡ i + 0 = omega arith in ap after as_many
  all_stepped (suc n) i l t =
      let e = stepped i (omega (arith, l)) t in
      let as_many : i + 1 + n ≡ i + suc n = omega arith in
      ap (λ (v : Venue). (run v (map call_of (buy_entries_from (i + 1 + 1) n))).venue) e
      ∙ all_stepped n (i + 1) (omega (arith, l)) (subst (λ (v : Venue). T (sound v)) e (step_sound (after i) (next i) least_buffer t))
      ∙ ap after as_many

reached : (s : ℕ) → T (is_step s) → T (legal s 100_000) → (run (opened s 100_000) (map call_of (buy_entries_from 1 256))).venue ≡ full_venue s 0 0 0
unfolding opened
reached s i l = all_stepped s 256 0 (omega arith) (venue_sound (opened s 100_000) (opened_sound s 100_000 i l))

pub full_book_reached : FullBookReached
unfolding is_step legal
full_book_reached = (reached 100 tt tt, (reached 50 tt tt, tt))
