-- No. 2: at a step of 100 every event is as before, and every other step than 50 and 100 is refused. Assumes nothing.
use Prim.Native.Nat.{ℕ, ◌+◌}
use mathlib.Core.Path.{◌≡◌, refl, ap, subst}
use mathlib.Core.Bool.{false, not}
use mathlib.Core.List.{List}
use lib.Dec.{T, not_T, T_not}
use Rattle.numbers.specs.Tests.{pick}
use Rattle.numbers.proofs.TestLaws.{T_false}
use Rattle.prices.specs.Prices.{is_step, legal, is_bid, permitted, at_step}
use Rattle.book.specs.declared.Order.{Order}
use Rattle.book.specs.rules.Sound.{sound_order}
use Rattle.engine.specs.declared.Market.{Market}
use Rattle.engine.specs.declared.Entry.{Entry}
use Rattle.engine.specs.declared.Event.{Event}
use Rattle.engine.specs.declared.Event.TheVariants.{Entry as entry, Cancel as cancel, Bid as bid, Tape as tape, DayEnd as day_end, OwnedEntry as owned_entry, TimedTape as timed_tape}
use Rattle.engine.specs.rules.Market.{market_after, restricted, permitted_now}
use Rattle.engine.specs.rules.Working.{follows_bid, life_of, working_price, order_of}
use Rattle.engine.specs.rules.Pass.{slide_down, move_of, pass_over}
use Rattle.engine.specs.rules.Venue.{Venue, opening, entering, effect_of_entry, effect_of_cancel, the_pass, restriction_report, effect_of_day_end, effect_of}
use Rattle.engine.specs.rules.Sound.{sound}
use Rattle.engine.specs.rules.Refusals.{refuse_unless, refusal_of_terms, refusal_of_entry, refusal_of_kind, refusal}
use Rattle.engine.specs.rules.Run.{step_unless, step}
use Rattle.engine.specs.claims.HalfCents.{sound_before, refusal_before, EventsAsBefore, PricesGivenAsBefore, with_step, venue_with_step, CentsAsBefore, OthersRefused, OtherStepsRefused}
use Rattle.engine.proofs.refinement.RefusalLaws.{sound_step}
use Rattle.engine.proofs.requests.PassLaws.{same_pass}

-- as before

module _ (v : Venue) (h : v.market.step ≡ 100) where
  kept : (e : Event) → (market_after e v.market).step ≡ 100
  kept (entry e) = h
  kept (cancel i) = h
  kept (bid b) = h
  kept (tape p) = h
  kept (day_end c) = h
  kept (owned_entry e k) = h
  kept (timed_tape x) = h

  kinds : (e : Event) → refusal_of_kind v e ≡ refusal_before v e
  unfolding refusal_of_kind refusal_of_entry refusal_of_terms legal is_bid
  kinds (entry e) = rw h
  kinds (cancel i) = refl
  kinds (bid b) = rw h
  kinds (tape p) = rw h
  kinds (day_end c) = rw h
  kinds (owned_entry e k) = rw h
  kinds (timed_tape x) = rw h

  records : sound v ≡ sound_before v
  unfolding sound sound_order is_step legal is_bid
  records = rw h

  events : EventsAsBefore v
  unfolding refusal
  events = record { kept = kept; refusal = λ e n. rw (records, kinds e) }

given : (m : Market) → m.step ≡ 100 → PricesGivenAsBefore m
unfolding working_price move_of slide_down permitted_now permitted
given m h = record { works = λ mark price. rw h; moves = λ o. rw h }

-- by the permitted price alone

module _ (s t : ℕ) (m : Market) (h : permitted s m.bid ≡ permitted t m.bid) where
  same_order : (stamp k : ℕ) (e : Entry) → order_of (with_step s m) stamp k e ≡ order_of (with_step t m) stamp k e
  unfolding order_of working_price life_of follows_bid restricted permitted_now
  same_order stamp k e = rw h

  pass : (is : List ℕ) (os : List Order) (n : ℕ) → pass_over (with_step s m) is os n ≡ pass_over (with_step t m) is os n
  unfolding permitted_now
  pass = same_pass (with_step s m) (with_step t m) refl refl h

  same_effect : (v : Venue) (e : Event) → effect_of (with_step s m) (venue_with_step s v) e ≡ effect_of (with_step t m) (venue_with_step t v) e
  unfolding effect_of effect_of_entry effect_of_cancel the_pass restriction_report effect_of_day_end
  same_effect v (entry e) = ap (λ (o : Order). entering o v.orders) (same_order (v.last_stamp + 1) 0 e)
  same_effect v (cancel i) = refl
  same_effect v (bid b) = pass _ v.orders v.last_stamp
  same_effect v (tape p) = rw (pass _ v.orders v.last_stamp)
  same_effect v (day_end c) = refl
  same_effect v (owned_entry e k) = ap (λ (o : Order). entering o v.orders) (same_order (v.last_stamp + 1) k e)
  same_effect v (timed_tape x) = rw (pass _ v.orders v.last_stamp)

pub cents_as_before : CentsAsBefore
unfolding opening at_step is_step legal pick
cents_as_before = record { opening = λ close. refl; events = events; prices = given; effects = same_effect }

-- other steps

module _ (s : ℕ) (n : T (not (is_step s))) where
  broken : (v : Venue) → v.market.step ≡ s → sound v ≡ false
  broken v e = T_false (sound v) (not_T (sound v) (λ t. T_not (is_step s) n (subst (λ (x : ℕ). T (is_step x)) e (sound_step v t))))

  others : OthersRefused s
  unfolding opening at_step refusal refuse_unless step step_unless pick
  others = record { opening = λ close. rw (T_false (is_step s) n); event = λ v e x k. rw (broken v e) }

pub other_steps_refused : OtherStepsRefused
other_steps_refused = others
