-- Each event, accepted or refused, keeps the account in agreement with the venue, and so does every run. Assumes nothing.
use Prim.Native.Nat.{ℕ, ◌+◌, ◌<◌}
use native.Mathlib.Omega.{arith}
use native.Mathlib.Decide.{ℕ_discrete}
use mathlib.Core.Path.{◌≡◌, refl, ap, ◌∙◌}
use mathlib.Core.Logic.{inl}
use mathlib.Core.Option.{Option, none, some}
use mathlib.Core.List.{List, [], ◌∷◌, ◌++◌, map, foldl}
use lib.Dec.{T, T_not}
use Rattle.numbers.specs.Tests.{All}
use Rattle.numbers.proofs.TestLaws.{by_test, tests, all_map, all_both}
use Rattle.prices.specs.Prices.{is_step}
use Rattle.prices.specs.declared.TimedPrice.{TimedPrice}
use Rattle.book.specs.declared.Order.{Order}
use Rattle.book.specs.rules.Orders.{if_same, resting_shares}
use Rattle.book.proofs.definitions.ShareLaws.{if_same_same, if_same_other}
use Rattle.book.proofs.definitions.OrderLaws.{shares_first, shares_empty, id_of, Other, without_all, without_differ, without_shares, shares_none}
use Rattle.engine.specs.declared.Market.{Market}
use Rattle.engine.specs.declared.Entry.{Entry}
use Rattle.engine.specs.declared.Event.{Event}
use Rattle.engine.specs.declared.Event.TheVariants.{Entry as entry, Cancel as cancel, Bid as bid, Tape as tape, DayEnd as day_end, OwnedEntry as owned_entry, TimedTape as timed_tape}
use Rattle.engine.specs.rules.Market.{restricted, market_after}
use Rattle.engine.specs.rules.Reports.{Report, cancelled, day_ended, end_of_day}
use Rattle.engine.specs.rules.Working.{working_price, order_of}
use Rattle.engine.specs.rules.Pass.{Effect}
use Rattle.engine.specs.rules.Venue.{Venue, opened, entering, effect_of_entry, effect_of_cancel, the_pass, restriction_report, effect_of_tape, effect_of_timed_tape, effect_of_day_end, effect_of, last_id_after}
use Rattle.engine.specs.rules.Refusals.{refusal}
use Rattle.engine.specs.rules.Run.{step_unless, step, Call, run}
use Rattle.engine.specs.claims.Account.{Tallies, give_price, start_tally, tallies_after, read_report, Account, fresh_account, account_after, account_from}
use Rattle.engine.proofs.refinement.RefusalLaws.{sound_step, Allowed, NotRefused, Unless, refusal_known}
use Rattle.engine.proofs.demand3.MarketLaws.{permitted_now_above, pause_by}
use Rattle.engine.proofs.demand3.Invariant.{TalliesKnow, TalliesAgree, without_uncrossed, SafelyPriced, BookAgrees, WhileWorking, EffectAgrees, AccountAgrees}
use Rattle.engine.proofs.demand3.TallyLaws.{set_at_same, set_at_other, give_price_others, give_price_own, agree_cancelled}
use Rattle.engine.proofs.demand3.WorkingKeeps.{work_keeps, work_all}
use Rattle.engine.proofs.demand3.PassKeeps.{the_pass_keeps}

-- an entry

working_price_above : (m : Market) → T (is_step m.step) → (mark price : ℕ) → T (restricted m mark) → m.bid < working_price m mark price
unfolding working_price
working_price_above m is mark price t =
    by_test (λ (x : ℕ). m.bid < x) _ (λ s. omega (arith, permitted_now_above m is)) (λ s. absurd (T_not (restricted m mark) s t))

module _ (n : ℕ) (os : List Order) (c : Tallies) (e : Entry) (new : n < e.id) (h : TalliesAgree n os c) where
  abbrev started : Tallies
  started = start_tally e c

  others : All (Other e.id) os
  others = all_map (λ x t z. omega (arith, t.id)) os h.known

  started_others : All (TalliesKnow e.id started) os
  started_others =
      all_both (λ x z t. record { id = omega (arith, t.id); mark = set_at_other e.id e.mark c.mark x.id z ∙ t.mark; show = set_at_other e.id e.show c.show x.id z ∙ t.show; last_given = t.last_given; clear = t.clear }) os others h.known

  started_shares : (k : ℕ) → started.entered k ≡ started.executed k + started.cancelled k + (if_same k e.id e.shares + resting_shares k os)
  started_shares k = go (ℕ_discrete k e.id)
    where
      go : Dec (k ≡ e.id) → started.entered k ≡ started.executed k + started.cancelled k + (if_same k e.id e.shares + resting_shares k os)
      go (yes z) =
          rw z (omega (arith, set_at_same e.id e.shares c.entered, set_at_same e.id 0 c.executed, set_at_same e.id 0 c.cancelled, shares_none e.id os others, if_same_same e.id e.shares))
      go (no z) =
          omega (arith, set_at_other e.id e.shares c.entered k z, set_at_other e.id 0 c.executed k z, set_at_other e.id 0 c.cancelled k z, h.shares k, if_same_other k e.id e.shares z)

  entered_agree : (m : Market) (s k : ℕ) → TalliesAgree e.id (order_of m s k e ∷ os) (give_price m.bid e.id (working_price m e.mark e.price) started)
  unfolding order_of
  entered_agree m s k =
      record {
        known = (give_price_own e.id m.bid started (order_of m s k e) (omega arith) (set_at_same e.id e.mark c.mark) (set_at_same e.id e.show c.show) (λ t. omega tests), give_price_others e.id m.bid started e.id (working_price m e.mark e.price) os others started_others);
        distinct = (others, h.distinct);
        shares = λ j. omega (arith, started_shares j, shares_first j (order_of m s k e) os);
        executions = h.executions;
      }

entry_keeps : (m : Market) → T (is_step m.step) → (v : Venue) (c : Tallies) (e : Entry) (k : ℕ) → v.last_id < e.id → BookAgrees v.last_id v.orders c → All (SafelyPriced m) v.orders → EffectAgrees m e.id (effect_of_entry m v k e) (start_tally e c)
unfolding entering effect_of_entry order_of
entry_keeps m is v c e k new h s =
    let i : WhileWorking m e.id (order_of m (v.last_stamp + 1) k e) v.orders (give_price m.bid e.id (working_price m e.mark e.price) (start_tally e c)) = record {
      tallies = entered_agree v.last_id v.orders c e new h.tallies m (v.last_stamp + 1) k;
      uncrossed = h.uncrossed;
      working = refl;
      above = working_price_above m is e.mark e.price;
      safe = λ z. s;
    } in
    (work_keeps m e.id _ v.orders _ i, work_all (SafelyPriced m) (λ z q x. x) _ v.orders h.tallies.distinct (λ r. inl (i.above r)) s)

-- the other events

cancel_keeps : (m : Market) (n : ℕ) (v : Venue) (c : Tallies) (i : ℕ) → BookAgrees n v.orders c → All (SafelyPriced m) v.orders → EffectAgrees m n (effect_of_cancel v i) c
unfolding effect_of_cancel
cancel_keeps m n v c i h s = (
  record {
    tallies =
        record {
          known = without_all (TalliesKnow n c) i v.orders h.tallies.known;
          distinct = without_differ id_of i v.orders h.tallies.distinct;
          shares = λ k. omega (arith, h.tallies.shares k, without_shares i k v.orders);
          executions = h.tallies.executions;
        };
    uncrossed = without_uncrossed i v.orders h.uncrossed;
  },
  without_all (SafelyPriced m) i v.orders s,
)

tape_keeps : (m : Market) → T (is_step m.step) → (n : ℕ) (v : Venue) (c : Tallies) → BookAgrees n v.orders c → EffectAgrees m n (effect_of_tape m v) c
unfolding restriction_report
tape_keeps m is n v c h =
    by_test (λ (rs : List Report). EffectAgrees m n (record { reports = rs ++ (the_pass m v).reports; orders = (the_pass m v).orders; stamp = (the_pass m v).stamp }) c) _ (λ t. the_pass_keeps m is n v c h) (λ t. the_pass_keeps m is n v c h)

timed_tape_keeps : (m : Market) → T (is_step m.step) → (n : ℕ) (v : Venue) (c : Tallies) (x : TimedPrice) → BookAgrees n v.orders c → EffectAgrees m n (effect_of_timed_tape m v x) c
timed_tape_keeps m is n v c x h =
    let t : Effect = effect_of_tape m v in
    pause_by (λ (rs : List Report). EffectAgrees m n (record { reports = rs ++ t.reports; orders = t.orders; stamp = t.stamp }) c) x.price _ (tape_keeps m is n v c h) (λ d l. tape_keeps m is n v c h)

all_cancelled_agree : (m : Market) (n p : ℕ) (os : List Order) (c : Tallies) → TalliesAgree n os c → TalliesAgree n [] (foldl (read_report m) c (map (λ (o : Order). cancelled o.id o.shares end_of_day) os ++ day_ended p ∷ []))
all_cancelled_agree m n p [] c h = h
all_cancelled_agree m n p (o ∷ os) c h = all_cancelled_agree m n p os _ (agree_cancelled h)

day_end_keeps : (m : Market) (n : ℕ) (v : Venue) (c : Tallies) → BookAgrees n v.orders c → EffectAgrees m n (effect_of_day_end m v) c
unfolding effect_of_day_end
day_end_keeps m n v c h = (record { tallies = all_cancelled_agree m n _ v.orders c h.tallies; uncrossed = record { border = 0; separated = tt } }, tt)

effect_keeps : (v : Venue) → T (is_step (v.market.step)) → (c : Tallies) (e : Event) → Allowed v e → BookAgrees v.last_id v.orders c → All (SafelyPriced v.market) v.orders → let m : Market = market_after e v.market in EffectAgrees m (last_id_after v e) (effect_of m v e) (tallies_after e c)
unfolding effect_of
effect_keeps v is c (entry e) a h s = entry_keeps v.market is v c e 0 a.place.new_id h s
effect_keeps v is c (cancel i) a h s = cancel_keeps v.market v.last_id v c i h s
effect_keeps v is c (bid b) a h s = the_pass_keeps _ is v.last_id v c h
effect_keeps v is c (tape p) a h s = tape_keeps _ is v.last_id v c h
effect_keeps v is c (day_end x) a h s = day_end_keeps _ v.last_id v c h
effect_keeps v is c (owned_entry e k) a h s = entry_keeps v.market is v c e k a.0.place.new_id h s
effect_keeps v is c (timed_tape x) a h s = timed_tape_keeps _ is v.last_id v c x h

-- any event, and every run

step_unless_keeps : (x : Option ℕ) (v : Venue) (a : Account) (e : Event) (n : ℕ) → Unless x (NotRefused v e n) → AccountAgrees v a → AccountAgrees (step_unless x v e).venue (account_after a e (step_unless x v e).answer)
unfolding step_unless
step_unless_keeps (some k) v a e n u h = h
step_unless_keeps none v a e n u h =
    let r = effect_keeps v (sound_step v u.sound) a.tallies e u.allowed h.book h.safe in
    record { market = ap (market_after e) h.market; book = rw h.market r.0; safe = r.1 }

step_keeps : (v : Venue) (a : Account) (e : Event) (n : ℕ) → AccountAgrees v a → AccountAgrees (step v e n).venue (account_after a e (step v e n).answer)
unfolding step
step_keeps v a e n h = step_unless_keeps (refusal v e n) v a e n (refusal_known v e n) h

pub run_keeps : (cs : List Call) (v : Venue) (a : Account) → AccountAgrees v a → AccountAgrees (run v cs).venue (account_from a (run v cs).answered)
unfolding run
run_keeps [] v a h = h
run_keeps (c ∷ cs) v a h = run_keeps cs _ _ (step_keeps v a c.event c.buffer h)

pub opened_agrees : (s close : ℕ) → AccountAgrees (opened s close) (fresh_account s close)
unfolding opened
opened_agrees s close =
    record {
      market = refl;
      book = record { tallies = record { known = tt; distinct = tt; shares = λ k. omega (arith, shares_empty k); executions = tt }; uncrossed = record { border = 0; separated = tt } };
      safe = tt;
    }
