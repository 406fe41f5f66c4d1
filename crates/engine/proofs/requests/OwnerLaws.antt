-- No. 7: no firm trades with itself, over every list of events; with owner 0 everywhere every event is as before; an order trades as without its owner's. Assumes
-- nothing.
use Prim.Native.Nat.{ℕ, ◌+◌, ◌<◌, min}
use native.Mathlib.Omega.{arith}
use mathlib.Core.Path.{◌≡◌, refl, ap, sym, ◌∙◌, subst}
use mathlib.Core.Bool.{Bool, not}
use mathlib.Core.Option.{Option, none, some}
use mathlib.Core.List.{List, [], ◌∷◌, ◌++◌, map, append-nil, Memᴰ}
use lib.Dec.{T, ltb, eqb, leb→le, le→leb, eqb→eq, T_not}
use lib.ListN.{length}
use Rattle.numbers.specs.Tests.{pick, All}
use Rattle.numbers.specs.Answers.{Outcome, gives, refuses}
use Rattle.numbers.proofs.TestLaws.{and_T, T_and, eq→T, ne→T, pick_no, all_both}
use Rattle.prices.specs.Prices.{is_step, legal}
use Rattle.book.specs.declared.Order.{Order}
use Rattle.book.specs.rules.Orders.{find, without}
use Rattle.book.specs.rules.Matching.{Execution, Happening, traded, withdrawn, execution, Meeting, trading, withdrawing, same_owner, meeting, Matched, matching}
use Rattle.book.specs.rules.Sound.{ids_rise, stamps_differ}
use Rattle.book.specs.rules.Words.{is_book}
use Rattle.book.specs.claims.OwnOrders.{executions_of}
use Rattle.book.proofs.definitions.OrderLaws.{id_of, stamp_of, Other, Distinct, taken_all, all_taken, mem_taken, insert_taken, without_all, without_differ, Found, find_found}
use Rattle.book.proofs.definitions.CounterpartyLaws.{Reached}
use Rattle.book.proofs.definitions.MeetingLaws.{execution_by, trading_known, withdrawing_known, meeting_by_owner}
use Rattle.book.proofs.definitions.MatchingLaws.{after_trade_all}
use Rattle.book.proofs.definitions.RisingLaws.{ids_rise_rises, rises_ids_rise, rises_without}
use Rattle.book.proofs.definitions.OnlyTradingLaws.{unowned_only_trades}
use Rattle.book.proofs.definitions.OwnOrderLaws.{trades_as_without_own}
use Rattle.book.proofs.refinement.SoundBookLaws.{stamps_differ_differ, differ_stamps_differ}
use Rattle.engine.specs.declared.Market.{Market}
use Rattle.engine.specs.declared.Entry.{Entry}
use Rattle.engine.specs.declared.Event.{Event}
use Rattle.engine.specs.declared.Event.TheVariants.{Entry as entry, Cancel as cancel, Bid as bid, Tape as tape, DayEnd as day_end, OwnedEntry as owned_entry, TimedTape as timed_tape}
use Rattle.engine.specs.declared.Remainder.{Remainder}
use Rattle.engine.specs.declared.Remainder.TheVariants.{Filled, Cancelled, Rests}
use Rattle.engine.specs.declared.Move.{Move}
use Rattle.engine.specs.declared.Move.TheVariants.{Stay, Cancel, Reprice}
use Rattle.engine.specs.rules.Market.{market_after}
use Rattle.engine.specs.rules.Reports.{Report, accepted, executed, cancelled, repriced, restriction_starts, day_ended, pause_triggered}
use Rattle.engine.specs.rules.Working.{order_of, remainder, after_remainder, happened, work}
use Rattle.engine.specs.rules.Pass.{at_new_price, after_move, pass_one, pass_over}
use Rattle.engine.specs.rules.Venue.{Venue, opened, entering, effect_of_entry, effect_of_cancel, the_pass, effect_of_day_end, effect_of}
use Rattle.engine.specs.rules.Sound.{sound}
use Rattle.engine.specs.rules.Refusals.{refusal}
use Rattle.engine.specs.rules.Run.{Step, step_unless, step, Call, Run, run}
use Rattle.engine.specs.rules.Records.{reports_bytes}
use Rattle.engine.specs.rules.Answers.{count_of, buffer_after}
use Rattle.engine.specs.rules.Layout.{venue_of, step_in}
use Rattle.engine.specs.steps.Steps.{move_in_pass}
use Rattle.engine.specs.claims.Calls.{AppliedCall, Chain}
use Rattle.engine.specs.claims.Owners.{Owners, no_owners, works_now, read_owners, reading_owners, owners_of, FirmsApart, NoFirmTradesWithItself, OwnersShown, OwnersAreShown, FirmsApartInCalls, NoFirmTradesWithItselfInCalls, unowned_work, unowned_entering, unowned_move, unowned_turn, unowned_pass, unowned_effect, unowned_unless, unowned_step, Unowned, NamesNoOwner, UnownedAsBefore, KindOneAsBefore, unowned_step_in, UnownedCallsAsBefore, executions_in, executions_without_own, EntriesTradeAsWithoutOwn, RepricedTradeAsWithoutOwn, WithoutOwnInBytes, EntriesTradeAsWithoutOwnInCalls}
use Rattle.engine.proofs.refinement.RefusalLaws.{Allowed, NotRefused, Unless, refusal_known}
use Rattle.engine.proofs.refinement.OpeningLaws.{opening_known, opened_book, opened_venue, step_in_lem}
use Rattle.engine.proofs.demand3.MarketLaws.{HasPermitted}
use Rattle.engine.proofs.demand3.TallyLaws.{set_at_same, set_at_other}
use Rattle.engine.proofs.demand3.WorkingKeeps.{work_all}
use Rattle.engine.proofs.demand3.SoundLaws.{SoundBook, SoundWork, book_distinct, book_others, pass_one_sound, SoundVenue, sound_venue, market_permits}
use Rattle.engine.proofs.demand3.CallLaws.{accepted_call, Readable, step_readable, bytes_read, call_of, fresh_run}
use Rattle.engine.proofs.requests.PassLaws.{after_move_all, the_pass_all}
use Rattle.engine.proofs.requests.AccountLaws.{KeptByEntry, Kept, opened_reads}
use Rattle.engine.proofs.requests.WordStepLaws.{in_words, call_does}

-- No firm trades with itself

-- the column knows whose an order is
abbrev Knows : Owners → Order → Type 0
Knows c o = o.owner ≡ c.owner o.id

-- orders that trade aren't of one firm, and those of which one is withdrawn are

other_firms : (w o : Order) → T (not (same_owner w o)) → 0 < w.owner → w.owner ≡ o.owner → ⊥
unfolding same_owner
other_firms w o t l e = T_not (same_owner w o) t (T_and (ltb 0 w.owner) (eqb w.owner o.owner) (le→leb 1 w.owner l) (eq→T e))

one_firm : (w o : Order) → T (same_owner w o) → (0 < w.owner) × (w.owner ≡ o.owner)
unfolding same_owner
one_firm w o t =
    let p = and_T (ltb 0 w.owner) (eqb w.owner o.owner) t in
    (leb→le 1 w.owner p.0, eqb→eq w.owner o.owner p.1)

-- a meeting

abbrev read_happening : Owners → Happening → Owners
read_happening c x = read_owners c (happened x)

-- while w works
record Works (w : Order) (os : List Order) (c : Owners) : Type 0 where
  own : Knows c w
  others : All (Knows c) os
  working : c.working ≡ w.id
  apart : FirmsApart c

module _ (g n s : ℕ) (w o : Order) (os : List Order) (c : Owners) (b : SoundWork g n s w os) (r : Reached w os (some o)) (i : Works w os c) where
  distinct : Distinct os
  distinct = book_distinct b.book

  met : Knows c o
  met = (taken_all (Knows c) (mem_taken r.0 distinct) i.others).0

  execution_apart : (q : ℕ) → T (not (same_owner w o)) → FirmsApart (read_happening c (traded (execution w o q)))
  execution_apart q t =
      execution_by
      (λ (x : Execution). FirmsApart (read_happening c (traded x)))
      w
      o
      q
      (λ b. record { trades = (λ l e. other_firms w o t (omega (arith, i.own)) (i.own ∙ e ∙ sym met), i.apart.trades); withdrawals = i.apart.withdrawals })
      (λ b. record { trades = (λ l e. other_firms w o t (omega (arith, i.own, e)) (i.own ∙ sym e ∙ sym met), i.apart.trades); withdrawals = i.apart.withdrawals })

  trading_works : T (not (same_owner w o)) → let x : Meeting = trading w o os in Works x.left x.orders (read_happening c x.happening)
  trading_works t =
      let q : ℕ = min w.shares o.shares in
      rw (trading_known w o os) record {
        own = i.own;
        others = after_trade_all q r.0 distinct (Knows c) (λ z s l h. h) i.others;
        working = i.working;
        apart = execution_apart q t;
      }

  withdrawing_works : T (same_owner w o) → let x : Meeting = withdrawing w o os in Works x.left x.orders (read_happening c x.happening)
  unfolding pick
  withdrawing_works t =
      let f = one_firm w o t in
      let shown : w.owner ≡ c.owner c.working = i.own ∙ ap c.owner (sym i.working) in
      let other : Other w.id o = (taken_all (Other w.id) (mem_taken r.0 distinct) b.new_id).0 in
      rw (withdrawing_known w o os) record {
        own = i.own;
        others = without_all (Knows c) o.id os i.others;
        working = i.working;
        apart = record { trades = i.apart.trades; withdrawals = ((λ e. other (e ∙ i.working), omega (arith, f.0, shown), sym shown ∙ f.1 ∙ met), i.apart.withdrawals) };
      }

  meeting_works : let x : Meeting = meeting w o os in Works x.left x.orders (read_happening c x.happening)
  meeting_works =
      meeting_by_owner (λ (x : Meeting). Works x.left x.orders (read_happening c x.happening)) w o os withdrawing_works trading_works

-- wherever no order works: the column knows all resting orders, and the firms are apart
record Agrees (os : List Order) (c : Owners) : Type 0 where
  known : All (Knows c) os
  apart : FirmsApart c

-- both as claims of the last id and the last stamp too, which they don't need
abbrev AgreesAt : ℕ → ℕ → List Order → Owners → Type 0
AgreesAt n s os c = Agrees os c

abbrev WorksAt : ℕ → ℕ → Order → List Order → Owners → Type 0
WorksAt n s w os c = Works w os c

-- claims of what was read hold of the beginning of the next event, and of the next working order
apart_still : {c : Owners} → FirmsApart c → (f : ℕ → ℕ) (k : ℕ) → FirmsApart (record { owner = f; working = k; trades = c.trades; withdrawals = c.withdrawals })
apart_still h f k = record { trades = h.trades; withdrawals = h.withdrawals }

enters_works : KeptByEntry reading_owners AgreesAt WorksAt
unfolding order_of
enters_works v x c a g h =
    let i : ℕ = x.entry.id in
    let new : All (Other i) v.orders = book_others g.book a.place.new_id in
    record {
      own = sym (set_at_same i x.owner c.owner);
      others = all_both (λ y k z. k ∙ sym (set_at_other i x.owner c.owner y.id z)) v.orders h.known new;
      working = refl;
      apart = apart_still h.apart _ i;
    }

repriced_works : (o : Order) (os : List Order) (s p : ℕ) (used : Bool) (c : Owners) → Memᴰ o os → Distinct os → Agrees os c → Works (at_new_price p (s + 1) used o) (without o.id os) (works_now o.id c)
repriced_works o os s p used c m d h =
    record {
      own = (taken_all (Knows c) (mem_taken m d) h.known).0;
      others = without_all (Knows c) o.id os h.known;
      working = refl;
      apart = apart_still h.apart c.owner o.id;
    }

owners_kept : Kept reading_owners AgreesAt WorksAt
unfolding order_of
owners_kept =
    record {
      begins = λ n s os c h. record { known = h.known; apart = apart_still h.apart c.owner 0 };
      enters = enters_works;
      reprices = λ g n m o os s p used c e i b h. repriced_works o os s p used c i (book_distinct b) h;
      meets = meeting_works;
      gone = λ n s w os c i. record { known = i.others; apart = i.apart };
      rests = λ n s w os c i. record { known = all_taken (Knows c) (insert_taken w os) i.own i.others; apart = i.apart };
      leaves = λ n s i os c h. record { known = without_all (Knows c) i os h.known; apart = h.apart };
      empties = λ n s os c h. record { known = tt; apart = h.apart };
      cancelled_unread = λ c i q cause l. pick_no (eqb cause 5) _ _ (ne→T cause 5 (λ e. omega (arith, l)));
      start_unread = λ c. refl;
      end_unread = λ c p. refl;
      pause_unread = λ c d p. refl;
    }

opened_agrees : (s close : ℕ) (cs : List Call) → let r : Run = run (opened s close) cs in Agrees r.venue.orders (owners_of r.answered)
opened_agrees s close cs = opened_reads reading_owners AgreesAt WorksAt owners_kept s close no_owners (record { known = tt; apart = record { trades = tt; withdrawals = tt } }) cs

pub no_firm_trades_with_itself : NoFirmTradesWithItself
no_firm_trades_with_itself s close v o cs = rw (opening_known s close v o).fresh (opened_agrees s close cs).apart

pub owners_are_shown : OwnersAreShown
owners_are_shown s close v o cs = rw (opening_known s close v o).fresh (opened_agrees s close cs).known

-- of calls, from words that mean a fresh venue
pub apart_from : (s close : ℕ) → T (is_step s) → T (legal s close) → {w₀ : List ℕ} → T (is_book w₀) → venue_of w₀ ≡ opened s close → (cs : List AppliedCall) (w' : List ℕ) → Chain w₀ cs w' → FirmsApartInCalls cs w'
unfolding venue_of
apart_from s close i t u f cs w' c =
    let r = fresh_run s close i t u f c in
    let a = opened_agrees s close (map call_of cs) in
    record {
      read = (run (opened s close) (map call_of cs)).answered;
      readable = r.readable;
      apart = a.apart;
      shown = subst (OwnersShown (owners_of (run (opened s close) (map call_of cs)).answered)) (sym (ap (λ (v : Venue). v.orders) r.venue)) a.known;
    }

pub no_firm_trades_with_itself_in_calls : NoFirmTradesWithItselfInCalls
no_firm_trades_with_itself_in_calls s close i t = apart_from s close i t (opened_book s close i t) (opened_venue s close i t)

-- As before

work_before : (w : Order) (os : List Order) → Unowned w → work w os ≡ unowned_work w os
unfolding work unowned_work
work_before w os h = rw (unowned_only_trades w os h)

-- an entry of kind 1
entering_before : (o : Order) (os : List Order) → Unowned o → entering o os ≡ unowned_entering o os
unfolding entering unowned_entering
entering_before o os h = rw (work_before o os h)

-- a turn of the pass
move_before_lem : (y : Move) (o : Order) (os : List Order) (s : ℕ) → Unowned o → after_move y o os s ≡ unowned_move y o os s
unfolding after_move unowned_move
move_before_lem Stay o os s h = refl
move_before_lem Cancel o os s h = refl
move_before_lem (Reprice p used) o os s h = rw (work_before (at_new_price p (s + 1) used o) (without o.id os) h)

module _ (m : Market) (t : HasPermitted m) (n : ℕ) where
  turn_before : (i : ℕ) (x : Option Order) (os : List Order) (s : ℕ) → Found i os x → SoundBook m.step n s os → All Unowned os → (pass_one m x os s ≡ unowned_turn m x os s) × All Unowned (pass_one m x os s).orders
  unfolding pass_one unowned_turn
  turn_before i none os s f b h = (refl, h)
  turn_before i (some o) os s f b h =
      (move_before_lem (move_in_pass m o) o os s (taken_all Unowned (mem_taken f.0 (book_distinct b)) h).0, after_move_all Unowned (λ z q k. k) (λ price stamp used x k. k) o os s (move_in_pass m o) f.0 b h)

  pass_before : (is : List ℕ) (os : List Order) (s : ℕ) → SoundBook m.step n s os → All Unowned os → pass_over m is os s ≡ unowned_pass m is os s
  unfolding pass_over unowned_pass
  pass_before [] os s b h = refl
  pass_before (i ∷ is) os s b h =
      let f = find_found i os in
      let r = turn_before i (find i os) os s f b h in
      rw (sym r.0, pass_before is _ _ (pass_one_sound m t n i (find i os) os s f b).0 r.1)

kind_1_unowned : (v : Venue) (e : Entry) → Unowned (order_of v.market (v.last_stamp + 1) 0 e)
unfolding order_of
kind_1_unowned v e = refl

effect_before_lem : (v : Venue) (e : Event) → Allowed v e → SoundVenue v → All Unowned v.orders → NamesNoOwner e → effect_of (market_after e v.market) v e ≡ unowned_effect (market_after e v.market) v e
unfolding effect_of effect_of_entry the_pass
effect_before_lem v (entry e) a g h o = entering_before _ v.orders (kind_1_unowned v e)
effect_before_lem v (cancel i) a g h o = refl
effect_before_lem v (bid b) a g h o = pass_before _ (g.market.step, a) v.last_id (map id_of v.orders) v.orders v.last_stamp g.book h
effect_before_lem v (tape p) a g h o =
    rw (pass_before (market_after (tape p) v.market) (market_permits g.market) v.last_id (map id_of v.orders) v.orders v.last_stamp g.book h)
effect_before_lem v (day_end c) a g h o = refl
effect_before_lem v (owned_entry e k) a g h o = absurd o
effect_before_lem v (timed_tape x) a g h o =
    rw (pass_before (market_after (timed_tape x) v.market) (market_permits g.market) v.last_id (map id_of v.orders) v.orders v.last_stamp g.book h)

effect_unowned : (v : Venue) (e : Event) → Allowed v e → SoundVenue v → All Unowned v.orders → NamesNoOwner e → All Unowned (effect_of (market_after e v.market) v e).orders
unfolding effect_of effect_of_entry entering order_of effect_of_cancel effect_of_day_end
effect_unowned v (entry e) a g h o = work_all Unowned (λ z q k. k) _ v.orders (book_distinct g.book) refl h
effect_unowned v (cancel i) a g h o = without_all Unowned i v.orders h
effect_unowned v (bid b) a g h o = the_pass_all Unowned (λ z q k. k) (λ price stamp used x k. k) _ v (g.market.step, a) g.book h
effect_unowned v (tape p) a g h o = the_pass_all Unowned (λ z q k. k) (λ price stamp used x k. k) _ v (market_permits g.market) g.book h
effect_unowned v (day_end c) a g h o = tt
effect_unowned v (owned_entry e k) a g h o = absurd o
effect_unowned v (timed_tape x) a g h o = the_pass_all Unowned (λ z q k. k) (λ price stamp used y k. k) _ v (market_permits g.market) g.book h

kind_one_done : (v : Venue) (e : Entry) → step_unless none v (entry e) ≡ unowned_unless none v (entry e)
unfolding step_unless unowned_unless effect_of effect_of_entry
kind_one_done v e = rw (entering_before (order_of v.market (v.last_stamp + 1) 0 e) v.orders (kind_1_unowned v e))

refused_alike : (k : ℕ) (v : Venue) (e : Event) → step_unless (some k) v e ≡ unowned_unless (some k) v e
unfolding step_unless unowned_unless
refused_alike k v e = refl

unless_before : (x : Option ℕ) (v : Venue) (e : Event) (n : ℕ) → Unless x (NotRefused v e n) → All Unowned v.orders → NamesNoOwner e → (step_unless x v e ≡ unowned_unless x v e) × All Unowned (step_unless x v e).venue.orders
unfolding step_unless unowned_unless
unless_before (some k) v e n u h o = (refl, h)
unless_before none v e n u h o =
    let g = sound_venue v u.sound in
    (rw (effect_before_lem v e u.allowed g h o), effect_unowned v e u.allowed g h o)

pub unowned_as_before : UnownedAsBefore
unfolding step
unowned_as_before v e n h o =
    let r = unless_before (refusal v e n) v e n (refusal_known v e n) h o in
    record { same = r.0; unowned = r.1 }

pub kind_one_as_before : KindOneAsBefore
unfolding step
kind_one_as_before v e n = go (refusal v (entry e) n)
  where
    go : (x : Option ℕ) → step_unless x v (entry e) ≡ unowned_unless x v (entry e)
    go none = kind_one_done v e
    go (some k) = refused_alike k v (entry e)

-- of a call, the step of the words and that of before
abbrev SameUnowned : Step → Step → Type 0
SameUnowned s t = record { same : s ≡ t; unowned : All Unowned s.venue.orders }

in_before : (w : List ℕ) (e : Event) (n : ℕ) → All Unowned (venue_of w).orders → NamesNoOwner e → SameUnowned (step_in w e n) (unowned_step_in w e n)
in_before w e n h o =
    let r = unowned_as_before (venue_of w) e n h o in
    in_words SameUnowned w e n (unowned_step (venue_of w) e n) (record { same = r.same; unowned = r.unowned }) (record { same = refl; unowned = h })

pub unowned_calls_as_before : UnownedCallsAsBefore
unfolding venue_of
unowned_calls_as_before w e b answer w' b' a h o =
    let r = in_before w e (length b) h o in
    record { does = call_does a r.same; unowned = subst (All Unowned) (sym (ap (λ (v : Venue). v.orders) a.venue)) r.unowned }

-- As without its owner's orders

executions_append : (rs qs : List Report) → executions_in (rs ++ qs) ≡ executions_in rs ++ executions_in qs
executions_append [] qs = refl
executions_append (accepted i s p ∷ rs) qs = executions_append rs qs
executions_append (executed x ∷ rs) qs = ap (λ (l : List Execution). x ∷ l) (executions_append rs qs)
executions_append (cancelled i q cause ∷ rs) qs = executions_append rs qs
executions_append (repriced i p s ∷ rs) qs = executions_append rs qs
executions_append (restriction_starts ∷ rs) qs = executions_append rs qs
executions_append (day_ended p ∷ rs) qs = executions_append rs qs
executions_append (pause_triggered d p ∷ rs) qs = executions_append rs qs

happened_executions : (hs : List Happening) → executions_in (map happened hs) ≡ executions_of hs
unfolding executions_of
happened_executions [] = refl
happened_executions (traded x ∷ hs) = ap (λ (l : List Execution). x ∷ l) (happened_executions hs)
happened_executions (withdrawn i q ∷ hs) = happened_executions hs

remainder_executes : (x : Remainder) (w : Order) (os : List Order) → executions_in (after_remainder x w os).reports ≡ []
unfolding after_remainder
remainder_executes Filled w os = refl
remainder_executes (Cancelled cause) w os = refl
remainder_executes Rests w os = refl

work_without_own : (w : Order) (os : List Order) → T (ids_rise 0 os) → T (stamps_differ os) → executions_in (work w os).reports ≡ executions_without_own w os
unfolding work
work_without_own w os r d =
    let m : Matched = matching w os in
    executions_append (map happened m.happenings) _ ∙ rw (happened_executions m.happenings, remainder_executes (remainder m.left) m.left m.orders, append-nil) (trades_as_without_own w os r d).executions

entry_without_own : (v : Venue) (e : Entry) (k : ℕ) → T (sound v) → executions_in (effect_of_entry v.market v k e).reports ≡ executions_without_own (order_of v.market (v.last_stamp + 1) k e) v.orders
unfolding effect_of_entry entering
entry_without_own v e k s =
    let b = (sound_venue v s).book in
    work_without_own (order_of v.market (v.last_stamp + 1) k e) v.orders (rises_ids_rise 0 v.orders b.rises) (differ_stamps_differ v.orders b.stamps)

pub repriced_trade_as_without_own : RepricedTradeAsWithoutOwn
unfolding after_move
repriced_trade_as_without_own o os s p used r d =
    let l : List Order = without o.id os in
    work_without_own (at_new_price p (s + 1) used o) l (rises_ids_rise 0 l (rises_without 0 o.id os (ids_rise_rises 0 os r))) (differ_stamps_differ l (without_differ stamp_of o.id os (stamps_differ_differ os d)))

pub entries_trade_as_without_own : EntriesTradeAsWithoutOwn
unfolding step step_unless effect_of
entries_trade_as_without_own v e k n rs q = go (refusal v (owned_entry e k) n) (refusal_known v (owned_entry e k) n) q
  where
    go : (x : Option ℕ) → Unless x (NotRefused v (owned_entry e k) n) → (step_unless x v (owned_entry e k)).answer ≡ gives rs → executions_in rs ≡ executions_without_own (order_of v.market (v.last_stamp + 1) k e) v.orders
    go (some i) u z = let y : ◌≡◌ {A = ℕ} 0 1 = cc in absurd (omega arith)
    go none u z =
        let y : (effect_of_entry v.market v k e).reports ≡ rs = cc in
        subst (λ (l : List Report). executions_in l ≡ executions_without_own (order_of v.market (v.last_stamp + 1) k e) v.orders) y (entry_without_own v e k u.sound)

pub entries_trade_as_without_own_in_calls : EntriesTradeAsWithoutOwnInCalls
unfolding venue_of
entries_trade_as_without_own_in_calls w e k i b count w' b' a = go (step_in w (owned_entry e k) (length b)).answer refl a.answers a.buffer
  where
    go : (x : Outcome (List Report)) → (step_in w (owned_entry e k) (length b)).answer ≡ x → gives count ≡ count_of x → b' ≡ buffer_after b x → WithoutOwnInBytes w e k b' count
    go (refuses n) s c f = let y : ◌≡◌ {A = ℕ} 0 1 = cc in absurd (omega arith)
    go (gives rs) s c f =
        let v : Venue = venue_of w in
        let t : T (is_book w) = (accepted_call a).0 in
        let l : count ≡ length (reports_bytes rs) = cc in
        let z : (step v (owned_entry e k) (length b)).answer ≡ gives rs = sym (ap (λ (x : Step). x.answer) (step_in_lem w (owned_entry e k) (length b) t)) ∙ s in
        record {
          read = rs;
          readable = rw (f, l) (bytes_read b rs (subst (Readable (length b)) z (step_readable v (owned_entry e k) (length b) i)));
          is = entries_trade_as_without_own v e k (length b) rs z;
        }
