-- No. 1: how a market order works, that a resting market short stays while there is no bid, and what is as before. Assumes nothing.
use Prim.Native.Nat.{ℕ, ◌≤◌, ◌<◌, max}
use native.Mathlib.Omega.{arith}
use native.Mathlib.Decide.{ℕ_discrete}
use mathlib.Core.Path.{◌≡◌, refl, sym, ap, ◌∙◌, subst}
use mathlib.Core.Bool.{Bool, true, false, not, ◌&&◌}
use mathlib.Core.Logic.{◌⊎◌, inl, inr}
use mathlib.Core.Option.{Option, none, some}
use mathlib.Core.List.{List, Memᴰ}
use lib.Dec.{T, eqb, leb, ltb, leb→le, T_not}
use lib.ListN.{length}
use borrow.Author.Tests.{lt-ltb, lt-leb, eq-eqb, ne_eqb}
use Rattle.numbers.specs.Tests.{pick, All}
use Rattle.numbers.proofs.TestLaws.{by_test, T_true, T_false, and_T, nand_T, and_last, and-false, tests, all_map}
use Rattle.prices.specs.Prices.{highest, permitted}
use Rattle.prices.proofs.PriceLaws.{legal_positive, permitted_by, permitted_none}
use Rattle.book.specs.declared.Order.{Order}
use Rattle.book.specs.rules.Orders.{is_buy, find, without}
use Rattle.book.specs.rules.Matching.{matching}
use Rattle.book.specs.rules.Words.{is_book}
use Rattle.book.proofs.definitions.OrderLaws.{id_of, Other, Distinct, taken_all, mem_taken, without_all, insert_taken, taken_mem, without_mem, without_differ, all_members, find_mem, same_id, Found, find_found}
use Rattle.book.proofs.definitions.MatchingLaws.{matching_own_side}
use Rattle.book.proofs.definitions.OrderConditionLaws.{MayRest, market_short}
use Rattle.engine.specs.declared.Market.{Market}
use Rattle.engine.specs.declared.Entry.{Entry}
use Rattle.engine.specs.declared.Event.{Event}
use Rattle.engine.specs.declared.Event.TheVariants.{Entry as entry, Cancel as cancel, Bid as bid, Tape as tape, DayEnd as day_end, OwnedEntry as owned_entry, TimedTape as timed_tape}
use Rattle.engine.specs.declared.Remainder.{Remainder}
use Rattle.engine.specs.declared.Remainder.TheVariants.{Filled, Cancelled, Rests}
use Rattle.engine.specs.declared.Move.{Move}
use Rattle.engine.specs.declared.Move.TheVariants.{Stay, Cancel, Reprice}
use Rattle.engine.specs.rules.Market.{market_after, restricted, permitted_now}
use Rattle.engine.specs.rules.Working.{limit_of, follows_bid, life_of, working_price, order_of, remainder, after_remainder, work}
use Rattle.engine.specs.rules.Pass.{may_slide, move_of, after_move}
use Rattle.engine.specs.rules.Venue.{Venue, the_pass, entering, effect_of_entry, effect_of_cancel, effect_of_day_end, effect_of}
use Rattle.engine.specs.rules.Refusals.{first_of, refusal_of_terms, refusal_of_entry, refusal_of_kind, refusal}
use Rattle.engine.specs.rules.Run.{Step, step_unless, step}
use Rattle.engine.specs.rules.Layout.{venue_of, step_in}
use Rattle.engine.specs.steps.Steps.{move_in_pass}
use Rattle.engine.specs.claims.MarketOrders.{limit_order, with_terms, MarketShort, Immediate, MarketOrdersWork, MarketFlagKept, runs_pass, MarketShortsStay, MarketShortsStayInCalls, MovesAsBefore, EntriesAsBefore}
use Rattle.engine.proofs.refinement.RefusalLaws.{EntryAllowed, Allowed, NotRefused, Unless, refusal_known}
use Rattle.engine.proofs.demand3.MarketLaws.{restricted_mark, HasPermitted}
use Rattle.engine.proofs.demand3.SoundLaws.{SoundBook, book_distinct, book_order, SoundVenue, sound_venue, market_permits, effect_of_sound}
use Rattle.engine.proofs.demand3.WorkingKeeps.{work_all}
use Rattle.engine.proofs.requests.PassLaws.{KeptByTurn, the_pass_turns, the_pass_all}

-- how a market order works

module _ (m : Market) (stamp k : ℕ) (e : Entry) (z : e.price ≡ 0) where
  zero_price : eqb e.price 0 ≡ true
  zero_price = eq-eqb e.price 0 z

  -- no short is a buy
  not_buy : T (restricted m e.mark) → eqb e.mark 0 ≡ false
  not_buy r = ne_eqb e.mark 0 (λ b. omega (arith, restricted_mark m e.mark r))

  -- where there is a bid, the permitted price is above 1
  above_one : 1 ≤ m.bid → 1 < permitted_now m
  unfolding permitted_now
  above_one l = permitted_by m.step (λ (x : ℕ). 1 < x) m.bid (λ b. absurd (omega arith)) (λ b c. omega arith) (λ b. omega arith)

  follows : T (restricted m e.mark && ltb 0 m.bid) → MarketShort m stamp k e
  unfolding order_of working_price limit_of life_of follows_bid pick
  follows t =
      let p = and_T (restricted m e.mark) (ltb 0 m.bid) t in
      let r = T_true (restricted m e.mark) p.0 in
      let b = T_true (ltb 0 m.bid) p.1 in
      let above = above_one (leb→le 1 m.bid p.1) in
      record {
        order = rw (zero_price, r, b, not_buy p.0);
        price = rw (zero_price, r, not_buy p.0) (omega arith);
        adjusted = rw (zero_price, r, not_buy p.0) (lt-ltb 1 (max 1 (permitted_now m)) (omega arith));
      }

  module _ (n : T (not (restricted m e.mark && ltb 0 m.bid))) where
    market_limit : limit_of e.mark e.price ≡ pick (eqb e.mark 0) highest 1
    unfolding limit_of pick
    market_limit = rw zero_price

    -- the permitted price is 1 where there is no bid, which a sell works at in any case
    restricted_price : T (restricted m e.mark) → max (pick (eqb e.mark 0) highest 1) (permitted_now m) ≡ pick (eqb e.mark 0) highest 1
    unfolding permitted_now pick
    restricted_price r = rw (not_buy r, ap (permitted m.step) (none_there (nand_T (restricted m e.mark) (ltb 0 m.bid) n)), permitted_none m.step)
      where
        none_there : T (not (restricted m e.mark)) ⊎ T (not (ltb 0 m.bid)) → m.bid ≡ 0
        none_there (inl x) = absurd (T_not (restricted m e.mark) x r)
        none_there (inr x) = omega tests

    immediate_price : (order_of m stamp k e).price ≡ pick (eqb e.mark 0) highest 1
    unfolding order_of working_price
    immediate_price = rw market_limit (by_test (λ (x : ℕ). x ≡ pick (eqb e.mark 0) highest 1) (restricted m e.mark) restricted_price (λ r. refl))

    immediate_order : order_of m stamp k e ≡ limit_order m stamp k (with_terms (pick (eqb e.mark 0) highest 1) 1 e) false
    unfolding order_of working_price limit_of life_of follows_bid pick
    immediate_order = simp (zero_price, T_false (restricted m e.mark && ltb 0 m.bid) n)

    immediate : Immediate m stamp k e
    immediate = record { order = immediate_order; price = immediate_price }

pub market_orders_work : MarketOrdersWork
market_orders_work m stamp k e z = (follows m stamp k e z, immediate m stamp k e z)

-- the flag is kept

-- the orders with the id i have this flag
abbrev Flagged : ℕ → Bool → Order → Type 0
Flagged i flag x = x.id ≡ i → x.market ≡ flag

module _ (i : ℕ) (flag : Bool) where
  the_pass_flagged : (m : Market) (v : Venue) → HasPermitted m → SoundBook m.step v.last_id v.last_stamp v.orders → All (Flagged i flag) v.orders → All (Flagged i flag) (the_pass m v).orders
  the_pass_flagged m v t b f = the_pass_all (Flagged i flag) (λ z q k. k) (λ price stamp used o k. k) m v t b f

  effect_of_entry_flagged : (v : Venue) (e : Entry) (j : ℕ) → i ≤ v.last_id → EntryAllowed v e → SoundVenue v → All (Flagged i flag) v.orders → All (Flagged i flag) (effect_of_entry v.market v j e).orders
  unfolding entering effect_of_entry order_of
  effect_of_entry_flagged v e j l a g f =
      work_all (Flagged i flag) (λ z q k. k) _ v.orders (book_distinct g.book) (λ z. absurd (omega (arith, a.place.new_id))) f

  effect_of_flagged : (v : Venue) (e : Event) → i ≤ v.last_id → Allowed v e → SoundVenue v → All (Flagged i flag) v.orders → All (Flagged i flag) (effect_of (market_after e v.market) v e).orders
  unfolding effect_of effect_of_cancel effect_of_day_end
  effect_of_flagged v (entry e) l a g f = effect_of_entry_flagged v e 0 l a g f
  effect_of_flagged v (cancel j) l a g f = without_all (Flagged i flag) j v.orders f
  effect_of_flagged v (bid b) l a g f = the_pass_flagged _ v (g.market.step, a) g.book f
  effect_of_flagged v (tape p) l a g f = the_pass_flagged _ v (market_permits g.market) g.book f
  effect_of_flagged v (day_end c) l a g f = tt
  effect_of_flagged v (owned_entry e k) l a g f = effect_of_entry_flagged v e k l a.0 g f
  effect_of_flagged v (timed_tape x) l a g f = the_pass_flagged _ v (market_permits g.market) g.book f

-- what was found under an id rests, with that id
found : {i : ℕ} {os : List Order} {o : Order} → find i os ≡ some o → Memᴰ o os × (o.id ≡ i)
found {i} {os} e = subst (Found i os) e (find_found i os)

step_unless_flag : (x : Option ℕ) (v : Venue) (e : Event) (buffer i : ℕ) (o o' : Order) → Unless x (NotRefused v e buffer) → find i v.orders ≡ some o → find i (step_unless x v e).venue.orders ≡ some o' → o'.market ≡ o.market
unfolding step_unless
step_unless_flag (some k) v e buffer i o o' u f f' = let z : some o' ≡ some o = sym f' ∙ f in cc
step_unless_flag none v e buffer i o o' u f f' =
    let g = sound_venue v u.sound in
    let h = found f in
    let h' = found f' in
    let all : All (Flagged i o.market) v.orders = all_map (λ x k z. ap (λ (y : Order). y.market) (same_id k h.0 (book_distinct g.book) (z ∙ sym h.1))) v.orders (all_members v.orders) in
    let after = effect_of_flagged i o.market v e (omega (arith, h.1, (book_order g.book h.0).works.id)) u.allowed g all in
    (taken_all (Flagged i o.market) (mem_taken h'.0 (book_distinct (effect_of_sound v e u.allowed g).0)) after).0 h'.1

pub market_flag_kept : MarketFlagKept
unfolding step
market_flag_kept v e buffer i o o' f f' = step_unless_flag (refusal v e buffer) v e buffer i o o' (refusal_known v e buffer) f f'

-- a resting market short without a bid

after_remainder_mem : {o : Order} (x : Remainder) (w : Order) {os : List Order} → Memᴰ o os → Memᴰ o (after_remainder x w os).orders
unfolding after_remainder
after_remainder_mem Filled w h = h
after_remainder_mem (Cancelled cause) w h = h
after_remainder_mem Rests w {os} h = taken_mem (insert_taken w os) h

-- an order that works leaves those of its own side as they are
work_own_side : (o w : Order) (os : List Order) → Distinct os → is_buy o ≡ is_buy w → Memᴰ o os → Memᴰ o (work w os).orders
unfolding work
work_own_side o w os d e h =
    let left = (matching w os).left in
    after_remainder_mem (remainder left) left (matching_own_side o w os d e h)

-- only a short is re-priced
abbrev OfShort : Order → Move → Type 0
OfShort x Stay = Unit {0}
OfShort x Cancel = Unit {0}
OfShort x (Reprice p used) = x.mark ≡ 2

of_short : (x : Order) → x.mark ≡ 2 → (y : Move) → OfShort x y
of_short x e Stay = tt
of_short x e Cancel = tt
of_short x e (Reprice p used) = e

-- the turn of another order
after_move_mem : (o x : Order) (os : List Order) (s : ℕ) (y : Move) → Other x.id o → OfShort x y → o.mark ≡ 2 → Distinct os → Memᴰ o os → Memᴰ o (after_move y x os s).orders
unfolding after_move
after_move_mem o x os s Stay other e k d h = h
after_move_mem o x os s Cancel other e k d h = without_mem x.id other h
after_move_mem o x os s (Reprice p used) other e k d h =
    work_own_side o _ (without x.id os) (without_differ id_of x.id os d) (ap (λ (j : ℕ). eqb j 0) (k ∙ sym e)) (without_mem x.id other h)

module _ (m : Market) (no_bid : m.bid ≡ 0) (n : ℕ) (o : Order) (said : T o.market) where
  -- its own turn
  stays : 1 ≤ o.price → move_of m o ≡ Stay
  unfolding move_of may_slide pick
  stays l =
      let f : leb o.price m.bid ≡ false = lt-leb o.price m.bid (omega (arith, no_bid, l)) in
      let g : eqb m.bid 0 ≡ true = eq-eqb m.bid 0 no_bid in
      simp (T_true o.market said, f, g, and-false o.adjusted)

  turn_stays : KeptByTurn m n (Memᴰ o)
  unfolding after_move
  turn_stays x os s e b h = go (ℕ_discrete o.id x.id)
    where
      rests : MayRest m.step n s o
      rests = book_order b h

      own : o ≡ x → move_in_pass m x ≡ Stay
      own z = by_test (λ (y : Move). y ≡ Stay) _ (λ r. subst (λ (y : Order). move_of m y ≡ Stay) z (stays (legal_positive m.step o.price rests.works.price))) (λ r. refl)

      go : Dec (o.id ≡ x.id) → Memᴰ o (after_move (move_in_pass m x) x os s).orders
      go (yes z) = subst (λ (y : Move). Memᴰ o (after_move y x os s).orders) (sym (own (same_id h e (book_distinct b) z))) h
      go (no z) =
          after_move_mem o x os s (move_in_pass m x) z (by_test (OfShort x) _ (λ r. of_short x (restricted_mark m x.mark r) (move_of m x)) (λ r. tt)) (market_short m.step o said rests.works.fields).0 (book_distinct b) h

effect_of_stays : (v : Venue) (e : Event) (o : Order) → T (runs_pass e) → (market_after e v.market).bid ≡ 0 → Allowed v e → SoundVenue v → T o.market → Memᴰ o v.orders → Memᴰ o (effect_of (market_after e v.market) v e).orders
unfolding effect_of
effect_of_stays v (entry e) o q z a g said h = absurd q
effect_of_stays v (cancel i) o q z a g said h = absurd q
effect_of_stays v (bid b) o q z a g said h = the_pass_turns _ v (g.market.step, a) g.book (Memᴰ o) (turn_stays _ z v.last_id o said) h
effect_of_stays v (tape p) o q z a g said h = the_pass_turns _ v (market_permits g.market) g.book (Memᴰ o) (turn_stays _ z v.last_id o said) h
effect_of_stays v (day_end c) o q z a g said h = absurd q
effect_of_stays v (owned_entry e k) o q z a g said h = absurd q
effect_of_stays v (timed_tape x) o q z a g said h = the_pass_turns _ v (market_permits g.market) g.book (Memᴰ o) (turn_stays _ z v.last_id o said) h

step_unless_stays : (x : Option ℕ) (v : Venue) (e : Event) (buffer : ℕ) → Unless x (NotRefused v e buffer) → T (runs_pass e) → (market_after e v.market).bid ≡ 0 → (i : ℕ) (o : Order) → find i v.orders ≡ some o → T o.market → find i (step_unless x v e).venue.orders ≡ some o
unfolding step_unless
step_unless_stays (some k) v e buffer u q z i o f said = f
step_unless_stays none v e buffer u q z i o f said =
    let g = sound_venue v u.sound in
    let h = found f in
    let after : List Order = (effect_of (market_after e v.market) v e).orders in
    subst (λ (j : ℕ). find j after ≡ some o) h.1 (find_mem (effect_of_stays v e o q z u.allowed g said h.0) (book_distinct (effect_of_sound v e u.allowed g).0))

pub market_shorts_stay : MarketShortsStay
unfolding step
market_shorts_stay v e buffer q z i o f said = step_unless_stays (refusal v e buffer) v e buffer (refusal_known v e buffer) q z i o f said

pub market_shorts_stay_in_calls : MarketShortsStayInCalls
unfolding step_in venue_of
market_shorts_stay_in_calls w e b answer w' b' a q z i o f said =
    subst (λ (v : Venue). find i v.orders ≡ some o) (sym a.venue) (by_test (λ (s : Step). find i s.venue.orders ≡ some o) (is_book w) (λ t. market_shorts_stay (venue_of w) e (length b) q z i o f said) (λ t. f))

-- as before

pub moves_as_before : MovesAsBefore
unfolding move_of may_slide
moves_as_before m o t = rw (T_false (o.market && eqb m.bid 0) t, and_last o.adjusted)

pub entries_as_before : EntriesAsBefore
unfolding refusal_of_kind refusal_of_entry refusal_of_terms first_of entering effect_of_entry order_of working_price limit_of life_of follows_bid pick
entries_as_before v e n =
    let z : eqb e.price 0 ≡ false = ne_eqb e.price 0 n in
    record { refusal = rw z; owned = λ k. rw z; effect = λ k. rw z }
