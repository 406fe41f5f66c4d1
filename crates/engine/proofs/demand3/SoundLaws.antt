-- The conditions of a venue record as facts, and that no event breaks those of the book and the market. Assumes nothing.
use Prim.Native.Nat.{ℕ, ◌+◌, ◌*◌, ◌≤◌, ◌<◌, min}
use native.Mathlib.Omega.{arith}
use mathlib.Core.Path.{◌≡◌, refl, sym, subst}
use mathlib.Core.Bool.{Bool, true}
use mathlib.Core.Option.{Option, none, some}
use mathlib.Core.List.{List, [], ◌∷◌, map, Memᴰ}
use lib.Dec.{T, leb→le, le→leb, eqb→eq, T_not}
use lib.ListN.{length, length-map}
use Rattle.numbers.specs.Tests.{pick, All}
use Rattle.numbers.proofs.TestLaws.{by_test, and_T, Each, conj_T, T-conj, every_T, T-every, neqb, tests, all_map}
use Rattle.prices.specs.Prices.{is_step, legal, is_bid}
use Rattle.prices.specs.Pause.{sound_kept}
use Rattle.prices.proofs.RestrictionLaws.{tape_phase, day_end_phase}
use Rattle.prices.proofs.PauseLaws.{none_sound, keeping_sound}
use Rattle.prices.proofs.PriceLaws.{no_bid, max_legal, permitted_legal, max_bid_legal}
use Rattle.book.specs.declared.Order.{Order}
use Rattle.book.specs.rules.Orders.{find, without}
use Rattle.book.specs.rules.Matching.{Matched, Meeting, trading, withdrawing, meeting, matching, after_trade}
use Rattle.book.specs.rules.Sound.{most_owner, sound_order, market_allowed}
use Rattle.book.proofs.definitions.OrderLaws.{id_of, stamp_of, Other, Differ, Distinct, taken_all, all_taken, differ_taken, taken_length, mem_taken, insert_taken, without_all, without_other, without_differ, without_length, Found, find_found}
use Rattle.book.proofs.definitions.RisingLaws.{Rises, ids_rise_rises, rises_ids_rise, rises_all, rises_distinct, rises_without, rises_insert, rises_after_trade}
use Rattle.book.proofs.refinement.SoundBookLaws.{stamps_differ_differ, differ_stamps_differ}
use Rattle.book.proofs.definitions.MeetingLaws.{meeting_by, trading_known, withdrawing_known}
use Rattle.book.proofs.definitions.MatchingLaws.{after_trade_all, after_trade_differ, after_trade-length, matching_keeps, unread}
use Rattle.engine.specs.declared.Market.{Market}
use Rattle.engine.specs.declared.Entry.{Entry}
use Rattle.engine.specs.declared.Event.{Event}
use Rattle.engine.specs.declared.Event.TheVariants.{Entry as entry, Cancel as cancel, Bid as bid, Tape as tape, DayEnd as day_end, OwnedEntry as owned_entry, TimedTape as timed_tape}
use Rattle.engine.specs.declared.Remainder.{Remainder}
use Rattle.engine.specs.declared.Remainder.TheVariants.{Filled, Cancelled, Rests}
use Rattle.engine.specs.declared.Move.{Move}
use Rattle.engine.specs.declared.Move.TheVariants.{Stay, Cancel, Reprice}
use Rattle.engine.specs.rules.Reports.{cause_number}
use Rattle.engine.specs.rules.Market.{market_after, restricted, permitted_now}
use Rattle.engine.specs.rules.Working.{is_market, limit_of, follows_bid, life_of, working_price, order_of, remainder, after_remainder, work}
use Rattle.engine.specs.rules.Pass.{move_down, slide_once, slide_down, move_of, at_new_price, Effect, after_move, pass_one, pass_over}
use Rattle.engine.specs.rules.Venue.{Venue, the_pass, entering, effect_of_entry, effect_of_cancel, effect_of_day_end, effect_of, last_id_after, kept_after}
use Rattle.engine.specs.rules.Sound.{most_orders, most_events, venue_conditions, sound}
use Rattle.engine.specs.steps.Steps.{HasPlace}
use Rattle.book.proofs.definitions.OrderConditionLaws.{FieldsSound, MayWork, MayRest, market_allowed_lem, may_work_reduced, may_rest_later, order_may_rest, may_rest_order}
use Rattle.engine.proofs.refinement.RefusalLaws.{EntryAllowed, Allowed, place_kept}
use Rattle.engine.proofs.demand3.MarketLaws.{restricted_mark, HasPermitted}

-- the book; g is the step, n the last id and s the last stamp

pub record SoundBook (g n s : ℕ) (os : List Order) : Type 0 where
  pub few : length os ≤ most_orders
  pub rises : Rises 0 os
  pub orders : All (MayRest g n s) os
  pub stamps : Differ stamp_of os

-- an order works, and has a place in the book or needs none
pub record SoundWork (g n s : ℕ) (w : Order) (os : List Order) : Type 0 where
  pub book : SoundBook g n s os
  pub place : HasPlace w.life (length os)
  pub works : MayWork g n s w
  pub new_stamp : All (λ (x : Order). x.stamp ≡ w.stamp → ⊥) os
  pub new_id : All (Other w.id) os
  pub positive : 0 < w.id

module _ {g n s : ℕ} {os : List Order} (b : SoundBook g n s os) where
  pub book_distinct : Distinct os
  book_distinct = rises_distinct 0 os b.rises

  -- an id above the last one is no order's
  pub book_others : {i : ℕ} → n < i → All (Other i) os
  book_others l = all_map (λ x k z. omega (arith, k.works.id, l)) os b.orders

  pub book_order : {o : Order} → Memᴰ o os → MayRest g n s o
  book_order m = (taken_all (MayRest g n s) (mem_taken m book_distinct) b.orders).0

  book_later : (m r : ℕ) → n ≤ m → s ≤ r → SoundBook g m r os
  book_later m r l k = record { few = b.few; rises = b.rises; orders = all_map (may_rest_later g n s m r l k) os b.orders; stamps = b.stamps }

  pub book_without : (i : ℕ) → SoundBook g n s (without i os)
  book_without i =
      record {
        few = omega (arith, without_length i os, b.few);
        rises = rises_without 0 i os b.rises;
        orders = without_all (MayRest g n s) i os b.orders;
        stamps = without_differ stamp_of i os b.stamps;
      }

  book_after_trade : {o : Order} (q : ℕ) → Memᴰ o os → SoundBook g n s (after_trade o q os)
  book_after_trade {o} q m =
      let d : Distinct os = book_distinct in
      record {
        few = omega (arith, after_trade-length q m d, b.few);
        rises = rises_after_trade 0 o q os m b.rises;
        orders = after_trade_all q m d (MayRest g n s) (λ z k l h. record { works = may_work_reduced g n s k z h.works; least = omega arith; day = h.day }) b.orders;
        stamps = after_trade_differ q m d stamp_of refl b.stamps;
      }

-- a working order

-- what is known where this becomes of what is left of w
abbrev pub RemainderOf : Order → Remainder → Type 0
RemainderOf w Filled = w.shares ≡ 0
RemainderOf w (Cancelled cause) = (0 < w.shares) × (cause_number cause ≤ 3)
RemainderOf w Rests = (0 < w.shares) × (w.life ≡ 1 → ⊥)

pub remainder_known : (w : Order) → RemainderOf w (remainder w)
unfolding remainder
remainder_known w =
    by_test
    (RemainderOf w)
    _
    (λ t. eqb→eq w.shares 0 t)
    (λ t. by_test (RemainderOf w) _ (λ r. (omega tests, omega arith)) (λ r. by_test (RemainderOf w) _ (λ x. (omega tests, omega arith)) (λ x. (omega tests, neqb w.life 1 r))))

-- an order that rests isn't immediate or cancel
pub rests_not_immediate : (w : Order) → Rests ≡ remainder w → w.life ≡ 1 → ⊥
rests_not_immediate w e = (subst (RemainderOf w) (sym e) (remainder_known w)).1

module _ {g n s : ℕ} {w : Order} {os : List Order} where
  withdrawing_sound : {o : Order} → Memᴰ o os → SoundWork g n s w os → SoundWork g n s (withdrawing w o os).left (withdrawing w o os).orders
  withdrawing_sound {o} m k =
      rw (withdrawing_known w o os) record {
        book = book_without k.book o.id;
        place = place_kept k.place (without_length o.id os);
        works = k.works;
        new_stamp = without_all (λ (x : Order). x.stamp ≡ w.stamp → ⊥) o.id os k.new_stamp;
        new_id = without_all (Other w.id) o.id os k.new_id;
        positive = k.positive;
      }

  trading_sound : {o : Order} → Memᴰ o os → SoundWork g n s w os → SoundWork g n s (trading w o os).left (trading w o os).orders
  trading_sound {o} m k =
      let q : ℕ = min w.shares o.shares in
      let d : Distinct os = book_distinct k.book in
      rw (trading_known w o os) record {
        book = book_after_trade k.book q m;
        place = place_kept k.place (after_trade-length q m d);
        works = may_work_reduced g n s q w k.works;
        new_stamp = after_trade_all q m d (λ (x : Order). x.stamp ≡ w.stamp → ⊥) (λ z j l h. h) k.new_stamp;
        new_id = after_trade_all q m d (Other w.id) (λ z j l h. h) k.new_id;
        positive = k.positive;
      }

  pub meeting_sound : {o : Order} → Memᴰ o os → SoundWork g n s w os → SoundWork g n s (meeting w o os).left (meeting w o os).orders
  meeting_sound {o} m k =
      meeting_by (λ (x : Meeting). SoundWork g n s x.left x.orders) w o os (withdrawing_sound m k) (trading_sound m k)

  after_remainder_sound : (x : Remainder) → RemainderOf w x → SoundWork g n s w os → SoundBook g n s (after_remainder x w os).orders
  unfolding after_remainder
  after_remainder_sound Filled h k = k.book
  after_remainder_sound (Cancelled cause) h k = k.book
  after_remainder_sound Rests h k =
      let t = insert_taken w os in
      record {
        few = omega (arith, k.place h.1, taken_length t);
        rises = rises_insert 0 w os k.positive k.new_id k.book.rises;
        orders = all_taken (MayRest g n s) t (record { works = k.works; least = h.0; day = omega (arith, h.1, k.works.fields.life) }) k.book.orders;
        stamps = differ_taken stamp_of t k.new_stamp k.book.stamps;
      }

pub work_sound : {g n s : ℕ} (w : Order) (os : List Order) → SoundWork g n s w os → SoundBook g n s (work w os).orders
unfolding work
work_sound {g} {n} {s} w os h =
    let m : Matched = matching w os in
    after_remainder_sound (remainder m.left) (remainder_known m.left) (matching_keeps unread (λ x l a. SoundWork g n s x l) (λ x o l a r k. meeting_sound r.0 k) w os tt h)

-- where the pass sends an order

-- a new price is legal
abbrev pub MoveSound : ℕ → Move → Type 0
MoveSound g Stay = Unit {0}
MoveSound g Cancel = Unit {0}
MoveSound g (Reprice p used) = T (legal g p)

-- the larger of a legal price and a bid
permitted_now_legal : (m : Market) → HasPermitted m → T (legal m.step (permitted_now m))
unfolding permitted_now
permitted_now_legal m t = permitted_legal m.step t.0 m.bid t.1

move_down_sound : (g t : ℕ) (used : Bool) (o : Order) → T (legal g t) → MoveSound g (move_down t used o)
unfolding move_down
move_down_sound g t used o h = by_test (MoveSound g) _ (λ x. h) (λ x. tt)

slide_down_sound : (m : Market) → HasPermitted m → (o : Order) → FieldsSound m.step o → MoveSound m.step (slide_down m o)
unfolding slide_down slide_once
slide_down_sound m t o h =
    let Sound : Move → Type 0 = MoveSound m.step in
    by_test
    Sound
    _
    (λ x. move_down_sound m.step _ o.used o (max_legal m.step o.limit (permitted_now m) h.limit (permitted_now_legal m t)))
    (λ x. by_test Sound _ (λ y. by_test Sound _ (λ z. move_down_sound m.step _ true o (max_bid_legal m.step o.limit o.entry_bid h.limit h.entry_bid)) (λ z. tt)) (λ y. tt))

pub move_of_sound : (m : Market) → HasPermitted m → (o : Order) → FieldsSound m.step o → MoveSound m.step (pick (restricted m o.mark) (move_of m o) Stay)
unfolding move_of
move_of_sound m t o h =
    let Sound : Move → Type 0 = MoveSound m.step in
    by_test
    Sound
    _
    (λ r. by_test Sound _ (λ x. by_test Sound _ (λ y. tt) (λ y. permitted_now_legal m t)) (λ x. by_test Sound _ (λ y. slide_down_sound m t o h) (λ y. tt)))
    (λ r. tt)

-- the pass

-- the book after an effect, and how many stamps it took at most
abbrev pub SoundEffect : ℕ → ℕ → ℕ → ℕ → Effect → Type 0
SoundEffect g n s k x = SoundBook g n x.stamp x.orders × (x.stamp ≤ s + k)

-- an order of the book at a new price, with the next stamp
pub at_new_price_sound : {g n s : ℕ} {o : Order} {os : List Order} (p : ℕ) (used : Bool) → T (legal g p) → Memᴰ o os → SoundBook g n s os → SoundWork g n (s + 1) (at_new_price p (s + 1) used o) (without o.id os)
at_new_price_sound {g} {n} {s} {o} {os} p used h m b =
    let t = mem_taken m (book_distinct b) in
    let w = (book_order b m).works in
    let r : SoundBook g n s (without o.id os) = book_without b o.id in
    record {
      book = book_later r n (s + 1) (omega arith) (omega arith);
      place = λ z. omega (arith, taken_length t, b.few);
      works = record { fields = w.fields; id = w.id; first = omega arith; last = omega arith; price = h; most = w.most };
      new_stamp = all_map (λ x k e. omega (arith, k.works.last)) (without o.id os) r.orders;
      new_id = without_other o.id os;
      positive = (taken_all (λ (x : Order). 0 < x.id) t (rises_all 0 os b.rises)).0;
    }

after_move_sound : {g n s : ℕ} {o : Order} {os : List Order} (x : Move) → MoveSound g x → Memᴰ o os → SoundBook g n s os → SoundEffect g n s 1 (after_move x o os s)
unfolding after_move
after_move_sound Stay h m b = (b, omega arith)
after_move_sound {o} Cancel h m b = (book_without b o.id, omega arith)
after_move_sound (Reprice p used) h m b = (work_sound _ _ (at_new_price_sound p used h m b), omega arith)

module _ (m : Market) (t : HasPermitted m) (n : ℕ) where
  pub pass_one_sound : (i : ℕ) (x : Option Order) (os : List Order) (s : ℕ) → Found i os x → SoundBook m.step n s os → SoundEffect m.step n s 1 (pass_one m x os s)
  unfolding pass_one
  pass_one_sound i none os s f b = (b, omega arith)
  pass_one_sound i (some o) os s f b = after_move_sound _ (move_of_sound m t o (book_order b f.0).works.fields) f.0 b

  pass_over_sound : (is : List ℕ) (os : List Order) (s : ℕ) → SoundBook m.step n s os → SoundEffect m.step n s (length is) (pass_over m is os s)
  unfolding pass_over
  pass_over_sound [] os s b = (b, omega arith)
  pass_over_sound (i ∷ is) os s b =
      let x = pass_one_sound i (find i os) os s (find_found i os) b in
      let y = pass_over_sound is _ _ x.0 in
      (y.0, omega (arith, x.1, y.1))

-- the venue

pub record SoundMarket (m : Market) : Type 0 where
  pub step : T (is_step m.step)
  pub phase : m.phase ≤ 2
  pub close : T (legal m.step m.close)
  pub bid : T (is_bid m.step m.bid)

pub market_permits : {m : Market} → SoundMarket m → HasPermitted m
market_permits g = (g.step, g.bid)

pub record SoundVenue (v : Venue) : Type 0 where
  pub book : SoundBook (v.market.step) v.last_id v.last_stamp v.orders
  pub market : SoundMarket v.market
  pub kept : T (sound_kept (v.market.step) v.kept)
  pub events : v.accepted_events ≤ most_events
  pub stamps : v.last_stamp ≤ 256 * v.accepted_events

pub sound_venue : (v : Venue) → T (sound v) → SoundVenue v
unfolding sound
sound_venue v t = go (conj_T (venue_conditions v) t)
  where
    go : Each (venue_conditions v) → SoundVenue v
    go (few, (rises, (orders, (differ, (kept, (step, (phase, (close, (best, (events, (stamps, end))))))))))) =
        record {
          book =
              record {
                few = leb→le _ _ few;
                rises = ids_rise_rises 0 v.orders rises;
                orders = all_map (order_may_rest (v.market.step) v.last_id v.last_stamp) v.orders (every_T (sound_order (v.market.step) v.last_id v.last_stamp) v.orders orders);
                stamps = stamps_differ_differ v.orders differ;
              };
          market = record { step = step; phase = leb→le _ _ phase; close = close; bid = best };
          kept = kept;
          events = leb→le _ _ events;
          stamps = leb→le _ _ stamps;
        }

pub venue_sound : (v : Venue) → SoundVenue v → T (sound v)
unfolding sound
venue_sound v g =
    T-conj (venue_conditions v) (le→leb _ _ g.book.few, (rises_ids_rise 0 v.orders g.book.rises, (T-every (sound_order (v.market.step) v.last_id v.last_stamp) v.orders (all_map (may_rest_order (v.market.step) v.last_id v.last_stamp) v.orders g.book.orders), (differ_stamps_differ v.orders g.book.stamps, (g.kept, (g.market.step, (le→leb _ _ g.market.phase, (g.market.close, (g.market.bid, (le→leb _ _ g.events, (le→leb _ _ g.stamps, tt)))))))))))

-- events

module _ (m : Market) (mark price : ℕ) where
  pub working_price_legal : T (legal m.step (limit_of mark price)) → HasPermitted m → T (legal m.step (working_price m mark price))
  unfolding working_price
  working_price_legal h t =
      by_test (λ (p : ℕ). T (legal m.step p)) _ (λ r. max_legal m.step (limit_of mark price) (permitted_now m) h (permitted_now_legal m t)) (λ r. h)

  life_code : (life : ℕ) → life ≤ 1 → life_of m mark price life ≤ 1
  unfolding life_of
  life_code life h = by_test (λ (x : ℕ). x ≤ 1) _ (λ t. omega arith) (λ t. h)

  -- what follows the bid is a short with limit 1
  follows_short : T (follows_bid m mark price) → (mark ≡ 2) × (limit_of mark price ≡ 1)
  unfolding follows_bid limit_of
  follows_short t =
      let a = and_T (is_market price) _ t in
      let b = restricted_mark m mark (and_T (restricted m mark) _ a.1).0 in
      (b, by_test (λ (x : ℕ). x ≡ 1) _ (λ y. by_test (λ (x : ℕ). x ≡ 1) _ (λ z. absurd (omega tests)) (λ z. refl)) (λ y. absurd (T_not (is_market price) y a.0)))

  follows_allowed : T (market_allowed (follows_bid m mark price) mark (limit_of mark price))
  follows_allowed = market_allowed_lem (follows_bid m mark price) mark (limit_of mark price) follows_short

pub order_of_sound : (v : Venue) (e : Entry) (k : ℕ) → EntryAllowed v e → k ≤ most_owner → SoundVenue v → SoundWork (v.market.step) e.id (v.last_stamp + 1) (order_of v.market (v.last_stamp + 1) k e) v.orders
unfolding order_of
order_of_sound v e k f o g =
    let c = f.codes in
    let m = v.market in
    let t = f.terms in
    let p = f.place in
    record {
      book = book_later g.book e.id (v.last_stamp + 1) (omega (arith, p.new_id)) (omega arith);
      place = p.has_place;
      works =
          record {
            fields = record { mark = c.mark; limit = t.limit; show = c.show; life = life_code m e.mark e.price e.life c.life; slide = c.slide; entry_bid = g.market.bid; market = follows_allowed m e.mark e.price; owner = o };
            id = omega arith;
            first = omega arith;
            last = omega arith;
            price = working_price_legal m e.mark e.price t.limit (market_permits g.market);
            most = t.most;
          };
      new_stamp = all_map (λ x k z. omega (arith, k.works.last)) v.orders g.book.orders;
      new_id = book_others g.book p.new_id;
      positive = omega (arith, p.new_id);
    }

pub market_after_sound : (v : Venue) (e : Event) → Allowed v e → SoundMarket v.market → SoundMarket (market_after e v.market)
market_after_sound v (entry e) f g = g
market_after_sound v (cancel i) f g = g
market_after_sound v (bid b) f g = record { step = g.step; phase = g.phase; close = g.close; bid = f }
market_after_sound v (tape p) f g = record { step = g.step; phase = tape_phase v.market.close v.market.phase p g.phase; close = g.close; bid = g.bid }
market_after_sound v (day_end c) f g = record { step = g.step; phase = day_end_phase v.market.phase; close = f; bid = no_bid (v.market.step) }
market_after_sound v (owned_entry e k) f g = g
market_after_sound v (timed_tape x) f g =
    record { step = g.step; phase = tape_phase v.market.close v.market.phase x.price g.phase; close = g.close; bid = g.bid }

pub kept_after_sound : (v : Venue) (e : Event) → Allowed v e → SoundVenue v → T (sound_kept (market_after e v.market).step (kept_after e v.kept))
kept_after_sound v (entry e) f g = g.kept
kept_after_sound v (cancel i) f g = g.kept
kept_after_sound v (bid b) f g = g.kept
kept_after_sound v (tape p) f g = g.kept
kept_after_sound v (day_end c) f g = none_sound (v.market.step)
kept_after_sound v (owned_entry e k) f g = g.kept
kept_after_sound v (timed_tape x) f g = keeping_sound (v.market.step) x.time x.price v.kept g.kept f.price f.time f.few

the_pass_sound : (m : Market) (v : Venue) → HasPermitted m → SoundBook m.step v.last_id v.last_stamp v.orders → SoundEffect m.step v.last_id v.last_stamp most_orders (the_pass m v)
unfolding the_pass
the_pass_sound m v t b =
    let r = pass_over_sound m t v.last_id (map id_of v.orders) v.orders v.last_stamp b in
    (r.0, omega (arith, r.1, b.few, length-map v.orders id_of))

pub effect_of_sound : (v : Venue) (e : Event) → Allowed v e → SoundVenue v → let m : Market = market_after e v.market in SoundEffect m.step (last_id_after v e) v.last_stamp most_orders (effect_of m v e)
unfolding effect_of entering effect_of_entry order_of effect_of_cancel effect_of_day_end
effect_of_sound v (entry e) f g = (work_sound _ v.orders (order_of_sound v e 0 f (omega arith) g), omega arith)
effect_of_sound v (cancel i) f g = (book_without g.book i, omega arith)
effect_of_sound v (bid b) f g = the_pass_sound _ v (g.market.step, f) g.book
effect_of_sound v (tape p) f g = the_pass_sound _ v (market_permits g.market) g.book
effect_of_sound v (day_end c) f g = (record { few = omega arith; rises = tt; orders = tt; stamps = tt }, omega arith)
effect_of_sound v (owned_entry e k) f g = (work_sound _ v.orders (order_of_sound v e k f.0 f.1.most g), omega arith)
effect_of_sound v (timed_tape x) f g = the_pass_sound _ v (market_permits g.market) g.book
