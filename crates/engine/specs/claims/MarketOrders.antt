-- Document 02, No. 1, market orders: what is claimed of them, and what stays as document 01 has it. Assumes nothing.
use Rattle.std.specs.Prelude.{ℕ, ◌+◌, max, ◌≡◌, Bool, true, false, not, ◌&&◌, List, ◌∷◌, T, leb, ltb, eqb}
use Rattle.std.proofs.Math.Option.{Option, none, some}
use Rattle.numbers.specs.Tests.{pick}
use Rattle.numbers.specs.Answers.{Outcome}
use Rattle.prices.specs.Prices.{highest, legal}
use Rattle.book.specs.declared.Order.{Order}
use Rattle.book.specs.rules.Orders.{find}
use Rattle.book.specs.rules.Sound.{most_shares}
use Rattle.book.specs.rules.Words.{resting}
use Rattle.engine.specs.declared.Market.{Market}
use Rattle.engine.specs.declared.Entry.{Entry}
use Rattle.engine.specs.declared.Event.{Event}
use Rattle.engine.specs.declared.Event.TheVariants.{Entry as entry, Cancel as cancel, Bid as bid, Tape as tape, DayEnd as day_end, OwnedEntry as owned_entry, TimedTape as timed_tape}
use Rattle.engine.specs.declared.Move.{Move}
use Rattle.engine.specs.declared.Move.TheVariants.{Stay, Cancel, Reprice}
use Rattle.engine.specs.rules.Market.{market_after, restricted, permitted_now}
use Rattle.engine.specs.rules.Reports.{accepted}
use Rattle.engine.specs.rules.Working.{Worked, order_of, work}
use Rattle.engine.specs.rules.Pass.{displayed_clear, slide_down, move_of, Effect}
use Rattle.engine.specs.rules.Venue.{Venue, effect_of_entry}
use Rattle.engine.specs.rules.Refusals.{refuse_unless, first_of, refusal_of_codes, refusal_of_owner, refusal_of_place, refusal_of_kind}
use Rattle.engine.specs.rules.Run.{step}
use Rattle.engine.specs.rules.Layout.{venue_of}
use Rattle.engine.specs.claims.Calls.{Applied}

-- Before No. 1: what document 01 has in place of each part that No. 1 changes

-- the terms of an entry: "3 price not legal; 4 shares"
abbrev pub terms_before : ℕ → ℕ → ℕ → Option ℕ
terms_before s price shares =
    refuse_unless (legal s price) 3
    (refuse_unless (leb 1 shares) 4
    (refuse_unless (leb shares most_shares) 4
    none))

-- the order of an entry: "works at its limit; a restricted one at the larger of limit and permitted price, adjusted if that is above the limit";
-- market is the flag that No. 1 adds to its record, k the owner that No. 7 does
abbrev pub limit_order : Market → ℕ → ℕ → Entry → Bool → Order
limit_order m stamp k e market =
    let p : ℕ = pick (restricted m e.mark) (max e.price (permitted_now m)) e.price in
    record {
      id = e.id;
      mark = e.mark;
      limit = e.price;
      shares = e.shares;
      show = e.show;
      life = e.life;
      slide = e.slide;
      stamp = stamp;
      price = p;
      entry_bid = m.bid;
      adjusted = ltb e.price p;
      used = false;
      clear = ltb m.bid p;
      market = market;
      owner = k;
    }

-- what an accepted entry does: "1 accepted: id, stamp, working price", and it works
abbrev pub effect_before : Market → Venue → ℕ → Entry → Effect
effect_before m v k e =
    let s : ℕ = v.last_stamp + 1 in
    let o : Order = limit_order m s k e false in
    let w : Worked = work o v.orders in
    record { reports = accepted e.id s o.price ∷ w.reports; orders = w.orders; stamp = s }

-- where a restricted order goes: "Otherwise, if adjusted", market short or not
abbrev pub move_before : Market → Order → Move
move_before m o =
    pick (leb o.price m.bid && not (displayed_clear o))
    (pick (eqb o.slide 3) Cancel (Reprice (permitted_now m) o.used))
    (pick o.adjusted (slide_down m o) Stay)

-- The order of an entry with price 0

-- the entry with another price and life
abbrev pub with_terms : ℕ → ℕ → Entry → Entry
with_terms price life e = record { id = e.id; mark = e.mark; price = price; shares = e.shares; show = e.show; life = life; slide = e.slide }

-- "A restricted short with a bid present instead counts as limit 1 and slides, rests or is cancelled by 01's rules, its life included .. the order
-- record says that it is one"; it works at the permitted price and is adjusted
pub record MarketShort (m : Market) (stamp k : ℕ) (e : Entry) : Type 0 where
  pub order : order_of m stamp k e ≡ limit_order m stamp k (with_terms 1 e.life e) true
  pub price : (order_of m stamp k e).price ≡ permitted_now m
  pub adjusted : (order_of m stamp k e).adjusted ≡ true

-- "A buy works at 100,000,000 and any sell at 1, as immediate or cancel"
pub record Immediate (m : Market) (stamp k : ℕ) (e : Entry) : Type 0 where
  pub order : order_of m stamp k e ≡ limit_order m stamp k (with_terms (pick (eqb e.mark 0) highest 1) 1 e) false
  pub price : (order_of m stamp k e).price ≡ pick (eqb e.mark 0) highest 1

abbrev pub MarketOrdersWork : Type 0
MarketOrdersWork =
    (m : Market) (stamp k : ℕ) (e : Entry) → e.price ≡ 0 →
    let t : Bool = restricted m e.mark && ltb 0 m.bid in
    (T t → MarketShort m stamp k e) × (T (not t) → Immediate m stamp k e)

-- A resting market short

-- its record says that it is one as long as it rests
abbrev pub MarketFlagKept : Type 0
MarketFlagKept =
    (v : Venue) (e : Event) (buffer i : ℕ) (o o' : Order) →
    find i v.orders ≡ some o → find i (step v e buffer).venue.orders ≡ some o' → o'.market ≡ o.market

-- "The pass runs after each accepted bid or tape event"
abbrev pub runs_pass : Event → Bool
runs_pass (entry e) = false
runs_pass (cancel i) = false
runs_pass (bid b) = true
runs_pass (tape p) = true
runs_pass (day_end c) = false
runs_pass (timed_tape x) = true
runs_pass (owned_entry e k) = false

-- "With no bid a resting market short stays where it is": after a bid or tape event that leaves no bid it rests as it did, in every field
abbrev pub MarketShortsStay : Type 0
MarketShortsStay =
    (v : Venue) (e : Event) (buffer : ℕ) → T (runs_pass e) → (market_after e v.market).bid ≡ 0 →
    (i : ℕ) (o : Order) → find i v.orders ≡ some o → T o.market → find i (step v e buffer).venue.orders ≡ some o

-- the same of every call of apply, on any words
abbrev pub MarketShortsStayInCalls : Type 0
MarketShortsStayInCalls =
    (w : List ℕ) (e : Event) (b : List ℕ) (answer : Outcome ℕ) (w' b' : List ℕ) → Applied w e b answer w' b' →
    T (runs_pass e) → (market_after e (venue_of w).market).bid ≡ 0 →
    (i : ℕ) (o : Order) → find i (resting w) ≡ some o → T o.market → find i (resting w') ≡ some o

-- As before

-- every order moves as before, but a market short without a bid
abbrev pub MovesAsBefore : Type 0
MovesAsBefore = (m : Market) (o : Order) → T (not (o.market && eqb m.bid 0)) → move_of m o ≡ move_before m o

-- an entry with a price other than 0, of either kind, has the terms of before, beside the codes, owner and place of now, and reports and leaves what it
-- did before
pub record EntryAsBefore (v : Venue) (e : Entry) : Type 0 where
  pub refusal : refusal_of_kind v (entry e) ≡ first_of (terms_before (v.market.step) e.price e.shares) (first_of (refusal_of_codes e) (refusal_of_place v e))
  pub owned : (k : ℕ) → refusal_of_kind v (owned_entry e k) ≡ first_of (terms_before (v.market.step) e.price e.shares) (first_of (refusal_of_codes e) (first_of (refusal_of_owner k) (refusal_of_place v e)))
  pub effect : (k : ℕ) → effect_of_entry v.market v k e ≡ effect_before v.market v k e

abbrev pub EntriesAsBefore : Type 0
EntriesAsBefore = (v : Venue) (e : Entry) → (e.price ≡ 0 → ⊥) → EntryAsBefore v e
