-- The venue, and what an accepted event does to it: document 01, "Orders", "Reports" and "Operations", and document 02,
-- No. 1, No. 2, No. 6, No. 7 and No. 10. Assumes nothing.
use Rattle.std.specs.Prelude.{ℕ, ◌+◌, List, [], ◌∷◌, ◌++◌, map, eqb}
use Rattle.numbers.specs.Tests.{pick}
use Rattle.numbers.specs.Answers.{Outcome, gives, refuses}
use Rattle.prices.specs.declared.TimedPrice.{TimedPrice}
use Rattle.prices.specs.Prices.{legal, at_step}
use Rattle.prices.specs.Pause.{within, keeping, direction}
use Rattle.book.specs.declared.Order.{Order}
use Rattle.book.specs.rules.Orders.{resting_shares, without}
use Rattle.engine.specs.declared.Market.{Market}
use Rattle.engine.specs.declared.Entry.{Entry}
use Rattle.engine.specs.declared.Event.{Event}
use Rattle.engine.specs.declared.Event.TheVariants.{Entry as entry, Cancel as cancel, Bid as bid, Tape as tape, DayEnd as day_end, OwnedEntry as owned_entry, TimedTape as timed_tape}
use Rattle.engine.specs.rules.Market.{opening_market, market_after}
use Rattle.engine.specs.rules.Reports.{Report, accepted, cancelled, restriction_starts, day_ended, pause_triggered, asked_for, end_of_day}
use Rattle.engine.specs.rules.Working.{Worked, order_of, work}
use Rattle.engine.specs.rules.Pass.{Effect, pass_over}

-- the orders rest in rising id; the kept prices (No. 10) stand in the order in which they came
pub record Venue : Type 0 where
  pub market : Market
  pub orders : List Order
  pub kept : List TimedPrice
  pub last_id : ℕ
  pub last_stamp : ℕ
  pub accepted_events : ℕ

-- the venue with other kept prices
abbrev pub with_kept : List TimedPrice → Venue → Venue
with_kept kept v =
    record { market = v.market; orders = v.orders; kept = kept; last_id = v.last_id; last_stamp = v.last_stamp; accepted_events = v.accepted_events }

-- "Fresh: phase 0, bid 0, no orders, last id, last stamp and accepted events 0", and no kept prices
unfoldable pub opened : ℕ → ℕ → Venue
opened step close = record { market = opening_market step close; orders = []; kept = []; last_id = 0; last_stamp = 0; accepted_events = 0 }

-- "Open takes a close: 3 if it isn't legal; no venue is made"; No. 2: it "takes a step", and any other than 50 and 100 "is refused with 17, before
-- the close or price is looked at"
unfoldable pub opening : ℕ → ℕ → Outcome Venue
opening step close = at_step step (pick (legal step close) (gives (opened step close)) (refuses 3))

-- What an accepted event reports, and the book after it; m is the market after the event

-- "1 accepted: id, stamp, working price", and the order works; No. 1, of a market order: "Its accepted report gives the working price"
unfoldable pub entering : Order → List Order → Effect
entering o os =
    let w : Worked = work o os in
    record { reports = accepted o.id o.stamp o.price ∷ w.reports; orders = w.orders; stamp = o.stamp }

-- "An entry takes a stamp": "A stamp is the next whole number"; k is its owner
unfoldable pub effect_of_entry : Market → Venue → ℕ → Entry → Effect
effect_of_entry m v k e = entering (order_of m (v.last_stamp + 1) k e) v.orders

unfoldable pub effect_of_cancel : Venue → ℕ → Effect
effect_of_cancel v i =
    record { reports = cancelled i (resting_shares i v.orders) asked_for ∷ []; orders = without i v.orders; stamp = v.last_stamp }

-- "over the orders then resting, lowest id first"
unfoldable pub the_pass : Market → Venue → Effect
the_pass m v = pass_over m (map (λ (o : Order). o.id) v.orders) v.orders v.last_stamp

-- "5 restriction on, before the pass": where the tape price changed the phase; No. 6: in phase 2 a price that meets the trigger "gives phase 1 and report 5.
-- In phase 1 it still leaves the phase alone, without report 5"
unfoldable pub restriction_report : Market → Market → List Report
restriction_report before after = pick (eqb before.phase after.phase) [] (restriction_starts ∷ [])

abbrev pub effect_of_tape : Market → Venue → Effect
effect_of_tape m v =
    let p : Effect = the_pass m v in
    record { reports = restriction_report v.market m ++ p.reports; orders = p.orders; stamp = p.stamp }

-- No. 10: "report 7 gives 1 and p; else .. 2 and p", by the direction; there is none where that is 0
unfoldable pub direction_report : ℕ → ℕ → List Report
direction_report d p = pick (eqb d 0) [] (pause_triggered d p ∷ [])

-- by the earlier prices that are kept
abbrev pub pause_report : ℕ → List TimedPrice → List Report
pause_report p earlier = direction_report (direction p earlier) p

-- No. 10: "does all that a tape event does"; report 7 "comes before the restriction's report"
abbrev pub effect_of_timed_tape : Market → Venue → TimedPrice → Effect
effect_of_timed_tape m v x =
    let t : Effect = effect_of_tape m v in
    record { reports = pause_report x.price (within x.time v.kept) ++ t.reports; orders = t.orders; stamp = t.stamp }

-- "cancels every order, lowest id first (cause 4)"; "6 day ended, last: new phase"
abbrev pub cancelled_at_end : Order → Report
cancelled_at_end o = cancelled o.id o.shares end_of_day

unfoldable pub effect_of_day_end : Market → Venue → Effect
effect_of_day_end m v =
    record { reports = map cancelled_at_end v.orders ++ day_ended m.phase ∷ []; orders = []; stamp = v.last_stamp }

-- No. 7: "Event kind 6 is an entry with an owner .. kind 1 has owner 0"
unfoldable pub effect_of : Market → Venue → Event → Effect
effect_of m v (entry e) = effect_of_entry m v 0 e
effect_of m v (cancel i) = effect_of_cancel v i
effect_of m v (bid b) = the_pass m v
effect_of m v (tape p) = effect_of_tape m v
effect_of m v (day_end c) = effect_of_day_end m v
effect_of m v (owned_entry e k) = effect_of_entry m v k e
effect_of m v (timed_tape x) = effect_of_timed_tape m v x

-- the last accepted id after the event
abbrev pub last_id_after : Venue → Event → ℕ
last_id_after v (entry e) = e.id
last_id_after v (cancel i) = v.last_id
last_id_after v (bid b) = v.last_id
last_id_after v (tape p) = v.last_id
last_id_after v (day_end c) = v.last_id
last_id_after v (owned_entry e k) = e.id
last_id_after v (timed_tape x) = v.last_id

-- the kept prices after the event; No. 10: "Prices whose time is at least the new time less 300 are kept"; "a day end empties the kept prices"
abbrev pub kept_after : Event → List TimedPrice → List TimedPrice
kept_after (entry e) kept = kept
kept_after (cancel i) kept = kept
kept_after (bid b) kept = kept
kept_after (tape p) kept = kept
kept_after (day_end c) kept = []
kept_after (owned_entry e k) kept = kept
kept_after (timed_tape x) kept = keeping x.time x.price kept

-- the venue after an accepted event with this effect
abbrev pub venue_after : Venue → Event → Effect → Venue
venue_after v e x =
    record {
      market = market_after e v.market;
      orders = x.orders;
      kept = kept_after e v.kept;
      last_id = last_id_after v e;
      last_stamp = x.stamp;
      accepted_events = v.accepted_events + 1;
    }
