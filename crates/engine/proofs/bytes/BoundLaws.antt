-- How many bytes the reports of an event take: at most 16,384. Assumes nothing.
use Prim.Native.Nat.{ℕ, ◌+◌, ◌*◌, ◌≤◌, min}
use native.Mathlib.Omega.{arith}
use native.Mathlib.Decide.{dec_le}
use mathlib.Core.Path.{◌≡◌, refl, subst}
use mathlib.Core.Option.{Option, none, some}
use mathlib.Core.List.{List, [], ◌∷◌, ◌++◌, map, foldl, Memᴰ}
use lib.ListN.{length, length-append, length-map}
use Rattle.numbers.specs.Tests.{All}
use Rattle.numbers.specs.Answers.{gives}
use Rattle.numbers.specs.SevenBit.{bytes_of_all}
use Rattle.numbers.proofs.TestLaws.{by_test, all_map}
use Rattle.numbers.proofs.ByteLaws.{kind_size}
use Rattle.book.specs.declared.Order.{Order}
use Rattle.book.specs.rules.Orders.{find, without}
use Rattle.book.specs.rules.Sound.{most_owner}
use Rattle.book.specs.rules.Matching.{Happening, traded, withdrawn, Meeting, trading, meeting, Matched, matching}
use Rattle.book.proofs.definitions.OrderLaws.{id_of, Distinct, taken_length, mem_taken, insert_taken, Found, find_found}
use Rattle.book.proofs.definitions.CounterpartyLaws.{Reached}
use Rattle.book.proofs.definitions.MeetingLaws.{meeting_by, trading_known, withdrawing_known}
use Rattle.book.proofs.definitions.MatchingLaws.{after_trade-length, after_trade_shorter, matching_keeps}
use Rattle.engine.specs.declared.Market.{Market}
use Rattle.engine.specs.declared.Entry.{Entry}
use Rattle.engine.specs.declared.Event.{Event}
use Rattle.engine.specs.declared.Event.TheVariants.{Entry as entry, Cancel as cancel, Bid as bid, Tape as tape, DayEnd as day_end, OwnedEntry as owned_entry, TimedTape as timed_tape}
use Rattle.engine.specs.declared.Remainder.{Remainder}
use Rattle.engine.specs.declared.Remainder.TheVariants.{Filled, Cancelled, Rests}
use Rattle.engine.specs.declared.Move.{Move}
use Rattle.engine.specs.declared.Move.TheVariants.{Stay, Cancel, Reprice}
use Rattle.engine.specs.rules.Market.{market_after}
use Rattle.engine.specs.rules.Reports.{Report, accepted, executed, cancelled, repriced, restriction_starts, day_ended, pause_triggered}
use Rattle.engine.specs.rules.Working.{order_of, remainder, after_remainder, happened, work}
use Rattle.engine.specs.rules.Pass.{Effect, at_new_price, after_move, pass_one, pass_over}
use Rattle.engine.specs.rules.Venue.{Venue, entering, effect_of_entry, effect_of_cancel, the_pass, restriction_report, effect_of_tape, cancelled_at_end, effect_of_day_end, effect_of, last_id_after}
use Rattle.engine.specs.rules.Sound.{most_orders}
use Rattle.engine.specs.rules.Refusals.{least_buffer, refusal}
use Rattle.engine.specs.rules.Run.{step_unless, step}
use Rattle.engine.specs.rules.Records.{report_bytes, reports_bytes}
use Rattle.engine.specs.claims.RoundTrips.{Word, ReportWords}
use Rattle.engine.specs.claims.Reached.{ReportsFit}
use Rattle.engine.proofs.refinement.RefusalLaws.{EntryAllowed, Allowed, NotRefused, Unless, refusal_known}
use Rattle.engine.proofs.demand3.MarketLaws.{HasPermitted, pause_by}
use Rattle.engine.proofs.demand3.SoundLaws.{SoundBook, SoundWork, book_distinct, book_order, RemainderOf, remainder_known, meeting_sound, MoveSound, move_of_sound, at_new_price_sound, pass_one_sound, SoundVenue, sound_venue, market_permits, order_of_sound}
use Rattle.engine.proofs.bytes.ReportWordLaws.{reports_words}

-- how many bytes a report of 32-bit numbers takes at most: a kind, and fields of 5 bytes

abbrev most : Report → ℕ
most (accepted i s p) = 16
most (executed x) = 21
most (cancelled i q cause) = 16
most (repriced i p s) = 16
most restriction_starts = 1
most (day_ended phase) = 6
most (pause_triggered d p) = 11

abbrev most_of : List Report → ℕ
most_of [] = 0
most_of (r ∷ rs) = most r + most_of rs

fields_size : (k : ℕ) (xs : List ℕ) → k ≤ 7 → All Word xs → length (bytes_of_all (k ∷ xs)) ≤ 1 + 5 * length xs
fields_size k xs l h = kind_size k xs (omega arith) (all_map (λ x e. omega arith) xs h)

report_size : (r : Report) → ReportWords r → length (report_bytes r) ≤ most r
unfolding report_bytes
report_size (accepted i s p) h = fields_size 1 _ (omega arith) h.1
report_size (executed x) h = fields_size 2 _ (omega arith) h.1
report_size (cancelled i q cause) h = fields_size 3 _ (omega arith) h.1
report_size (repriced i p s) h = fields_size 4 _ (omega arith) h.1
report_size restriction_starts h = fields_size 5 _ (omega arith) h.1
report_size (day_ended phase) h = fields_size 6 _ (omega arith) h.1
report_size (pause_triggered d p) h = fields_size 7 _ (omega arith) h.1

reports_size : (rs : List Report) → All ReportWords rs → length (reports_bytes rs) ≤ most_of rs
unfolding reports_bytes
reports_size [] h = omega arith
reports_size (r ∷ rs) h = simp length-append (omega (arith, report_size r h.0, reports_size rs h.1))

most-append : (rs qs : List Report) → most_of (rs ++ qs) ≡ most_of rs + most_of qs
most-append [] qs = omega arith
most-append (r ∷ rs) qs = omega (arith, most-append rs qs)

most_happened : (xs : List Happening) → most_of (map happened xs) ≤ 21 * length xs
most_happened [] = omega arith
most_happened (traded x ∷ xs) = omega (arith, most_happened xs)
most_happened (withdrawn i q ∷ xs) = omega (arith, most_happened xs)

-- matching: each meeting takes an order out of the book, or the last shares of the working order

-- 1 while shares remain
abbrev unfilled : Order → ℕ
unfilled o = min 1 o.shares

abbrev one_more : ℕ → Happening → ℕ
one_more a x = a + 1

one_more_all : (a : ℕ) (xs : List Happening) → foldl one_more a xs ≡ a + length xs
one_more_all a [] = omega arith
one_more_all a (x ∷ xs) = omega (arith, one_more_all (a + 1) xs)

module _ {g n s : ℕ} where
  trading_count : (w o : Order) (os : List Order) → Reached w os (some o) → SoundWork g n s w os → let x = trading w o os in 1 + length x.orders + unfilled x.left ≤ length os + unfilled w
  trading_count w o os r f =
      let q : ℕ = min w.shares o.shares in
      let d : Distinct os = book_distinct f.book in
      rw (trading_known w o os) elim (dec_le o.shares w.shares) [
        | yes l ↦ omega (arith, r.2, after_trade_shorter q r.0 d (omega arith))
        | no l ↦ omega (arith, r.2, after_trade-length q r.0 d)
      ]

  meeting_count : (w o : Order) (os : List Order) → Reached w os (some o) → SoundWork g n s w os → let x = meeting w o os in 1 + length x.orders + unfilled x.left ≤ length os + unfilled w
  meeting_count w o os r f =
      meeting_by (λ (x : Meeting). 1 + length x.orders + unfilled x.left ≤ length os + unfilled w) w o os (rw (withdrawing_known w o os) (omega (arith, taken_length (mem_taken r.0 (book_distinct f.book))))) (trading_count w o os r f)

  matching_count : (w : Order) (os : List Order) → SoundWork g n s w os → let m : Matched = matching w os in length m.happenings + length m.orders + unfilled m.left ≤ length os + unfilled w
  matching_count w os f =
      let r = matching_keeps one_more Kept (λ x o l a h k. (meeting_sound h.0 k.0, omega (arith, k.1, meeting_count x o l h k.0))) w os 0 (f, omega arith) in
      omega (arith, r.1, one_more_all 0 (matching w os).happenings)
    where
      Kept : Order → List Order → ℕ → Type 0
      Kept x l a = SoundWork g n s x l × (a + length l + unfilled x ≤ length os + unfilled w)

-- the bytes of reports at most, and 21 more for each order of a book
abbrev most_with : List Report → List Order → ℕ
most_with rs os = most_of rs + 21 * length os

after_remainder_most : (x : Remainder) (w : Order) (os : List Order) → RemainderOf w x → let r = after_remainder x w os in most_with r.reports r.orders ≤ 21 * (length os + unfilled w)
unfolding after_remainder
after_remainder_most Filled w os h = omega arith
after_remainder_most (Cancelled cause) w os h = omega (arith, h.0)
after_remainder_most Rests w os h = omega (arith, taken_length (insert_taken w os), h.0)

work_most : {g n s : ℕ} (w : Order) (os : List Order) → SoundWork g n s w os → let r = work w os in most_with r.reports r.orders ≤ 21 * (length os + 1)
unfolding work
work_most w os g =
    let m : Matched = matching w os in
    omega (arith, matching_count w os g, most_happened m.happenings, after_remainder_most (remainder m.left) m.left m.orders (remainder_known m.left), most-append (map happened m.happenings) (after_remainder (remainder m.left) m.left m.orders).reports)

-- the pass

after_move_most : {g n s : ℕ} (x : Move) {o : Order} {os : List Order} → MoveSound g x → Memᴰ o os → SoundBook g n s os → let r = after_move x o os s in most_with r.reports r.orders ≤ 16 + 21 * length os
unfolding after_move
after_move_most Stay h m b = omega arith
after_move_most Cancel h m b = omega (arith, taken_length (mem_taken m (book_distinct b)))
after_move_most {g} {n} {s} (Reprice p used) {o} {os} h m b =
    let w : Order = at_new_price p (s + 1) used o in
    omega (arith, work_most w (without o.id os) (at_new_price_sound p used h m b), taken_length (mem_taken m (book_distinct b)))

module _ (m : Market) (t : HasPermitted m) (n : ℕ) where
  pass_one_most : (k : ℕ) (x : Option Order) (os : List Order) (s : ℕ) → Found k os x → SoundBook m.step n s os → let r = pass_one m x os s in most_with r.reports r.orders ≤ 16 + 21 * length os
  unfolding pass_one
  pass_one_most k none os s f b = omega arith
  pass_one_most k (some o) os s f b = after_move_most _ (move_of_sound m t o (book_order b f.0).works.fields) f.0 b

  pass_over_most : (is : List ℕ) (os : List Order) (s : ℕ) → SoundBook m.step n s os → let r = pass_over m is os s in most_with r.reports r.orders ≤ 16 * length is + 21 * length os
  unfolding pass_over
  pass_over_most [] os s b = omega arith
  pass_over_most (k ∷ is) os s b =
      let x : Effect = pass_one m (find k os) os s in
      let g = pass_one_sound m t n k (find k os) os s (find_found k os) b in
      omega (arith, pass_one_most k (find k os) os s (find_found k os) b, pass_over_most is x.orders x.stamp g.0, most-append x.reports (pass_over m is x.orders x.stamp).reports)

-- events

all_cancelled_most : (os : List Order) → most_of (map cancelled_at_end os) ≡ 16 * length os
all_cancelled_most [] = refl
all_cancelled_most (o ∷ os) = omega (arith, all_cancelled_most os)

module _ (v : Venue) (g : SoundVenue v) where
  the_pass_most : (m : Market) → HasPermitted m → SoundBook m.step v.last_id v.last_stamp v.orders → most_of (the_pass m v).reports ≤ (16 + 21) * most_orders
  unfolding the_pass
  the_pass_most m t b =
      omega (arith, g.book.few, length-map v.orders id_of, pass_over_most m t v.last_id (map id_of v.orders) v.orders v.last_stamp b)

  effect_of_entry_most : (e : Entry) (k : ℕ) → EntryAllowed v e → k ≤ most_owner → most_of (effect_of_entry v.market v k e).reports ≤ least_buffer
  unfolding entering effect_of_entry order_of
  effect_of_entry_most e k f o =
      omega (arith, work_most (order_of v.market (v.last_stamp + 1) k e) v.orders (order_of_sound v e k f o g), g.book.few)

  tape_most : (m : Market) → HasPermitted m → SoundBook m.step v.last_id v.last_stamp v.orders → most_of (effect_of_tape m v).reports ≤ (16 + 21) * most_orders + 1
  unfolding restriction_report
  tape_most m t b =
      let r = the_pass_most m t b in
      by_test (λ (rs : List Report). most_of (rs ++ (the_pass m v).reports) ≤ (16 + 21) * most_orders + 1) _ (λ x. omega arith) (λ x. omega arith)

  effect_of_most : (e : Event) → Allowed v e → most_of (effect_of (market_after e v.market) v e).reports ≤ least_buffer
  unfolding effect_of effect_of_cancel effect_of_day_end
  effect_of_most (entry e) f = effect_of_entry_most e 0 f (omega arith)
  effect_of_most (cancel j) f = omega arith
  effect_of_most (bid b) f = omega (arith, the_pass_most (market_after (bid b) v.market) (g.market.step, f) g.book)
  effect_of_most (tape p) f = omega (arith, tape_most (market_after (tape p) v.market) (market_permits g.market) g.book)
  effect_of_most (day_end c) f =
      omega (arith, most-append (map cancelled_at_end v.orders) (day_ended (market_after (day_end c) v.market).phase ∷ []), all_cancelled_most v.orders, g.book.few)
  effect_of_most (owned_entry e k) f = effect_of_entry_most e k f.0 f.1.most
  effect_of_most (timed_tape x) f =
      let m : Market = market_after (timed_tape x) v.market in
      let r = tape_most m (market_permits g.market) g.book in
      pause_by (λ (rs : List Report). most_of (rs ++ (effect_of_tape m v).reports) ≤ least_buffer) x.price _ (omega (arith, r)) (λ d l. omega (arith, r))

-- the reports of an event that isn't refused
pub reports_room : (v : Venue) (e : Event) (n : ℕ) → NotRefused v e n → Word (last_id_after v e) → length (reports_bytes (effect_of (market_after e v.market) v e).reports) ≤ least_buffer
reports_room v e n h k =
    omega (arith, reports_size (effect_of (market_after e v.market) v e).reports (reports_words v e n h k), effect_of_most v (sound_venue v h.sound) e h.allowed)

pub reports_fit : ReportsFit
unfolding step step_unless
reports_fit v e buffer k rs = go (refusal v e buffer) (refusal_known v e buffer)
  where
    go : (x : Option ℕ) → Unless x (NotRefused v e buffer) → (step_unless x v e).answer ≡ gives rs → length (reports_bytes rs) ≤ least_buffer
    go none h z =
        let q : (effect_of (market_after e v.market) v e).reports ≡ rs = cc in
        subst (λ (l : List Report). length (reports_bytes l) ≤ least_buffer) q (reports_room v e buffer h (omega (arith, k)))
    go (some n) h z = let y : ◌≡◌ {A = ℕ} 0 1 = cc in absurd (omega arith)
