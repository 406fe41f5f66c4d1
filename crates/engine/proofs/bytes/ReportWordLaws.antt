-- The numbers of an event's reports are 32-bit numbers, from every sound record. Assumes nothing.
use Prim.Native.Nat.{ℕ, ◌+◌, ◌<◌, ◌≤◌}
use native.Mathlib.Omega.{arith}
use mathlib.Core.Path.{◌≡◌, subst}
use mathlib.Core.Option.{Option, none, some}
use mathlib.Core.List.{List, [], ◌∷◌, ◌++◌, map, foldl, Memᴰ}
use lib.Dec.{T}
use lib.ListN.{length, length-map}
use Rattle.numbers.specs.Tests.{All}
use Rattle.numbers.proofs.TestLaws.{by_test, all_map, map_all, all_append}
use Rattle.prices.specs.Prices.{legal}
use Rattle.prices.proofs.PriceLaws.{legal_out}
use Rattle.book.specs.declared.Order.{Order}
use Rattle.book.specs.rules.Orders.{find, resting_shares, without}
use Rattle.book.specs.rules.Sound.{most_owner}
use Rattle.book.specs.rules.Matching.{Execution, Happening, Meeting, trading, meeting, Matched, matching}
use Rattle.book.proofs.definitions.OrderLaws.{id_of, Found, find_found, shares_found}
use Rattle.book.proofs.definitions.MeetingLaws.{execution_by, meeting_by, trading_known, withdrawing_known}
use Rattle.book.proofs.definitions.MatchingLaws.{matching_keeps}
use Rattle.engine.specs.declared.Market.{Market}
use Rattle.engine.specs.declared.Entry.{Entry}
use Rattle.engine.specs.declared.Event.{Event}
use Rattle.engine.specs.declared.Event.TheVariants.{Entry as entry, Cancel as cancel, Bid as bid, Tape as tape, DayEnd as day_end, OwnedEntry as owned_entry, TimedTape as timed_tape}
use Rattle.engine.specs.declared.Remainder.{Remainder}
use Rattle.engine.specs.declared.Remainder.TheVariants.{Filled, Cancelled, Rests}
use Rattle.engine.specs.declared.Move.{Move}
use Rattle.engine.specs.declared.Move.TheVariants.{Stay, Cancel, Reprice}
use Rattle.engine.specs.rules.Market.{market_after}
use Rattle.engine.specs.rules.Reports.{Report, executed, cancelled, opt_out, end_of_day, same_firm, cause_number}
use Rattle.engine.specs.rules.Working.{order_of, remainder, after_remainder, happened, work}
use Rattle.engine.specs.rules.Pass.{Effect, after_move, pass_one, pass_over}
use Rattle.engine.specs.rules.Venue.{Venue, entering, effect_of_entry, effect_of_cancel, the_pass, restriction_report, effect_of_tape, cancelled_at_end, effect_of_day_end, effect_of, last_id_after}
use Rattle.engine.specs.rules.Sound.{most_events}
use Rattle.engine.specs.rules.Refusals.{rests}
use Rattle.engine.specs.claims.RoundTrips.{Word, ReportWords}
use Rattle.engine.proofs.refinement.RefusalLaws.{EntryAllowed, Allowed, NotRefused}
use Rattle.book.proofs.definitions.OrderConditionLaws.{MayWork}
use Rattle.engine.proofs.demand3.MarketLaws.{HasPermitted, pause_by}
use Rattle.engine.proofs.demand3.SoundLaws.{SoundBook, SoundWork, book_distinct, book_order, RemainderOf, remainder_known, meeting_sound, MoveSound, move_of_sound, at_new_price_sound, pass_one_sound, SoundVenue, sound_venue, market_permits, working_price_legal, order_of_sound, market_after_sound}

-- the fields of an order that reports have

legal_word : (g p : ℕ) → T (legal g p) → Word p
legal_word g p t = omega (arith, (legal_out g p t).high)

abbrev OrderWords : Order → Type 0
OrderWords o = record { id : Word o.id; price : Word o.price; shares : Word o.shares }

order_words : (g n s : ℕ) (o : Order) → Word n → MayWork g n s o → OrderWords o
order_words g n s o i h = record { id = omega (arith, h.id); price = legal_word g o.price h.price; shares = omega (arith, h.most) }

cancelled_words : (o : Order) (cause : ℕ) → OrderWords o → cause ≤ 5 → ReportWords (cancelled o.id o.shares cause)
cancelled_words o cause h l = (omega arith, (h.id, (h.shares, (omega arith, tt))))

-- a working order

abbrev on_happening : List Report → Happening → List Report
on_happening rs x = happened x ∷ rs

on_happening_all : (rs : List Report) (xs : List Happening) → All ReportWords (foldl on_happening rs xs) → All ReportWords rs × All ReportWords (map happened xs)
on_happening_all rs [] h = (h, tt)
on_happening_all rs (x ∷ xs) h = let r = on_happening_all (on_happening rs x) xs h in (r.0.1, (r.0.0, r.1))

module _ (g : ℕ) {n s : ℕ} (i : Word n) where
  trading_words : (w o : Order) (os : List Order) → Memᴰ o os → SoundWork g n s w os → ReportWords (happened (trading w o os).happening)
  trading_words w o os m f =
      let h : OrderWords w = order_words g n s w i f.works in
      let k : OrderWords o = order_words g n s o i (book_order f.book m).works in
      rw (trading_known w o os)
      (execution_by
      (λ (x : Execution). ReportWords (executed x))
      w
      o
      _
      (λ t. (omega arith, (h.id, (k.id, (k.price, (omega (arith, h.shares), tt))))))
      (λ t. (omega arith, (k.id, (h.id, (k.price, (omega (arith, h.shares), tt)))))))

  meeting_words : (w o : Order) (os : List Order) → Memᴰ o os → SoundWork g n s w os → ReportWords (happened (meeting w o os).happening)
  meeting_words w o os m f =
      meeting_by (λ (x : Meeting). ReportWords (happened x.happening)) w o os (rw (withdrawing_known w o os) (cancelled_words o same_firm (order_words g n s o i (book_order f.book m).works) (omega arith))) (trading_words w o os m f)

  matching_words : (w : Order) (os : List Order) → SoundWork g n s w os → let m : Matched = matching w os in SoundWork g n s m.left m.orders × All ReportWords (map happened m.happenings)
  matching_words w os f =
      let r = matching_keeps on_happening Kept (λ x o l a h k. (meeting_sound h.0 k.0, (meeting_words x o l h.0 k.0, k.1))) w os [] (f, tt) in
      (r.0, (on_happening_all [] (matching w os).happenings r.1).1)
    where
      Kept : Order → List Order → List Report → Type 0
      Kept x l rs = SoundWork g n s x l × All ReportWords rs

  after_remainder_words : (x : Remainder) (w : Order) (os : List Order) → RemainderOf w x → MayWork g n s w → All ReportWords (after_remainder x w os).reports
  unfolding after_remainder
  after_remainder_words Filled w os h f = tt
  after_remainder_words (Cancelled cause) w os h f = (cancelled_words w (cause_number cause) (order_words g n s w i f) (omega (arith, h.1)), tt)
  after_remainder_words Rests w os h f = tt

  work_words : (w : Order) (os : List Order) → SoundWork g n s w os → All ReportWords (work w os).reports
  unfolding work
  work_words w os f =
      let m : Matched = matching w os in
      let r = matching_words w os f in
      all_append ReportWords (map happened m.happenings) _ r.1 (after_remainder_words (remainder m.left) m.left m.orders (remainder_known m.left) r.0.works)

-- the pass

after_move_words : {g n s : ℕ} → Word n → Word (s + 1) → (x : Move) {o : Order} {os : List Order} → MoveSound g x → Memᴰ o os → SoundBook g n s os → All ReportWords (after_move x o os s).reports
unfolding after_move
after_move_words i l Stay h m b = tt
after_move_words {g} {n} {s} i l Cancel {o} {os} h m b =
    (cancelled_words o opt_out (order_words g n s o i (book_order b m).works) (omega arith), tt)
after_move_words {g} {n} {s} i l (Reprice p used) {o} {os} h m b =
    let k : OrderWords o = order_words g n s o i (book_order b m).works in
    ((omega arith, (k.id, (legal_word g p h, (l, tt)))), work_words g i _ (without o.id os) (at_new_price_sound p used h m b))

module _ (m : Market) (t : HasPermitted m) (n : ℕ) (i : Word n) where
  pass_one_words : (k : ℕ) (x : Option Order) (os : List Order) (s : ℕ) → Word (s + 1) → Found k os x → SoundBook m.step n s os → All ReportWords (pass_one m x os s).reports
  unfolding pass_one
  pass_one_words k none os s l f b = tt
  pass_one_words k (some o) os s l f b = after_move_words i l _ (move_of_sound m t o (book_order b f.0).works.fields) f.0 b

  pass_over_words : (is : List ℕ) (os : List Order) (s : ℕ) → Word (s + length is) → SoundBook m.step n s os → All ReportWords (pass_over m is os s).reports
  unfolding pass_over
  pass_over_words [] os s l b = tt
  pass_over_words (k ∷ is) os s l b =
      let x : Effect = pass_one m (find k os) os s in
      let g = pass_one_sound m t n k (find k os) os s (find_found k os) b in
      all_append ReportWords x.reports _ (pass_one_words k (find k os) os s (omega arith) (find_found k os) b) (pass_over_words is x.orders x.stamp (omega (arith, g.1)) g.0)

-- events

module _ (v : Venue) (g : SoundVenue v) (l : v.accepted_events < most_events) (i : Word v.last_id) where
  the_pass_words : (m : Market) → HasPermitted m → SoundBook m.step v.last_id v.last_stamp v.orders → All ReportWords (the_pass m v).reports
  unfolding the_pass
  the_pass_words m t b =
      let few = g.book.few in
      let e = length-map v.orders id_of in
      pass_over_words m t v.last_id i (map id_of v.orders) v.orders v.last_stamp (omega (arith, g.stamps)) b

  cancel_words : (k : ℕ) (x : Option Order) → Found k v.orders x → T (rests x) → All ReportWords (effect_of_cancel v k).reports
  unfolding effect_of_cancel rests
  cancel_words k none f t = absurd t
  cancel_words k (some o) f t =
      let h : OrderWords o = order_words (v.market.step) v.last_id v.last_stamp o i (book_order g.book f.0).works in
      let e : resting_shares k v.orders ≡ o.shares = subst (λ (j : ℕ). resting_shares j v.orders ≡ o.shares) f.1 (shares_found f.0 (book_distinct g.book)) in
      ((omega arith, (omega (arith, f.1, h.id), (omega (arith, h.shares), (omega arith, tt)))), tt)

  effect_of_entry_words : (e : Entry) (k : ℕ) → EntryAllowed v e → k ≤ most_owner → Word e.id → All ReportWords (effect_of_entry v.market v k e).reports
  unfolding entering effect_of_entry order_of
  effect_of_entry_words e k f o j =
      ((omega arith, (j, (omega (arith, g.stamps), (legal_word (v.market.step) _ (working_price_legal v.market e.mark e.price f.terms.limit (market_permits g.market)), tt)))), work_words (v.market.step) j _ v.orders (order_of_sound v e k f o g))

  tape_words : (m : Market) → HasPermitted m → SoundBook m.step v.last_id v.last_stamp v.orders → All ReportWords (effect_of_tape m v).reports
  unfolding restriction_report
  tape_words m t b =
      let r = the_pass_words m t b in
      by_test (λ (rs : List Report). All ReportWords (rs ++ (the_pass m v).reports)) _ (λ x. r) (λ x. ((omega arith, tt), r))

  effect_of_words : (e : Event) → Allowed v e → Word (last_id_after v e) → All ReportWords (effect_of (market_after e v.market) v e).reports
  unfolding effect_of effect_of_day_end
  effect_of_words (entry e) f k = effect_of_entry_words e 0 f (omega arith) k
  effect_of_words (cancel j) f k = cancel_words j (find j v.orders) (find_found j v.orders) f
  effect_of_words (bid b) f k = the_pass_words (market_after (bid b) v.market) (g.market.step, f) g.book
  effect_of_words (tape p) f k = tape_words (market_after (tape p) v.market) (market_permits g.market) g.book
  effect_of_words (day_end c) f k =
      let h = all_map (λ o h. cancelled_words o end_of_day (order_words (v.market.step) v.last_id v.last_stamp o i h.works) (omega arith)) v.orders g.book.orders in
      all_append ReportWords (map cancelled_at_end v.orders) _ (map_all ReportWords cancelled_at_end v.orders h) ((omega arith, (omega (arith, (market_after_sound v (day_end c) f g.market).phase), tt)), tt)
  effect_of_words (owned_entry e j) f k = effect_of_entry_words e j f.0 f.1.most k
  effect_of_words (timed_tape x) f k =
      let m : Market = market_after (timed_tape x) v.market in
      let r = tape_words m (market_permits g.market) g.book in
      pause_by (λ (rs : List Report). All ReportWords (rs ++ (effect_of_tape m v).reports)) x.price _ r (λ d l. ((omega arith, (omega (arith, l), (legal_word (v.market.step) x.price f.price, tt))), r))

-- the last id doesn't fall
last_id_word : (v : Venue) (e : Event) → Allowed v e → Word (last_id_after v e) → Word v.last_id
last_id_word v (entry e) f k = omega (arith, f.place.new_id)
last_id_word v (cancel i) f k = k
last_id_word v (bid b) f k = k
last_id_word v (tape p) f k = k
last_id_word v (day_end c) f k = k
last_id_word v (owned_entry e j) f k = omega (arith, f.0.place.new_id)
last_id_word v (timed_tape x) f k = k

-- the reports of an event that isn't refused
pub reports_words : (v : Venue) (e : Event) (n : ℕ) → NotRefused v e n → Word (last_id_after v e) → All ReportWords (effect_of (market_after e v.market) v e).reports
reports_words v e n h k =
    effect_of_words v (sound_venue v h.sound) h.events (last_id_word v e h.allowed k) e h.allowed k
