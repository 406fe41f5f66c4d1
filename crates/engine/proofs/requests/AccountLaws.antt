-- What an account that reads entries and reports says of the book is kept over every list, where it is kept by an order that enters, one that is
-- re-priced, and a meeting. Assumes nothing.
use Prim.Native.Nat.{ℕ, ◌+◌, ◌≤◌}
use native.Mathlib.Omega.{arith}
use mathlib.Core.Path.{◌≡◌, refl, sym}
use mathlib.Core.List.{List, [], ◌∷◌, ◌++◌, map, foldl, foldl-append, foldl-map, Memᴰ}
use mathlib.Core.Option.{Option, none, some}
use mathlib.Core.Bool.{Bool}
use Rattle.numbers.proofs.TestLaws.{by_test}
use Rattle.prices.specs.declared.TimedPrice.{TimedPrice}
use Rattle.book.specs.declared.Order.{Order}
use Rattle.book.specs.rules.Orders.{without, insert}
use Rattle.book.specs.rules.Sound.{most_owner}
use Rattle.book.specs.rules.Matching.{Happening, Meeting, meeting, Matched, matching}
use Rattle.book.proofs.definitions.CounterpartyLaws.{Reached}
use Rattle.book.proofs.definitions.MatchingLaws.{matching_keeps}
use Rattle.engine.specs.declared.Market.{Market}
use Rattle.engine.specs.declared.Event.{Event}
use Rattle.engine.specs.declared.Event.TheVariants.{Entry as entry, Cancel as cancel, Bid as bid, Tape as tape, DayEnd as day_end, OwnedEntry as owned_entry, TimedTape as timed_tape}
use Rattle.engine.specs.declared.Remainder.{Remainder}
use Rattle.engine.specs.declared.Remainder.TheVariants.{Filled, Cancelled, Rests}
use Rattle.engine.specs.declared.Move.{Move}
use Rattle.engine.specs.declared.Move.TheVariants.{Stay, Cancel, Reprice}
use Rattle.engine.specs.rules.Market.{market_after}
use Rattle.engine.specs.rules.Reports.{Report, accepted, cancelled, repriced, restriction_starts, day_ended, pause_triggered, cause_number}
use Rattle.engine.specs.rules.Working.{order_of, remainder, after_remainder, happened, work}
use Rattle.engine.specs.rules.Pass.{at_new_price, Effect, after_move}
use Rattle.engine.specs.rules.Venue.{Venue, opened, entering, effect_of_entry, effect_of_cancel, the_pass, restriction_report, effect_of_tape, effect_of_timed_tape, cancelled_at_end, effect_of_day_end, effect_of, last_id_after}
use Rattle.engine.specs.rules.Run.{Step, step_unless, step, Call, Answered, Run, run}
use Rattle.engine.specs.steps.Steps.{move_in_pass}
use Rattle.engine.specs.claims.Reading.{Entered, entered_by, Reading, after_answer, read_from}
use Rattle.engine.proofs.refinement.RefusalLaws.{EntryAllowed, Allowed, NotRefused, Unless, refusal_known}
use Rattle.engine.proofs.demand3.MarketLaws.{HasPermitted, pause_by}
use Rattle.engine.proofs.demand3.SoundLaws.{SoundBook, SoundWork, RemainderOf, remainder_known, meeting_sound, move_of_sound, at_new_price_sound, book_order, SoundVenue, sound_venue, market_permits, order_of_sound}
use Rattle.engine.proofs.requests.PassLaws.{AfterReading, the_pass_reads}

-- I is claimed of the last id, the last stamp, the book and the account wherever no order works; W of these and the working order while one does
module _ {A : Type 0} (r : Reading A) (I : ℕ → ℕ → List Order → A → Type 0) (W : ℕ → ℕ → Order → List Order → A → Type 0) where
  abbrev At : Venue → A → Type 0
  At v c = I v.last_id v.last_stamp v.orders c

  -- an entry of either kind, and its report 1
  abbrev pub KeptByEntry : Type 0
  KeptByEntry =
      (v : Venue) (x : Entered) (c : A) → EntryAllowed v x.entry → SoundVenue v → At v c →
      let o : Order = order_of v.market (v.last_stamp + 1) x.owner x.entry in
      W (x.entry.id) (v.last_stamp + 1) o v.orders (r.read (r.begin (some x) c) (accepted o.id o.stamp o.price))

  -- an order that the pass re-prices, and its report 4
  abbrev pub KeptByRepricing : Type 0
  KeptByRepricing =
      (g n : ℕ) (m : Market) (o : Order) (os : List Order) (s p : ℕ) (used : Bool) (c : A) → move_in_pass m o ≡ Reprice p used → Memᴰ o os → SoundBook g n s os → I n s os c →
      W n (s + 1) (at_new_price p (s + 1) used o) (without o.id os) (r.read c (repriced o.id p (s + 1)))

  -- a meeting of the working order, and its report 2, or 3 with cause 5
  abbrev pub KeptByMeeting : Type 0
  KeptByMeeting =
      (g n s : ℕ) (w o : Order) (os : List Order) (c : A) → SoundWork g n s w os → Reached w os (some o) → W n s w os c →
      let x : Meeting = meeting w o os in
      W n s x.left x.orders (r.read c (happened x.happening))

  pub record Kept : Type 0 where
    -- an event that is no entry begins
    pub begins : (n s : ℕ) (os : List Order) (c : A) → I n s os c → I n s os (r.begin none c)
    pub enters : KeptByEntry
    pub reprices : KeptByRepricing
    pub meets : KeptByMeeting
    -- the working order is gone, or rests
    pub gone : (n s : ℕ) (w : Order) (os : List Order) (c : A) → W n s w os c → I n s os c
    pub rests : (n s : ℕ) (w : Order) (os : List Order) (c : A) → W n s w os c → I n s (insert w os) c
    -- orders leave the book
    pub leaves : (n s i : ℕ) (os : List Order) (c : A) → I n s os c → I n s (without i os) c
    pub empties : (n s : ℕ) (os : List Order) (c : A) → I n s os c → I n s [] c
    -- reports that change nothing in it: 3 with another cause than 5, 5, 6 and 7
    pub cancelled_unread : (c : A) (i q cause : ℕ) → cause ≤ 4 → r.read c (cancelled i q cause) ≡ c
    pub start_unread : (c : A) → r.read c restriction_starts ≡ c
    pub end_unread : (c : A) (p : ℕ) → r.read c (day_ended p) ≡ c
    pub pause_unread : (c : A) (d p : ℕ) → r.read c (pause_triggered d p) ≡ c

  module _ (k : Kept) where
    -- an order works

    remainder_reads : (n s : ℕ) (x : Remainder) (w : Order) (os : List Order) (c : A) → RemainderOf w x → W n s w os c → I n s (after_remainder x w os).orders (foldl r.read c (after_remainder x w os).reports)
    unfolding after_remainder
    remainder_reads n s Filled w os c f h = k.gone n s w os c h
    remainder_reads n s (Cancelled cause) w os c f h = rw (k.cancelled_unread c w.id w.shares (cause_number cause) (omega (arith, f.1))) (k.gone n s w os c h)
    remainder_reads n s Rests w os c f h = k.rests n s w os c h

    work_reads : {g n s : ℕ} (w : Order) (os : List Order) (c : A) → SoundWork g n s w os → W n s w os c → I n s (work w os).orders (foldl r.read c (work w os).reports)
    unfolding work
    work_reads {g} {n} {s} w os c b h =
        let m : Matched = matching w os in
        let z = matching_keeps (λ (d : A) (x : Happening). r.read d (happened x)) (λ x l d. SoundWork g n s x l × W n s x l d) (λ x o l d t i. (meeting_sound t.0 i.0, k.meets g n s x o l d i.0 t i.1)) w os c (b, h) in
        rw (foldl-append, foldl-map) (remainder_reads n s (remainder m.left) m.left m.orders _ (remainder_known m.left) z.1)

    -- events

    entry_reads : (v : Venue) (x : Entered) (c : A) → EntryAllowed v x.entry → x.owner ≤ most_owner → SoundVenue v → At v c → AfterReading r.read (I (x.entry.id)) (effect_of_entry v.market v x.owner x.entry) (r.begin (some x) c)
    unfolding effect_of_entry entering order_of
    entry_reads v x c a l g h = work_reads _ v.orders _ (order_of_sound v x.entry x.owner a l g) (k.enters v x c a g h)

    turn_reads : {n : ℕ} (m : Market) → HasPermitted m → (o : Order) (os : List Order) (s : ℕ) (c : A) → Memᴰ o os → SoundBook m.step n s os → I n s os c → AfterReading r.read (I n) (after_move (move_in_pass m o) o os s) c
    unfolding after_move
    turn_reads {n} m t o os s c i b h = go (move_in_pass m o) refl
      where
        go : (y : Move) → move_in_pass m o ≡ y → AfterReading r.read (I n) (after_move y o os s) c
        go Stay e = h
        go Cancel e = rw (k.cancelled_unread c o.id o.shares 3 (omega arith)) (k.leaves n s o.id os c h)
        go (Reprice p used) e =
            work_reads (at_new_price p (s + 1) used o) (without o.id os) _ (at_new_price_sound p used (rw e at (move_of_sound m t o (book_order b i).works.fields)) i b) (k.reprices m.step n m o os s p used c e i b h)

    module _ (m : Market) (v : Venue) (c : A) (t : HasPermitted m) (b : SoundBook m.step v.last_id v.last_stamp v.orders) (h : At v c) where
      pass_reads : AfterReading r.read (I v.last_id) (the_pass m v) (r.begin none c)
      pass_reads = the_pass_reads m v t b r.read (I v.last_id) (turn_reads m t) (r.begin none c) (k.begins v.last_id v.last_stamp v.orders c h)

      tape_reads : AfterReading r.read (I v.last_id) (effect_of_tape m v) (r.begin none c)
      unfolding restriction_report
      tape_reads =
          let p : Effect = the_pass m v in
          by_test (λ (rs : List Report). I v.last_id p.stamp p.orders (foldl r.read (r.begin none c) (rs ++ p.reports))) _ (λ x. pass_reads) (λ x. rw (foldl, k.start_unread (r.begin none c)) pass_reads)

      timed_tape_reads : (x : TimedPrice) → AfterReading r.read (I v.last_id) (effect_of_timed_tape m v x) (r.begin none c)
      timed_tape_reads x =
          let t : Effect = effect_of_tape m v in
          pause_by (λ (rs : List Report). I v.last_id t.stamp t.orders (foldl r.read (r.begin none c) (rs ++ t.reports))) x.price _ tape_reads (λ d l. rw (foldl, k.pause_unread (r.begin none c) d x.price) tape_reads)

    all_cancelled : (c : A) (p : ℕ) (os : List Order) → foldl r.read c (map cancelled_at_end os ++ day_ended p ∷ []) ≡ c
    all_cancelled c p [] = k.end_unread c p
    all_cancelled c p (o ∷ os) = rw (foldl, k.cancelled_unread c o.id o.shares 4 (omega arith)) (all_cancelled c p os)

    effect_reads : (v : Venue) (e : Event) (c : A) → Allowed v e → SoundVenue v → At v c → AfterReading r.read (I (last_id_after v e)) (effect_of (market_after e v.market) v e) (r.begin (entered_by e) c)
    unfolding effect_of effect_of_cancel effect_of_day_end
    effect_reads v (entry e) c a g h = entry_reads v (record { entry = e; owner = 0 }) c a (omega arith) g h
    effect_reads v (cancel i) c a g h = rw (k.cancelled_unread (r.begin none c) i _ 1 (omega arith)) (k.leaves v.last_id v.last_stamp i v.orders _ (k.begins v.last_id v.last_stamp v.orders c h))
    effect_reads v (bid b) c a g h = pass_reads _ v c (g.market.step, a) g.book h
    effect_reads v (tape p) c a g h = tape_reads _ v c (market_permits g.market) g.book h
    effect_reads v (day_end p) c a g h = rw (all_cancelled (r.begin none c) _ v.orders) (k.empties v.last_id v.last_stamp v.orders _ (k.begins v.last_id v.last_stamp v.orders c h))
    effect_reads v (owned_entry e o) c a g h = entry_reads v (record { entry = e; owner = o }) c a.0 a.1.most g h
    effect_reads v (timed_tape x) c a g h = timed_tape_reads _ v c (market_permits g.market) g.book h x

    -- every list

    unless_reads : (x : Option ℕ) (v : Venue) (c : A) (e : Event) (b : ℕ) → Unless x (NotRefused v e b) → At v c → At (step_unless x v e).venue (after_answer r c e (step_unless x v e).answer)
    unfolding step_unless
    unless_reads (some n) v c e b u h = h
    unless_reads none v c e b u h = effect_reads v e c u.allowed (sound_venue v u.sound) h

    pub run_reads : (cs : List Call) (v : Venue) (c : A) → At v c → At (run v cs).venue (read_from r c (run v cs).answered)
    unfolding run step
    run_reads [] v c h = h
    run_reads (x ∷ xs) v c h = run_reads xs _ _ (unless_reads _ v c x.event x.buffer (refusal_known v x.event x.buffer) h)

    pub opened_reads : (s close : ℕ) (c : A) → I 0 0 [] c → (cs : List Call) → let x : Run = run (opened s close) cs in At x.venue (read_from r c x.answered)
    unfolding opened
    opened_reads s close c h cs = run_reads cs (opened s close) c h

-- a front of the events with their answers is that of a front of the calls

pub record RunsOn (v : Venue) (ys zs : List Answered) : Type 0 where
  pub first : List Call
  pub then : List Call
  pub front : ys ≡ (run v first).answered
  pub behind : zs ≡ (run (run v first).venue then).answered

pub run_front : (cs : List Call) (v : Venue) (ys zs : List Answered) → (run v cs).answered ≡ ys ++ zs → RunsOn v ys zs
unfolding run
run_front cs v [] zs e = record { first = []; then = cs; front = refl; behind = sym e }
run_front [] v (y ∷ ys) zs e = let z : ◌≡◌ {A = ℕ} 0 1 = cc in absurd (omega arith)
run_front (c ∷ cs) v (y ∷ ys) zs e =
    let s : Step = step v c.event c.buffer in
    let g = run_front cs s.venue ys zs cc in
    let own : y ≡ record { event = c.event; answer = s.answer } = cc in
    let rest : ys ≡ (run s.venue g.first).answered = g.front in
    record { first = c ∷ g.first; then = g.then; front = cc; behind = g.behind }
