-- No. 10: report 7 and refusals 22 and 23 are what a plain look at the day's accepted timed prices gives; a timed price does what its tape price does; other events
-- are as before. Assumes nothing.
use Prim.Native.Nat.{ℕ, ◌≤◌, ◌<◌}
use native.Mathlib.Omega.{arith}
use mathlib.Core.Path.{◌≡◌, refl, sym, ap, ◌∙◌, subst}
use mathlib.Core.Bool.{Bool, true, false, not, ◌&&◌}
use mathlib.Core.Option.{Option, none, some}
use mathlib.Core.List.{List, [], ◌∷◌, ◌++◌, map}
use lib.Dec.{T, leb, ltb, eqb}
use lib.ListN.{length}
use Rattle.numbers.specs.Tests.{All}
use Rattle.numbers.specs.Answers.{gives}
use Rattle.numbers.proofs.TestLaws.{by_test, and_T, T_true, all_append, map_all, tests}
use Rattle.prices.specs.declared.TimedPrice.{TimedPrice}
use Rattle.prices.specs.Prices.{is_step, legal}
use Rattle.prices.specs.Pause.{within, keeping, most_kept, last_time, sound_kept}
use Rattle.prices.proofs.PauseLaws.{within_yes, within_none, within_within, within_append, last_append, last_keeping}
use Rattle.book.specs.declared.Order.{Order}
use Rattle.book.specs.rules.Words.{is_book}
use Rattle.engine.specs.declared.Market.{Market}
use Rattle.engine.specs.declared.Entry.{Entry}
use Rattle.engine.specs.declared.Event.{Event}
use Rattle.engine.specs.declared.Event.TheVariants.{Entry as entry, Cancel as cancel, Bid as bid, Tape as tape, DayEnd as day_end, OwnedEntry as owned_entry, TimedTape as timed_tape}
use Rattle.engine.specs.rules.Market.{market_after}
use Rattle.engine.specs.rules.Reports.{Report, pause_triggered}
use Rattle.engine.specs.rules.Working.{work}
use Rattle.engine.specs.rules.Venue.{Venue, with_kept, opened, entering, effect_of_entry, effect_of_cancel, the_pass, restriction_report, effect_of_tape, pause_report, cancelled_at_end, effect_of_day_end, effect_of, kept_after}
use Rattle.engine.specs.rules.Sound.{most_events, sound}
use Rattle.engine.specs.rules.Refusals.{refuse_unless, first_of, refusal_of_owner, refusal_of_place, refusal_of_entry, refusal_of_time, refusal_of_kind, least_buffer, refusal}
use Rattle.engine.specs.rules.Run.{Step, step_unless, step, Call, Run, run}
use Rattle.engine.specs.rules.Layout.{venue_of}
use Rattle.engine.specs.claims.Calls.{AppliedCall, Chain}
use Rattle.engine.specs.claims.Pauses.{day_after, day_answered, day_from, other_reports, TimeRefused, Looked, AllLooked, time_refusal, PausesByPlainLook, CallsByPlainLook, PausesByPlainLookInCalls, TimedAsTape, TimedTapesAsTapes, sound_before_no10, refusal_before_no10, Untimed, UntimedEventsAsBefore, watched_step, TimedCallsAsTapes, step_before_no10, UntimedCallsAsBefore, timed_by}
use Rattle.engine.proofs.demand3.MarketLaws.{pause_by}
use Rattle.engine.proofs.demand3.CallLaws.{call_of, accepted_call, fresh_run}
use Rattle.engine.proofs.refinement.OpeningLaws.{opening_known, opening_gives, opened_book, opened_venue, step_in_lem}
use Rattle.engine.proofs.refinement.RefusalLaws.{by_refusal, by_first, terms_by, codes_by, owner_by, place_by, NotRefused, none_known}
use Rattle.engine.proofs.refinement.RefuseLaws.{first_nothing}
use Rattle.engine.proofs.requests.WordStepLaws.{in_words, call_does}
use Rattle.engine.proofs.requests.BookReportLaws.{work_each, pass_each}

-- no event but a timed price reports 7

abbrev IsOther : Report → Type 0
IsOther r = (rs : List Report) → other_reports (r ∷ rs) ≡ r ∷ other_reports rs

all_others : (rs : List Report) → All IsOther rs → other_reports rs ≡ rs
all_others [] h = refl
all_others (r ∷ rs) h = h.0 rs ∙ ap (λ (l : List Report). r ∷ l) (all_others rs h.1)

work_others : (o : Order) (os : List Order) → All IsOther (work o os).reports
work_others o os = work_each IsOther (λ x rs. refl) (λ i q z rs. refl) (λ i p s rs. refl) o os

pass_others : (m : Market) (v : Venue) → All IsOther (the_pass m v).reports
pass_others m v = pass_each IsOther (λ x rs. refl) (λ i q z rs. refl) (λ i p s rs. refl) m v

tape_others : (m : Market) (v : Venue) → All IsOther (effect_of_tape m v).reports
unfolding restriction_report
tape_others m v =
    all_append IsOther (restriction_report v.market m) _ (by_test (All IsOther) _ (λ t. tt) (λ t. (λ rs. refl, tt))) (pass_others m v)

event_others : (m : Market) (v : Venue) (e : Event) → Untimed e → All IsOther (effect_of m v e).reports
unfolding effect_of entering effect_of_entry effect_of_cancel effect_of_day_end
event_others m v (entry e) u = (λ rs. refl, work_others _ v.orders)
event_others m v (cancel i) u = (λ rs. refl, tt)
event_others m v (bid b) u = pass_others m v
event_others m v (tape p) u = tape_others m v
event_others m v (day_end c) u =
    all_append IsOther (map cancelled_at_end v.orders) _ (map_all IsOther cancelled_at_end v.orders (each v.orders)) (λ rs. refl, tt)
  where
    each : (os : List Order) → All (λ (o : Order). IsOther (cancelled_at_end o)) os
    each [] = tt
    each (o ∷ os) = (λ rs. refl, each os)
event_others m v (owned_entry e k) u = (λ rs. refl, work_others _ v.orders)
event_others m v (timed_tape x) u = absurd u

-- a report 7 in front of others
pause_first : (p : ℕ) (earlier : List TimedPrice) (rs : List Report) → other_reports rs ≡ rs → pause_report p earlier ++ rs ≡ pause_report p earlier ++ other_reports (pause_report p earlier ++ rs)
pause_first p earlier rs h =
    pause_by (λ (l : List Report). l ++ rs ≡ l ++ other_reports (l ++ rs)) p earlier (sym h) (λ d l. ap (λ (xs : List Report). pause_triggered d p ∷ xs) (sym h))

-- the kept prices beside all of the day: those within 300 seconds of the last one, which is among them

record Watched (kept day : List TimedPrice) : Type 0 where
  keeps : kept ≡ within (last_time day) day
  last : last_time kept ≡ last_time day

none_watched : Watched [] []
none_watched = record { keeps = sym (within_none _); last = refl }

-- at a new time those within 300 seconds among them are those among the day's
seen : {kept day : List TimedPrice} (t : ℕ) → Watched kept day → last_time kept ≤ t → within t kept ≡ within t day
seen {kept} {day} t h l = ap (within t) h.keeps ∙ within_within (last_time day) t day (omega (arith, h.last, l))

one_within : (x : TimedPrice) → within x.time (x ∷ []) ≡ x ∷ []
one_within x = within_yes x.time x [] (omega arith) ∙ ap (λ (l : List TimedPrice). x ∷ l) (within_none x.time)

more_watched : {kept day : List TimedPrice} (x : TimedPrice) → Watched kept day → last_time kept ≤ x.time → Watched (keeping x.time x.price kept) (day ++ x ∷ [])
unfolding keeping
more_watched {kept} {day} x h l =
    record {
      keeps = ap (λ (ys : List TimedPrice). ys ++ x ∷ []) (seen x.time h l) ∙ sym (ap (λ (t : ℕ). within t (day ++ x ∷ [])) (last_append day x) ∙ within_append x.time day (x ∷ []) ∙ ap (λ (ys : List TimedPrice). within x.time day ++ ys) (one_within x));
      last = last_keeping x.time x.price kept ∙ sym (last_append day x);
    }

-- refusals

-- 22 and 23 are given for the time alone
abbrev ForTime : Event → List TimedPrice → Option ℕ → Type 0
ForTime e day none = Unit {0}
ForTime e day (some n) = TimeRefused (timed_by e) day n

abbrev other : ℕ → Bool
other n = not (eqb n 22) && not (eqb n 23)

not_time : (n : ℕ) → T (other n) → (n ≡ 22 → ⊥) × (n ≡ 23 → ⊥)
not_time n h =
    let r = and_T (not (eqb n 22)) _ h in
    (λ z. subst (λ (k : ℕ). T (not (eqb k 22))) z r.0, λ z. subst (λ (k : ℕ). T (not (eqb k 23))) z r.1)

other_refused : (x : Option TimedPrice) (day : List TimedPrice) (n : ℕ) → T (other n) → TimeRefused x day n
other_refused none day n h = not_time n h
other_refused (some x) day n h = let r = not_time n h in (λ z. absurd (r.0 z), λ z. absurd (r.1 z))

module _ (v : Venue) (day : List TimedPrice) where
  entry_for_time : (e : Event) (x : Entry) (of_owner : Option ℕ) → ForTime e day of_owner → ForTime e day (refusal_of_entry v x of_owner)
  unfolding refusal_of_entry
  entry_for_time e x of_owner h =
      let P : Option ℕ → Type 0 = ForTime e day in
      let o : (n : ℕ) → T (other n) → P (some n) = other_refused (timed_by e) day in
      by_first P _ _ (terms_by P tt (o 3 tt) (o 4 tt) (v.market.step) x.price x.shares) (by_first P _ _ (codes_by P tt (o 18 tt) (o 5 tt) (o 19 tt) (o 20 tt) x) (by_first P _ _ h (place_by P tt (o 6 tt) (o 7 tt) v x)))

  time_for_time : (x : TimedPrice) → Watched v.kept day → ForTime (timed_tape x) day (refusal_of_time v.kept x.time)
  unfolding refusal_of_time
  time_for_time x h =
      by_refusal (ForTime (timed_tape x) day) (leb (last_time v.kept) x.time) 22 _
      (λ t. (λ z. omega (tests, t, h.last), λ z. absurd (omega arith)))
      (λ t. by_refusal (ForTime (timed_tape x) day) (ltb (length (within x.time v.kept)) most_kept) 23 none
      (λ f. (λ z. absurd (omega arith), λ z. (omega (tests, t, h.last), many t f)))
      (λ f. tt))
    where
      many : T (leb (last_time v.kept) x.time) → T (not (ltb (length (within x.time v.kept)) most_kept)) → most_kept ≤ length (within x.time day)
      many t f = subst (λ (l : List TimedPrice). most_kept ≤ length l) (seen x.time h (omega (tests, t))) (omega (tests, f))

  kind_for_time : (e : Event) → Watched v.kept day → ForTime e day (refusal_of_kind v e)
  unfolding refusal_of_kind
  kind_for_time (entry e) h = entry_for_time (entry e) e none tt
  kind_for_time (cancel i) h = by_refusal (ForTime (cancel i) day) _ 8 none (λ t. not_time 8 tt) (λ t. tt)
  kind_for_time (bid b) h = by_refusal (ForTime (bid b) day) _ 3 none (λ t. not_time 3 tt) (λ t. tt)
  kind_for_time (tape p) h = by_refusal (ForTime (tape p) day) _ 3 none (λ t. not_time 3 tt) (λ t. tt)
  kind_for_time (day_end c) h = by_refusal (ForTime (day_end c) day) _ 3 none (λ t. not_time 3 tt) (λ t. tt)
  kind_for_time (owned_entry e k) h = entry_for_time (owned_entry e k) e (refusal_of_owner k) (owner_by (ForTime (owned_entry e k) day) tt (not_time 21 tt) k)
  kind_for_time (timed_tape x) h = by_refusal (ForTime (timed_tape x) day) _ 3 _ (λ t. other_refused (some x) day 3 tt) (λ t. time_for_time x h)

  refused_for_time : (e : Event) (n : ℕ) → Watched v.kept day → ForTime e day (refusal v e n)
  unfolding refusal
  refused_for_time e n h =
      let P : Option ℕ → Type 0 = ForTime e day in
      let o : (n : ℕ) → T (other n) → P (some n) = other_refused (timed_by e) day in
      by_refusal P _ 16 _ (λ t. o 16 tt) (λ t. by_refusal P _ 1 _ (λ t. o 1 tt) (λ t. by_refusal P _ 2 _ (λ t. o 2 tt) (λ t. kind_for_time e h)))

-- a timed price is refused as its tape price is, then for its time

first_behind : (a b c d : Bool) (r : Option ℕ) → refuse_unless a 16 (refuse_unless b 1 (refuse_unless c 2 (refuse_unless d 3 r))) ≡ first_of (refuse_unless a 16 (refuse_unless b 1 (refuse_unless c 2 (refuse_unless d 3 none)))) r
unfolding refuse_unless first_of
first_behind false b c d r = refl
first_behind true false c d r = refl
first_behind true true false d r = refl
first_behind true true true false r = refl
first_behind true true true true r = refl

refused_as_tape : (v : Venue) (x : TimedPrice) (n : ℕ) → refusal v (timed_tape x) n ≡ first_of (refusal v (tape x.price) n) (refusal_of_time v.kept x.time)
unfolding refusal refusal_of_kind
refused_as_tape v x n =
    first_behind (sound v) (leb least_buffer n) (ltb v.accepted_events most_events) (legal (v.market.step) x.price) _

refuse_same : (b : Bool) (n : ℕ) (r r' : Option ℕ) → (T b → r ≡ r') → refuse_unless b n r ≡ refuse_unless b n r'
unfolding refuse_unless
refuse_same true n r r' h = h tt
refuse_same false n r r' h = refl

-- beside the kept prices a time is refused as beside all of the day
same_refusal : {kept day : List TimedPrice} (t : ℕ) → Watched kept day → refusal_of_time kept t ≡ time_refusal day t
unfolding refusal_of_time
same_refusal {kept} {day} t h =
    ap (λ (k : ℕ). refuse_unless (leb k t) 22 (refuse_unless (ltb (length (within t kept)) most_kept) 23 none)) h.last
    ∙ refuse_same (leb (last_time day) t) 22 _ _ (λ b. ap (λ (l : List TimedPrice). refuse_unless (ltb (length l) most_kept) 23 none) (seen t h (omega (tests, b, h.last))))

-- one event

accepted_looked : (v : Venue) (e : Event) (n : ℕ) (day : List TimedPrice) → NotRefused v e n → Watched v.kept day → Looked day e (gives (effect_of (market_after e v.market) v e).reports)
unfolding effect_of
accepted_looked v (entry e) n day a h = (sym (all_others _ (event_others v.market v (entry e) tt)), tt)
accepted_looked v (cancel i) n day a h = (sym (all_others _ (event_others v.market v (cancel i) tt)), tt)
accepted_looked v (bid b) n day a h = (sym (all_others _ (event_others _ v (bid b) tt)), tt)
accepted_looked v (tape p) n day a h = (sym (all_others _ (event_others _ v (tape p) tt)), tt)
accepted_looked v (day_end c) n day a h = (sym (all_others _ (event_others _ v (day_end c) tt)), tt)
accepted_looked v (owned_entry e k) n day a h = (sym (all_others _ (event_others v.market v (owned_entry e k) tt)), tt)
accepted_looked v (timed_tape x) n day a h =
    let s : within x.time v.kept ≡ within x.time day = seen x.time h a.allowed.time in
    let rs : List Report = (effect_of_tape (market_after (timed_tape x) v.market) v).reports in (
      subst (λ (l : List TimedPrice). pause_report x.price (within x.time v.kept) ++ rs ≡ pause_report x.price l ++ other_reports (pause_report x.price (within x.time v.kept) ++ rs)) s (pause_first x.price _ rs (all_others rs (tape_others _ v))),
      (omega (arith, h.last, a.allowed.time), subst (λ (l : List TimedPrice). length l < most_kept) s a.allowed.few),
    )

accepted_watched : (v : Venue) (e : Event) (n : ℕ) (day : List TimedPrice) → NotRefused v e n → Watched v.kept day → Watched (kept_after e v.kept) (day_after e day)
accepted_watched v (entry e) n day a h = h
accepted_watched v (cancel i) n day a h = h
accepted_watched v (bid b) n day a h = h
accepted_watched v (tape p) n day a h = h
accepted_watched v (day_end c) n day a h = none_watched
accepted_watched v (owned_entry e k) n day a h = h
accepted_watched v (timed_tape x) n day a h = more_watched x h a.allowed.time

-- every list

unless_looked : (x : Option ℕ) (v : Venue) (e : Event) (n : ℕ) (day : List TimedPrice) → refusal v e n ≡ x → Watched v.kept day → let s : Step = step_unless x v e in Looked day e s.answer × Watched s.venue.kept (day_answered day e s.answer)
unfolding step_unless
unless_looked (some k) v e n day r h = (subst (ForTime e day) r (refused_for_time v day e n h), h)
unless_looked none v e n day r h =
    let a = none_known v e n r in
    (accepted_looked v e n day a h, accepted_watched v e n day a h)

run_looked : (cs : List Call) (v : Venue) (day : List TimedPrice) → Watched v.kept day → let r : Run = run v cs in AllLooked day r.answered × Watched r.venue.kept (day_from day r.answered)
unfolding run step
run_looked [] v day h = (tt, h)
run_looked (c ∷ cs) v day h =
    let x = unless_looked (refusal v c.event c.buffer) v c.event c.buffer day refl h in
    let y = run_looked cs _ _ x.1 in
    ((x.0, y.0), y.1)

pub pauses_by_plain_look : PausesByPlainLook
unfolding opened
pauses_by_plain_look s close v o cs =
    let r = run_looked cs v [] (rw (opening_known s close v o).fresh none_watched) in
    record { looked = r.0; keeps = r.1.keeps; refused = λ x n. refused_as_tape (run v cs).venue x n ∙ ap (first_of _) (same_refusal x.time r.1) }

-- of calls, from words that mean a fresh venue
pub by_plain_look_from : (s close : ℕ) → T (is_step s) → T (legal s close) → {w₀ : List ℕ} → T (is_book w₀) → venue_of w₀ ≡ opened s close → (cs : List AppliedCall) (w' : List ℕ) → Chain w₀ cs w' → CallsByPlainLook cs w'
by_plain_look_from s close i t u f cs w' c =
    let r = fresh_run s close i t u f c in
    record {
      read = (run (opened s close) (map call_of cs)).answered;
      readable = r.readable;
      by_look = rw r.venue (pauses_by_plain_look s close (opened s close) (opening_gives s close i t) (map call_of cs));
    }

pub pauses_by_plain_look_in_calls : PausesByPlainLookInCalls
pauses_by_plain_look_in_calls s close i t = by_plain_look_from s close i t (opened_book s close i t) (opened_venue s close i t)

-- a timed price beside its tape price

module _ (v : Venue) (x : TimedPrice) (n : ℕ) where
  tape_accepted : refusal v (timed_tape x) n ≡ none → refusal v (tape x.price) n ≡ none
  tape_accepted h = (first_nothing _ _ (sym (refused_as_tape v x n) ∙ h)).0

  timed_as_tape : TimedAsTape v x n
  unfolding step step_unless effect_of
  timed_as_tape = record { refused = refused_as_tape v x n; accepted = λ h. rw (h, tape_accepted h) refl }

pub timed_tapes_as_tapes : TimedTapesAsTapes
timed_tapes_as_tapes = timed_as_tape

pub timed_calls_as_tapes : TimedCallsAsTapes
timed_calls_as_tapes w x b count w' b' a =
    let c = accepted_call a in
    call_does a (step_in_lem w (timed_tape x) (length b) c.0 ∙ (timed_as_tape (venue_of w) x (length b)).accepted c.1 ∙ ap (watched_step x (venue_of w).kept) (sym (step_in_lem w (tape x.price) (length b) c.0)))

-- every other event

judged_as_before : (v : Venue) (e : Event) (n : ℕ) → T (sound_kept (v.market.step) v.kept) → refusal v e n ≡ refusal_before_no10 v e n
unfolding refusal sound
judged_as_before v e n t = rw (T_true (sound_kept (v.market.step) v.kept) t) refl

kind_unread : (v : Venue) (kept : List TimedPrice) (e : Event) → Untimed e → refusal_of_kind (with_kept kept v) e ≡ refusal_of_kind v e
unfolding refusal_of_kind refusal_of_entry refusal_of_place
kind_unread v kept (entry e) u = refl
kind_unread v kept (cancel i) u = refl
kind_unread v kept (bid b) u = refl
kind_unread v kept (tape p) u = refl
kind_unread v kept (day_end c) u = refl
kind_unread v kept (owned_entry e k) u = refl
kind_unread v kept (timed_tape x) u = absurd u

effect_unread : (m : Market) (v : Venue) (kept : List TimedPrice) (e : Event) → Untimed e → effect_of m (with_kept kept v) e ≡ effect_of m v e
unfolding effect_of effect_of_entry effect_of_cancel the_pass effect_of_day_end
effect_unread m v kept (entry e) u = refl
effect_unread m v kept (cancel i) u = refl
effect_unread m v kept (bid b) u = refl
effect_unread m v kept (tape p) u = refl
effect_unread m v kept (day_end c) u = refl
effect_unread m v kept (owned_entry e k) u = refl
effect_unread m v kept (timed_tape x) u = absurd u

none_after : (e : Event) → Untimed e → kept_after e [] ≡ []
none_after (entry e) u = refl
none_after (cancel i) u = refl
none_after (bid b) u = refl
none_after (tape p) u = refl
none_after (day_end c) u = refl
none_after (owned_entry e k) u = refl
none_after (timed_tape x) u = absurd u

module _ (v : Venue) (e : Event) (u : Untimed e) where
  unless_no_pause : (x : Option ℕ) (rs : List Report) → (step_unless x v e).answer ≡ gives rs → other_reports rs ≡ rs
  unfolding step_unless
  unless_no_pause (some k) rs z = let y : ◌≡◌ {A = ℕ} 0 1 = cc in absurd (omega arith)
  unless_no_pause none rs z =
      let y : (effect_of (market_after e v.market) v e).reports ≡ rs = cc in
      subst (λ (l : List Report). other_reports l ≡ l) y (all_others _ (event_others _ v e u))

  unless_none : (x : Option ℕ) → v.kept ≡ [] → (step_unless x v e).venue.kept ≡ []
  unfolding step_unless
  unless_none (some k) h = h
  unless_none none h = ap (kept_after e) h ∙ none_after e u

pub untimed_events_as_before : UntimedEventsAsBefore
unfolding step
untimed_events_as_before v e n u =
    record {
      same = λ t. ap (λ (x : Option ℕ). step_unless x v e) (judged_as_before v e n t);
      judged = λ kept. ap (λ (later : Option ℕ). refuse_unless (sound_before_no10 v) 16 (refuse_unless (leb least_buffer n) 1 (refuse_unless (ltb v.accepted_events most_events) 2 later))) (kind_unread v kept e u);
      unread = λ m kept. effect_unread m v kept e u;
      no_pause = unless_no_pause v e u (refusal v e n);
      none = unless_none v e u (refusal v e n);
    }

pub untimed_calls_as_before : UntimedCallsAsBefore
untimed_calls_as_before w e b answer w' b' a u t =
    call_does a (in_words (λ (x y : Step). x ≡ y) w e (length b) (step_before_no10 (venue_of w) e (length b)) ((untimed_events_as_before (venue_of w) e (length b) u).same t) refl)
