-- No. 6: what a tape price does in each phase, that the phase and the reports 5 and 6 follow from the falls alone, and that a slump is restricted every day.
-- Assumes nothing.
use Prim.Native.Nat.{ℕ, ◌+◌, ◌≤◌, ◌<◌}
use native.Mathlib.Omega.{arith}
use mathlib.Core.Path.{◌≡◌, refl, sym, ap, ◌∙◌, subst}
use mathlib.Core.Bool.{Bool, true, false, not, ◌&&◌, ◌||◌, or-true, or-false}
use mathlib.Core.Option.{Option, none, some}
use mathlib.Core.List.{List, [], ◌∷◌, ◌++◌, map, append-nil}
use lib.Dec.{T}
use lib.ListN.{length}
use borrow.Author.Tests.{lt-ltb}
use Rattle.numbers.specs.Tests.{pick, All}
use Rattle.numbers.specs.Answers.{gives}
use Rattle.numbers.specs.SevenBit.{bytes_of_all, overwrite}
use Rattle.numbers.proofs.TestLaws.{by_test, T_true}
use Rattle.numbers.proofs.ByteLaws.{bytes_last}
use Rattle.prices.specs.Prices.{is_step, legal}
use Rattle.prices.specs.Restriction.{triggers, phase_after_tape, phase_after_day_end, restriction_on}
use Rattle.prices.proofs.RestrictionLaws.{off_in_0, on_in_1, on_in_2}
use Rattle.prices.proofs.FallingAgainLaws.{same_day_stays_lem, no_fall_stays_lem, falls, day_ends, falling_again}
use Rattle.book.specs.declared.Order.{Order}
use Rattle.book.specs.rules.Words.{is_book}
use Rattle.engine.specs.declared.Market.{Market}
use Rattle.engine.specs.declared.Event.{Event}
use Rattle.engine.specs.declared.Event.TheVariants.{Entry as entry, Cancel as cancel, Bid as bid, Tape as tape, DayEnd as day_end, OwnedEntry as owned_entry, TimedTape as timed_tape}
use Rattle.engine.specs.rules.Market.{market_after, permitted_now}
use Rattle.engine.specs.rules.Reports.{Report, accepted, executed, cancelled, repriced, restriction_starts, day_ended, pause_triggered}
use Rattle.engine.specs.rules.Working.{work}
use Rattle.engine.specs.rules.Venue.{Venue, opened, entering, effect_of_entry, effect_of_cancel, the_pass, restriction_report, effect_of_tape, cancelled_at_end, effect_of_day_end, effect_of}
use Rattle.engine.specs.rules.Sound.{most_events, sound}
use Rattle.engine.specs.rules.Refusals.{refuse_unless, refusal_of_kind, least_buffer, refusal}
use Rattle.engine.specs.rules.Run.{Step, step_unless, step, Call, Run, run}
use Rattle.engine.specs.rules.Records.{report_bytes, reports_bytes}
use Rattle.engine.specs.rules.Answers.{count_of, buffer_after}
use Rattle.engine.specs.rules.Layout.{venue_of, step_in}
use Rattle.engine.specs.claims.Calls.{Applied, AppliedCall, Chain}
use Rattle.engine.specs.claims.FallingAgain.{in_phase, tape_step, TapeTable, TapeEvents, tape_bytes, TapeLeaves, TapeCallTable, TapeCalls, PassAsBefore, Falls, no_falls, falls_after, falls_answered, falls_from, phase_by, first_fall, phase_reports_due, phase_reports, ReportsPhase, AllReportPhase, RestrictedByFalls, CallsByFalls, RestrictedByFallsInCalls, phases_told, SlumpRestricted}
use Rattle.engine.proofs.demand3.MarketLaws.{pause_by}
use Rattle.engine.proofs.refinement.StepLaws.{reports_append}
use Rattle.engine.proofs.refinement.QuoteLaws.{restriction_same, restriction_new}
use Rattle.engine.proofs.requests.PassLaws.{same_pass}
use Rattle.engine.proofs.requests.BookReportLaws.{work_each, pass_each}
use Rattle.engine.proofs.refinement.OpeningLaws.{opening_known, opening_gives, opened_book, opened_venue, step_in_lem}
use Rattle.engine.proofs.demand3.SoundLaws.{sound_venue}
use Rattle.engine.proofs.demand3.ReachedLaws.{step_sound}
use Rattle.engine.proofs.demand3.CallLaws.{accepted_call, call_of, fresh_run}

-- one tape event

module _ (v : Venue) (p n : ℕ) (h : refusal v (tape p) n ≡ none) where
  abbrev after : ℕ
  after = phase_after_tape (v.market.close) (v.market.phase) p

  left_in : (k : ℕ) → after ≡ k → step v (tape p) n ≡ tape_step (restriction_report v.market (in_phase k v.market)) k v
  unfolding step step_unless effect_of
  left_in k e = rw (h, e)

  changed : (v.market.phase ≡ 1 → ⊥) → after ≡ 1 → step v (tape p) n ≡ tape_step (restriction_starts ∷ []) 1 v
  changed d e = left_in 1 e ∙ ap (λ (rs : List Report). tape_step rs 1 v) (restriction_new v.market (in_phase 1 v.market) d)

  unchanged : (k : ℕ) → v.market.phase ≡ k → after ≡ k → step v (tape p) n ≡ tape_step [] k v
  unchanged k d e = left_in k e ∙ ap (λ (rs : List Report). tape_step rs k v) (restriction_same v.market (in_phase k v.market) d)

  tape_table : TapeTable v p n
  tape_table =
      record {
        starts = λ e t. changed (λ z. omega arith) (falls (v.market.close) (v.market.phase) p (omega arith) t);
        falls_again = λ e t. changed (λ z. omega arith) (falls (v.market.close) (v.market.phase) p (omega arith) t);
        same_day_stays = λ e. unchanged 1 e (rw e (same_day_stays_lem (v.market.close) p));
        no_fall_stays = λ t. unchanged (v.market.phase) refl (no_fall_stays_lem (v.market.close) (v.market.phase) p t);
      }

pub tape_events : TapeEvents
tape_events = tape_table

-- the same of a call

start_bytes : reports_bytes (restriction_starts ∷ []) ≡ 5 ∷ []
unfolding reports_bytes report_bytes bytes_of_all
start_bytes = rw (bytes_last 5 (omega arith))

no_bytes : reports_bytes [] ≡ []
unfolding reports_bytes
no_bytes = refl

module _ {w w' b b' : List ℕ} {p count : ℕ} (a : Applied w (tape p) b (gives count) w' b') where
  abbrev known : TapeTable (venue_of w) p (length b)
  known = tape_events (venue_of w) p (length b) (accepted_call a).1

  leaves : (first : List Report) {k : ℕ} {bytes : List ℕ} → reports_bytes first ≡ bytes → step (venue_of w) (tape p) (length b) ≡ tape_step first k (venue_of w) → TapeLeaves bytes k w b count w' b'
  unfolding venue_of
  leaves first {k} {bytes} r s =
      let e : step_in w (tape p) (length b) ≡ tape_step first k (venue_of w) = step_in_lem w (tape p) (length b) (accepted_call a).0 ∙ s in
      let all : reports_bytes (first ++ (the_pass (in_phase k (venue_of w).market) (venue_of w)).reports) ≡ tape_bytes bytes k w = rw (← r) (reports_append first _) in
      let answered : gives count ≡ count_of (tape_step first k (venue_of w)).answer = a.answers ∙ ap (λ (x : Step). count_of x.answer) e in
      let left : venue_of w' ≡ (tape_step first k (venue_of w)).venue = a.venue ∙ ap (λ (x : Step). x.venue) e in
      let number : count ≡ length (reports_bytes (first ++ (the_pass (in_phase k (venue_of w).market) (venue_of w)).reports)) = cc in
      record {
        counted = number ∙ ap length all;
        bytes = a.buffer ∙ ap (λ (x : Step). buffer_after b x.answer) e ∙ ap (overwrite b 0) all;
        phase = ap (λ (v : Venue). v.market.phase) left;
        venue = left;
      }

  tape_call_table : TapeCallTable p w b count w' b'
  unfolding venue_of
  tape_call_table =
      record {
        starts = λ e t. leaves (restriction_starts ∷ []) start_bytes (known.starts e t);
        falls_again = λ e t. leaves (restriction_starts ∷ []) start_bytes (known.falls_again e t);
        same_day_stays = λ e. leaves [] no_bytes (known.same_day_stays e);
        no_fall_stays = λ t. leaves [] no_bytes (known.no_fall_stays t);
      }

pub tape_calls : TapeCalls
tape_calls w p b count w' b' a = tape_call_table a

-- the restriction is on as before, and so the pass is what it was
pub pass_as_before : PassAsBefore
unfolding the_pass permitted_now
pass_as_before v p =
    same_pass _ _ refl ((falling_again.venue (v.market.close) p).on_as_before (v.market.phase)) refl _ v.orders v.last_stamp

-- which events report 5 and 6

phase_append : (xs ys : List Report) → phase_reports (xs ++ ys) ≡ phase_reports xs ++ phase_reports ys
phase_append [] ys = refl
phase_append (accepted i s p ∷ xs) ys = phase_append xs ys
phase_append (executed x ∷ xs) ys = phase_append xs ys
phase_append (cancelled i q z ∷ xs) ys = phase_append xs ys
phase_append (repriced i p s ∷ xs) ys = phase_append xs ys
phase_append (restriction_starts ∷ xs) ys = ap (λ (rs : List Report). restriction_starts ∷ rs) (phase_append xs ys)
phase_append (day_ended k ∷ xs) ys = ap (λ (rs : List Report). day_ended k ∷ rs) (phase_append xs ys)
phase_append (pause_triggered d p ∷ xs) ys = phase_append xs ys

-- no execution, cancellation or re-pricing is one
abbrev NoPhase : Report → Type 0
NoPhase r = (rs : List Report) → phase_reports (r ∷ rs) ≡ phase_reports rs

none_of_phase : (rs : List Report) → All NoPhase rs → phase_reports rs ≡ []
none_of_phase [] h = refl
none_of_phase (r ∷ rs) h = h.0 rs ∙ none_of_phase rs h.1

work_no_phase : (o : Order) (os : List Order) → phase_reports (work o os).reports ≡ []
work_no_phase o os = none_of_phase (work o os).reports (work_each NoPhase (λ x rs. refl) (λ i q z rs. refl) (λ i p s rs. refl) o os)

the_pass_no_phase : (m : Market) (v : Venue) → phase_reports (the_pass m v).reports ≡ []
the_pass_no_phase m v = none_of_phase (the_pass m v).reports (pass_each NoPhase (λ x rs. refl) (λ i q z rs. refl) (λ i p s rs. refl) m v)

day_end_last : (os : List Order) (k : ℕ) → phase_reports (map cancelled_at_end os ++ day_ended k ∷ []) ≡ day_ended k ∷ []
day_end_last [] k = refl
day_end_last (o ∷ os) k = day_end_last os k

-- the phase by the falls

phase_small : (f : Falls) → phase_by f ≤ 2
phase_small f = by_test (λ (x : ℕ). x ≤ 2) f.today (λ t. omega arith) (λ t. by_test (λ (x : ℕ). x ≤ 2) f.day_before (λ u. omega arith) (λ u. omega arith))

tape_by_falls : (f : Falls) (p : ℕ) → phase_after_tape f.close (phase_by f) p ≡ phase_by (falls_after (tape p) f)
unfolding pick
tape_by_falls f p = go (triggers f.close p) refl
  where
    go : (b : Bool) → triggers f.close p ≡ b → phase_after_tape f.close (phase_by f) p ≡ phase_by (falls_after (tape p) f)
    go true e = falls f.close (phase_by f) p (phase_small f) (rw e tt) ∙ rw (e, or-true f.today)
    go false e = no_fall_stays_lem f.close (phase_by f) p (rw e tt) ∙ rw (e, or-false f.today)

day_end_by_falls : (f : Falls) (c : ℕ) → phase_after_day_end (phase_by f) ≡ phase_by (falls_after (day_end c) f)
unfolding pick
day_end_by_falls f c = go f.today f.day_before
  where
    go : (a b : Bool) → phase_after_day_end (pick a 1 (pick b 2 0)) ≡ pick a 2 0
    go true b = day_ends.carried
    go false true = day_ends.ends
    go false false = day_ends.off

on_by_falls : (f : Falls) → restriction_on (phase_by f) ≡ (f.today || f.day_before)
unfolding pick
on_by_falls f = go f.today f.day_before
  where
    go : (a b : Bool) → restriction_on (pick a 1 (pick b 2 0)) ≡ (a || b)
    go true b = on_in_1
    go false true = on_in_2
    go false false = off_in_0

-- what is known of the falls agrees with the market
record Agrees (m : Market) (f : Falls) : Type 0 where
  close : m.close ≡ f.close
  phase : m.phase ≡ phase_by f

market_agrees : (e : Event) (m : Market) (f : Falls) → Agrees m f → Agrees (market_after e m) (falls_after e f)
market_agrees (entry e) m f h = h
market_agrees (cancel i) m f h = h
market_agrees (bid b) m f h = record { close = h.close; phase = h.phase }
market_agrees (tape p) m f h = record { close = h.close; phase = rw (h.close, h.phase) (tape_by_falls f p) }
market_agrees (day_end c) m f h = record { close = refl; phase = rw h.phase (day_end_by_falls f c) }
market_agrees (owned_entry e k) m f h = h
market_agrees (timed_tape x) m f h = record { close = h.close; phase = rw (h.close, h.phase) (tape_by_falls f x.price) }

-- the reports that are due

restriction_due : (k m : Market) (f : Falls) (p : ℕ) → k.phase ≡ phase_by f → m.phase ≡ phase_by (falls_after (tape p) f) → phase_reports (restriction_report k m) ≡ phase_reports_due (tape p) f
unfolding pick
restriction_due k m f p = go f.today f.day_before (triggers f.close p)
  where
    same : k.phase ≡ m.phase → phase_reports (restriction_report k m) ≡ []
    same e = ap phase_reports (restriction_same k m e)

    new : (k.phase ≡ m.phase → ⊥) → phase_reports (restriction_report k m) ≡ restriction_starts ∷ []
    new d = ap phase_reports (restriction_new k m d)

    go : (a b t : Bool) → k.phase ≡ pick a 1 (pick b 2 0) → m.phase ≡ pick (a || t) 1 (pick b 2 0) → phase_reports (restriction_report k m) ≡ pick (not a && t) (restriction_starts ∷ []) []
    go true b t x y = same (x ∙ sym y)
    go false b false x y = same (x ∙ sym y)
    go false true true x y = new (λ z. omega arith)
    go false false true x y = new (λ z. omega arith)

tape_due : (v : Venue) (p : ℕ) (f : Falls) → Agrees v.market f → phase_reports (effect_of_tape (market_after (tape p) v.market) v).reports ≡ phase_reports_due (tape p) f
tape_due v p f h =
    let m : Market = market_after (tape p) v.market in
    phase_append (restriction_report v.market m) _ ∙ rw (the_pass_no_phase m v, append-nil) (restriction_due v.market m f p h.phase (market_agrees (tape p) v.market f h).phase)

reports_due : (v : Venue) (e : Event) (f : Falls) → Agrees v.market f → phase_reports (effect_of (market_after e v.market) v e).reports ≡ phase_reports_due e f
unfolding effect_of entering effect_of_entry effect_of_cancel effect_of_day_end pick
reports_due v (entry e) f h = work_no_phase _ v.orders
reports_due v (cancel i) f h = refl
reports_due v (bid b) f h = the_pass_no_phase _ v
reports_due v (tape p) f h = tape_due v p f h
reports_due v (day_end c) f h = day_end_last v.orders _ ∙ ap (λ (k : ℕ). day_ended k ∷ []) (rw h.phase (day_end_by_falls f c))
reports_due v (owned_entry e k) f h = work_no_phase _ v.orders
reports_due v (timed_tape x) f h = pause_by (λ (rs : List Report). phase_reports (rs ++ (effect_of_tape (market_after (timed_tape x) v.market) v).reports) ≡ first_fall x.price f) x.price _ (tape_due v x.price f h) (λ d l. tape_due v x.price f h)

-- every list

unless_by_falls : (x : Option ℕ) (v : Venue) (e : Event) (f : Falls) → Agrees v.market f → let s : Step = step_unless x v e in ReportsPhase f e s.answer × Agrees s.venue.market (falls_answered f e s.answer)
unfolding step_unless
unless_by_falls (some n) v e f h = (tt, h)
unless_by_falls none v e f h = (reports_due v e f h, market_agrees e v.market f h)

run_by_falls : (cs : List Call) (v : Venue) (f : Falls) → Agrees v.market f → let r : Run = run v cs in AllReportPhase f r.answered × Agrees r.venue.market (falls_from f r.answered)
unfolding run step
run_by_falls [] v f h = (tt, h)
run_by_falls (c ∷ cs) v f h =
    let x = unless_by_falls (refusal v c.event c.buffer) v c.event f h in
    let y = run_by_falls cs _ _ x.1 in
    ((x.0, y.0), y.1)

pub restricted_by_falls : RestrictedByFalls
unfolding opened pick
restricted_by_falls s close v o cs =
    let r = run_by_falls cs v (no_falls close) (rw (opening_known s close v o).fresh (record { close = refl; phase = refl })) in
    record { phase = r.1.phase; on = rw r.1.phase (on_by_falls (falls_from (no_falls close) (run v cs).answered)); reports = r.0 }

-- of calls, from words that mean a fresh venue
pub by_falls_from : (s close : ℕ) → T (is_step s) → T (legal s close) → {w₀ : List ℕ} → T (is_book w₀) → venue_of w₀ ≡ opened s close → (cs : List AppliedCall) (w' : List ℕ) → Chain w₀ cs w' → CallsByFalls close cs w'
unfolding venue_of
by_falls_from s close i t u f cs w' c =
    let r = fresh_run s close i t u f c in
    record {
      read = (run (opened s close) (map call_of cs)).answered;
      readable = r.readable;
      by_falls = rw (ap (λ (v : Venue). v.market.phase) r.venue) (restricted_by_falls s close (opened s close) (opening_gives s close i t) (map call_of cs));
    }

pub restricted_by_falls_in_calls : RestrictedByFallsInCalls
restricted_by_falls_in_calls s close i t = by_falls_from s close i t (opened_book s close i t) (opened_venue s close i t)

-- a slump

-- a day end in phase 1
abbrev carried_step : ℕ → Venue → Step
carried_step c v =
    record {
      answer = gives (map cancelled_at_end v.orders ++ day_ended 2 ∷ []);
      venue =
          record {
            market = record { close = c; phase = 2; bid = 0; step = v.market.step };
            orders = [];
            kept = [];
            last_id = v.last_id;
            last_stamp = v.last_stamp;
            accepted_events = v.accepted_events + 1;
          };
    }

module _ (v : Venue) (t : T (sound v)) (m : v.accepted_events < most_events) where
  taken : (e : Event) → refusal_of_kind v e ≡ none → refusal v e least_buffer ≡ none
  unfolding refusal refuse_unless
  taken e h = rw (T_true (sound v) t, lt-ltb v.accepted_events most_events m, h)

  tape_taken : (p : ℕ) → T (legal (v.market.step) p) → refusal v (tape p) least_buffer ≡ none
  unfolding refusal_of_kind refuse_unless
  tape_taken p l = taken (tape p) (rw (T_true (legal (v.market.step) p) l))

  tape_starts : (p : ℕ) → T (legal (v.market.step) p) → T (triggers (v.market.close) p) → (v.market.phase ≡ 1 → ⊥) → step v (tape p) least_buffer ≡ tape_step (restriction_starts ∷ []) 1 v
  tape_starts p l h d = changed v p least_buffer (tape_taken p l) d (falls (v.market.close) (v.market.phase) p (sound_venue v t).market.phase h)

  day_end_carries : (c : ℕ) → T (legal (v.market.step) c) → v.market.phase ≡ 1 → step v (day_end c) least_buffer ≡ carried_step c v
  unfolding step step_unless effect_of effect_of_day_end refusal_of_kind refuse_unless
  day_end_carries c l e = rw (taken (day_end c) (rw (T_true (legal (v.market.step) c) l)), e, day_ends.carried)

pub slump_restricted : SlumpRestricted
unfolding phases_told
slump_restricted v t d [] m h = refl
slump_restricted v t d (x ∷ ds) m (l, falling, r, later) =
    let a : step v (tape x.price) least_buffer ≡ tape_step (restriction_starts ∷ []) 1 v = tape_starts v t (omega arith) x.price l falling d in
    let u : Venue = (tape_step (restriction_starts ∷ []) 1 v).venue in
    let k : T (sound u) = subst (λ (s : Step). T (sound s.venue)) a (step_sound v (tape x.price) least_buffer t) in
    let b : step u (day_end x.close) least_buffer ≡ carried_step x.close u = day_end_carries u k (omega arith) x.close r refl in
    let n : T (sound (carried_step x.close u).venue) = subst (λ (s : Step). T (sound s.venue)) b (step_sound u (day_end x.close) least_buffer k) in
    rw (a, b, the_pass_no_phase (in_phase 1 v.market) v, day_end_last u.orders 2, slump_restricted (carried_step x.close u).venue n (λ z. omega arith) ds (omega arith) later)
