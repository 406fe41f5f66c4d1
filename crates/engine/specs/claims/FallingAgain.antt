-- Document 02, No. 6, falling again on the second day, as claims: one tape event, every list of events, and a slump of any number of days. Those of phases and
-- of the watch stand in `FallingAgain` of the crate prices. Assumes nothing.
use Rattle.std.specs.Prelude.{ℕ, ◌+◌, ◌*◌, ◌≤◌, ◌≡◌, Bool, false, not, ◌&&◌, ◌||◌, T, length, get_or}
use mathlib.Core.List.{List, [], ◌∷◌, ◌++◌, map, foldl}
use Rattle.std.proofs.Math.Option.{none, some}
use Rattle.numbers.specs.Tests.{pick}
use Rattle.numbers.specs.Answers.{Outcome, gives, refuses}
use Rattle.numbers.specs.SevenBit.{overwrite}
use Rattle.prices.specs.Prices.{is_step, legal}
use Rattle.prices.specs.Restriction.{triggers, restriction_on}
use Rattle.prices.specs.FallingAgain.{phase_before}
use Rattle.engine.specs.declared.Market.{Market}
use Rattle.engine.specs.declared.Event.{Event}
use Rattle.engine.specs.declared.Event.TheVariants.{Entry as entry, Cancel as cancel, Bid as bid, Tape as tape, DayEnd as day_end, OwnedEntry as owned_entry, TimedTape as timed_tape}
use Rattle.engine.specs.rules.Market.{market_after}
use Rattle.engine.specs.rules.Reports.{Report, accepted, executed, cancelled, repriced, restriction_starts, day_ended, pause_triggered}
use Rattle.engine.specs.rules.Pass.{Effect}
use Rattle.engine.specs.rules.Venue.{Venue, opening, the_pass}
use Rattle.engine.specs.rules.Sound.{most_events, sound}
use Rattle.engine.specs.rules.Refusals.{least_buffer, refusal}
use Rattle.engine.specs.rules.Run.{Step, step, Call, Answered, Run, run}
use Rattle.engine.specs.rules.Records.{reports_bytes}
use Rattle.engine.specs.rules.Layout.{venue_of, opened_words}
use Rattle.engine.specs.claims.Calls.{Applied, AppliedCall, Chain, answered_of}

-- One tape event

abbrev pub in_phase : ℕ → Market → Market
in_phase k m = record { close = m.close; phase = k; bid = m.bid; step = m.step }

-- a tape event after which the phase is k: it reports these first, and then what the pass does in that phase
abbrev pub tape_step : List Report → ℕ → Venue → Step
tape_step first k v =
    let x : Effect = the_pass (in_phase k v.market) v in
    record {
      answer = gives (first ++ x.reports);
      venue =
          record {
            market = in_phase k v.market;
            orders = x.orders;
            kept = v.kept;
            last_id = v.last_id;
            last_stamp = x.stamp;
            accepted_events = v.accepted_events + 1;
          };
    }

-- an accepted tape price p, by the phase; n is the length of the lent report buffer
pub record TapeTable (v : Venue) (p n : ℕ) : Type 0 where
  -- "In phase 0 a tape price p with 10 × p ≤ 9 × close makes phase 1"
  pub starts : v.market.phase ≡ 0 → T (triggers (v.market.close) p) → step v (tape p) n ≡ tape_step (restriction_starts ∷ []) 1 v
  -- "In phase 2 a tape price that meets the trigger gives phase 1 and report 5"
  pub falls_again : v.market.phase ≡ 2 → T (triggers (v.market.close) p) → step v (tape p) n ≡ tape_step (restriction_starts ∷ []) 1 v
  -- "In phase 1 it still leaves the phase alone, without report 5"
  pub same_day_stays : v.market.phase ≡ 1 → step v (tape p) n ≡ tape_step [] 1 v
  -- a price that doesn't meet the trigger leaves every phase alone
  pub no_fall_stays : T (not (triggers (v.market.close) p)) → step v (tape p) n ≡ tape_step [] (v.market.phase) v

abbrev pub TapeEvents : Type 0
TapeEvents = (v : Venue) (p n : ℕ) → refusal v (tape p) n ≡ none → TapeTable v p n

-- the same of a call of apply on any words that accepts a tape price: word 1 is the close, word 2 the phase, and report 5 the byte 5

-- these bytes, and behind them those of the pass in the phase k
abbrev pub tape_bytes : List ℕ → ℕ → List ℕ → List ℕ
tape_bytes first k w = first ++ reports_bytes (the_pass (in_phase k (venue_of w).market) (venue_of w)).reports

-- what the call leaves: the count answered and the report buffer b', with these bytes first; the phase k in word 2; and the venue that the pass in that phase
-- leaves, with one more accepted event
pub record TapeLeaves (first : List ℕ) (k : ℕ) (w b : List ℕ) (count : ℕ) (w' b' : List ℕ) : Type 0 where
  pub counted : count ≡ length (tape_bytes first k w)
  pub bytes : b' ≡ overwrite b 0 (tape_bytes first k w)
  pub phase : get_or w' 2 0 ≡ k
  pub venue : venue_of w' ≡ (tape_step [] k (venue_of w)).venue

pub record TapeCallTable (p : ℕ) (w b : List ℕ) (count : ℕ) (w' b' : List ℕ) : Type 0 where
  pub starts : get_or w 2 0 ≡ 0 → T (triggers (get_or w 1 0) p) → TapeLeaves (5 ∷ []) 1 w b count w' b'
  pub falls_again : get_or w 2 0 ≡ 2 → T (triggers (get_or w 1 0) p) → TapeLeaves (5 ∷ []) 1 w b count w' b'
  pub same_day_stays : get_or w 2 0 ≡ 1 → TapeLeaves [] 1 w b count w' b'
  pub no_fall_stays : T (not (triggers (get_or w 1 0) p)) → TapeLeaves [] (get_or w 2 0) w b count w' b'

abbrev pub TapeCalls : Type 0
TapeCalls = (w : List ℕ) (p : ℕ) (b : List ℕ) (count : ℕ) (w' b' : List ℕ) → Applied w (tape p) b (gives count) w' b' → TapeCallTable p w b count w' b'

-- the pass after a tape price is in every phase what it was before No. 6: a new fall on the carried day changes the phase and brings report 5, and nothing else
abbrev pub PassAsBefore : Type 0
PassAsBefore =
    (v : Venue) (p : ℕ) →
    the_pass (market_after (tape p) v.market) v ≡ the_pass (in_phase (phase_before (v.market.close) (v.market.phase) p) v.market) v

-- Every list of events: what phase it is, and when reports 5 and 6 come, by the falls alone

-- the close in force, and whether a tape price met the trigger today, and on the day before
pub record Falls : Type 0 where
  pub close : ℕ
  pub today : Bool
  pub day_before : Bool

abbrev pub no_falls : ℕ → Falls
no_falls close = record { close = close; today = false; day_before = false }

-- a tape price p, of either kind
abbrev pub priced_at : ℕ → Falls → Falls
priced_at p f = record { close = f.close; today = f.today || triggers f.close p; day_before = f.day_before }

-- an accepted event
abbrev pub falls_after : Event → Falls → Falls
falls_after (entry e) f = f
falls_after (cancel i) f = f
falls_after (bid b) f = f
falls_after (tape p) f = priced_at p f
falls_after (day_end c) f = record { close = c; today = false; day_before = f.today }
falls_after (owned_entry e k) f = f
falls_after (timed_tape x) f = priced_at x.price f

-- "A refused event changes nothing"
abbrev pub falls_answered : Falls → Event → Outcome (List Report) → Falls
falls_answered f e (gives rs) = falls_after e f
falls_answered f e (refuses n) = f

abbrev pub falls_from : Falls → List Answered → Falls
falls_from f xs = foldl (λ (g : Falls) (x : Answered). falls_answered g x.event x.answer) f xs

-- "Phase 0 is off, 1 on since today, 2 on since yesterday"
abbrev pub phase_by : Falls → ℕ
phase_by f = pick f.today 1 (pick f.day_before 2 0)

-- report 5 for the first price of a day that meets the trigger
abbrev pub first_fall : ℕ → Falls → List Report
first_fall p f = pick (not f.today && triggers f.close p) (restriction_starts ∷ []) []

-- the reports 5 and 6 that an accepted event is to have: 5 for the first tape price of a day that meets the trigger; 6 with phase 2 at the end of a day that had
-- one, and with phase 0 at the end of any other
abbrev pub phase_reports_due : Event → Falls → List Report
phase_reports_due (entry e) f = []
phase_reports_due (cancel i) f = []
phase_reports_due (bid b) f = []
phase_reports_due (tape p) f = first_fall p f
phase_reports_due (day_end c) f = day_ended (pick f.today 2 0) ∷ []
phase_reports_due (owned_entry e k) f = []
phase_reports_due (timed_tape x) f = first_fall x.price f

-- the reports 5 and 6 among reports
abbrev pub phase_reports : List Report → List Report
phase_reports [] = []
phase_reports (accepted i s p ∷ rs) = phase_reports rs
phase_reports (executed x ∷ rs) = phase_reports rs
phase_reports (cancelled i q z ∷ rs) = phase_reports rs
phase_reports (repriced i p s ∷ rs) = phase_reports rs
phase_reports (restriction_starts ∷ rs) = restriction_starts ∷ phase_reports rs
phase_reports (day_ended k ∷ rs) = day_ended k ∷ phase_reports rs
phase_reports (pause_triggered d p ∷ rs) = phase_reports rs

-- each accepted event of the list has those that are due
abbrev pub ReportsPhase : Falls → Event → Outcome (List Report) → Type 0
ReportsPhase f e (gives rs) = phase_reports rs ≡ phase_reports_due e f
ReportsPhase f e (refuses n) = Unit {0}

abbrev pub AllReportPhase : Falls → List Answered → Type 0
AllReportPhase f [] = Unit {0}
AllReportPhase f (x ∷ xs) = ReportsPhase f x.event x.answer × AllReportPhase (falls_answered f x.event x.answer) xs

-- k is the phase after the list; the restriction is on exactly if a tape price met the trigger today or on the day before
pub record ByFalls (close : ℕ) (xs : List Answered) (k : ℕ) : Type 0 where
  pub phase : k ≡ phase_by (falls_from (no_falls close) xs)
  pub on : let f : Falls = falls_from (no_falls close) xs in restriction_on k ≡ (f.today || f.day_before)
  pub reports : AllReportPhase (no_falls close) xs

-- for every step and close that open takes and every list of events, each lent a report buffer of any length
abbrev pub RestrictedByFalls : Type 0
RestrictedByFalls =
    (s close : ℕ) (v : Venue) → opening s close ≡ gives v → (cs : List Call) →
    let r : Run = run v cs in
    ByFalls close r.answered (r.venue.market.phase)

-- the same of calls: read from the events, the answers and the report bytes; the phase is word 2 of the venue
pub record CallsByFalls (close : ℕ) (cs : List AppliedCall) (w' : List ℕ) : Type 0 where
  pub read : List Answered
  pub readable : map answered_of cs ≡ map some read
  pub by_falls : ByFalls close read (get_or w' 2 0)

abbrev pub RestrictedByFallsInCalls : Type 0
RestrictedByFallsInCalls =
    (s close : ℕ) → T (is_step s) → T (legal s close) → (cs : List AppliedCall) (w' : List ℕ) → Chain (opened_words s close) cs w' → CallsByFalls close cs w'

-- A slump that triggers every day is restricted every day

-- a day of a slump: a tape price, and the close of the day
pub record SlumpDay : Type 0 where
  pub price : ℕ
  pub close : ℕ

abbrev pub slump_events : List SlumpDay → List Event
slump_events [] = []
slump_events (d ∷ ds) = tape d.price ∷ day_end d.close ∷ slump_events ds

-- each price is legal at the step s and meets the trigger against the close of the day before, and each close is legal
abbrev pub Slump : ℕ → ℕ → List SlumpDay → Type 0
Slump s close [] = Unit {0}
Slump s close (d ∷ ds) = T (legal s d.price) × T (triggers close d.price) × T (legal s d.close) × Slump s d.close ds

-- the reports 5 and 6 of an event, or its refusal, and the phase after it
abbrev pub phase_answer : Outcome (List Report) → Outcome (List Report)
phase_answer (gives rs) = gives (phase_reports rs)
phase_answer (refuses n) = refuses n

pub record PhaseTold : Type 0 where
  pub answer : Outcome (List Report)
  pub phase : ℕ

abbrev pub phase_told : Step → PhaseTold
phase_told s = record { answer = phase_answer s.answer; phase = s.venue.market.phase }

unfoldable pub phases_told : Venue → List Event → List PhaseTold
phases_told v [] = []
phases_told v (e ∷ es) =
    let s : Step = step v e least_buffer in
    phase_told s ∷ phases_told s.venue es

-- each tape price reports 5, and the phase is then 1; each day end reports 6 with 2, and the phase is then 2
abbrev pub restricted_each_day : List SlumpDay → List PhaseTold
restricted_each_day [] = []
restricted_each_day (d ∷ ds) =
    record { answer = gives (restriction_starts ∷ []); phase = 1 } ∷ record { answer = gives (day_ended 2 ∷ []); phase = 2 } ∷ restricted_each_day ds

-- from every sound venue record that isn't in phase 1, reached or not, for every number of days that it has events for
abbrev pub SlumpRestricted : Type 0
SlumpRestricted =
    (v : Venue) → T (sound v) → (v.market.phase ≡ 1 → ⊥) →
    (ds : List SlumpDay) → v.accepted_events + 2 * length ds ≤ most_events → Slump (v.market.step) (v.market.close) ds →
    phases_told v (slump_events ds) ≡ restricted_each_day ds
