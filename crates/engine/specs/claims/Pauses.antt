-- Document 02, No. 10, the five-minute pause watch, as claims: report 7 and refusals 22 and 23 over every list of events, what a timed price does, and what stays as it was.
-- No definition of the account names the venue. Assumes nothing.
use Rattle.std.specs.Prelude.{ℕ, ◌≤◌, ◌<◌, ◌≡◌, Bool, T, leb, ltb, length}
use mathlib.Core.List.{List, [], ◌∷◌, ◌++◌, foldl, map}
use Rattle.std.proofs.Math.Option.{Option, none, some}
use Rattle.numbers.specs.Tests.{pick, conj, every}
use Rattle.numbers.specs.Answers.{Outcome, gives, refuses}
use Rattle.prices.specs.declared.TimedPrice.{TimedPrice}
use Rattle.prices.specs.Prices.{is_step, legal}
use Rattle.prices.specs.Pause.{within, keeping, most_kept, last_time, sound_kept}
use Rattle.book.specs.rules.Words.{is_book}
use Rattle.book.specs.rules.Sound.{ids_rise, stamps_differ, sound_order}
use Rattle.engine.specs.declared.Market.{Market}
use Rattle.engine.specs.declared.Event.{Event}
use Rattle.engine.specs.declared.Event.TheVariants.{Entry as entry, Cancel as cancel, Bid as bid, Tape as tape, DayEnd as day_end, OwnedEntry as owned_entry, TimedTape as timed_tape}
use Rattle.engine.specs.rules.Reports.{Report, accepted, executed, cancelled, repriced, restriction_starts, day_ended, pause_triggered}
use Rattle.engine.specs.rules.Venue.{Venue, with_kept, opening, pause_report, effect_of}
use Rattle.engine.specs.rules.Sound.{most_orders, most_events, header_conditions}
use Rattle.engine.specs.rules.Refusals.{refuse_unless, first_of, refusal_of_time, refusal_of_kind, least_buffer, refusal}
use Rattle.engine.specs.rules.Run.{Step, step_unless, step, Call, Answered, Run, run}
use Rattle.engine.specs.rules.Layout.{venue_of, opened_words, refused_layout, step_in}
use Rattle.engine.specs.claims.Calls.{Applied, CallDoes, AppliedCall, Chain, answered_of}

-- "Over demand 3's lists report 7 is exactly what a plain look at all accepted timed prices of the day within those 300 seconds gives"

-- the timed price that an event is
abbrev pub timed_by : Event → Option TimedPrice
timed_by (entry e) = none
timed_by (cancel i) = none
timed_by (bid b) = none
timed_by (tape p) = none
timed_by (day_end c) = none
timed_by (owned_entry e k) = none
timed_by (timed_tape x) = some x

-- the accepted timed prices of the day, the earliest first; none is ever dropped before the day ends
abbrev pub day_after : Event → List TimedPrice → List TimedPrice
day_after (entry e) day = day
day_after (cancel i) day = day
day_after (bid b) day = day
day_after (tape p) day = day
day_after (day_end c) day = []
day_after (owned_entry e k) day = day
day_after (timed_tape x) day = day ++ x ∷ []

-- "A refused event changes nothing"
abbrev pub day_answered : List TimedPrice → Event → Outcome (List Report) → List TimedPrice
day_answered day e (gives rs) = day_after e day
day_answered day e (refuses n) = day

abbrev pub day_from : List TimedPrice → List Answered → List TimedPrice
day_from day xs = foldl (λ (d : List TimedPrice) (x : Answered). day_answered d x.event x.answer) day xs

-- the reports 7 that an accepted event is to have
abbrev pub pauses_due : Option TimedPrice → List TimedPrice → List Report
pauses_due none day = []
pauses_due (some x) day = pause_report x.price (within x.time day)

-- the reports of other kinds than 7
abbrev pub other_reports : List Report → List Report
other_reports [] = []
other_reports (accepted i s p ∷ rs) = accepted i s p ∷ other_reports rs
other_reports (executed x ∷ rs) = executed x ∷ other_reports rs
other_reports (cancelled i q z ∷ rs) = cancelled i q z ∷ other_reports rs
other_reports (repriced i p s ∷ rs) = repriced i p s ∷ other_reports rs
other_reports (restriction_starts ∷ rs) = restriction_starts ∷ other_reports rs
other_reports (day_ended k ∷ rs) = day_ended k ∷ other_reports rs
other_reports (pause_triggered d p ∷ rs) = other_reports rs

-- an accepted timed price isn't before the last one of the day, and fewer than 512 of the day are within the 300 seconds before it
abbrev pub TimeTaken : Option TimedPrice → List TimedPrice → Type 0
TimeTaken none day = Unit {0}
TimeTaken (some x) day = (last_time day ≤ x.time) × (length (within x.time day) < most_kept)

-- 22 and 23 are given to timed prices alone: "time before the last one of the day is 22, and a 513th kept price is 23"
abbrev pub TimeRefused : Option TimedPrice → List TimedPrice → ℕ → Type 0
TimeRefused none day n = (n ≡ 22 → ⊥) × (n ≡ 23 → ⊥)
TimeRefused (some x) day n =
    (n ≡ 22 → x.time < last_time day) × (n ≡ 23 → (last_time day ≤ x.time) × (most_kept ≤ length (within x.time day)))

-- one event with its answer: its reports 7 are those that are due, and come before all others
abbrev pub Looked : List TimedPrice → Event → Outcome (List Report) → Type 0
Looked day e (gives rs) = (rs ≡ pauses_due (timed_by e) day ++ other_reports rs) × TimeTaken (timed_by e) day
Looked day e (refuses n) = TimeRefused (timed_by e) day n

abbrev pub AllLooked : List TimedPrice → List Answered → Type 0
AllLooked day [] = Unit {0}
AllLooked day (x ∷ xs) = Looked day x.event x.answer × AllLooked (day_answered day x.event x.answer) xs

-- what a time is refused for, by a look at all prices of the day
abbrev pub time_refusal : List TimedPrice → ℕ → Option ℕ
time_refusal day t =
    refuse_unless (leb (last_time day) t) 22
    (refuse_unless (ltb (length (within t day)) most_kept) 23
    none)

-- of a list, and of the venue after it: it keeps the prices of the day within 300 seconds of the last one, and a next timed price, lent a buffer of any length, is
-- refused as its tape price would be, then for its time: "Checked after the price"
pub record ByPlainLook (xs : List Answered) (v : Venue) : Type 0 where
  pub looked : AllLooked [] xs
  pub keeps : v.kept ≡ within (last_time (day_from [] xs)) (day_from [] xs)
  pub refused : (x : TimedPrice) (n : ℕ) → refusal v (timed_tape x) n ≡ first_of (refusal v (tape x.price) n) (time_refusal (day_from [] xs) x.time)

-- for every step and close that open takes and every list of events, each lent a report buffer of any length
abbrev pub PausesByPlainLook : Type 0
PausesByPlainLook =
    (s close : ℕ) (v : Venue) → opening s close ≡ gives v → (cs : List Call) →
    let r : Run = run v cs in
    ByPlainLook r.answered r.venue

-- the same of calls: read from the events, the answers and the report bytes
pub record CallsByPlainLook (cs : List AppliedCall) (w' : List ℕ) : Type 0 where
  pub read : List Answered
  pub readable : map answered_of cs ≡ map some read
  pub by_look : ByPlainLook read (venue_of w')

abbrev pub PausesByPlainLookInCalls : Type 0
PausesByPlainLookInCalls =
    (s close : ℕ) → T (is_step s) → T (legal s close) → (cs : List AppliedCall) (w' : List ℕ) → Chain (opened_words s close) cs w' → CallsByPlainLook cs w'

-- "does all that a tape event does"

-- what a step reports with these reports in front
abbrev pub in_front : List Report → Outcome (List Report) → Outcome (List Report)
in_front first (gives rs) = gives (first ++ rs)
in_front first (refuses n) = refuses n

-- a step with report 7 in front, if there is one, after which the price is kept; kept are those before it
abbrev pub watched_step : TimedPrice → List TimedPrice → Step → Step
watched_step x kept s =
    record {
      answer = in_front (pause_report x.price (within x.time kept)) s.answer;
      venue = with_kept (keeping x.time x.price kept) s.venue;
    }

-- a timed price is refused as its tape price is, then for its time; accepted, it does what its tape price does, with report 7 in front, and is kept
pub record TimedAsTape (v : Venue) (x : TimedPrice) (n : ℕ) : Type 0 where
  pub refused : refusal v (timed_tape x) n ≡ first_of (refusal v (tape x.price) n) (refusal_of_time v.kept x.time)
  pub accepted : refusal v (timed_tape x) n ≡ none → step v (timed_tape x) n ≡ watched_step x v.kept (step v (tape x.price) n)

abbrev pub TimedTapesAsTapes : Type 0
TimedTapesAsTapes = (v : Venue) (x : TimedPrice) (n : ℕ) → TimedAsTape v x n

-- the same of a call of apply on any words that accepts a timed price: its count, its report bytes and the venue after it
abbrev pub TimedCallsAsTapes : Type 0
TimedCallsAsTapes =
    (w : List ℕ) (x : TimedPrice) (b : List ℕ) (count : ℕ) (w' b' : List ℕ) → Applied w (timed_tape x) b (gives count) w' b' →
    CallDoes (watched_step x (venue_of w).kept (step_in w (tape x.price) (length b))) b (gives count) w' b'

-- A venue without timed prices behaves as before

-- the conditions of a venue record without those of kept prices, and an event that is judged by them
abbrev pub sound_before_no10 : Venue → Bool
sound_before_no10 v =
    conj
    (leb (length v.orders) most_orders ∷ ids_rise 0 v.orders ∷ every (sound_order (v.market.step) v.last_id v.last_stamp) v.orders
    ∷ stamps_differ v.orders ∷ header_conditions v)

abbrev pub refusal_before_no10 : Venue → Event → ℕ → Option ℕ
refusal_before_no10 v e n =
    refuse_unless (sound_before_no10 v) 16
    (refuse_unless (leb least_buffer n) 1
    (refuse_unless (ltb v.accepted_events most_events) 2
    (refusal_of_kind v e)))

abbrev pub step_before_no10 : Venue → Event → ℕ → Step
step_before_no10 v e n = step_unless (refusal_before_no10 v e n) v e

-- of the venue that words mean; words that are laid out as none are refused with 16
abbrev pub step_in_before_no10 : List ℕ → Event → ℕ → Step
step_in_before_no10 w e n = pick (is_book w) (step_before_no10 (venue_of w) e n) (refused_layout w)

abbrev pub NoPrice : Option TimedPrice → Type 0
NoPrice none = Unit {0}
NoPrice (some x) = ⊥

-- an event that is no timed price
abbrev pub Untimed : Event → Type 0
Untimed e = NoPrice (timed_by e)

-- an event of another kind is judged and done as before, whatever sound prices are kept, and looks at none of them; where none is kept, none is afterwards
pub record UntimedAsBefore (v : Venue) (e : Event) (n : ℕ) : Type 0 where
  pub same : T (sound_kept (v.market.step) v.kept) → step v e n ≡ step_before_no10 v e n
  pub judged : (kept : List TimedPrice) → refusal_before_no10 (with_kept kept v) e n ≡ refusal_before_no10 v e n
  pub unread : (m : Market) (kept : List TimedPrice) → effect_of m (with_kept kept v) e ≡ effect_of m v e
  pub no_pause : (rs : List Report) → (step v e n).answer ≡ gives rs → other_reports rs ≡ rs
  pub none : v.kept ≡ [] → (step v e n).venue.kept ≡ []

abbrev pub UntimedEventsAsBefore : Type 0
UntimedEventsAsBefore = (v : Venue) (e : Event) (n : ℕ) → Untimed e → UntimedAsBefore v e n

-- so it is judged and done by every call of apply whose words keep sound prices
abbrev pub UntimedCallsAsBefore : Type 0
UntimedCallsAsBefore =
    (w : List ℕ) (e : Event) (b : List ℕ) (answer : Outcome ℕ) (w' b' : List ℕ) → Applied w e b answer w' b' → Untimed e →
    T (sound_kept (venue_of w).market.step (venue_of w).kept) → CallDoes (step_in_before_no10 w e (length b)) b answer w' b'
