-- Document 02, No. 4, would it fill, as claims: the count of orders read, the refusals, and that the answer is the truth about entries. Assumes nothing.
use Rattle.std.specs.Prelude.{ℕ, ◌+◌, ◌≤◌, ◌<◌, ◌≡◌, Bool, true, false, not, ◌||◌, List, [], ◌∷◌, T, leb, eqb, length, take, Result}
use Rattle.std.proofs.Math.Option.{Option, none, some}
use Rattle.numbers.specs.Tests.{pick}
use Rattle.numbers.specs.Answers.{Outcome, gives, refuses}
use Rattle.prices.specs.Prices.{is_step, legal}
use Rattle.book.specs.declared.Order.{Order}
use Rattle.book.specs.declared.FrontRead.{FrontRead}
use Rattle.book.specs.rules.Orders.{if_same}
use Rattle.book.specs.rules.Fill.{all_reached}
use Rattle.book.specs.rules.Words.{resting}
use Rattle.engine.specs.declared.Entry.{Entry}
use Rattle.engine.specs.declared.Event.TheVariants.{Entry as entry}
use Rattle.engine.specs.declared.Refusal.{Refusal}
use Rattle.engine.specs.rules.Reports.{Report, accepted, executed, cancelled, repriced, restriction_starts, day_ended, pause_triggered}
use Rattle.engine.specs.rules.Venue.{Venue, opening, effect_of_entry}
use Rattle.engine.specs.rules.Sound.{most_orders, most_events, sound}
use Rattle.engine.specs.rules.Refusals.{refuse_unless, refusal_of_kind, least_buffer}
use Rattle.engine.specs.rules.Run.{Call, step, run}
use Rattle.engine.specs.rules.Records.{reports_up_to}
use Rattle.engine.specs.rules.Layout.{venue_of, sound_words, opened_words}
use Rattle.engine.specs.rules.Fill.{asked_order, would_fill, would_fill_in, outcome_of_fill}
use Rattle.engine.specs.claims.RoundTrips.{Word}
use Rattle.engine.specs.claims.Calls.{refusal_given, Applied, AppliedCall, Chain}

-- the answer for the mark, price and shares of an entry, of a venue and of words
abbrev pub answer_for : Venue → Entry → Outcome FrontRead
answer_for v e = would_fill v e.mark e.price e.shares

abbrev pub answer_in : List ℕ → Entry → Outcome FrontRead
answer_in w e = would_fill_in w e.mark e.price e.shares

-- The answer by the book

-- the order w would fill in full: the orders that it reaches have its shares or more
abbrev pub fills_from : Order → List Order → Bool
fills_from w os = leb w.shares (all_reached w os)

-- "The yes or no equals the one from the whole book. The result carries the count of orders read, equal to the shortest front of the book that suffices, or
-- the whole book."
pub record ReadShortest (w : Order) (os : List Order) (r : FrontRead) : Type 0 where
  pub whole : r.fills ≡ fills_from w os
  pub enough : r.fills ≡ true → T (fills_from w (take r.read os))
  pub shortest : (j : ℕ) → j < r.read → T (not (fills_from w (take j os)))
  pub all : r.fills ≡ false → r.read ≡ length os

abbrev pub ReadsShortest : Type 0
ReadsShortest =
    (v : Venue) (mark price shares : ℕ) (r : FrontRead) → would_fill v mark price shares ≡ gives r →
    ReadShortest (asked_order v.market mark price shares) v.orders r

-- the same of the calls
abbrev pub ReadsShortestInCalls : Type 0
ReadsShortestInCalls =
    (w : List ℕ) (mark price shares : ℕ) (told : Result FrontRead Refusal) → outcome_of_fill told ≡ would_fill_in w mark price shares →
    (r : FrontRead) → outcome_of_fill told ≡ gives r → ReadShortest (asked_order (venue_of w).market mark price shares) (resting w) r

-- at most 256 orders are read, and a refusal has a number of at least 1, of any words
abbrev pub FillFits : Outcome FrontRead → Type 0
FillFits (gives r) = r.read ≤ most_orders
FillFits (refuses n) = 1 ≤ n

abbrev pub FillsFit : Type 0
FillsFit = (w : List ℕ) (mark price shares : ℕ) → FillFits (would_fill_in w mark price shares)

-- Its refusals

-- those of an entry's refusals that are for "venue check, price, shares and mark"; any other is read as none
unfoldable pub of_venue_terms_or_mark : Option ℕ → Option ℕ
of_venue_terms_or_mark none = none
of_venue_terms_or_mark (some n) = pick (eqb n 16 || (eqb n 3 || (eqb n 4 || eqb n 18))) (some n) none

-- they "are refused as in an entry", and "a full book or spent events don't matter": of every venue, against the refusals of an entry that come after
-- 16, 1 and 2
abbrev pub RefusedByKind : Type 0
RefusedByKind =
    (v : Venue) (e : Entry) →
    refusal_given (answer_for v e) ≡ refuse_unless (sound v) 16 (of_venue_terms_or_mark (refusal_of_kind v (entry e)))

-- the same of the calls
abbrev pub RefusedByKindInCalls : Type 0
RefusedByKindInCalls =
    (w : List ℕ) (e : Entry) (told : Result FrontRead Refusal) → outcome_of_fill told ≡ answer_in w e →
    refusal_given (outcome_of_fill told) ≡ refuse_unless (sound_words w) 16 (of_venue_terms_or_mark (refusal_of_kind (venue_of w) (entry e)))

-- by the answer of an entry that has a long enough buffer, while events are left
abbrev pub RefusedAsEntries : Type 0
RefusedAsEntries =
    (v : Venue) (e : Entry) (n : ℕ) → least_buffer ≤ n → v.accepted_events < most_events →
    refusal_given (answer_for v e) ≡ of_venue_terms_or_mark (refusal_given (step v (entry e) n).answer)

-- the same of the calls
abbrev pub RefusedAsEntriesInCalls : Type 0
RefusedAsEntriesInCalls =
    (w : List ℕ) (e : Entry) (b : List ℕ) (answer : Outcome ℕ) (w' b' : List ℕ) → Applied w (entry e) b answer w' b' →
    least_buffer ≤ length b → (venue_of w).accepted_events < most_events →
    (told : Result FrontRead Refusal) → outcome_of_fill told ≡ answer_in w e →
    refusal_given (outcome_of_fill told) ≡ of_venue_terms_or_mark (refusal_given answer)

-- "No venue reached from open gets 16": of lists of events, and of chains of calls
abbrev pub NoQuestionGets16 : Type 0
NoQuestionGets16 =
    (s close : ℕ) (v : Venue) → opening s close ≡ gives v → (cs : List Call) (mark price shares : ℕ) →
    would_fill (run v cs).venue mark price shares ≡ refuses 16 → ⊥

abbrev pub NoQuestionOfCallsGets16 : Type 0
NoQuestionOfCallsGets16 =
    (s close : ℕ) → T (is_step s) → T (legal s close) → (cs : List AppliedCall) (w : List ℕ) → Chain (opened_words s close) cs w →
    (mark price shares : ℕ) (told : Result FrontRead Refusal) → outcome_of_fill told ≡ would_fill_in w mark price shares → outcome_of_fill told ≡ refuses 16 → ⊥

-- The truth about entries

-- the shares that a report executes for an id, and those of a list of reports
abbrev pub executed_by : ℕ → Report → ℕ
executed_by k (executed x) = if_same k x.buyer x.shares + if_same k x.seller x.shares
executed_by k (accepted i s p) = 0
executed_by k (cancelled i q z) = 0
executed_by k (repriced i p s) = 0
executed_by k restriction_starts = 0
executed_by k (day_ended p) = 0
executed_by k (pause_triggered d p) = 0

unfoldable pub executed_for : ℕ → List Report → ℕ
executed_for k [] = 0
executed_for k (r ∷ rs) = executed_by k r + executed_for k rs

-- the question wasn't refused, and its answer is yes exactly if the reports execute all shares of the entry e
pub record TrueOf (e : Entry) (rs : List Report) (answer : Outcome FrontRead) : Type 0 where
  pub front : FrontRead
  pub answers : answer ≡ gives front
  pub truth : front.fills ≡ eqb (executed_for e.id rs) e.shares

-- "tell whether an entry would fill in full now": where the question for its mark, price and shares isn't refused, the answer is true of the reports that the
-- rules give an entry with a new id, whether or not it would be accepted; "a full book or spent events don't matter to it"
abbrev pub TrueOfTheEffect : Type 0
TrueOfTheEffect =
    (v : Venue) (e : Entry) → v.last_id < e.id → (r : FrontRead) → answer_for v e ≡ gives r →
    r.fills ≡ eqb (executed_for e.id (effect_of_entry v.market v 0 e).reports) e.shares

-- where an entry is accepted, whatever its show, life and slide, the answer for its mark, price and shares is true of its reports
abbrev pub TellsTheTruth : Type 0
TellsTheTruth =
    (v : Venue) (e : Entry) (n : ℕ) (rs : List Report) → (step v (entry e) n).answer ≡ gives rs →
    TrueOf e rs (answer_for v e)

-- the same of the calls, by the report bytes: what would_fill tells of any words is true of the reports of every entry, with a 32-bit id, that apply then
-- accepts on them
pub record TrueOfBytes (e : Entry) (after : List ℕ) (count : ℕ) (answer : Outcome FrontRead) : Type 0 where
  pub read : List Report
  pub readable : reports_up_to after count ≡ some read
  pub is : TrueOf e read answer

abbrev pub TellsTheTruthOfCalls : Type 0
TellsTheTruthOfCalls =
    (w : List ℕ) (e : Entry) → Word e.id → (b : List ℕ) (count : ℕ) (w' b' : List ℕ) → Applied w (entry e) b (gives count) w' b' →
    (told : Result FrontRead Refusal) → outcome_of_fill told ≡ answer_in w e → TrueOfBytes e b' count (outcome_of_fill told)
