-- The calls of a host program: the numbers of refusals, what an answer's number says, the words that venue_open leaves, what venue_apply
-- answers. Assumes nothing.
use Prim.Native.Nat.{ℕ, ◌≤◌, ◌<◌}
use native.Mathlib.Omega.{arith}
use mathlib.Core.Path.{◌≡◌, refl, sym, ap, ◌∙◌, subst}
use mathlib.Core.Option.{Option, none, some}
use mathlib.Core.Bool.{◌&&◌}
use Rattle.std.specs.Prelude.{Result, Ok, Err}
use mathlib.Core.List.{List, ◌++◌}
use lib.Dec.{T, leb}
use lib.ListN.{length, get_or, drop, length-replicate}
use borrow.Author.Tests.{le-leb, lt-leb}
use Rattle.numbers.specs.Tests.{pick, All}
use Rattle.numbers.specs.Answers.{Outcome, gives, refuses, Read}
use Rattle.numbers.proofs.TestLaws.{by_test, tests}
use Rattle.prices.specs.Prices.{is_step, legal, at_step}
use Rattle.book.specs.rules.Words.{venue_words, is_book}
use Rattle.engine.specs.declared.Event.{Event}
use Rattle.engine.specs.declared.Refusal.{Refusal}
use Rattle.records.specs.declared.ReadRefusal.{ReadRefusal}
use Rattle.records.specs.declared.ReadRefusal.TheVariants.{MissingByte, BadNumber, UnknownKind, FieldTooLarge}
use Rattle.engine.specs.rules.Venue.{Venue, opened, opening}
use Rattle.engine.specs.rules.Refusals.{least_buffer}
use Rattle.engine.specs.rules.Run.{Step, step_unless}
use Rattle.engine.specs.rules.Records.{record_numbers, record_at}
use Rattle.engine.specs.claims.RoundTrips.{Word}
use Rattle.records.specs.ReadRefusals.{read_refusal_number}
use Rattle.engine.specs.rules.Layout.{venue_of, opened_words}
use Rattle.engine.specs.rules.Answers.{refusal_number, outcome_of_answer, count_of}
use Rattle.engine.specs.claims.Calls.{Opens, Applied}
use Rattle.host.specs.rules.Host.{host_answer, outcome_of, open_count, host_opening, words_opened}
use Rattle.host.specs.claims.Calls.{HostOpened, AnswerFits, AnswerTold, EventApplied, HostApplied}
use Rattle.engine.proofs.refinement.OpeningLaws.{fresh_length, opened_book_with, opened_venue_with}
use Rattle.engine.proofs.refinement.AnswerLaws.{refusal_range}
use Rattle.engine.proofs.refinement.ApplyLaws.{refusal_in, step_by_refusal, not_refused}
use Rattle.engine.proofs.bytes.BoundLaws.{reports_room}
use Rattle.engine.proofs.demand3.CallLaws.{event_last_id}

-- numbers of the refusals of reading
pub read_refusal_range : (r : ReadRefusal) → (9 ≤ read_refusal_number r) × (read_refusal_number r ≤ 12)
read_refusal_range MissingByte = (omega arith, omega arith)
read_refusal_range BadNumber = (omega arith, omega arith)
read_refusal_range UnknownKind = (omega arith, omega arith)
read_refusal_range FieldTooLarge = (omega arith, omega arith)

-- a number tells what was answered

told_apart : (o : Outcome ℕ) → AnswerFits o → outcome_of (host_answer o) ≡ o
unfolding outcome_of
told_apart (gives count) f = by_test (λ (o : Outcome ℕ). o ≡ gives count) _ (λ t. refl) (λ t. absurd (omega tests))
told_apart (refuses n) f = by_test (λ (o : Outcome ℕ). o ≡ refuses n) _ (λ t. absurd (omega tests)) (λ t. ap refuses (omega arith))

module _ (o : Outcome ℕ) {answer : ℕ} (f : AnswerFits o) (e : answer ≡ host_answer o) where
  pub outcome_told : outcome_of answer ≡ o
  outcome_told = ap outcome_of e ∙ told_apart o f

  pub answer_told : AnswerTold answer
  answer_told = record { answers = e ∙ ap host_answer (sym outcome_told); fits = rw outcome_told f }

-- venue_open

opened_length : (s close : ℕ) → length (opened_words s close) ≡ venue_words
unfolding opened_words
opened_length s close =
    by_test (λ (w : List ℕ). length w ≡ venue_words) (is_step s && legal s close) (λ t. fresh_length s close) (λ t. length-replicate {A = ℕ} venue_words 0)

pub opens_length : {s close : ℕ} {answer : Result (Unit {0}) Refusal} {words : List ℕ} → Opens s close answer words → length words ≡ venue_words
opens_length {s} {close} o = ap length o.is ∙ opened_length s close

pub open_short : (w : List ℕ) (s close : ℕ) {n : ℕ} → length w < venue_words → n ≡ host_answer (refuses 16) → HostOpened w s close n w
unfolding host_opening pick
open_short w s close l k = let e = lt-leb venue_words (length w) l in record { answers = rw e k; leaves = rw e }

module _ (w : List ℕ) {s close : ℕ} {words : List ℕ} {answer : Result (Unit {0}) Refusal} (l : venue_words ≤ length w) (o : Opens s close answer words) where
  pub open_refused : {r : Refusal} {n : ℕ} → answer ≡ Err r → n ≡ host_answer (refuses (refusal_number r)) → HostOpened w s close n w
  unfolding host_opening pick
  open_refused {r} {n} h k =
      let e = le-leb venue_words (length w) l in
      let f : refuses (refusal_number r) ≡ opening s close = rw h at o.answers in
      record { answers = rw (e, ← f) k; leaves = rw (e, ← f) }

  pub open_fresh : {u : Unit {0}} {w' : List ℕ} → answer ≡ Ok u → w' ≡ words ++ drop (length words) w → HostOpened w s close 0 w'
  unfolding host_opening pick
  open_fresh h k =
      let e = le-leb venue_words (length w) l in
      let f : gives (venue_of words) ≡ opening s close = rw h at o.answers in
      record { answers = rw (e, ← f); leaves = rw (e, ← f) (k ∙ rw (opens_length o, o.is)) }

-- venue_apply

-- the reports of an event fit 16,384 bytes, so its byte count does
abbrev SmallCount : Outcome ℕ → Type 0
SmallCount (gives count) = count ≤ least_buffer
SmallCount (refuses n) = Unit {0}

module _ {w b w' b' : List ℕ} {e : Event} (i : Word (get_or w 4 0)) (h : All Word (record_numbers e)) where
  small_count : {o : Outcome ℕ} → Applied w e b o w' b' → SmallCount o
  unfolding step_unless venue_of
  small_count a =
      subst SmallCount (sym (a.answers ∙ ap (λ (s : Step). count_of s.answer) (step_by_refusal w e (length b)))) (go (refusal_in w e (length b)) refl)
    where
      go : (x : Option ℕ) → refusal_in w e (length b) ≡ x → SmallCount (count_of (step_unless x (venue_of w) e).answer)
      go none x = reports_room (venue_of w) e (length b) (not_refused w e (length b) x) (event_last_id (venue_of w) e i h)
      go (some n) x = tt

  pub applied_fits : (x : Result ℕ Refusal) → Applied w e b (outcome_of_answer x) w' b' → AnswerFits (outcome_of_answer x)
  applied_fits (Ok n) a = small_count a
  applied_fits (Err r) a = (refusal_range r).0

pub event_applied : {w b w' b' : List ℕ} {e : Event} (o : Outcome ℕ) {answer : ℕ} → AnswerFits o → answer ≡ host_answer o → Applied w e b o w' b' → EventApplied w e b answer w' b'
event_applied o f k a = record { told = answer_told o f k; applied = rw (outcome_told o f k) a }

-- by what was read

pub apply_refused : (w bytes b : List ℕ) {answer : ℕ} (r : ReadRefusal) → record_at bytes 0 ≡ refuses (read_refusal_number r) → answer ≡ host_answer (refuses (read_refusal_number r)) → HostApplied w bytes b answer w b
apply_refused w bytes b r e a = rw e (record { answers = a; range = read_refusal_range r; words = refl; buffer = refl })

pub apply_read : (bytes : List ℕ) {w b w' b' : List ℕ} {answer : ℕ} {r : Read Event} → record_at bytes 0 ≡ gives r → EventApplied w r.value b answer w' b' → HostApplied w bytes b answer w' b'
apply_read bytes e a = rw e a

-- the words that venue_open leaves with the answer 0

pub record FreshWords (w₀ : List ℕ) (s close : ℕ) : Type 0 where
  pub is : T (is_step s)
  pub legal : T (legal s close)
  pub layout : T (is_book w₀)
  pub venue : venue_of w₀ ≡ opened s close

pub opened_fresh : {w w₀ : List ℕ} {s close : ℕ} → HostOpened w s close 0 w₀ → FreshWords w₀ s close
unfolding host_opening opening at_step
opened_fresh {w} {w₀} {s} {close} h =
    by_test
    Known
    (leb venue_words (length w))
    (λ t. by_test KnownOf (is_step s) (λ i. by_test KnownOf (legal s close) (λ u a l. known i u l) (λ u a l. absurd (omega arith))) (λ i a l. absurd (omega arith)))
    (λ t a l. absurd (omega arith))
    h.answers
    h.leaves
  where
    Known : Outcome ℕ → Type 0
    Known o = 0 ≡ host_answer o → w₀ ≡ words_opened w s close o → FreshWords w₀ s close

    KnownOf : Outcome Venue → Type 0
    KnownOf o = Known (open_count o)

    known : T (is_step s) → T (legal s close) → w₀ ≡ opened_words s close ++ drop venue_words w → FreshWords w₀ s close
    known i u l =
        record { is = i; legal = u; layout = rw l (opened_book_with s close i u (drop venue_words w)); venue = rw l (opened_venue_with s close i u (drop venue_words w)) }
