-- No. 3: with 18, 19 and 20 read as 5, every event is answered as before. Assumes nothing.
use Prim.Native.Nat.{ℕ}
use mathlib.Core.Path.{◌≡◌, refl, ap, ◌∙◌}
use mathlib.Core.Bool.{Bool, true, false, ◌&&◌}
use mathlib.Core.List.{List, [], ◌∷◌}
use mathlib.Core.Option.{Option, none, some}
use lib.ListN.{length}
use Rattle.numbers.specs.Tests.{pick, conj}
use Rattle.numbers.specs.Answers.{Outcome, gives, refuses}
use Rattle.prices.specs.declared.TimedPrice.{TimedPrice}
use Rattle.engine.specs.declared.Entry.{Entry}
use Rattle.engine.specs.declared.Event.{Event}
use Rattle.engine.specs.declared.Event.TheVariants.{Entry as entry, Cancel as cancel, Bid as bid, Tape as tape, DayEnd as day_end, OwnedEntry as owned_entry, TimedTape as timed_tape}
use Rattle.engine.specs.rules.Reports.{Report}
use Rattle.engine.specs.rules.Venue.{Venue}
use Rattle.engine.specs.rules.Refusals.{refuse_unless, first_of, refusal_of_terms, refusal_of_codes, refusal_of_owner, refusal_of_place, refusal_of_entry, refusal_of_time, refusal_of_kind, refusal}
use Rattle.engine.specs.rules.Run.{Step, step_unless, step}
use Rattle.engine.specs.rules.Answers.{count_of, buffer_after}
use Rattle.engine.specs.rules.Layout.{venue_of, step_in}
use Rattle.engine.specs.claims.WhichCode.{codes_before, before_no3, read_as5, refusal_read, answer_read, CodesAsBefore, CallsAsBefore}
use Rattle.engine.specs.claims.OtherRefusals.{kind_with, refusal_with, step_with, step_in_with}
use Rattle.engine.proofs.refinement.RefusalLaws.{terms_by, owner_by, place_by, time_by}
use Rattle.engine.proofs.requests.WordStepLaws.{in_words}

-- of the refusals

read_later : (b : Bool) (n : ℕ) (later before : Option ℕ) → read_as5 n ≡ n → refusal_read later ≡ before → refusal_read (refuse_unless b n later) ≡ refuse_unless b n before
unfolding refuse_unless
read_later true n later before k h = h
read_later false n later before k h = ap some k

read_first : (r later : Option ℕ) → refusal_read (first_of r later) ≡ first_of (refusal_read r) (refusal_read later)
unfolding first_of
read_first none later = refl
read_first (some n) later = refl

-- the five codes against the one test of before
codes_chain : (mark show life slide on : Bool) → refusal_read (refuse_unless mark 18 (refuse_unless show 5 (refuse_unless life 5 (refuse_unless slide 19 (refuse_unless on 20 none))))) ≡ refuse_unless (conj (mark ∷ show ∷ life ∷ (slide && on) ∷ [])) 5 none
unfolding refuse_unless pick
codes_chain false show life slide on = refl
codes_chain true false life slide on = refl
codes_chain true true false slide on = refl
codes_chain true true true false on = refl
codes_chain true true true true false = refl
codes_chain true true true true true = refl

codes_read : (e : Entry) → refusal_read (refusal_of_codes e) ≡ codes_before e
unfolding refusal_of_codes
codes_read e = codes_chain _ _ _ _ _

-- a part of the chain that has none of them
abbrev Stays : Option ℕ → Type 0
Stays r = refusal_read r ≡ r

terms_read : (s price shares : ℕ) → Stays (refusal_of_terms s price shares)
unfolding pick
terms_read = terms_by Stays refl refl refl

place_read : (v : Venue) (e : Entry) → Stays (refusal_of_place v e)
unfolding pick
place_read = place_by Stays refl refl refl

owner_read : (k : ℕ) → Stays (refusal_of_owner k)
unfolding pick
owner_read = owner_by Stays refl refl

time_read : (kept : List TimedPrice) (t : ℕ) → Stays (refusal_of_time kept t)
unfolding pick
time_read = time_by Stays refl refl refl

entry_read : (v : Venue) (e : Entry) (of_owner : Option ℕ) → refusal_read of_owner ≡ of_owner → refusal_read (refusal_of_entry v e of_owner) ≡ before_no3 v e of_owner
unfolding refusal_of_entry
entry_read v e of_owner h =
    read_first (refusal_of_terms (v.market.step) e.price e.shares) _ ∙ rw (terms_read (v.market.step) e.price e.shares, read_first (refusal_of_codes e) (first_of of_owner (refusal_of_place v e)), codes_read e, read_first of_owner (refusal_of_place v e), h, place_read v e)

kind_read : (v : Venue) (x : Event) → refusal_read (refusal_of_kind v x) ≡ kind_with before_no3 v x
unfolding refusal_of_kind pick
kind_read v (entry e) = entry_read v e none refl
kind_read v (cancel i) = read_later _ 8 none none refl refl
kind_read v (bid b) = read_later _ 3 none none refl refl
kind_read v (tape p) = read_later _ 3 none none refl refl
kind_read v (day_end c) = read_later _ 3 none none refl refl
kind_read v (owned_entry e k) = entry_read v e (refusal_of_owner k) (owner_read k)
kind_read v (timed_tape p) = read_later _ 3 _ _ refl (time_read v.kept p.time)

refusal_read_lem : (v : Venue) (x : Event) (n : ℕ) → refusal_read (refusal v x n) ≡ refusal_with before_no3 v x n
unfolding refusal pick
refusal_read_lem v x n = read_later _ 16 _ _ refl (read_later _ 1 _ _ refl (read_later _ 2 _ _ refl (kind_read v x)))

-- of an event

answer_read_lem : (x : Option ℕ) (v : Venue) (e : Event) → answer_read (step_unless x v e).answer ≡ (step_unless (refusal_read x) v e).answer
unfolding step_unless
answer_read_lem none v e = refl
answer_read_lem (some n) v e = refl

venue_read : (x : Option ℕ) (v : Venue) (e : Event) → (step_unless x v e).venue ≡ (step_unless (refusal_read x) v e).venue
unfolding step_unless
venue_read none v e = refl
venue_read (some n) v e = refl

pub codes_as_before : CodesAsBefore
unfolding step
codes_as_before v x n =
    let r = refusal_read_lem v x n in
    record {
      refusal = r;
      answer = answer_read_lem (refusal v x n) v x ∙ ap (λ (y : Option ℕ). (step_unless y v x).answer) r;
      venue = venue_read (refusal v x n) v x ∙ ap (λ (y : Option ℕ). (step_unless y v x).venue) r;
    }

-- of a call

count_read : (x : Outcome (List Report)) → answer_read (count_of x) ≡ count_of (answer_read x)
count_read (gives rs) = refl
count_read (refuses n) = refl

buffer_read : (b : List ℕ) (x : Outcome (List Report)) → buffer_after b x ≡ buffer_after b (answer_read x)
buffer_read b (gives rs) = refl
buffer_read b (refuses n) = refl

-- the step of the words and that of before
abbrev SameStep : Step → Step → Type 0
SameStep s t = record { answer : answer_read s.answer ≡ t.answer; venue : s.venue ≡ t.venue }

called : (w : List ℕ) (x : Event) (n : ℕ) → SameStep (step_in w x n) (step_in_with before_no3 w x n)
unfolding pick
called w x n =
    let y = codes_as_before (venue_of w) x n in
    in_words SameStep w x n (step_with before_no3 (venue_of w) x n) (record { answer = y.answer; venue = y.venue }) (record { answer = refl; venue = refl })

pub calls_as_before : CallsAsBefore
calls_as_before w x b answer w' b' a =
    let y = (step_in w x (length b)).answer in
    let r = called w x (length b) in
    record {
      answers = ap answer_read a.answers ∙ count_read y ∙ ap count_of r.answer;
      buffer = a.buffer ∙ buffer_read b y ∙ ap (buffer_after b) r.answer;
      venue = a.venue ∙ r.venue;
    }
