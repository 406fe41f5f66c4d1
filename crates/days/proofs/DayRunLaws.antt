-- A played day is the same events one by one; what it stops at; reading is the same each time. Assumes nothing.
use Prim.Native.Nat.{ℕ, zero, suc, ◌+◌, ◌-◌, ◌≤◌, ◌<◌}
use native.Mathlib.Omega.{arith}
use native.Mathlib.Numerals.{add-one}
use mathlib.Core.Path.{◌≡◌, refl, sym, ap, subst, ◌∙◌}
use mathlib.Core.List.{List, [], ◌∷◌, ◌++◌, map}
use lib.Dec.{leb, leb→le, nleb→lt}
use lib.ListN.{length, set, length-append}
use lib.Seq.{sets}
use Rattle.numbers.specs.Answers.{Outcome, gives, refuses, Read}
use Rattle.numbers.proofs.TestLaws.{by_test}
use Rattle.numbers.proofs.PlaceLaws.{overwrite_then, overwrite_long}
use Rattle.numbers.proofs.WriteLaws.{put_none}
use Rattle.engine.specs.declared.Event.{Event}
use Rattle.engine.specs.rules.Refusals.{least_buffer}
use Rattle.engine.specs.rules.Venue.{Venue}
use Rattle.engine.specs.rules.Run.{Step, step, Answered, Run, run}
use Rattle.engine.specs.rules.Records.{record_at}
use Rattle.engine.proofs.bytes.RecordLaws.{given}
use Rattle.days.specs.Days.{answer_bytes, all_played, Day, day_after, Stopped, by_record, play_on}
use Rattle.days.specs.DayCalls.{Reads, none, more}
use Rattle.days.specs.DayRuns.{call_of, answered_bytes, ends_from, OneByOne, PlayedOneByOne}

-- one by one

none_played : (n : ℕ) (records : List ℕ) (d : Day) → OneByOne n records d d
unfolding run
none_played n records d =
    record { read = []; reads = none; few = omega arith; count = omega arith; venue = refl; end = omega arith; bytes = (put_none d.bytes d.end).leaves; ends = refl }

one_played : (n : ℕ) (records : List ℕ) (d d' : Day) (r : Read Event) → d.end ≤ length d.bytes → record_at records d.at ≡ gives r → OneByOne n records (day_after d r) d' → OneByOne (suc n) records d d'
unfolding run day_after
one_played n records d d' r h e q =
    record {
      read = r.value ∷ q.read;
      reads = more e q.reads;
      few = omega (arith, q.few);
      count = omega (arith, q.count);
      venue = q.venue;
      end = omega (arith, q.end, length-append new rest);
      bytes = q.bytes ∙ overwrite_then d.bytes new rest d.end h;
      ends = q.ends ∙ ap (λ (k : ℕ). sets (set d.ends d.events (d.end + length new)) k (ends_from (d.end + length new) (run (day_after d r).venue (map call_of q.read)).answered)) (add-one d.events);
    }
  where
    new : List ℕ
    new = answer_bytes (step d.venue r.value least_buffer).answer

    rest : List ℕ
    rest = answered_bytes (run (day_after d r).venue (map call_of q.read)).answered

after_long : (d : Day) (r : Read Event) → d.end ≤ length d.bytes → (day_after d r).end ≤ length (day_after d r).bytes
unfolding day_after
after_long d r h = overwrite_long d.bytes _ d.end h

pub played_one_by_one : PlayedOneByOne
unfolding play_on
played_one_by_one zero records d h =
    by_test (λ (s : Stopped). OneByOne 0 records d s.day) (leb (length records) d.at) (λ t. none_played 0 records d) (λ t. none_played 0 records d)
played_one_by_one (suc n) records d h =
    by_test
    (λ (s : Stopped). OneByOne (suc n) records d s.day)
    (leb (length records) d.at)
    (λ t. none_played (suc n) records d)
    (λ t. by_test (λ (s : Stopped). OneByOne (suc n) records d s.day) (leb least_buffer (length d.bytes - d.end)) (λ u. by_record_lem (λ r. played_one_by_one n records (day_after d r) (after_long d r h)) (record_at records d.at) refl) (λ u. none_played (suc n) records d))
  where
    by_record_lem : ((r : Read Event) → OneByOne n records (day_after d r) (play_on n records (day_after d r)).day) → (x : Outcome (Read Event)) → record_at records d.at ≡ x → OneByOne (suc n) records d (by_record (play_on n records) d x).day
    by_record_lem later (refuses m) e = none_played (suc n) records d
    by_record_lem later (gives r) e = one_played n records d _ r h e (later r)

-- events behind events
pub run_then : (v : Venue) (es fs : List Event) → let r : Run = run v (map call_of es) in let s : Run = run r.venue (map call_of fs) in ((run v (map call_of (es ++ fs))).answered ≡ r.answered ++ s.answered) × ((run v (map call_of (es ++ fs))).venue ≡ s.venue)
unfolding run
run_then v [] fs = (refl, refl)
run_then v (e ∷ es) fs =
    let s : Step = step v e least_buffer in
    let g = run_then s.venue es fs in
    (ap (λ (l : List Answered). record { event = e; answer = s.answer } ∷ l) g.0, g.1)

-- what playing stopped at: the end of the records, want of room, or a record that can't be read

abbrev pub StoppedAt : List ℕ → ℕ → Outcome ℕ → Type 0
StoppedAt records at (gives k) = (k ≤ 2) × (k ≡ all_played → length records ≤ at)
StoppedAt records at (refuses n) = (at < length records) × (record_at records at ≡ refuses n)

abbrev Stops : List ℕ → Stopped → Type 0
Stops records s = StoppedAt records s.day.at s.stop

pub stopped_at : (n : ℕ) (records : List ℕ) (d : Day) → StoppedAt records (play_on n records d).day.at (play_on n records d).stop
unfolding play_on
stopped_at zero records d =
    by_test (Stops records) (leb (length records) d.at) (λ t. (omega arith, λ z. leb→le _ _ t)) (λ t. (omega arith, λ z. absurd (omega (arith, z))))
stopped_at (suc n) records d =
    by_test (Stops records) (leb (length records) d.at) (λ t. (omega arith, λ z. leb→le _ _ t)) (λ t. by_test (Stops records) (leb least_buffer (length d.bytes - d.end)) (λ u. by_record_lem (nleb→lt _ _ t) (λ r. stopped_at n records (day_after d r)) (record_at records d.at) refl) (λ u. (omega arith, λ z. absurd (omega (arith, z)))))
  where
    by_record_lem : d.at < length records → ((r : Read Event) → Stops records (play_on n records (day_after d r))) → (x : Outcome (Read Event)) → record_at records d.at ≡ x → Stops records (by_record (play_on n records) d x)
    by_record_lem l later (refuses m) e = (l, e)
    by_record_lem l later (gives r) e = later r

-- reading

pub reads_then : {records : List ℕ} {at m at' : ℕ} {es fs : List Event} → Reads records at es m → Reads records m fs at' → Reads records at (es ++ fs) at'
reads_then none q = q
reads_then (more e p) q = more e (reads_then p q)

same_read : {x : Outcome (Read Event)} {r s : Read Event} → x ≡ gives r → x ≡ gives s → r ≡ s
same_read p q = given (sym p ∙ q)

-- as many records from the same offset on are the same events
pub reads_same : {records : List ℕ} {at a b : ℕ} {es fs : List Event} → Reads records at es a → Reads records at fs b → length es ≡ length fs → (es ≡ fs) × (a ≡ b)
reads_same none none l = (refl, refl)
reads_same none (more f q) l = absurd (omega (arith, l))
reads_same (more e p) none l = absurd (omega (arith, l))
reads_same {records} {at} {a} {b} (more {r = r} {es = es} e p) (more {r = s} {es = fs} f q) l =
    let k : r ≡ s = same_read e f in
    let g = reads_same p (subst (λ (z : Read Event). Reads records z.end fs b) (sym k) q) (omega (arith, l)) in
    (ap (λ (z : List Event). r.value ∷ z) g.0 ∙ ap (λ (z : Read Event). z.value ∷ fs) k, g.1)

-- no event stands at an offset
abbrev pub NoneAt : List ℕ → ℕ → Type 0
NoneAt records at = (r : Read Event) → record_at records at ≡ gives r → ⊥

-- two ways to read from the same offset on until no event stands there are the same
pub reads_all : {records : List ℕ} {at a b : ℕ} {es fs : List Event} → Reads records at es a → Reads records at fs b → NoneAt records a → NoneAt records b → (es ≡ fs) × (a ≡ b)
reads_all none none k m = (refl, refl)
reads_all none (more f q) k m = absurd (k _ f)
reads_all (more e p) none k m = absurd (m _ e)
reads_all {records} {at} {a} {b} (more {r = r} {es = es} e p) (more {r = s} {es = fs} f q) k m =
    let z : r ≡ s = same_read e f in
    let g = reads_all p (subst (λ (y : Read Event). Reads records y.end fs b) (sym z) q) k m in
    (ap (λ (y : List Event). r.value ∷ y) g.0 ∙ ap (λ (y : Read Event). y.value ∷ fs) z, g.1)
