-- What holds of played days: the theorems of specs/claims/HostDays.antt, from those of chains of venue_apply. Assumes nothing.
use Prim.Native.Nat.{ℕ, zero, suc, ◌+◌, ◌-◌, ◌≤◌, ◌<◌}
use native.Mathlib.Omega.{arith}
use mathlib.Core.Path.{◌≡◌, refl, sym, ap, subst, ◌∙◌}
use mathlib.Core.Bool.{Bool, true, false}
use mathlib.Core.Logic.{◌⊎◌, inl, inr}
use mathlib.Core.List.{List, [], ◌∷◌, ◌++◌, map, map-append, append-nil}
use lib.Dec.{T, eqb}
use lib.ListN.{length, get_or, take, drop, length-replicate}
use lib.Seq.{sets-eq, take-append_seam}
use Rattle.numbers.specs.Tests.{pick, All}
use Rattle.numbers.specs.Answers.{Outcome, gives, refuses, Read}
use Rattle.numbers.specs.SevenBit.{IsByte, Stands, overwrite}
use Rattle.numbers.proofs.TestLaws.{by_test, pick_yes, T_false, ne→T, eq→T}
use Rattle.numbers.proofs.ByteLaws.{two_bytes, numbers_bytes}
use Rattle.numbers.proofs.PlaceLaws.{stands_first, stands_front, stands_behind, stands_longer}
use Rattle.prices.specs.Prices.{is_step, legal}
use Rattle.book.specs.rules.Words.{is_book}
use Rattle.engine.specs.declared.Event.{Event}
use Rattle.engine.specs.rules.Reports.{Report}
use Rattle.engine.specs.rules.Venue.{Venue, opened}
use Rattle.engine.specs.rules.Sound.{sound}
use Rattle.engine.specs.rules.Refusals.{least_buffer}
use Rattle.engine.specs.rules.Run.{Step, step, Answered, run}
use Rattle.engine.specs.rules.Records.{record_numbers, record_bytes, reports_bytes, record_at}
use Rattle.engine.specs.rules.Answers.{count_of, buffer_after}
use Rattle.engine.specs.rules.Layout.{venue_of, sound_words}
use Rattle.engine.specs.claims.RoundTrips.{Word}
use Rattle.engine.specs.claims.Calls.{Applied, AppliedCall, Chain}
use Rattle.engine.proofs.bytes.RecordLaws.{not_given, record_read_back, record_unique, read_inside, reports_first}
use Rattle.engine.proofs.refinement.RefuseLaws.{words_book, words_sound, sound_words_lem}
use Rattle.engine.proofs.refinement.OpeningLaws.{opening_gives, step_in_lem}
use Rattle.engine.proofs.refinement.ApplyLaws.{applied_sound}
use Rattle.engine.proofs.demand3.ReachedLaws.{step_sound, reached_sound, sound_refused}
use Rattle.engine.proofs.demand3.CallLaws.{applied_not_16}
use Rattle.engine.proofs.demand3.SoundLaws.{venue_sound}
use Rattle.days.specs.Days.{all_played, answer_bytes, Stopped, play_on, day_starts, played}
use Rattle.days.specs.DayCalls.{answer_in, Stepped, Reads, none as none_read, more as more_read, Steps, still, then}
use Rattle.days.specs.DayRuns.{call_of, answered_bytes, ends_from}
use Rattle.days.proofs.DayLaws.{broken_day}
use Rattle.days.proofs.DayRunLaws.{played_one_by_one, run_then, StoppedAt, stopped_at, reads_then, reads_same, NoneAt, reads_all}
use Rattle.host.specs.rules.Host.{host_answer, end_or_zero}
use Rattle.host.specs.claims.Calls.{HostOpened, RecordApplied}
use Rattle.host.specs.claims.HostCalls.{ApplyCall, ApplyChain, none, more, EventCall, with_event, event_calls, applied_call, LongBuffer}
use Rattle.host.specs.claims.HostDays.{PlayCall, PlayedBy, told, own_buffer, call_told, cut, calls_told, calls_played, HostCall, apply, play, applied_only, answer_of, HostChain, none as no_calls, applied, played as day, one_by_one, DaysOneByOne, Demand3OfDays, NoDayGets16, EqualDayReports, Pieces, last, more as more_then, pieces_played, PiecesAgree}
use Rattle.host.proofs.refinement.HostLaws.{outcome_told, event_applied, apply_read, opened_fresh}
use Rattle.host.proofs.demand3.HostCallLaws.{events_of_calls, demand3_of_hosts, no_host_gets_16, equal_host_reports}

-- the bytes of an event tell its answer

abbrev told_of : Outcome (List Report) → Outcome (List ℕ)
told_of (gives rs) = gives (reports_bytes rs)
told_of (refuses n) = refuses n

-- refusals are numbers of one byte
abbrev Small : Outcome (List Report) → Type 0
Small x = (n : ℕ) → x ≡ refuses n → (1 ≤ n) × (n < 128)

told_answer : (x : Outcome (List Report)) → Small x → told (answer_bytes x) ≡ told_of x
unfolding told pick
told_answer (gives rs) h = rw (reports_first rs)
told_answer (refuses n) h = rw (two_bytes 0 n (omega arith) (h n refl).1)

step_small : (v : Venue) (e : Event) → T (sound v) → Small (step v e least_buffer).answer
step_small v e t n q = let k = sound_refused v e least_buffer n t q in (k.1, k.2)

-- an answered event as a call of venue_apply
abbrev day_call : Answered → ApplyCall
day_call a = call_told (record_bytes a.event) (told_of a.answer)

abbrev answered_of : Venue → List Event → List Answered
answered_of v es = (run v (map call_of es)).answered

-- the calls that the bytes tell

cut_stands : {b new : List ℕ} {at end : ℕ} → Stands b at new end → cut at end b ≡ new
cut_stands {b} {new} {at} {end} s =
    let k : end - at ≡ length new = omega (arith, s.ends) in
    ap (λ (n : ℕ). take n (drop at b)) k ∙ ap (take (length new)) s.there ∙ take-append_seam new (drop end b)

told_calls : {records : List ℕ} {at at' : ℕ} {es : List Event} → All IsByte records → Reads records at es at' → (v : Venue) → T (sound v) → (b behind : List ℕ) (from end : ℕ) → Stands b from (answered_bytes (answered_of v es)) end → calls_told (length es) records at b from (ends_from from (answered_of v es) ++ behind) ≡ map day_call (answered_of v es)
unfolding calls_told run
told_calls h none_read v t b behind from end s = refl
told_calls {records} {at} h (more_read {r = r} {es = es} e p) v t b behind from end s =
    let x : Outcome (List Report) = (step v r.value least_buffer).answer in
    let new : List ℕ = answer_bytes x in
    let rest : List ℕ = answered_bytes (answered_of (step v r.value least_buffer).venue es) in
    let next : end_or_zero (record_at records at) ≡ r.end = rw e in
    let record_is : cut at r.end records ≡ record_bytes r.value = cut_stands (record_unique records at r h e).stands in
    let bytes_are : cut from (from + length new) b ≡ new = cut_stands (stands_front new rest s) in
    let later = told_calls h p (step v r.value least_buffer).venue (step_sound v r.value least_buffer t) b behind (from + length new) end (stands_behind new rest s) in
    rw (next, record_is, bytes_are, told_answer x (step_small v r.value t), later)

-- the events are calls of venue_apply

own_long : length own_buffer ≡ least_buffer
own_long = length-replicate {A = ℕ} least_buffer 0

record_reads : (e : Event) → All Word (record_numbers e) → record_at (record_bytes e) 0 ≡ gives (record { value = e; end = length (record_bytes e) })
record_reads e h =
    record_read_back (record_bytes e) 0 _ (record { words = h; stands = subst (λ (l : List ℕ). Stands l 0 (record_bytes e) (length (record_bytes e))) (append-nil (record_bytes e)) (stands_first (record_bytes e) []) })

link : {w w₁ w' : List ℕ} {e : Event} {cs : List ApplyCall} → All Word (record_numbers e) → (x : Outcome (List Report)) → Small x → length (answer_bytes x) ≤ least_buffer → Applied w e own_buffer (count_of x) w₁ (buffer_after own_buffer x) → ApplyChain w₁ cs w' → ApplyChain w (call_told (record_bytes e) (told_of x) ∷ cs) w'
unfolding record_bytes
link {e = e} h (gives rs) k f a later = more (numbers_bytes (record_numbers e)) (apply_read (record_bytes e) (record_reads e h) (event_applied (gives (length (reports_bytes rs))) f refl a)) later
link {e = e} h (refuses n) k f a later = more (numbers_bytes (record_numbers e)) (apply_read (record_bytes e) (record_reads e h) (event_applied (refuses n) (k n refl).0 refl a)) later

stepped_venue : {w w₁ : List ℕ} {e : Event} → T (sound_words w) → Stepped w e w₁ → venue_of w₁ ≡ (step (venue_of w) e least_buffer).venue
stepped_venue {w} {w₁} {e} t s =
    (s.applies own_buffer (omega (arith, own_long))).venue ∙ ap (λ (z : Step). z.venue) (step_in_lem w e (length own_buffer) (words_book w t) ∙ ap (step (venue_of w) e) own_long)

steps_sound : {w w' : List ℕ} {es : List Event} → T (sound_words w) → Steps w es w' → T (sound_words w')
steps_sound t still = t
steps_sound t (then s p) = steps_sound (applied_sound t (s.applies own_buffer (omega (arith, own_long)))) p

steps_chain : {w w' : List ℕ} {es : List Event} → T (sound_words w) → Steps w es w' → ApplyChain w (map day_call (answered_of (venue_of w) es)) w'
unfolding run answer_in
steps_chain t still = none
steps_chain {w} {w'} t (then {w₁ = w₁} {e = e} {es = es} s p) =
    let a = s.applies own_buffer (omega (arith, own_long)) in
    let later : ApplyChain w₁ (map day_call (answered_of (step (venue_of w) e least_buffer).venue es)) w' = subst (λ (v : Venue). ApplyChain w₁ (map day_call (answered_of v es)) w') (stepped_venue t s) (steps_chain (applied_sound t a) p) in
    link s.words (step (venue_of w) e least_buffer).answer (step_small (venue_of w) e (words_sound w t)) s.fits a later

steps_venue : {w w' : List ℕ} {es : List Event} → T (sound_words w) → Steps w es w' → venue_of w' ≡ (run (venue_of w) (map call_of es)).venue
unfolding run
steps_venue t still = refl
steps_venue t (then {es = es} s p) =
    steps_venue (applied_sound t (s.applies own_buffer (omega (arith, own_long)))) p ∙ ap (λ (v : Venue). (run v (map call_of es)).venue) (stepped_venue t s)

-- one call of venue_play on sound words

record DayTold (w : List ℕ) (c : PlayCall) (w' : List ℕ) : Type 0 where
  read : List Event
  reads : Reads c.records c.from read (get_or c.progress 1 0)
  steps : Steps w read w'
  calls : calls_played c ≡ map day_call (answered_of (venue_of w) read)

ends_length : (at : ℕ) (xs : List Answered) → length (ends_from at xs) ≡ length xs
ends_length at [] = refl
ends_length at (a ∷ xs) = ap suc (ends_length (at + length (answer_bytes a.answer)) xs)

run_length : (v : Venue) (es : List Event) → length (answered_of v es) ≡ length es
unfolding run
run_length v [] = refl
run_length v (e ∷ es) = ap suc (run_length (step v e least_buffer).venue es)

module _ {w w' : List ℕ} {c : PlayCall} (t : T (sound_words w)) (p : PlayedBy w c w') where
  abbrev whole : Stopped
  whole = play_on (length c.places) c.records (day_starts w c.from c.lent c.places)

  is_whole : played w c.records c.from c.lent c.places ≡ whole
  unfolding played
  is_whole = pick_yes (sound_words w) _ _ t

  progress_is : c.progress ≡ whole.day.events ∷ whole.day.at ∷ whole.day.end ∷ []
  progress_is = p.is.progress ∙ pick_yes (sound_words w) _ _ t ∙ rw is_whole

  answer_not_16 : eqb c.answer (host_answer (refuses 16)) ≡ false
  answer_not_16 = T_false _ (ne→T c.answer (host_answer (refuses 16)) (λ z. subst T (p.is.refused z) t))

  day_told : DayTold w c w'
  unfolding calls_played pick overwrite
  day_told =
      let o = played_one_by_one (length c.places) c.records (day_starts w c.from c.lent c.places) (omega arith) in
      let a = rw is_whole at (p.is.done.applied t) in
      let same = reads_same a.reads o.reads (omega (arith, a.count, o.count)) in
      let xs : List Answered = answered_of (venue_of w) o.read in
      let bytes : c.after ≡ answered_bytes xs ++ drop (0 + length (answered_bytes xs)) c.lent = p.is.done.buffer ∙ rw is_whole o.bytes in
      let room : 0 + length (ends_from 0 xs) ≤ length c.places = omega (arith, ends_length 0 xs, run_length (venue_of w) o.read, o.few) in
      let ends : c.ends ≡ ends_from 0 xs ++ drop (0 + length (ends_from 0 xs)) c.places = p.is.done.ends ∙ rw is_whole o.ends ∙ sets-eq (ends_from 0 xs) c.places 0 room in
      let stands : Stands c.after 0 (answered_bytes xs) (length (answered_bytes xs)) = rw bytes (stands_first (answered_bytes xs) (drop (0 + length (answered_bytes xs)) c.lent)) in
      let count : whole.day.events ≡ length o.read = omega (arith, o.count) in
      record {
        read = o.read;
        reads = rw progress_is o.reads;
        steps = subst (λ (es : List Event). Steps w es w') same.0 a.steps;
        calls = rw (answer_not_16, progress_is, count, ends) (told_calls p.bytes o.reads (venue_of w) (words_sound w t) c.after _ 0 _ stands);
      }

-- words that are no venue: nothing is played
day_refused : {w w' : List ℕ} {c : PlayCall} → sound_words w ≡ false → PlayedBy w c w' → (calls_played c ≡ []) × (w' ≡ w)
unfolding calls_played
day_refused {w} {w'} {c} f p =
    let z : c.answer ≡ host_answer (refuses 16) = p.is.answers ∙ ap (λ (s : Stopped). host_answer s.stop) (broken_day w c.records c.from c.lent c.places f) in
    (pick_yes (eqb c.answer (host_answer (refuses 16))) _ _ (eq→T z), p.is.done.refused f)

day_chain : {w w' : List ℕ} {c : PlayCall} → PlayedBy w c w' → ApplyChain w (calls_played c) w'
day_chain {w} {w'} {c} p = go (sound_words w) refl
  where
    go : (x : Bool) → sound_words w ≡ x → ApplyChain w (calls_played c) w'
    go true e = let t : T (sound_words w) = rw e tt in let d = day_told t p in rw d.calls (steps_chain t d.steps)
    go false e = let d = day_refused e p in rw (d.0, d.1) none

-- the theorems

chain_then : {w w₁ w' : List ℕ} {cs ds : List ApplyCall} → ApplyChain w cs w₁ → ApplyChain w₁ ds w' → ApplyChain w (cs ++ ds) w'
chain_then none d = d
chain_then (more h a r) d = more h a (chain_then r d)

calls : {w w' : List ℕ} {hs : List HostCall} → HostChain w hs w' → ApplyChain w (one_by_one hs) w'
unfolding one_by_one
calls no_calls = none
calls (applied h a r) = more h a (calls r)
calls (day p r) = chain_then (day_chain p) (calls r)

pub days_one_by_one : DaysOneByOne
days_one_by_one w hs w' c = calls c

pub demand3_of_days : Demand3OfDays
demand3_of_days w s close w₀ h hs w' c = demand3_of_hosts w s close w₀ h (one_by_one hs) w' (calls c)

-- the buffers of a day's events are long enough

abbrev Long : List EventCall → Type 0
Long cs = All LongBuffer cs

event_long : (x : Outcome (Read Event)) (c : ApplyCall) (cs : List EventCall) → least_buffer ≤ length c.lent → Long cs → Long (with_event x c cs)
event_long (gives r) c cs l h = (l, h)
event_long (refuses n) c cs l h = h

told_long : (bytes : List ℕ) (x : Outcome (List ℕ)) → least_buffer ≤ length (call_told bytes x).lent
told_long bytes (gives reports) = omega (arith, own_long)
told_long bytes (refuses n) = omega (arith, own_long)

calls_long : (k : ℕ) (records : List ℕ) (at : ℕ) (b : List ℕ) (start : ℕ) (ends : List ℕ) (cs : List ApplyCall) → Long (event_calls cs) → Long (event_calls (calls_told k records at b start ends ++ cs))
unfolding calls_told event_calls
calls_long zero records at b start ends cs h = h
calls_long (suc k) records at b start ends cs h =
    let next : ℕ = end_or_zero (record_at records at) in
    let end : ℕ = get_or ends 0 0 in
    let c : ApplyCall = call_told (cut at next records) (told (cut start end b)) in
    event_long (record_at c.bytes 0) c (event_calls (calls_told k records next b end (drop 1 ends) ++ cs)) (told_long (cut at next records) (told (cut start end b))) (calls_long k records next b end (drop 1 ends) cs h)

all_long : (hs : List HostCall) → Long (event_calls (applied_only hs)) → Long (event_calls (one_by_one hs))
unfolding applied_only one_by_one event_calls calls_played
all_long [] h = tt
all_long (apply c ∷ hs) h = by_record_lem (record_at c.bytes 0) h (all_long hs)
  where
    by_record_lem : (x : Outcome (Read Event)) → Long (with_event x c (event_calls (applied_only hs))) → (Long (event_calls (applied_only hs)) → Long (event_calls (one_by_one hs))) → Long (with_event x c (event_calls (one_by_one hs)))
    by_record_lem (gives r) k later = (k.0, later k.1)
    by_record_lem (refuses n) k later = later k
all_long (play c ∷ hs) h =
    by_test (λ (l : List ApplyCall). Long (event_calls (l ++ one_by_one hs))) (eqb c.answer (host_answer (refuses 16))) (λ t. all_long hs h) (λ t. calls_long (get_or c.progress 0 0) c.records c.from c.after 0 c.ends (one_by_one hs) (all_long hs h))

pub equal_day_reports : EqualDayReports
equal_day_reports s close w v w₀ v₀ h k hs gs w' v' c d q l m =
    equal_host_reports s close w v w₀ v₀ h k (one_by_one hs) (one_by_one gs) w' v' (calls c) (calls d) q (all_long hs l) (all_long gs m)

-- a claim of every chain of calls of apply from words that mean a fresh venue holds of every list of a host's calls, of both kinds, from venue_open on
pub for_hosts : {w w₀ w' : List ℕ} {s close : ℕ} {hs : List HostCall} (Claim : List AppliedCall → List ℕ → Type 0) → (T (is_step s) → T (legal s close) → T (is_book w₀) → venue_of w₀ ≡ opened s close → (cs : List AppliedCall) (w'' : List ℕ) → Chain w₀ cs w'' → Claim cs w'') → HostOpened w s close 0 w₀ → HostChain w₀ hs w' → Claim (map applied_call (event_calls (one_by_one hs))) w'
for_hosts {w₀ = w₀} {w' = w'} {hs = hs} Claim k h c =
    let f = opened_fresh h in
    k f.is f.legal f.layout f.venue (map applied_call (event_calls (one_by_one hs))) w' (events_of_calls w₀ (one_by_one hs) w' (days_one_by_one w₀ hs w' c))

-- no refusal 16

same_refusal : {A : Type 0} {m n : ℕ} → ◌≡◌ {A = Outcome A} (refuses m) (refuses n) → m ≡ n
same_refusal z = cc

not_16 : {w w' : List ℕ} {hs : List HostCall} → T (sound_words w) → HostChain w hs w' → All (λ (h : HostCall). answer_of h ≡ host_answer (refuses 16) → ⊥) hs × T (sound_words w')
not_16 t no_calls = (tt, t)
not_16 {w} t (applied {w₁ = w₁} {c = c} h a r) =
    let k = by_record_lem (record_at c.bytes 0) a in
    let later = not_16 k.1 r in
    ((k.0, later.0), later.1)
  where
    by_record_lem : (x : Outcome (Read Event)) → RecordApplied x w c.lent c.answer w₁ c.after → (c.answer ≡ host_answer (refuses 16) → ⊥) × T (sound_words w₁)
    by_record_lem (gives e) b = (λ z. applied_not_16 t b.applied (outcome_told (refuses 16) (omega arith) z), applied_sound t b.applied)
    by_record_lem (refuses n) b = (λ z. omega (arith, b.answers, b.range.1, z), rw b.words t)
not_16 t (day p r) = let later = not_16 (p.is.done.sound t) r in ((λ z. subst T (p.is.refused z) t, later.0), later.1)

opened_words_sound : {w w₀ : List ℕ} {s close : ℕ} → HostOpened w s close 0 w₀ → T (sound_words w₀)
unfolding run
opened_words_sound {w₀ = w₀} {s = s} {close = close} h =
    let f = opened_fresh h in
    sound_words_lem w₀ f.layout (rw f.venue (venue_sound (opened s close) (reached_sound s close (opened s close) (opening_gives s close f.is f.legal) [])))

-- the words after calls from venue_open are sound
pub reached_words_sound : {w w₀ w' : List ℕ} {s close : ℕ} {hs : List HostCall} → HostOpened w s close 0 w₀ → HostChain w₀ hs w' → T (sound_words w')
reached_words_sound h c = (not_16 (opened_words_sound h) c).1

pub no_day_gets_16 : NoDayGets16
no_day_gets_16 w s close w₀ h hs w' c = ((not_16 (opened_words_sound h) c).0, no_host_gets_16 w s close w₀ h (one_by_one hs) w' (calls c))

-- a day in pieces

-- what the last piece stopped at
record LastRefused (records : List ℕ) (at x : ℕ) : Type 0 where
  number : ℕ
  answer : x ≡ host_answer (refuses number)
  inside : at < length records
  is : record_at records at ≡ refuses number

abbrev LastAnswer : List ℕ → ℕ → ℕ → Type 0
LastAnswer records at x = ((x ≡ all_played) × (length records ≤ at)) ⊎ LastRefused records at x

last_answer : (records : List ℕ) (at x : ℕ) (s : Outcome ℕ) → StoppedAt records at s → x ≡ host_answer s → (x ≡ all_played) ⊎ (65_536 ≤ x) → LastAnswer records at x
last_answer records at x (gives k) h e (inl z) = inl (z, h.1 (omega (arith, e, z)))
last_answer records at x (gives k) h e (inr l) = absurd (omega (arith, e, l, h.0))
last_answer records at x (refuses n) h e q = inr (record { number = n; answer = e; inside = h.0; is = h.1 })

none_behind : (records : List ℕ) (at x : ℕ) → All IsByte records → LastAnswer records at x → NoneAt records at
none_behind records at x h (inl z) r e = omega (arith, z.1, read_inside records at r h e)
none_behind records at x h (inr z) r e = not_given (sym z.is ∙ e)

same_answer : (records : List ℕ) (at x y : ℕ) → LastAnswer records at x → LastAnswer records at y → x ≡ y
same_answer records at x y (inl p) (inl q) = omega (arith, p.0, q.0)
same_answer records at x y (inl p) (inr q) = absurd (omega (arith, p.1, q.inside))
same_answer records at x y (inr p) (inl q) = absurd (omega (arith, q.1, p.inside))
same_answer records at x y (inr p) (inr q) =
    let n : p.number ≡ q.number = same_refusal (sym p.is ∙ q.is) in
    omega (arith, p.answer, q.answer, n)

-- what is read in a front of the records is read in all of them

reads_longer : {front : List ℕ} {at at' : ℕ} {es : List Event} (behind : List ℕ) → All IsByte front → Reads front at es at' → Reads (front ++ behind) at es at'
reads_longer behind h none_read = none_read
reads_longer {front} {at} behind h (more_read {r = r} e p) =
    let s = record_unique front at r h e in
    more_read (record_read_back (front ++ behind) at r (record { words = s.words; stands = stands_longer behind s.stands })) (reads_longer behind h p)

record PiecesTold (records w : List ℕ) (from : ℕ) (cs : List PlayCall) (w' : List ℕ) (at x : ℕ) : Type 0 where
  bytes : All IsByte records
  read : List Event
  reads : Reads records from read at
  venue : venue_of w' ≡ (run (venue_of w) (map call_of read)).venue
  calls : pieces_played cs ≡ map day_call (answered_of (venue_of w) read)
  ends : LastAnswer records at x

pieces_told : {records w w' : List ℕ} {from at x : ℕ} {cs : List PlayCall} → T (sound_words w) → Pieces records w from cs w' at x → PiecesTold records w from cs w' at x
unfolding pieces_played
pieces_told {records} {w} {w'} {from} t (last {c = c} p r f q) =
    let d = day_told t p in
    record {
      bytes = rw (sym r) p.bytes;
      read = d.read;
      reads = rw (sym r, sym f) d.reads;
      venue = steps_venue t d.steps;
      calls = append-nil (calls_played c) ∙ d.calls;
      ends = rw (sym r) (last_answer c.records _ c.answer (whole t p).stop (rw (progress_is t p) (stopped_at (length c.places) c.records (day_starts w c.from c.lent c.places))) (p.is.answers ∙ rw (is_whole t p)) q);
    }
pieces_told {records} {w} {w'} {from} {at} {x} t (more_then {w₁ = w₁} {c = c} {cs = cs} behind p r f later) =
    let d = day_told t p in
    let e = pieces_told (p.is.done.sound t) later in
    let v = steps_venue t d.steps in
    let both = run_then (venue_of w) d.read e.read in
    record {
      bytes = e.bytes;
      read = d.read ++ e.read;
      reads = reads_then {es = d.read} (rw (sym r, sym f) (reads_longer behind p.bytes d.reads)) e.reads;
      venue = e.venue ∙ ap (λ (z : Venue). (run z (map call_of e.read)).venue) v ∙ sym both.1;
      calls = ap (λ (l : List ApplyCall). l ++ pieces_played cs) d.calls ∙ ap (λ (l : List ApplyCall). map day_call (answered_of (venue_of w) d.read) ++ l) (e.calls ∙ ap (λ (z : Venue). map day_call (answered_of z e.read)) v) ∙ sym (map-append day_call (answered_of (venue_of w) d.read) (answered_of (run (venue_of w) (map call_of d.read)).venue e.read)) ∙ ap (map day_call) (sym both.0);
      ends = e.ends;
    }

pub pieces_agree : PiecesAgree
pieces_agree records w v from t u q cs ds w' v' a b x y c d =
    let m = pieces_told t c in
    let n = pieces_told u d in
    let same = reads_all m.reads n.reads (none_behind records a x m.bytes m.ends) (none_behind records b y n.bytes n.ends) in
    record {
      events = m.calls ∙ ap (map day_call) (ap (λ (z : Venue). answered_of z m.read) q ∙ ap (answered_of (venue_of v)) same.0) ∙ sym n.calls;
      venue = m.venue ∙ ap (λ (z : Venue). (run z (map call_of m.read)).venue) q ∙ ap (λ (es : List Event). (run (venue_of v) (map call_of es)).venue) same.0 ∙ sym n.venue;
      at = same.1;
      answer = same_answer records b x y (subst (λ (z : ℕ). LastAnswer records z x) same.1 m.ends) n.ends;
    }
