-- What holds of every chain of calls from open: demand 3, no refusal 16, and equal reports for equal events. Assumes nothing.
use Prim.Native.Nat.{ℕ, ◌≤◌}
use native.Mathlib.Omega.{arith}
use mathlib.Core.Path.{◌≡◌, refl, sym, ap, ◌∙◌, subst}
use mathlib.Core.Option.{Option, none as nothing, some}
use mathlib.Core.Bool.{Bool, true, false}
use mathlib.Core.List.{List, map}
use lib.Dec.{T}
use lib.ListN.{length}
use lib.Seq.{take-append_seam}
use Rattle.numbers.specs.Tests.{pick, All}
use Rattle.numbers.proofs.TestLaws.{T_true}
use Rattle.numbers.specs.Answers.{Outcome, gives, refuses}
use Rattle.numbers.specs.SevenBit.{overwrite, Stands}
use borrow.Author.Tests.{le-leb}
use Rattle.numbers.proofs.PlaceLaws.{overwrite_stands}
use Rattle.prices.specs.Prices.{is_step, legal}
use Rattle.book.specs.rules.Words.{is_book}
use Rattle.engine.specs.declared.Event.{Event}
use Rattle.engine.specs.declared.Event.TheVariants.{Entry as entry, Cancel as cancel, Bid as bid, Tape as tape, DayEnd as day_end, OwnedEntry as owned_entry, TimedTape as timed_tape}
use Rattle.engine.specs.rules.Reports.{Report}
use Rattle.engine.specs.rules.Venue.{Venue, opened, last_id_after}
use Rattle.engine.specs.rules.Refusals.{least_buffer, refusal}
use Rattle.engine.specs.rules.Run.{Step, step_unless, step, Call, Run, run}
use Rattle.engine.specs.rules.Records.{record_numbers, reports_bytes, reports_up_to}
use Rattle.engine.specs.claims.RoundTrips.{Word, ReportWords}
use Rattle.engine.specs.rules.Layout.{venue_of, sound_words, refused_layout, step_in}
use Rattle.engine.specs.rules.Answers.{count_of, buffer_after}
use Rattle.engine.specs.claims.Calls.{Applied, AppliedCall, Chain, none, more, LawfulCalls, with_reports, read_of, answered_of, Demand3OfCalls, NoCallGets16, bytes_got, reports_got, LongEnough, SameForBoth, EqualReports}
use Rattle.engine.proofs.refinement.RefuseLaws.{words_book, words_sound, sound_words_lem}
use Rattle.engine.proofs.refinement.RefusalLaws.{NotRefused, Unless, refusal_known}
use Rattle.engine.proofs.refinement.OpeningLaws.{opening_gives, opened_book, opened_venue, step_in_lem}
use Rattle.engine.proofs.demand3.SoundLaws.{venue_sound}
use Rattle.engine.proofs.demand3.ReachedLaws.{reached_sound, reached_is_sound, sound_refused}
use Rattle.engine.proofs.bytes.ReportWordLaws.{reports_words}
use Rattle.engine.proofs.bytes.BoundLaws.{reports_room}
use Rattle.engine.proofs.bytes.RecordLaws.{all_reports_read_back}
use Rattle.engine.proofs.demand3.Demand3Law.{demand3}

-- one call

-- what is known of an answer with n bytes of buffer
abbrev pub Readable : ℕ → Outcome (List Report) → Type 0
Readable n (gives rs) = All ReportWords rs × (length (reports_bytes rs) ≤ n)
Readable n (refuses k) = Unit {0}

module _ (v : Venue) (e : Event) (n : ℕ) (i : Word (last_id_after v e)) where
  unless_readable : (x : Option ℕ) → Unless x (NotRefused v e n) → Readable n (step_unless x v e).answer
  unfolding step_unless
  unless_readable nothing h = (reports_words v e n h i, omega (arith, reports_room v e n h i, h.buffer))
  unless_readable (some k) h = tt

  pub step_readable : Readable n (step v e n).answer
  unfolding step
  step_readable = unless_readable (refusal v e n) (refusal_known v e n)

  unless_last_id : (x : Option ℕ) → Word v.last_id → Word (step_unless x v e).venue.last_id
  unfolding step_unless
  unless_last_id nothing l = i
  unless_last_id (some k) l = l

  step_last_id : Word v.last_id → Word (step v e n).venue.last_id
  unfolding step
  step_last_id l = unless_last_id (refusal v e n) l

-- the last id after an event with 32-bit fields
pub event_last_id : (v : Venue) (e : Event) → Word v.last_id → All Word (record_numbers e) → Word (last_id_after v e)
event_last_id v (entry e) i h = h.1.0
event_last_id v (cancel k) i h = i
event_last_id v (bid b) i h = i
event_last_id v (tape p) i h = i
event_last_id v (day_end c) i h = i
event_last_id v (owned_entry e k) i h = h.1.0
event_last_id v (timed_tape x) i h = i

-- the buffer after a call reads back as its answer

pub bytes_read : (b : List ℕ) (rs : List Report) → Readable (length b) (gives rs) → reports_up_to (overwrite b 0 (reports_bytes rs)) (length (reports_bytes rs)) ≡ some rs
bytes_read b rs h =
    let new : List ℕ = reports_bytes rs in
    all_reports_read_back (overwrite b 0 new) (length new) rs (h.0, subst (λ (m : ℕ). Stands (overwrite b 0 new) 0 new m) (omega arith) (overwrite_stands b 0 new (omega (arith, h.1))))

buffer_reads : (e : Event) (b : List ℕ) (x : Outcome (List Report)) → Readable (length b) x → read_of e (buffer_after b x) (count_of x) ≡ some (record { event = e; answer = x })
buffer_reads e b (gives rs) h = ap (with_reports e) (bytes_read b rs h)
buffer_reads e b (refuses k) h = refl

-- a call that is accepted was made on words laid out as a venue, and no refusal met it
pub accepted_call : {w w' b b' : List ℕ} {e : Event} {count : ℕ} → Applied w e b (gives count) w' b' → T (is_book w) × (refusal (venue_of w) e (length b) ≡ nothing)
unfolding step_in step step_unless pick
accepted_call {w} {b = b} {e = e} {count = count} a = go (is_book w) (refusal (venue_of w) e (length b)) refl refl a.answers
  where
    go : (t : Bool) (x : Option ℕ) → is_book w ≡ t → refusal (venue_of w) e (length b) ≡ x → gives count ≡ count_of (pick t (step_unless x (venue_of w) e) (refused_layout w)).answer → T (is_book w) × (refusal (venue_of w) e (length b) ≡ nothing)
    go true nothing q r z = (rw q tt, r)
    go true (some n) q r z = let y : ◌≡◌ {A = ℕ} 0 1 = cc in absurd (omega arith)
    go false x q r z = let y : ◌≡◌ {A = ℕ} 0 1 = cc in absurd (omega arith)

-- a chain is a run

abbrev pub call_of : AppliedCall → Call
call_of c = record { event = c.event; buffer = length c.lent }

pub record IsRun (cs : List AppliedCall) (w' : List ℕ) (r : Run) : Type 0 where
  pub layout : T (is_book w')
  pub venue : venue_of w' ≡ r.venue
  pub readable : map answered_of cs ≡ map some r.answered

chain_run : {w w' : List ℕ} {cs : List AppliedCall} → T (is_book w) → Word (venue_of w).last_id → Chain w cs w' → IsRun cs w' (run (venue_of w) (map call_of cs))
unfolding run
chain_run t i none = record { layout = t; venue = refl; readable = refl }
chain_run {w} {w'} t i (more {w₁ = w₁} {c = c} {cs = cs} h a r) =
    let v : Venue = venue_of w in
    let s : Step = step v c.event (length c.lent) in
    let k : Word (last_id_after v c.event) = event_last_id v c.event i h in
    let e : step_in w c.event (length c.lent) ≡ s = step_in_lem w c.event (length c.lent) t in
    let f : venue_of w₁ ≡ s.venue = a.venue ∙ ap (λ (z : Step). z.venue) e in
    let first : answered_of c ≡ some (record { event = c.event; answer = s.answer }) = rw (a.buffer, a.answers, e) (buffer_reads c.event c.lent s.answer (step_readable v c.event (length c.lent) k)) in
    let g : IsRun cs w' (run s.venue (map call_of cs)) = subst (λ (z : Venue). IsRun cs w' (run z (map call_of cs))) f (chain_run (a.layout t) (rw f (step_last_id v c.event (length c.lent) k i)) r) in
    let rest : map answered_of cs ≡ map some (run s.venue (map call_of cs)).answered = g.readable in
    record { layout = g.layout; venue = g.venue; readable = cc }

-- no call on sound words answers 16

counted : (x : Outcome (List Report)) → count_of x ≡ refuses 16 → x ≡ refuses 16
counted (gives rs) y = let q : ◌≡◌ {A = ℕ} 0 1 = cc in absurd (omega arith)
counted (refuses n) y = let q : n ≡ 16 = cc in ap refuses q

pub applied_not_16 : {w w' b b' : List ℕ} {e : Event} {answer : Outcome ℕ} → T (sound_words w) → Applied w e b answer w' b' → answer ≡ refuses 16 → ⊥
applied_not_16 {w} {b = b} {e = e} t a z =
    (sound_refused (venue_of w) e (length b) 16 (words_sound w t) (counted _ (sym (rw (step_in_lem w e (length b) (words_book w t)) at a.answers) ∙ z))).0 refl

-- from words that mean a fresh venue
module _ (s close : ℕ) (i : T (is_step s)) (t : T (legal s close)) {w₀ : List ℕ} (u : T (is_book w₀)) (f : venue_of w₀ ≡ opened s close) where
  pub fresh_run : {cs : List AppliedCall} {w : List ℕ} → Chain w₀ cs w → IsRun cs w (run (opened s close) (map call_of cs))
  unfolding opened
  fresh_run {cs} {w} c = subst (λ (v : Venue). IsRun cs w (run v (map call_of cs))) f (chain_run u (rw f (omega arith)) c)

  pub reached_words : {cs : List AppliedCall} {w : List ℕ} → Chain w₀ cs w → T (sound_words w)
  reached_words {cs} {w} c =
      let r = fresh_run c in
      sound_words_lem w r.layout (rw r.venue (venue_sound _ (reached_sound s close (opened s close) (opening_gives s close i t) (map call_of cs))))

  pub demand3_from : (cs : List AppliedCall) (w' : List ℕ) → Chain w₀ cs w' → LawfulCalls s close cs w'
  unfolding venue_of
  demand3_from cs w' c =
      let r = fresh_run c in
      let n : Run = run (opened s close) (map call_of cs) in
      record {
        read = n.answered;
        readable = r.readable;
        lawful = rw (ap (λ (v : Venue). v.orders) r.venue) (demand3 s close (opened s close) (opening_gives s close i t) (map call_of cs));
      }

  pub no_16_from : (cs : List AppliedCall) (w : List ℕ) → Chain w₀ cs w → (e : Event) (b : List ℕ) (answer : Outcome ℕ) (w' b' : List ℕ) → Applied w e b answer w' b' → answer ≡ refuses 16 → ⊥
  no_16_from cs w c e b answer w' b' a z =
      let r = fresh_run c in
      reached_is_sound s close (opened s close) (opening_gives s close i t) (map call_of cs) e (length b) (counted _ (sym (rw (step_in_lem w e (length b) r.layout, r.venue) at a.answers) ∙ z))

pub demand3_of_calls : Demand3OfCalls
demand3_of_calls s close i t = demand3_from s close i t (opened_book s close i t) (opened_venue s close i t)

pub no_call_gets_16 : NoCallGets16
no_call_gets_16 s close i t = no_16_from s close i t (opened_book s close i t) (opened_venue s close i t)

-- equal events

-- buffers that are long enough don't differ
refusal_same : (v : Venue) (e : Event) (m n : ℕ) → least_buffer ≤ m → least_buffer ≤ n → refusal v e m ≡ refusal v e n
unfolding refusal
refusal_same v e m n h k = rw (le-leb least_buffer m h, le-leb least_buffer n k)

pub step_same : (v : Venue) (e : Event) (m n : ℕ) → least_buffer ≤ m → least_buffer ≤ n → step v e m ≡ step v e n
unfolding step
step_same v e m n h k = rw (refusal_same v e m n h k)

-- a call on words laid out as a venue is the same with any other buffer that is long enough
pub applied_elsewhere : {w w' b b' : List ℕ} {e : Event} {answer : Outcome ℕ} → T (is_book w) → least_buffer ≤ length b → Applied w e b answer w' b' → (c : List ℕ) → least_buffer ≤ length c → let x : Outcome (List Report) = (step (venue_of w) e least_buffer).answer in Applied w e c (count_of x) w' (buffer_after c x)
applied_elsewhere {w} {w'} {b} {b'} {e} t l a c m =
    let s : Step = step (venue_of w) e least_buffer in
    let f : step_in w e (length b) ≡ s = step_in_lem w e (length b) t ∙ step_same (venue_of w) e (length b) least_buffer l (omega arith) in
    let g : step_in w e (length c) ≡ s = step_in_lem w e (length c) t ∙ step_same (venue_of w) e (length c) least_buffer m (omega arith) in
    record {
      answers = ap (λ (z : Step). count_of z.answer) (sym g);
      buffer = ap (λ (z : Step). buffer_after c z.answer) (sym g);
      venue = a.venue ∙ ap (λ (z : Step). z.venue) (f ∙ sym g);
      layout = a.layout;
      same = a.same;
      refused = λ n x. a.refused n (a.answers ∙ ap (λ (z : Step). count_of z.answer) f ∙ x);
    }

got_bytes : (a b : List ℕ) (x : Outcome (List Report)) → bytes_got (buffer_after a x) (count_of x) ≡ bytes_got (buffer_after b x) (count_of x)
unfolding overwrite
got_bytes a b (gives rs) = take-append_seam (reports_bytes rs) _ ∙ sym (take-append_seam (reports_bytes rs) _)
got_bytes a b (refuses n) = refl

-- no call makes a layout of words that have none
layout_kept : {w b w' b' : List ℕ} {e : Event} {answer : Outcome ℕ} → Applied w e b answer w' b' → is_book w' ≡ is_book w
unfolding step_in pick
layout_kept {w} {b} {w'} a = go (is_book w) refl
  where
    go : (x : Bool) → is_book w ≡ x → is_book w' ≡ is_book w
    go true q = T_true _ (a.layout (rw q tt)) ∙ sym q
    go false q = ap is_book (a.refused 16 (a.answers ∙ rw q))

-- words alike in layout and venue take the same step
step_alike : (w v : List ℕ) (e : Event) (m n : ℕ) → is_book w ≡ is_book v → venue_of w ≡ venue_of v → least_buffer ≤ m → least_buffer ≤ n → step_in w e m ≡ step_in v e n
unfolding step_in
step_alike w v e m n q f h k = rw (q, f, step_same (venue_of v) e m n h k)

pub both : {w v w' v' : List ℕ} {cs ds : List AppliedCall} → is_book w ≡ is_book v → venue_of w ≡ venue_of v → Chain w cs w' → Chain v ds v' → map (λ (c : AppliedCall). c.event) cs ≡ map (λ (c : AppliedCall). c.event) ds → All LongEnough cs → All LongEnough ds → SameForBoth cs ds w' v'
both t e none none q h k = record { answers = refl; reports = refl; venue = e }
both t e none (more y b d) q h k = let z : ◌≡◌ {A = ℕ} 0 1 = cc in absurd (omega arith)
both t e (more x a c) none q h k = let z : ◌≡◌ {A = ℕ} 0 1 = cc in absurd (omega arith)
both {w} {v} t e (more {c = c} x a cs) (more {c = d} y b ds) q h k =
    let p : c.event ≡ d.event = cc in
    let s : Step = step_in w c.event (length c.lent) in
    let f : s ≡ step_in v d.event (length d.lent) = step_alike w v c.event (length c.lent) (length d.lent) t e h.0 k.0 ∙ ap (λ (z : Event). step_in v z (length d.lent)) p in
    let r = both (layout_kept a ∙ t ∙ sym (layout_kept b)) (a.venue ∙ ap (λ (z : Step). z.venue) f ∙ sym b.venue) cs ds (cc) h.1 k.1 in
    let answer : c.answer ≡ d.answer = a.answers ∙ ap (λ (z : Step). count_of z.answer) f ∙ sym b.answers in
    let got : reports_got c ≡ reports_got d = rw (a.buffer, a.answers, b.buffer, b.answers, ← f) (got_bytes c.lent d.lent s.answer) in
    record { answers = cc r.answers; reports = cc r.reports; venue = r.venue }

pub equal_reports : EqualReports
equal_reports s close cs ds w v c d = both refl refl c d
