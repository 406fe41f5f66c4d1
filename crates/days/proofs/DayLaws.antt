-- Playing a day: one event, the fold of the definitions, the loop. Assumes nothing.
use Prim.Native.Nat.{ℕ, zero, suc, ◌+◌, ◌-◌, ◌≤◌, ◌<◌}
use native.Mathlib.Omega.{arith}
use mathlib.Core.Path.{◌≡◌, refl, sym, ap, subst, ◌∙◌}
use mathlib.Core.Bool.{false}
use mathlib.Core.List.{List, [], ◌∷◌, ◌++◌, append-nil}
use lib.Dec.{T, leb, le→leb}
use lib.ListN.{length, get_or, set, take, drop, length-set, length-append, length-drop, drop_of_length-le, take-append-drop}
use lib.Seq.{drop-drop}
use borrow.Author.Tests.{le-leb, lt-leb}
use borrow.Rule.Slice.PartMut.{mid_of, put_mid, put_same}
use Rattle.numbers.specs.Tests.{pick, All}
use Rattle.numbers.specs.Answers.{Outcome, gives, refuses, Read}
use Rattle.numbers.specs.SevenBit.{bytes_of_all, overwrite, Put}
use Rattle.numbers.proofs.TestLaws.{pick_yes}
use Rattle.numbers.proofs.ByteLaws.{two_bytes}
use Rattle.numbers.proofs.WriteLaws.{put_length}
use Rattle.engine.specs.declared.Event.{Event}
use Rattle.engine.specs.rules.Reports.{Report}
use Rattle.engine.specs.rules.Refusals.{least_buffer}
use Rattle.engine.specs.rules.Run.{Step, step}
use Rattle.engine.specs.rules.Records.{record_numbers, reports_bytes, record_at}
use Rattle.engine.specs.rules.Answers.{count_of, buffer_after}
use Rattle.engine.specs.rules.Layout.{venue_of, sound_words, step_in}
use Rattle.engine.specs.claims.RoundTrips.{Word}
use Rattle.engine.specs.claims.Calls.{SameSpare, Applied}
use Rattle.engine.proofs.refinement.MemoryLaws.{spare_same, spare_then}
use Rattle.engine.proofs.refinement.RefuseLaws.{words_book}
use Rattle.engine.proofs.refinement.OpeningLaws.{step_in_lem}
use Rattle.engine.proofs.demand3.CallLaws.{Readable, step_readable, event_last_id, step_same, applied_elsewhere}
use Rattle.records.specs.declared.ReadRefusal.{ReadRefusal}
use Rattle.records.specs.ReadRefusals.{read_refusal_number}
use Rattle.days.specs.declared.Played.{Played}
use Rattle.days.specs.declared.Stop.{Stop}
use Rattle.days.specs.declared.Stop.TheVariants.{AllPlayed, EndsFull, ReportsFull, Unreadable, VenueBroken}
use Rattle.days.specs.Days.{answer_bytes, all_played, ends_full, reports_full, Day, day_after, stopped, play_on, day_starts, played}
use Rattle.days.specs.DayCalls.{outcome_of_stop, answer_in, Stepped, EventPlayed, Reads, none, more, Steps, still, then, EventsPlayed, DayDone, DayPlayed}

-- the buffer lent from an offset on

module _ (b : List ℕ) (end : ℕ) (h : end ≤ length b) where
  abbrev rest : ℕ
  rest = length b - end

  no_more : drop rest (drop end b) ≡ []
  no_more = drop_of_length-le (drop end b) {i = rest} (omega (arith, length-drop end b))

  mid_is : mid_of end rest b ≡ drop end b
  mid_is = sym (append-nil (take rest (drop end b))) ∙ ap (λ (l : List ℕ). take rest (drop end b) ++ l) (sym no_more) ∙ take-append-drop rest (drop end b)

  mid_length : length (mid_of end rest b) ≡ length b - end
  mid_length = ap length mid_is ∙ length-drop end b

  part_put : (new : List ℕ) → put_mid end rest b (overwrite (mid_of end rest b) 0 new) ≡ overwrite b end new
  unfolding overwrite
  part_put new =
      let m : end + (0 + length new) ≡ end + length new = omega arith in
      ap (λ (l : List ℕ). take end b ++ (overwrite (mid_of end rest b) 0 new ++ l)) no_more
      ∙ ap (λ (l : List ℕ). take end b ++ l) (append-nil (overwrite (mid_of end rest b) 0 new))
      ∙ ap (λ (l : List ℕ). take end b ++ (new ++ drop (0 + length new) l)) mid_is
      ∙ ap (λ (l : List ℕ). take end b ++ (new ++ l)) (drop-drop (0 + length new) end b ∙ ap (λ (k : ℕ). drop k b) m)

-- the two numbers of a refusal are two bytes
pub refusal_size : (n : ℕ) → n < 128 → length (bytes_of_all (0 ∷ n ∷ [])) ≡ 2
refusal_size n l = ap length (two_bytes 0 n (omega arith) l)

-- one event

module _ (w w' b b₁ : List ℕ) (e : Event) (end : ℕ) {o : Outcome ℕ} (t : T (sound_words w)) (l : end + least_buffer ≤ length b) (h : All Word (record_numbers e)) (i : Word (get_or w 4 0)) (a : Applied w e (mid_of end (length b - end) b) o w' b₁) where
  abbrev lent : List ℕ
  lent = mid_of end (length b - end) b

  long : least_buffer ≤ length lent
  long = omega (arith, mid_length b end (omega (arith, l)), l)

  same_step : step_in w e (length lent) ≡ step (venue_of w) e least_buffer
  same_step = step_in_lem w e (length lent) (words_book w t) ∙ step_same (venue_of w) e (length lent) least_buffer long (omega arith)

  answers : o ≡ count_of (answer_in w e)
  unfolding answer_in
  answers = a.answers ∙ ap (λ (z : Step). count_of z.answer) same_step

  buffer : b₁ ≡ buffer_after lent (answer_in w e)
  unfolding answer_in
  buffer = a.buffer ∙ ap (λ (z : Step). buffer_after lent z.answer) same_step

  readable : Readable least_buffer (answer_in w e)
  unfolding answer_in venue_of
  readable = step_readable (venue_of w) e least_buffer (event_last_id (venue_of w) e i h)

  by_answer : length (answer_bytes (answer_in w e)) ≤ least_buffer → T (sound_words w') → {r : ℕ} {b' : List ℕ} → Put (answer_bytes (answer_in w e)) end b r b' → EventPlayed w e end b r w' b'
  unfolding answer_in
  by_answer f u p =
      record {
        sound = u;
        venue = a.venue ∙ ap (λ (z : Step). z.venue) same_step;
        same = a.same;
        stepped = record { words = h; applies = applied_elsewhere (words_book w t) long a; fits = f };
        wrote = p;
        inside = omega (arith, p.ends, f, l);
      }

  accepted_wrote : (x : Outcome (List Report)) {count : ℕ} → gives count ≡ count_of x → b₁ ≡ buffer_after lent x → Readable least_buffer x → Put (answer_bytes x) end b (end + count) (put_mid end (length b - end) b b₁) × (length (answer_bytes x) ≤ least_buffer)
  accepted_wrote (gives rs) {count} p q r =
      let n : count ≡ length (reports_bytes rs) = cc in
      (record { ends = omega (arith, n); leaves = ap (put_mid end (length b - end) b) q ∙ part_put b end (omega (arith, l)) (reports_bytes rs) }, r.1)
  accepted_wrote (refuses n) p q r = let z : ◌≡◌ {A = ℕ} 0 1 = cc in absurd (omega arith)

  pub event_accepted : {count : ℕ} → o ≡ gives count → T (sound_words w') → EventPlayed w e end b (end + count) w' (put_mid end (length b - end) b b₁)
  event_accepted q u = let r = accepted_wrote (answer_in w e) (sym q ∙ answers) buffer readable in by_answer r.1 u r.0

  refused_answer : (x : Outcome (List Report)) {n : ℕ} → refuses n ≡ count_of x → b₁ ≡ buffer_after lent x → (x ≡ refuses n) × (b₁ ≡ lent)
  refused_answer (gives rs) p q = let z : ◌≡◌ {A = ℕ} 0 1 = cc in absurd (omega arith)
  refused_answer (refuses m) p q = (cc, q)

  -- a refused event left the buffer as it was, and its refusal is written there
  pub event_refused : {m n r : ℕ} {b' : List ℕ} → o ≡ refuses n → T (sound_words w') → m ≡ n → m < 128 → Put (bytes_of_all (0 ∷ m ∷ [])) end (put_mid end (length b - end) b b₁) r b' → EventPlayed w e end b r w' b'
  event_refused {m} {n} {r} {b'} q u j f p =
      let x = refused_answer (answer_in w e) (sym q ∙ answers) buffer in
      let kept : put_mid end (length b - end) b b₁ ≡ b = ap (put_mid end (length b - end) b) x.1 ∙ put_same end (length b - end) b in
      let s : answer_in w e ≡ refuses m = x.0 ∙ ap refuses (sym j) in
      by_answer (rw s (omega (arith, refusal_size m f))) u (rw s (rw kept at p))

-- the fold

abbrev day_of : List ℕ → List ℕ → List ℕ → ℕ → ℕ → ℕ → Day
day_of w b es at end k = record { venue = venue_of w; bytes = b; ends = es; at = at; end = end; events = k }

play_end : (n : ℕ) (records : List ℕ) (d : Day) → length records ≤ d.at → play_on n records d ≡ stopped d (gives all_played)
unfolding play_on
play_end zero records d l = pick_yes (leb (length records) d.at) _ _ (le→leb _ _ l)
play_end (suc n) records d l = pick_yes (leb (length records) d.at) _ _ (le→leb _ _ l)

play_full : (n : ℕ) (records : List ℕ) (d : Day) → n ≡ 0 → d.at < length records → play_on n records d ≡ stopped d (gives ends_full)
unfolding play_on pick
play_full n records d z l = rw (z, lt-leb (length records) d.at l)

play_short : (n : ℕ) (records : List ℕ) (d : Day) → d.at < length records → length d.bytes - d.end < least_buffer → play_on (suc n) records d ≡ stopped d (gives reports_full)
unfolding play_on pick
play_short n records d l s = rw (lt-leb (length records) d.at l, lt-leb least_buffer (length d.bytes - d.end) s)

module _ (n : ℕ) (records : List ℕ) (d : Day) (l : d.at < length records) (s : least_buffer ≤ length d.bytes - d.end) where
  play_unread : {m : ℕ} → record_at records d.at ≡ refuses m → play_on (suc n) records d ≡ stopped d (refuses m)
  unfolding play_on pick
  play_unread e = rw (lt-leb (length records) d.at l, le-leb least_buffer (length d.bytes - d.end) s, e)

  play_more : {r : Read Event} → record_at records d.at ≡ gives r → play_on (suc n) records d ≡ play_on n records (day_after d r)
  unfolding play_on pick
  play_more e = rw (lt-leb (length records) d.at l, le-leb least_buffer (length d.bytes - d.end) s, e)

day_more : (w w' b b' es : List ℕ) (at end end' k : ℕ) (r : Read Event) → EventPlayed w r.value end b end' w' b' → day_after (day_of w b es at end k) r ≡ day_of w' b' (set es k end') r.end end' (k + 1)
unfolding day_after answer_in
day_more w w' b b' es at end end' k r p = rw (p.venue, p.wrote.leaves, p.wrote.ends)

-- one event more behind those that were played

read_more : {records : List ℕ} {from at : ℕ} {es : List Event} {r : Read Event} → Reads records from es at → record_at records at ≡ gives r → Reads records from (es ++ (r.value ∷ [])) r.end
read_more none e = more e none
read_more (more f p) e = more f (read_more p e)

step_more : {w w₁ w' : List ℕ} {es : List Event} {e : Event} → Steps w es w₁ → Stepped w₁ e w' → Steps w (es ++ (e ∷ [])) w'
step_more still s = then s still
step_more (then u p) s = then u (step_more p s)

-- the loop

-- what holds when k events were played: what is still to be played gives what was to be played at the start
pub record Playing (w₀ records : List ℕ) (from : ℕ) (b₀ es₀ w b es : List ℕ) (at end k : ℕ) : Type 0 where
  pub start : T (sound_words w₀)
  pub sound : T (sound_words w)
  pub same : SameSpare w₀ w
  pub inside : end ≤ length b
  pub long : length b ≡ length b₀
  pub places : length es ≡ length es₀
  pub few : k ≤ length es
  pub remains : play_on (length es₀) records (day_starts w₀ from b₀ es₀) ≡ play_on (length es - k) records (day_of w b es at end k)
  pub applied : EventsPlayed w₀ records from k at w

pub playing_starts : (w records : List ℕ) (from : ℕ) (b es : List ℕ) → T (sound_words w) → Playing w records from b es w b es from 0 0
playing_starts w records from b es t =
    record {
      start = t;
      sound = t;
      same = spare_same w;
      inside = omega arith;
      long = refl;
      places = refl;
      few = omega arith;
      remains = ap (λ (n : ℕ). play_on n records (day_starts w from b es)) (omega arith);
      applied = record { read = []; count = refl; reads = none; steps = still };
    }

module _ {w₀ records b₀ es₀ w b es : List ℕ} {from at end k : ℕ} (p : Playing w₀ records from b₀ es₀ w b es at end k) where
  one_more_lem : k < length es → play_on (length es₀) records (day_starts w₀ from b₀ es₀) ≡ play_on (suc (length es - (k + 1))) records (day_of w b es at end k)
  one_more_lem l = p.remains ∙ ap (λ (n : ℕ). play_on n records (day_of w b es at end k)) (omega (arith, l))

  pub playing_more : {w' b' : List ℕ} {end' : ℕ} {r : Read Event} → at < length records → k < length es → least_buffer ≤ length b - end → record_at records at ≡ gives r → EventPlayed w r.value end b end' w' b' → Playing w₀ records from b₀ es₀ w' b' (set es k end') r.end end' (k + 1)
  playing_more {w'} {b'} {end'} {r} l m s e q =
      let f : length b' ≡ length b = put_length (omega (arith, q.wrote.ends, q.inside)) q.wrote in
      let g : length (set es k end') ≡ length es = length-set es k end' in
      record {
        start = p.start;
        sound = q.sound;
        same = spare_then p.same q.same;
        inside = omega (arith, f, q.inside);
        long = f ∙ p.long;
        places = g ∙ p.places;
        few = omega (arith, g, m);
        remains = one_more_lem m ∙ play_more (length es - (k + 1)) records (day_of w b es at end k) l s e ∙ ap (play_on (length es - (k + 1)) records) (day_more w w' b b' es at end end' k r q) ∙ ap (λ (n : ℕ). play_on (n - (k + 1)) records (day_of w' b' (set es k end') r.end end' (k + 1))) (sym g);
        applied = record { read = p.applied.read ++ (r.value ∷ []); count = omega (arith, length-append p.applied.read (r.value ∷ []), p.applied.count); reads = read_more p.applied.reads e; steps = step_more p.applied.steps q.stepped };
      }

  -- VenueBroken is none of the four
  never : ◌≡◌ {A = ℕ} 0 1 → ⊥
  never z = omega arith

  stops : {s : Stop} {x : Played} → (s ≡ VenueBroken → ⊥) → play_on (length es₀) records (day_starts w₀ from b₀ es₀) ≡ stopped (day_of w b es at end k) (outcome_of_stop s) → x ≡ record { events = k; at = at; end = end; stop = s } → DayPlayed w₀ records from b₀ es₀ x w b es
  unfolding played
  stops {s} {x} n e q =
      let f : played w₀ records from b₀ es₀ ≡ stopped (day_of w b es at end k) (outcome_of_stop s) = pick_yes (sound_words w₀) _ _ p.start ∙ e in
      subst (λ (y : Played). DayPlayed w₀ records from b₀ es₀ y w b es) (sym q) (record { stops = rw f; events = rw f; at = rw f; end = rw f; inside = p.inside; broken = λ z. absurd (n z); done = record { venue = rw f; buffer = rw f; ends = rw f; same = p.same; refused = λ z. absurd (subst T z p.start); sound = λ t. p.sound; applied = λ t. rw f p.applied } })

  pub stops_end : {x : Played} → length records ≤ at → x ≡ record { events = k; at = at; end = end; stop = AllPlayed } → DayPlayed w₀ records from b₀ es₀ x w b es
  stops_end l = stops (λ z. never (cc)) (p.remains ∙ play_end (length es - k) records (day_of w b es at end k) l)

  pub stops_full : {x : Played} → at < length records → length es ≤ k → x ≡ record { events = k; at = at; end = end; stop = EndsFull } → DayPlayed w₀ records from b₀ es₀ x w b es
  stops_full l m = stops (λ z. never (cc)) (p.remains ∙ play_full (length es - k) records (day_of w b es at end k) (omega (arith, m)) l)

  pub stops_short : {x : Played} → at < length records → k < length es → length b - end < least_buffer → x ≡ record { events = k; at = at; end = end; stop = ReportsFull } → DayPlayed w₀ records from b₀ es₀ x w b es
  stops_short l m s = stops (λ z. never (cc)) (one_more_lem m ∙ play_short (length es - (k + 1)) records (day_of w b es at end k) l s)

  pub stops_unread : {x : Played} {r : ReadRefusal} → at < length records → k < length es → least_buffer ≤ length b - end → record_at records at ≡ refuses (read_refusal_number r) → x ≡ record { events = k; at = at; end = end; stop = Unreadable r } → DayPlayed w₀ records from b₀ es₀ x w b es
  stops_unread l m s e = stops (λ z. never (cc)) (one_more_lem m ∙ play_unread (length es - (k + 1)) records (day_of w b es at end k) l s e)

-- words that are no sound venue record

module _ (w records : List ℕ) (from : ℕ) (b es : List ℕ) (f : sound_words w ≡ false) where
  pub broken_day : played w records from b es ≡ stopped (day_starts w from b es) (refuses 16)
  unfolding played pick
  broken_day = rw f

  pub broken_done : DayDone w records from b es w b es
  broken_done =
      record {
        venue = rw broken_day;
        buffer = rw broken_day;
        ends = rw broken_day;
        same = spare_same w;
        refused = λ z. refl;
        sound = λ t. t;
        applied = λ t. absurd (subst T f t);
      }

  pub not_played : {x : Played} → x ≡ record { events = 0; at = from; end = 0; stop = VenueBroken } → DayPlayed w records from b es x w b es
  not_played {x} q =
      subst (λ (y : Played). DayPlayed w records from b es y w b es) (sym q) (record { stops = rw broken_day; events = rw broken_day; at = rw broken_day; end = rw broken_day; inside = omega arith; broken = λ z. f; done = broken_done })
