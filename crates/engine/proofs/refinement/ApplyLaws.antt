-- What apply is made of: the refusals over words decide the step, a refused call changes nothing, an accepted one does the event.
-- Assumes nothing.
use Prim.Native.Nat.{ℕ, ◌≤◌, ◌<◌}
use native.Mathlib.Omega.{arith}
use mathlib.Core.Path.{◌≡◌, refl, ap, subst, ◌∙◌}
use mathlib.Core.Bool.{false}
use mathlib.Core.Option.{Option, none, some}
use mathlib.Core.List.{List}
use lib.Dec.{T, leb, ltb, leb→le}
use lib.ListN.{length}
use borrow.Author.Tests.{le-leb, lt-leb, lt-ltb, le-ltb}
use Rattle.numbers.specs.Answers.{Outcome, gives, refuses}
use Rattle.numbers.proofs.TestLaws.{by_test, T_true, T_false, and_yes, and_no}
use Rattle.book.specs.rules.Words.{is_book}
use Rattle.book.proofs.refinement.WordLaws.{book_is_book}
use Rattle.engine.specs.declared.Event.{Event}
use Rattle.engine.specs.rules.Venue.{last_id_after}
use Rattle.engine.specs.rules.Refusals.{refuse_unless, refusal_of_kind, least_buffer, refusal}
use Rattle.engine.specs.rules.Sound.{most_events}
use Rattle.engine.specs.rules.Run.{Step, step_unless, step}
use Rattle.engine.specs.rules.Records.{reports_bytes}
use Rattle.engine.specs.claims.RoundTrips.{Word}
use Rattle.engine.specs.steps.Memory.{MayJudge, Room, effect_in, MayAccept, Accepts}
use Rattle.engine.specs.rules.Layout.{venue_of, sound_words, step_in}
use Rattle.engine.specs.claims.Calls.{Applied}
use Rattle.engine.proofs.refinement.MemoryLaws.{spare_same}
use Rattle.engine.proofs.refinement.RefusalLaws.{sound_step, Allowed, NotRefused, Unless, refusal_of_kind_known}
use Rattle.engine.proofs.refinement.RefuseLaws.{refuse_yes, refuse_no, unrefused, words_ordered, words_book, words_sound, sound_words_lem}
use Rattle.engine.proofs.refinement.OpeningLaws.{step_in_lem}
use Rattle.engine.proofs.demand3.ReachedLaws.{step_sound}
use Rattle.engine.proofs.bytes.BoundLaws.{reports_room}

-- the refusals of an event, for any words; n is the length of the lent report buffer
unfoldable pub refusal_in : List ℕ → Event → ℕ → Option ℕ
refusal_in w e n =
    refuse_unless (sound_words w) 16
    (refuse_unless (leb least_buffer n) 1
    (refuse_unless (ltb (venue_of w).accepted_events most_events) 2
    (refusal_of_kind (venue_of w) e)))

-- the step of words is what the refusals over them say
pub step_by_refusal : (w : List ℕ) (e : Event) (n : ℕ) → step_in w e n ≡ step_unless (refusal_in w e n) (venue_of w) e
unfolding step_in step step_unless refusal refusal_in sound_words
step_by_refusal w e n =
    by_test
    (λ (s : Step). s ≡ step_unless (refusal_in w e n) (venue_of w) e)
    (is_book w)
    (λ t. rw (and_yes _ (T_true (is_book w) t)))
    (λ t. rw (and_no _ (T_false (is_book w) t), refuse_no false 16 _ refl))

-- a call that isn't refused

module _ (w : List ℕ) (e : Event) (n : ℕ) (h : refusal_in w e n ≡ none) where
  pub not_refused : NotRefused (venue_of w) e n
  unfolding refusal_in
  not_refused =
      let a = unrefused (sound_words w) 16 _ h in
      let b = unrefused _ 1 _ a.1 in
      let c = unrefused _ 2 _ b.1 in
      record { sound = words_sound w a.0; buffer = leb→le _ _ b.0; events = leb→le _ _ c.0; allowed = subst (λ (x : Option ℕ). Unless x (Allowed (venue_of w) e)) c.1 (refusal_of_kind_known (venue_of w) (sound_step (venue_of w) (words_sound w a.0)) e) }

  pub may_accept : MayAccept w
  unfolding refusal_in
  may_accept = record { ordered = words_ordered w (unrefused (sound_words w) 16 _ h).0; sound = not_refused.sound; events = not_refused.events }

  -- its reports fit the buffer
  pub reports_have_room : Word (last_id_after (venue_of w) e) → (b : List ℕ) → n ≡ length b → Room b 0 (effect_in w e).reports
  unfolding effect_in
  reports_have_room i b l = omega (arith, reports_room (venue_of w) e n not_refused i, not_refused.buffer)

-- the calls

pub applied_refused : (w : List ℕ) (e : Event) (b : List ℕ) (k : ℕ) → refusal_in w e (length b) ≡ some k → Applied w e b (refuses k) w b
unfolding step_unless
applied_refused w e b k h =
    record {
      answers = rw (step_by_refusal w e (length b), h);
      buffer = rw (step_by_refusal w e (length b), h);
      venue = rw (step_by_refusal w e (length b), h);
      layout = λ t. t;
      same = spare_same w;
      refused = λ n x. refl;
    }

pub applied_accepted : {w w' b b' : List ℕ} {e : Event} {end : ℕ} → refusal_in w e (length b) ≡ none → Accepts w w' b b' e end → Applied w e b (gives end) w' b'
unfolding step_unless effect_in
applied_accepted {w} {w'} {b} {b'} {e} {end} h a =
    let l : end ≡ length (reports_bytes (effect_in w e).reports) = omega (arith, a.wrote.ends) in
    record {
      answers = rw (step_by_refusal w e (length b), h) (ap gives l);
      buffer = rw (step_by_refusal w e (length b), h) a.wrote.leaves;
      venue = rw (step_by_refusal w e (length b), h) a.venue;
      layout = λ t. book_is_book w' a.ordered.book;
      same = a.same;
      refused = λ n x. let z : ◌≡◌ {A = ℕ} 0 1 = cc in absurd (omega arith);
    }

-- the refusals in their order

module _ {w b : List ℕ} {e : Event} where
  -- 16, 1 and 2
  pub venue_broken : sound_words w ≡ false → Applied w e b (refuses 16) w b
  unfolding refusal_in
  venue_broken h = applied_refused w e b 16 (refuse_no _ _ _ h)

  pub buffer_short : T (sound_words w) → length b < least_buffer → Applied w e b (refuses 1) w b
  unfolding refusal_in
  buffer_short t l = applied_refused w e b 1 (refuse_yes _ _ _ (T_true (sound_words w) t) ∙ refuse_no _ _ _ (lt-leb least_buffer (length b) l))

  pub events_spent : T (sound_words w) → least_buffer ≤ length b → most_events ≤ (venue_of w).accepted_events → Applied w e b (refuses 2) w b
  unfolding refusal_in
  events_spent t l s =
      applied_refused w e b 2 (refuse_yes _ _ _ (T_true (sound_words w) t) ∙ refuse_yes _ _ _ (le-leb least_buffer (length b) l) ∙ refuse_no _ _ _ (le-ltb (venue_of w).accepted_events most_events s))

  -- the words after a call on sound words are sound
  pub applied_sound : {w' b' : List ℕ} {o : Outcome ℕ} → T (sound_words w) → Applied w e b o w' b' → T (sound_words w')
  applied_sound {w'} {b'} t a =
      let v : venue_of w' ≡ (step (venue_of w) e (length b)).venue = a.venue ∙ ap (λ (s : Step). s.venue) (step_in_lem w e (length b) (words_book w t)) in
      sound_words_lem w' (a.layout (words_book w t)) (rw v (step_sound (venue_of w) e (length b) (words_sound w t)))

-- then the kind's own
module _ {w b : List ℕ} (e : Event) (j : MayJudge w b) where
  by_kind : refusal_in w e (length b) ≡ refusal_of_kind (venue_of w) e
  unfolding refusal_in
  by_kind =
      refuse_yes _ _ _ (T_true (sound_words w) j.sound) ∙ refuse_yes _ _ _ (le-leb least_buffer (length b) j.buffer) ∙ refuse_yes _ _ _ (lt-ltb (venue_of w).accepted_events most_events j.events)

  pub kind_refused : {k : ℕ} → refusal_of_kind (venue_of w) e ≡ some k → Applied w e b (refuses k) w b
  kind_refused {k} h = applied_refused w e b k (by_kind ∙ h)

  module _ (h : refusal_of_kind (venue_of w) e ≡ none) where
    pub kind_allowed : Allowed (venue_of w) e
    kind_allowed = (not_refused w e (length b) (by_kind ∙ h)).allowed

    pub kind_may_accept : MayAccept w
    kind_may_accept = may_accept w e (length b) (by_kind ∙ h)

    pub kind_has_room : Word (last_id_after (venue_of w) e) → Room b 0 (effect_in w e).reports
    kind_has_room i = reports_have_room w e (length b) (by_kind ∙ h) i b refl

    pub kind_accepted : {w' b' : List ℕ} {end : ℕ} → Accepts w w' b b' e end → Applied w e b (gives end) w' b'
    kind_accepted a = applied_accepted (by_kind ∙ h) a
