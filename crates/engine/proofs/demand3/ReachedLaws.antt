-- What holds of every venue reached from open: its conditions, so that no event is refused with 16. Assumes nothing.
use Prim.Native.Nat.{ℕ, ◌≤◌, ◌<◌}
use native.Mathlib.Omega.{arith}
use mathlib.Core.Path.{◌≡◌, refl, subst}
use mathlib.Core.Bool.{Bool, not, ◌&&◌}
use mathlib.Core.Option.{Option, none, some}
use mathlib.Core.List.{List, [], ◌∷◌}
use lib.Dec.{T, T_not, leb, ltb, eqb, leb→le}
use Rattle.numbers.specs.Answers.{refuses, gives}
use Rattle.numbers.proofs.TestLaws.{and_T}
use Rattle.prices.specs.Prices.{is_step, legal}
use Rattle.engine.specs.declared.Entry.{Entry}
use Rattle.engine.specs.declared.Event.{Event}
use Rattle.engine.specs.declared.Event.TheVariants.{Entry as entry, Cancel as cancel, Bid as bid, Tape as tape, DayEnd as day_end, OwnedEntry as owned_entry, TimedTape as timed_tape}
use Rattle.engine.specs.rules.Venue.{Venue, opened, opening}
use Rattle.engine.specs.rules.Sound.{sound}
use Rattle.engine.specs.rules.Refusals.{refuse_unless, refusal_of_owner, refusal_of_entry, refusal_of_kind, refusal}
use Rattle.engine.specs.rules.Run.{step_unless, step, Call, run}
use Rattle.engine.specs.claims.Reached.{ReachedIsSound, StampsBounded}
use Rattle.engine.proofs.refinement.RefusalLaws.{by_refusal, by_first, terms_by, codes_by, owner_by, place_by, time_by, NotRefused, Unless, refusal_known}
use Rattle.prices.proofs.PriceLaws.{no_bid}
use Rattle.prices.proofs.PauseLaws.{none_sound}
use Rattle.engine.proofs.refinement.OpeningLaws.{opening_known}
use Rattle.engine.proofs.demand3.SoundLaws.{SoundVenue, sound_venue, venue_sound, market_after_sound, kept_after_sound, effect_of_sound}

step_unless_sound : (x : Option ℕ) (v : Venue) (e : Event) (n : ℕ) → Unless x (NotRefused v e n) → SoundVenue v → SoundVenue (step_unless x v e).venue
unfolding step_unless
step_unless_sound (some k) v e n h g = g
step_unless_sound none v e n h g =
    let r = effect_of_sound v e h.allowed g in
    record { book = r.0; market = market_after_sound v e h.allowed g.market; kept = kept_after_sound v e h.allowed g; events = omega (arith, h.events); stamps = omega (arith, r.1, g.stamps) }

-- one event, refused or not, leaves a sound venue
pub step_sound : (v : Venue) (e : Event) (n : ℕ) → T (sound v) → T (sound (step v e n).venue)
unfolding step
step_sound v e n t = venue_sound _ (step_unless_sound _ v e n (refusal_known v e n) (sound_venue v t))

run_sound : (cs : List Call) (v : Venue) → SoundVenue v → SoundVenue (run v cs).venue
unfolding run step
run_sound [] v g = g
run_sound (c ∷ cs) v g = run_sound cs _ (step_unless_sound _ v c.event c.buffer (refusal_known v c.event c.buffer) g)

pub opened_sound : (s close : ℕ) → T (is_step s) → T (legal s close) → SoundVenue (opened s close)
unfolding opened
opened_sound s close i t =
    record {
      book = record { few = omega arith; rises = tt; orders = tt; stamps = tt };
      market = record { step = i; phase = omega arith; close = t; bid = no_bid s };
      kept = none_sound s;
      events = omega arith;
      stamps = omega arith;
    }

pub reached_sound : (s close : ℕ) (v : Venue) → opening s close ≡ gives v → (cs : List Call) → SoundVenue (run v cs).venue
reached_sound s close v e cs =
    let o = opening_known s close v e in
    rw o.fresh (run_sound cs (opened s close) (opened_sound s close o.is o.legal))

-- refusal 16 is given only where a condition is broken; every other is a number from 1 on, of one byte

abbrev pub OfSound : ℕ → Type 0
OfSound n = (n ≡ 16 → ⊥) × (1 ≤ n) × (n < 128)

abbrev Refused : Option ℕ → Type 0
Refused none = Unit {0}
Refused (some n) = OfSound n

refuse_unless_not : (b : Bool) (n : ℕ) (later : Option ℕ) → (T (not b) → OfSound n) → Refused later → Refused (refuse_unless b n later)
refuse_unless_not b n later h k = by_refusal Refused b n later h (λ t. k)

-- the numbers of the refusals but 16
abbrev other : ℕ → Bool
other n = not (eqb n 16) && (leb 1 n && ltb n 128)

of_sound : (n : ℕ) → T (other n) → OfSound n
of_sound n h =
    let a = and_T (not (eqb n 16)) _ h in
    let l = and_T (leb 1 n) _ a.1 in
    (λ z. subst (λ (x : ℕ). T (not (eqb x 16))) z a.0, leb→le _ _ l.0, leb→le _ _ l.1)

refuse_unless_other : (b : Bool) (n : ℕ) (later : Option ℕ) → T (other n) → Refused later → Refused (refuse_unless b n later)
refuse_unless_other b n later h = refuse_unless_not b n later (λ t. of_sound n h)

refusal_of_entry_not : (v : Venue) (e : Entry) (of_owner : Option ℕ) → Refused of_owner → Refused (refusal_of_entry v e of_owner)
unfolding refusal_of_entry
refusal_of_entry_not v e of_owner h =
    by_first Refused _ _ (terms_by Refused tt (of_sound 3 tt) (of_sound 4 tt) (v.market.step) e.price e.shares) (by_first Refused _ _ (codes_by Refused tt (of_sound 18 tt) (of_sound 5 tt) (of_sound 19 tt) (of_sound 20 tt) e) (by_first Refused _ _ h (place_by Refused tt (of_sound 6 tt) (of_sound 7 tt) v e)))

refusal_of_kind_not : (v : Venue) (e : Event) → Refused (refusal_of_kind v e)
unfolding refusal_of_kind
refusal_of_kind_not v (entry e) = refusal_of_entry_not v e none tt
refusal_of_kind_not v (cancel i) = refuse_unless_other _ 8 none tt tt
refusal_of_kind_not v (bid b) = refuse_unless_other _ 3 none tt tt
refusal_of_kind_not v (tape p) = refuse_unless_other _ 3 none tt tt
refusal_of_kind_not v (day_end c) = refuse_unless_other _ 3 none tt tt
refusal_of_kind_not v (owned_entry e k) = refusal_of_entry_not v e (refusal_of_owner k) (owner_by Refused tt (of_sound 21 tt) k)
refusal_of_kind_not v (timed_tape x) = refuse_unless_other _ 3 _ tt (time_by Refused tt (of_sound 22 tt) (of_sound 23 tt) v.kept x.time)

refusal_not : (v : Venue) (e : Event) (n : ℕ) → T (sound v) → Refused (refusal v e n)
unfolding refusal
refusal_not v e n s =
    refuse_unless_not _ _ _ (λ t. absurd (T_not (sound v) t s)) (refuse_unless_other _ 1 _ tt (refuse_unless_other _ 2 _ tt (refusal_of_kind_not v e)))

answer_not : (x : Option ℕ) (v : Venue) (e : Event) (n : ℕ) → Refused x → (step_unless x v e).answer ≡ refuses n → OfSound n
unfolding step_unless
answer_not none v e n h z = let y : ◌≡◌ {A = ℕ} 0 1 = cc in absurd (omega arith)
answer_not (some k) v e n h z = let y : k ≡ n = cc in subst OfSound y h

pub sound_refused : (v : Venue) (e : Event) (buffer n : ℕ) → T (sound v) → (step v e buffer).answer ≡ refuses n → OfSound n
unfolding step
sound_refused v e buffer n s = answer_not _ v e n (refusal_not v e buffer s)

pub reached_is_sound : ReachedIsSound
reached_is_sound s close v o cs e buffer z = (sound_refused _ e buffer 16 (venue_sound _ (reached_sound s close v o cs)) z).0 refl

pub stamps_bounded : StampsBounded
stamps_bounded s close v o cs = (reached_sound s close v o cs).stamps
