-- The parts of an entry's refusals, and what is known of an event that isn't refused. Assumes nothing.
use Prim.Native.Nat.{ℕ, ◌≤◌, ◌<◌}
use native.Mathlib.Omega.{arith}
use mathlib.Core.Path.{◌≡◌, subst}
use mathlib.Core.Bool.{Bool, true, false, not, ◌||◌}
use mathlib.Core.Logic.{◌⊎◌, inl, inr}
use mathlib.Core.List.{List}
use mathlib.Core.Option.{Option, none, some}
use lib.Dec.{T, leb, ltb, eqb, leb→le, eqb→eq, T_not}
use lib.ListN.{length}
use Rattle.numbers.proofs.TestLaws.{by_test, or_T, conj_T, T_and}
use Rattle.prices.specs.declared.TimedPrice.{TimedPrice}
use Rattle.prices.specs.Prices.{is_step, legal, is_bid}
use Rattle.prices.specs.Pause.{most_kept, within, last_time}
use Rattle.prices.proofs.PriceLaws.{highest_legal, one_legal}
use Rattle.book.specs.rules.Orders.{find}
use Rattle.book.specs.rules.Sound.{most_shares, most_owner, slide_allowed}
use Rattle.engine.specs.declared.Entry.{Entry}
use Rattle.engine.specs.declared.Event.{Event}
use Rattle.engine.specs.declared.Event.TheVariants.{Entry as entry, Cancel as cancel, Bid as bid, Tape as tape, DayEnd as day_end, OwnedEntry as owned_entry, TimedTape as timed_tape}
use Rattle.engine.specs.rules.Working.{is_market, limit_of}
use Rattle.engine.specs.rules.Venue.{Venue}
use Rattle.engine.specs.rules.Sound.{most_orders, most_events, venue_conditions, sound}
use Rattle.engine.specs.rules.Refusals.{refuse_unless, first_of, refusal_of_terms, refusal_of_other_codes, refusal_of_codes, refusal_of_owner, refusal_of_place, refusal_of_entry, rests, refusal_of_time, refusal_of_kind, least_buffer, refusal}
use Rattle.engine.specs.steps.Steps.{HasPlace, EntryHasPlace}

-- what holds of the refusal where the test fails, and of what comes later where it doesn't
pub by_refusal : (P : Option ℕ → Type 0) (b : Bool) (n : ℕ) (later : Option ℕ) → (T (not b) → P (some n)) → (T b → P later) → P (refuse_unless b n later)
unfolding refuse_unless
by_refusal P true n later h k = k tt
by_refusal P false n later h k = h tt

pub by_first : (P : Option ℕ → Type 0) (r later : Option ℕ) → P r → P later → P (first_of r later)
unfolding first_of
by_first P none later h k = k
by_first P (some n) later h k = h

-- what holds of none and of each refusal of a part of an entry's chain holds of the part
module _ (P : Option ℕ → Type 0) (allowed : P none) where
  refused_or : (b : Bool) (n : ℕ) (later : Option ℕ) → P (some n) → P later → P (refuse_unless b n later)
  refused_or b n later h k = by_refusal P b n later (λ t. h) (λ t. k)

  pub terms_by : P (some 3) → P (some 4) → (step price shares : ℕ) → P (refusal_of_terms step price shares)
  unfolding refusal_of_terms
  terms_by p q step price shares = refused_or _ 3 _ p (refused_or _ 4 _ q (refused_or _ 4 none q allowed))

  pub other_codes_by : P (some 5) → P (some 19) → P (some 20) → (e : Entry) → P (refusal_of_other_codes e)
  other_codes_by p q r e = refused_or _ 5 _ p (refused_or _ 5 _ p (refused_or _ 19 _ q (refused_or _ 20 none r allowed)))

  pub codes_by : P (some 18) → P (some 5) → P (some 19) → P (some 20) → (e : Entry) → P (refusal_of_codes e)
  unfolding refusal_of_codes
  codes_by m p q r e = refused_or _ 18 _ m (other_codes_by p q r e)

  pub owner_by : P (some 21) → (k : ℕ) → P (refusal_of_owner k)
  unfolding refusal_of_owner
  owner_by p k = refused_or _ 21 _ p (refused_or _ 21 none p allowed)

  pub place_by : P (some 6) → P (some 7) → (v : Venue) (e : Entry) → P (refusal_of_place v e)
  unfolding refusal_of_place
  place_by p q v e = refused_or _ 6 _ p (refused_or _ 7 none q allowed)

  pub time_by : P (some 22) → P (some 23) → (kept : List TimedPrice) (t : ℕ) → P (refusal_of_time kept t)
  unfolding refusal_of_time
  time_by p q kept t = refused_or _ 22 _ p (refused_or _ 23 none q allowed)

-- the step of a sound record is 50 or 100
pub sound_step : (v : Venue) → T (sound v) → T (is_step (v.market.step))
unfolding sound
sound_step v t = (conj_T (venue_conditions v) t).1.1.1.1.1.0

-- what the refusals of its terms leave of an entry; what counts as its limit is legal at the step
abbrev pub TermsAllowed : ℕ → Entry → Type 0
TermsAllowed step e = record { limit : T (legal step (limit_of e.mark e.price)); least : 1 ≤ e.shares; most : e.shares ≤ most_shares }

-- what those of its codes leave
abbrev pub CodesAllowed : Entry → Type 0
CodesAllowed e = record { mark : e.mark ≤ 3; show : e.show ≤ 1; life : e.life ≤ 1; slide : T (slide_allowed e.mark e.slide) }

-- what those of its owner leave
abbrev pub OwnerAllowed : ℕ → Type 0
OwnerAllowed k = record { least : 1 ≤ k; most : k ≤ most_owner }

-- what those of its place leave
abbrev pub PlaceAllowed : Venue → Entry → Type 0
PlaceAllowed v e = record { new_id : v.last_id < e.id; has_place : EntryHasPlace v e }

-- what those of its price and its time leave of a timed price
abbrev pub TimedAllowed : Venue → TimedPrice → Type 0
TimedAllowed v x =
    record { price : T (legal (v.market.step) x.price); time : last_time v.kept ≤ x.time; few : length (within x.time v.kept) < most_kept }

-- what an entry of either kind has, and what the refusals of its kind leave of an event
abbrev pub EntryAllowed : Venue → Entry → Type 0
EntryAllowed v e = record { terms : TermsAllowed (v.market.step) e; codes : CodesAllowed e; place : PlaceAllowed v e }

abbrev pub Allowed : Venue → Event → Type 0
Allowed v (entry e) = EntryAllowed v e
Allowed v (cancel i) = T (rests (find i v.orders))
Allowed v (bid b) = T (is_bid (v.market.step) b)
Allowed v (tape p) = T (legal (v.market.step) p)
Allowed v (day_end c) = T (legal (v.market.step) c)
Allowed v (owned_entry e k) = EntryAllowed v e × OwnerAllowed k
Allowed v (timed_tape x) = TimedAllowed v x

-- what all refusals leave; n is the length of the lent report buffer
pub record NotRefused (v : Venue) (e : Event) (n : ℕ) : Type 0 where
  pub sound : T (sound v)
  pub buffer : least_buffer ≤ n
  pub events : v.accepted_events < most_events
  pub allowed : Allowed v e

-- P, where there is no refusal
abbrev pub Unless : Option ℕ → Type 0 → Type 0
Unless none P = P
Unless (some n) P = Unit {0}

refuse_unless_known : (P : Type 0) (b : Bool) (n : ℕ) (later : Option ℕ) → (T b → Unless later P) → Unless (refuse_unless b n later) P
unfolding refuse_unless
refuse_unless_known P true n later h = h tt
refuse_unless_known P false n later h = tt

unless_map : (P Q : Type 0) → (P → Q) → (r : Option ℕ) → Unless r P → Unless r Q
unless_map P Q f none h = f h
unless_map P Q f (some n) h = tt

first_of_known : (P Q : Type 0) (r later : Option ℕ) → Unless r P → (P → Unless later Q) → Unless (first_of r later) Q
unfolding first_of
first_of_known P Q none later h f = f h
first_of_known P Q (some n) later h f = tt

limit_legal : (s : ℕ) → T (is_step s) → (mark price : ℕ) → T (is_market price || legal s price) → T (legal s (limit_of mark price))
unfolding limit_of
limit_legal s is mark price h =
    by_test (λ (x : ℕ). T (legal s x)) _ (λ z. by_test (λ (x : ℕ). T (legal s x)) _ (λ y. highest_legal s is) (λ y. one_legal s)) (λ z. go z (or_T (is_market price) (legal s price) h))
  where
    go : T (not (is_market price)) → T (is_market price) ⊎ T (legal s price) → T (legal s price)
    go z (inl x) = absurd (T_not (is_market price) z x)
    go z (inr x) = x

refusal_of_terms_known : (s : ℕ) → T (is_step s) → (e : Entry) → Unless (refusal_of_terms s e.price e.shares) (TermsAllowed s e)
unfolding refusal_of_terms
refusal_of_terms_known s is e =
    refuse_unless_known _ _ _ _ (λ p. refuse_unless_known _ (leb 1 e.shares) _ _ (λ a. refuse_unless_known _ (leb e.shares most_shares) _ none (λ b. record { limit = limit_legal s is e.mark e.price p; least = leb→le _ _ a; most = leb→le _ _ b })))

refusal_of_codes_known : (e : Entry) → Unless (refusal_of_codes e) (CodesAllowed e)
unfolding refusal_of_codes
refusal_of_codes_known e =
    refuse_unless_known _ _ _ _ (λ m.
    refuse_unless_known _ _ _ _ (λ s.
    refuse_unless_known _ _ _ _ (λ l.
    refuse_unless_known _ (leb e.slide 3) _ _ (λ c.
    refuse_unless_known _ _ _ none (λ r. record { mark = leb→le _ _ m; show = leb→le _ _ s; life = leb→le _ _ l; slide = T_and (leb e.slide 3) _ c r })))))

refusal_of_owner_known : (k : ℕ) → Unless (refusal_of_owner k) (OwnerAllowed k)
unfolding refusal_of_owner
refusal_of_owner_known k =
    refuse_unless_known _ (leb 1 k) _ _ (λ a. refuse_unless_known _ (leb k most_owner) _ none (λ b. record { least = leb→le _ _ a; most = leb→le _ _ b }))

-- an order has a place, or needs none, by the test
place_there : (life count : ℕ) → T (ltb count most_orders || eqb life 1) → HasPlace life count
place_there life count t day = go (or_T (ltb count most_orders) (eqb life 1) t)
  where
    go : T (ltb count most_orders) ⊎ T (eqb life 1) → count < most_orders
    go (inl x) = leb→le _ _ x
    go (inr x) = absurd (day (eqb→eq life 1 x))

-- and so it is where no more orders rest
pub place_kept : {life count fewer : ℕ} → HasPlace life count → fewer ≤ count → HasPlace life fewer
place_kept h l day = omega (arith, h day, l)

refusal_of_place_known : (v : Venue) (e : Entry) → Unless (refusal_of_place v e) (PlaceAllowed v e)
unfolding refusal_of_place
refusal_of_place_known v e =
    refuse_unless_known _ _ _ _ (λ i. refuse_unless_known _ _ _ none (λ r. record { new_id = leb→le _ _ i; has_place = place_there _ (length v.orders) r }))

-- an entry's, with what those of its owner leave
refusal_of_entry_known : (v : Venue) → T (is_step (v.market.step)) → (e : Entry) (P : Type 0) (of_owner : Option ℕ) → Unless of_owner P → Unless (refusal_of_entry v e of_owner) (EntryAllowed v e × P)
unfolding refusal_of_entry
refusal_of_entry_known v is e P of_owner h =
    first_of_known _ _ _ _ (refusal_of_terms_known (v.market.step) is e) (λ t.
    first_of_known _ _ _ _ (refusal_of_codes_known e) (λ c.
    first_of_known _ _ _ _ h (λ o.
    unless_map _ _ (λ p. (record { terms = t; codes = c; place = p }, o)) (refusal_of_place v e) (refusal_of_place_known v e))))

pub refusal_of_kind_known : (v : Venue) → T (is_step (v.market.step)) → (e : Event) → Unless (refusal_of_kind v e) (Allowed v e)
unfolding refusal_of_kind refusal_of_time
refusal_of_kind_known v is (entry e) = unless_map _ _ (λ k. k.0) (refusal_of_entry v e none) (refusal_of_entry_known v is e (Unit {0}) none tt)
refusal_of_kind_known v is (cancel i) = refuse_unless_known _ _ _ none (λ t. t)
refusal_of_kind_known v is (bid b) = refuse_unless_known _ _ _ none (λ t. t)
refusal_of_kind_known v is (tape p) = refuse_unless_known _ _ _ none (λ t. t)
refusal_of_kind_known v is (day_end c) = refuse_unless_known _ _ _ none (λ t. t)
refusal_of_kind_known v is (owned_entry e k) = refusal_of_entry_known v is e (OwnerAllowed k) (refusal_of_owner k) (refusal_of_owner_known k)
refusal_of_kind_known v is (timed_tape x) =
    refuse_unless_known _ _ _ _ (λ p. refuse_unless_known _ (leb (last_time v.kept) x.time) _ _ (λ t. refuse_unless_known _ (ltb (length (within x.time v.kept)) most_kept) _ none (λ f. record { price = p; time = leb→le _ _ t; few = leb→le _ _ f })))

pub refusal_known : (v : Venue) (e : Event) (n : ℕ) → Unless (refusal v e n) (NotRefused v e n)
unfolding refusal
refusal_known v e n =
    refuse_unless_known _ _ _ _ (λ s. refuse_unless_known _ _ _ _ (λ b. refuse_unless_known _ _ _ _ (λ a. unless_map _ _ (λ k. record { sound = s; buffer = leb→le _ _ b; events = leb→le _ _ a; allowed = k }) (refusal_of_kind v e) (refusal_of_kind_known v (sound_step v s) e))))

pub none_known : (v : Venue) (e : Event) (n : ℕ) → refusal v e n ≡ none → NotRefused v e n
none_known v e n r = subst (λ (x : Option ℕ). Unless x (NotRefused v e n)) r (refusal_known v e n)
