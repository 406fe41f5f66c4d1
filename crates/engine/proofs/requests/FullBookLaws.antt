-- No. 8: an entry that needs no place no longer meets 7, nothing else changes, and such an entry takes none. Assumes nothing.
use Prim.Native.Nat.{ℕ, ◌+◌, ◌<◌, min}
use native.Mathlib.Omega.{arith}
use mathlib.Core.Path.{◌≡◌, refl, sym, ap, ◌∙◌, subst}
use mathlib.Core.Bool.{Bool, true, false, not, ◌&&◌, ◌||◌}
use mathlib.Core.List.{List, Memᴰ}
use mathlib.Core.Option.{Option, none, some}
use lib.Dec.{T, ltb, eqb, eqb→eq}
use lib.ListN.{length}
use borrow.Author.Tests.{lt-ltb}
use Rattle.numbers.specs.Tests.{pick}
use Rattle.numbers.specs.Answers.{Outcome, gives, refuses}
use Rattle.numbers.proofs.TestLaws.{by_test, and_T, all_map}
use Rattle.book.specs.declared.Order.{Order}
use Rattle.book.specs.rules.Matching.{Meeting, Matched, trading, withdrawing, meeting, matching}
use Rattle.book.specs.rules.Words.{resting}
use Rattle.book.proofs.definitions.OrderLaws.{Distinct, without_all, without_length, all_members, find_mem}
use Rattle.book.proofs.definitions.MeetingLaws.{meeting_by}
use Rattle.book.proofs.definitions.MatchingLaws.{after_trade_all, after_trade-length, meeting_distinct, matching_keeps, unread}
use Rattle.engine.specs.declared.Entry.{Entry}
use Rattle.engine.specs.declared.Event.{Event}
use Rattle.engine.specs.declared.Event.TheVariants.{Entry as entry, Cancel as cancel, Bid as bid, Tape as tape, DayEnd as day_end, OwnedEntry as owned_entry, TimedTape as timed_tape}
use Rattle.engine.specs.declared.Remainder.{Remainder}
use Rattle.engine.specs.declared.Remainder.TheVariants.{Filled, Cancelled, Rests}
use Rattle.engine.specs.rules.Market.{restricted}
use Rattle.engine.specs.rules.Reports.{Report}
use Rattle.engine.specs.rules.Working.{is_market, follows_bid, life_of, order_of, remainder, after_remainder, work}
use Rattle.engine.specs.rules.Venue.{Venue, entering, effect_of_entry, effect_of}
use Rattle.engine.specs.rules.Sound.{most_orders}
use Rattle.engine.specs.rules.Refusals.{refuse_unless, first_of, refusal_of_terms, refusal_of_codes, refusal_of_owner, needs_no_place, refusal_of_place, refusal_of_entry, rests, refusal_of_kind, refusal}
use Rattle.engine.specs.rules.Run.{step_unless, step}
use Rattle.engine.specs.rules.Layout.{venue_of, step_in}
use Rattle.engine.specs.claims.Calls.{refusal_given}
use Rattle.engine.specs.claims.OtherRefusals.{kind_with, refusal_with, step_with, step_in_with}
use Rattle.engine.specs.claims.FullBook.{NoPlaceByTerms, event_needs_no_place, before_no8, without7, NewlyAccepted, Rested, NoPlaceTaken, RemainingMeet7, OnlyRemainingMeet7, OnlyRemainingMeet7InCalls}
use Rattle.engine.proofs.refinement.RefusalLaws.{terms_by, codes_by, owner_by, none_known}
use Rattle.engine.proofs.demand3.SoundLaws.{RemainderOf, remainder_known, SoundVenue, sound_venue, book_distinct}
use Rattle.engine.proofs.requests.WordStepLaws.{step_given, count_given, gives_refuses, count_gives, count_refuses, in_words, call_does}

-- who needs no place

life_told : (market follows : Bool) (life : ℕ) → eqb (pick (market && not (market && follows)) 1 life) 1 ≡ (eqb life 1 || (market && not follows))
unfolding pick
life_told market follows life = go market follows (eqb life 1) refl
  where
    go : (m f b : Bool) → eqb life 1 ≡ b → eqb (pick (m && not (m && f)) 1 life) 1 ≡ (b || (m && not f))
    go true true true h = h
    go true true false h = h
    go true false true h = refl
    go true false false h = refl
    go false f true h = h
    go false f false h = h

pub no_place_by_terms : NoPlaceByTerms
unfolding life_of follows_bid
no_place_by_terms m e = life_told (is_market e.price) (restricted m e.mark && ltb 0 m.bid) e.life

-- a chain without 7

module _ (no_place : Bool) where
  -- a refusal, or a part of the chain, is the same without 7
  abbrev Stays : Option ℕ → Type 0
  Stays r = r ≡ without7 no_place r

  other_stays : (n : ℕ) → eqb n 7 ≡ false → Stays (some n)
  unfolding pick
  other_stays n h = go no_place
    where
      go : (y : Bool) → some n ≡ pick (y && eqb n 7) none (some n)
      go true = rw h
      go false = refl

  terms_stay : (s price shares : ℕ) → Stays (refusal_of_terms s price shares)
  terms_stay = terms_by Stays refl (other_stays 3 refl) (other_stays 4 refl)

  codes_stay : (e : Entry) → Stays (refusal_of_codes e)
  codes_stay = codes_by Stays refl (other_stays 18 refl) (other_stays 5 refl) (other_stays 19 refl) (other_stays 20 refl)

  owner_stays : (k : ℕ) → Stays (refusal_of_owner k)
  owner_stays = owner_by Stays refl (other_stays 21 refl)

  later_without7 : (b : Bool) (n : ℕ) (later before : Option ℕ) → eqb n 7 ≡ false → later ≡ without7 no_place before → refuse_unless b n later ≡ without7 no_place (refuse_unless b n before)
  unfolding refuse_unless
  later_without7 true n later before k h = h
  later_without7 false n later before k h = other_stays n k

  first_without7 : (r later before : Option ℕ) → Stays r → later ≡ without7 no_place before → first_of r later ≡ without7 no_place (first_of r before)
  unfolding first_of
  first_without7 none later before k h = h
  first_without7 (some n) later before k h = k

  -- the place itself
  full_without7 : (few : Bool) → refuse_unless (few || no_place) 7 none ≡ without7 no_place (refuse_unless few 7 none)
  unfolding refuse_unless pick
  full_without7 few = go few no_place
    where
      go : (f y : Bool) → refuse_unless (f || y) 7 none ≡ without7 y (refuse_unless f 7 none)
      go true y = refl
      go false true = refl
      go false false = refl

-- of the refusals

entry_without7 : (v : Venue) (e : Entry) (of_owner : Option ℕ) → Stays (needs_no_place v.market e) of_owner → refusal_of_entry v e of_owner ≡ without7 (needs_no_place v.market e) (before_no8 v e of_owner)
unfolding refusal_of_entry refusal_of_place
entry_without7 v e of_owner h =
    let n : Bool = needs_no_place v.market e in
    first_without7 n _ _ _ (terms_stay n (v.market.step) e.price e.shares) (first_without7 n _ _ _ (codes_stay n e) (first_without7 n _ _ _ h (later_without7 n _ 6 _ _ refl (full_without7 n _))))

-- of any other event nothing is left out
nothing_left_out : (r : Option ℕ) → r ≡ without7 false r
unfolding pick
nothing_left_out none = refl
nothing_left_out (some n) = refl

kind_without7 : (v : Venue) (x : Event) → refusal_of_kind v x ≡ without7 (event_needs_no_place v.market x) (kind_with before_no8 v x)
unfolding refusal_of_kind
kind_without7 v (entry e) = entry_without7 v e none refl
kind_without7 v (cancel i) = nothing_left_out _
kind_without7 v (bid b) = nothing_left_out _
kind_without7 v (tape p) = nothing_left_out _
kind_without7 v (day_end c) = nothing_left_out _
kind_without7 v (timed_tape p) = nothing_left_out _
kind_without7 v (owned_entry e k) = entry_without7 v e (refusal_of_owner k) (owner_stays (needs_no_place v.market e) k)

refusal_without7 : (v : Venue) (x : Event) (b : ℕ) → refusal v x b ≡ without7 (event_needs_no_place v.market x) (refusal_with before_no8 v x b)
unfolding refusal
refusal_without7 v x b =
    let n : Bool = event_needs_no_place v.market x in
    later_without7 n _ 16 _ _ refl (later_without7 n _ 1 _ _ refl (later_without7 n _ 2 _ _ refl (kind_without7 v x)))

-- what is refused now was refused so before; what isn't, and was, needs no place and was refused with 7

given_before : (no_place : Bool) (r : Option ℕ) (n : ℕ) → without7 no_place r ≡ some n → r ≡ some n
given_before no_place none n = λ h. h
given_before no_place (some k) n =
    by_test (λ (r : Option ℕ). r ≡ some n → some k ≡ some n) _ (λ t h. let y : ◌≡◌ {A = ℕ} 0 1 = cc in absurd (omega arith)) (λ t h. h)

none_now : (no_place : Bool) (n : ℕ) → without7 no_place (some n) ≡ none → T no_place × (n ≡ 7)
none_now no_place n =
    by_test
    (λ (r : Option ℕ). r ≡ none → T no_place × (n ≡ 7))
    _
    (λ t h. let a = and_T no_place (eqb n 7) t in (a.0, eqb→eq n 7 a.1))
    (λ t h. let y : ◌≡◌ {A = ℕ} 0 1 = cc in absurd (omega arith))

-- where there is room, nothing changes

module _ (v : Venue) (h : length v.orders < most_orders) where
  entry_with_room : (e : Entry) (of_owner : Option ℕ) → before_no8 v e of_owner ≡ refusal_of_entry v e of_owner
  unfolding refusal_of_entry refusal_of_place
  entry_with_room e of_owner = simp (lt-ltb (length v.orders) most_orders h)

  kind_with_room : (x : Event) → kind_with before_no8 v x ≡ refusal_of_kind v x
  unfolding refusal_of_kind
  kind_with_room (entry e) = entry_with_room e none
  kind_with_room (cancel i) = refl
  kind_with_room (bid b) = refl
  kind_with_room (tape p) = refl
  kind_with_room (day_end c) = refl
  kind_with_room (timed_tape p) = refl
  kind_with_room (owned_entry e k) = entry_with_room e (refusal_of_owner k)

  refusal_with_room : (x : Event) (b : ℕ) → refusal_with before_no8 v x b ≡ refusal v x b
  unfolding refusal
  refusal_with_room x b = rw (kind_with_room x)

-- no place is taken

-- an immediate order works, and has taken none so far: os are left of the orders before
record NoneTaken (before : List Order) (w : Order) (os : List Order) : Type 0 where
  life : w.life ≡ 1
  distinct : Distinct os
  taken : NoPlaceTaken before os

module _ {before : List Order} where
  meeting_takes_none : (w o : Order) (os : List Order) → Memᴰ o os → NoneTaken before w os → NoneTaken before (meeting w o os).left (meeting w o os).orders
  unfolding trading withdrawing
  meeting_takes_none w o os m k =
      let q : ℕ = min w.shares o.shares in
      let d = k.distinct in
      let t = k.taken in
      meeting_by
      (λ (x : Meeting). Distinct x.orders → NoneTaken before x.left x.orders)
      w
      o
      os
      (λ e. record { life = k.life; distinct = e; taken = record { no_more = omega (arith, without_length o.id os, t.no_more); rested = without_all (Rested before) o.id os t.rested } })
      (λ e. record { life = k.life; distinct = e; taken = record { no_more = omega (arith, after_trade-length q m d, t.no_more); rested = after_trade_all q m d (Rested before) (λ z j i h. h) t.rested } })
      (meeting_distinct w o os m d)

  remainder_takes_none : (x : Remainder) (w : Order) (os : List Order) → RemainderOf w x → NoneTaken before w os → NoPlaceTaken before (after_remainder x w os).orders
  unfolding after_remainder
  remainder_takes_none Filled w os h k = k.taken
  remainder_takes_none (Cancelled cause) w os h k = k.taken
  remainder_takes_none Rests w os h k = absurd (h.1 k.life)

  work_takes_none : (w : Order) (os : List Order) → NoneTaken before w os → NoPlaceTaken before (work w os).orders
  unfolding work
  work_takes_none w os k =
      let m : Matched = matching w os in
      remainder_takes_none (remainder m.left) m.left m.orders (remainder_known m.left) (matching_keeps unread (λ x y a. NoneTaken before x y) (λ x o y a g i. meeting_takes_none x o y g.0 i) w os tt k)

-- at the start
rested_there : (os : List Order) → Distinct os → (o : Order) → Memᴰ o os → Rested os o
unfolding rests
rested_there os d o m = rw (find_mem m d) tt

all_rested : (os : List Order) → Distinct os → NoPlaceTaken os os
all_rested os d = record { no_more = omega arith; rested = all_map (rested_there os d) os (all_members os) }

module _ (v : Venue) (s : SoundVenue v) where
  entry_takes_none : (e : Entry) (k : ℕ) → T (needs_no_place v.market e) → NoPlaceTaken v.orders (effect_of_entry v.market v k e).orders
  unfolding effect_of_entry entering order_of
  entry_takes_none e k t =
      let d = book_distinct s.book in
      work_takes_none (order_of v.market (v.last_stamp + 1) k e) v.orders (record { life = eqb→eq (life_of v.market e.mark e.price e.life) 1 t; distinct = d; taken = all_rested v.orders d })

  event_takes_none : (x : Event) → T (event_needs_no_place v.market x) → NoPlaceTaken v.orders (step_unless none v x).venue.orders
  unfolding step_unless effect_of
  event_takes_none (entry e) t = entry_takes_none e 0 t
  event_takes_none (cancel i) t = absurd t
  event_takes_none (bid b) t = absurd t
  event_takes_none (tape p) t = absurd t
  event_takes_none (day_end c) t = absurd t
  event_takes_none (timed_tape p) t = absurd t
  event_takes_none (owned_entry e k) t = entry_takes_none e k t

-- of an event

module _ (v : Venue) (x : Event) (b : ℕ) where
  abbrev no_place : Bool
  no_place = event_needs_no_place v.market x

  abbrev refusal_before : Option ℕ
  refusal_before = refusal_with before_no8 v x b

  now_given : (y : Outcome (List Report)) → (step v x b).answer ≡ y → refusal v x b ≡ refusal_given y
  unfolding step
  now_given y h = sym (step_given (refusal v x b) v x) ∙ ap refusal_given h

  before_given : (y : Outcome (List Report)) → (step_with before_no8 v x b).answer ≡ y → refusal_before ≡ refusal_given y
  before_given y h = sym (step_given refusal_before v x) ∙ ap refusal_given h

  step_by : (r : Option ℕ) → refusal v x b ≡ r → step v x b ≡ step_unless r v x
  unfolding step
  step_by r h = ap (λ (y : Option ℕ). step_unless y v x) h

  module _ (r : refusal v x b ≡ none) where
    known_sound : SoundVenue v
    known_sound = sound_venue v (none_known v x b r).sound

    takes_none : T no_place → NoPlaceTaken v.orders (step v x b).venue.orders
    takes_none t = rw (step_by none r) (event_takes_none v known_sound x t)

    -- it was refused before, so there is no room
    no_room : {n : ℕ} → refusal_before ≡ some n → length v.orders < most_orders → ⊥
    no_room h l = let e = sym h ∙ refusal_with_room v l x b ∙ r in let y : ◌≡◌ {A = ℕ} 0 1 = cc in omega arith

    newly_accepted_lem : (n : ℕ) → refusal_before ≡ some n → NewlyAccepted v x n (step v x b).venue.orders
    newly_accepted_lem n f =
        let q = none_now no_place n (ap (without7 no_place) (sym f) ∙ sym (refusal_without7 v x b) ∙ r) in
        let few = known_sound.book.few in
        record {
          refused_with7 = q.1;
          full = omega (arith, few, no_room f);
          no_place = q.0;
          at_most256 = omega (arith, (takes_none q.0).no_more, few);
        }

pub only_remaining_meet_7 : OnlyRemainingMeet7
unfolding step
only_remaining_meet_7 v x b =
    let n = no_place v x b in
    let r = refusal_without7 v x b in
    record {
      refusal = step_given (refusal v x b) v x ∙ r ∙ ap (without7 n) (sym (step_given (refusal_with before_no8 v x b) v x));
      accepted_before = λ rs h. let f = before_given v x b (gives rs) h in step_by v x b _ (r ∙ ap (without7 n) f ∙ sym f);
      refused_now = λ k h. let f = now_given v x b (refuses k) h in step_by v x b _ (f ∙ sym (given_before n _ k (sym r ∙ f)));
      newly_accepted = λ rs k h g. newly_accepted_lem v x b (now_given v x b (gives rs) h) k (before_given v x b (refuses k) g);
      no_place_taken = λ rs t h. takes_none v x b (now_given v x b (gives rs) h) t;
    }

-- of a call

in_call : (w : List ℕ) (x : Event) (n : ℕ) → RemainingMeet7 (venue_of w) x (step_in w x n) (step_in_with before_no8 w x n)
in_call w x n =
    let v = venue_of w in
    in_words
    (RemainingMeet7 v x)
    w
    x
    n
    (step_with before_no8 v x n)
    (only_remaining_meet_7 v x n)
    (record {
      refusal = other_stays (event_needs_no_place v.market x) 16 refl;
      accepted_before = λ rs h. refl;
      refused_now = λ k h. refl;
      newly_accepted = λ rs k h g. gives_refuses (sym h);
      no_place_taken = λ rs t h. gives_refuses (sym h);
    })

pub only_remaining_meet_7_in_calls : OnlyRemainingMeet7InCalls
unfolding venue_of
only_remaining_meet_7_in_calls w x b answer w' b' a =
    let now = step_in w x (length b) in
    let r = in_call w x (length b) in
    let after : resting w' ≡ now.venue.orders = ap (λ (v : Venue). v.orders) a.venue in
    let reports : (count : ℕ) → answer ≡ gives count → (rs : List Report) × (now.answer ≡ gives rs) = λ count h. count_gives now.answer count (sym h ∙ a.answers) in
    record {
      refusal = ap refusal_given a.answers ∙ count_given now.answer ∙ r.refusal;
      accepted_before = λ rs h. call_does a (r.accepted_before rs h);
      refused_now = λ n h. call_does a (r.refused_now n (count_refuses now.answer n (sym h ∙ a.answers)));
      newly_accepted = λ count n h g. let c = reports count h in subst (NewlyAccepted (venue_of w) x n) (sym after) (r.newly_accepted c.0 n c.1 g);
      no_place_taken = λ count t h. let c = reports count h in subst (NoPlaceTaken (resting w)) (sym after) (r.no_place_taken c.0 t c.1);
    }
