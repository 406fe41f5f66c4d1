-- What an accepted entry is made of. Assumes nothing.
use Prim.Native.Nat.{ℕ, zero, suc, ◌+◌, ◌^◌, ◌≤◌, ◌<◌}
use native.Mathlib.Omega.{arith}
use mathlib.Core.Path.{◌≡◌, refl, sym, ap, ◌∙◌, subst}
use mathlib.Core.List.{List, [], ◌∷◌}
use lib.Dec.{T}
use lib.ListN.{length}
use Rattle.numbers.specs.SevenBit.{Put}
use Rattle.numbers.proofs.TestLaws.{all_map}
use Rattle.prices.specs.Prices.{is_bid}
use Rattle.prices.specs.declared.TimedPrice.{TimedPrice}
use Rattle.book.specs.declared.Order.{Order}
use Rattle.book.specs.rules.Words.{resting}
use Rattle.engine.specs.declared.Entry.{Entry}
use Rattle.engine.specs.declared.Event.TheVariants.{OwnedEntry as owned_entry}
use Rattle.engine.specs.declared.Market.{Market}
use Rattle.engine.specs.rules.Market.{market_after}
use Rattle.engine.specs.rules.Reports.{Report, accepted}
use Rattle.engine.specs.rules.Records.{report_bytes, reports_bytes}
use Rattle.engine.specs.rules.Working.{order_of, work}
use Rattle.engine.specs.rules.Venue.{Venue, entering, effect_of_entry, effect_of, last_id_after, kept_after, venue_after}
use Rattle.engine.specs.steps.Memory.{Ordered, Becomes, Room, Does, with_orders, finished, effect_in, MayAccept, Accepts}
use Rattle.engine.specs.rules.Layout.{venue_of}
use Rattle.engine.specs.steps.Steps.{entry_by, HasPlace, EntryHasPlace, MayEnter}
use Rattle.engine.proofs.demand3.SoundLaws.{SoundVenue, sound_venue}
use Rattle.engine.proofs.refinement.MemoryLaws.{becomes_then, does_becomes}
use Rattle.engine.proofs.refinement.StepLaws.{room_as, room_first, room_one, room_then, put_one, does_report, does_then}

accept_sound : {w : List ℕ} → MayAccept w → SoundVenue (venue_of w)
accept_sound {w} a = sound_venue (venue_of w) a.sound

pub accept_bid : {w : List ℕ} → MayAccept w → T (is_bid (venue_of w).market.step (venue_of w).market.bid)
accept_bid a = (accept_sound a).market.bid

-- 256 more stamps are 32-bit numbers
pub accept_stamps : {w : List ℕ} → MayAccept w → (venue_of w).last_stamp + 256 < 2 ^ 32
accept_stamps a = omega (arith, (accept_sound a).stamps, a.events)

-- an entry of either kind, with its owner

by_market : (e : Entry) (k : ℕ) (m : Market) → market_after (entry_by e k) m ≡ m
by_market e zero m = refl
by_market e (suc k) m = refl

by_effect : (e : Entry) (k : ℕ) (m : Market) (v : Venue) → effect_of m v (entry_by e k) ≡ effect_of_entry m v k e
unfolding effect_of
by_effect e zero m v = refl
by_effect e (suc k) m v = refl

by_last : (e : Entry) (k : ℕ) (v : Venue) → last_id_after v (entry_by e k) ≡ e.id
by_last e zero v = refl
by_last e (suc k) v = refl

by_kept : (e : Entry) (k : ℕ) (kept : List TimedPrice) → kept_after (entry_by e k) kept ≡ kept
by_kept e zero kept = refl
by_kept e (suc k) kept = refl

-- one with an owner above 0 is of kind 6
pub by_owned : (e : Entry) (k : ℕ) → 1 ≤ k → entry_by e k ≡ owned_entry e k
by_owned e zero h = absurd (omega arith)
by_owned e (suc k) h = refl

module _ (w : List ℕ) (e : Entry) (k : ℕ) (o : Order) (q : o ≡ order_of (venue_of w).market ((venue_of w).last_stamp + 1) k e) where
  by_owner : effect_in w (entry_by e k) ≡ effect_of_entry (venue_of w).market (venue_of w) k e
  unfolding effect_in
  by_owner = rw (by_market e k (venue_of w).market) (by_effect e k (venue_of w).market (venue_of w))

  -- the reports of an entry
  pub entry_reports : (effect_in w (entry_by e k)).reports ≡ accepted o.id o.stamp o.price ∷ (work o (resting w)).reports
  unfolding entering effect_of_entry order_of venue_of
  entry_reports = rw (by_owner, q)

  pub entry_room : (b : List ℕ) → Room b 0 (effect_in w (entry_by e k)).reports → 0 + length (report_bytes (accepted o.id o.stamp o.price)) ≤ length b
  entry_room b r = room_one b 0 _ (room_first b 0 (accepted o.id o.stamp o.price ∷ []) (work o (resting w)).reports (room_as b 0 entry_reports r))

  -- it may enter
  pub entry_enters : MayAccept w → EntryHasPlace (venue_of w) e → (venue_of w).last_id < e.id → MayEnter o w
  unfolding venue_of order_of
  entry_enters a place new =
      record {
        ordered = a.ordered;
        apart = all_map (λ x h z. omega (arith, h.works.id, ap (λ (y : Order). y.id) q)) (resting w) (accept_sound a).book.orders;
        positive = omega (arith, ap (λ (y : Order). y.id) q);
        place = subst (λ (x : Order). HasPlace x.life (length (resting w))) (sym q) place;
      }

  pub work_room : {b b₁ : List ℕ} {at : ℕ} → Room b 0 (effect_in w (entry_by e k)).reports → Put (report_bytes (accepted o.id o.stamp o.price)) 0 b at b₁ → Room b₁ at (work o (resting w)).reports
  work_room {b} r p = room_then (accepted o.id o.stamp o.price ∷ []) _ (room_as b 0 entry_reports r) (put_one _ p)

  entry_after : finished o.id o.stamp (with_orders (work o (resting w)).orders (venue_of w)) ≡ venue_after (venue_of w) (entry_by e k) (effect_in w (entry_by e k))
  unfolding entering effect_of_entry order_of venue_of
  entry_after = rw (by_owner, by_market e k (venue_of w).market, by_last e k (venue_of w), by_kept e k (venue_of w).kept, q)

  -- and is accepted
  pub entry_done : {w₁ w₂ b b₁ b₂ : List ℕ} {at end : ℕ} → Ordered w → Room b 0 (effect_in w (entry_by e k)).reports → Put (report_bytes (accepted o.id o.stamp o.price)) 0 b at b₁ → Does w w₁ b₁ b₂ at (work o (resting w)).orders (work o (resting w)).reports end → Becomes w₁ w₂ (finished o.id o.stamp (venue_of w₁)) → Accepts w w₂ b b₂ (entry_by e k) end
  entry_done {w₁} {w₂} {b} {b₁} {b₂} {at} {end} g r p d f =
      let x : Does w w₁ b b₂ 0 (work o (resting w)).orders (accepted o.id o.stamp o.price ∷ (work o (resting w)).reports) end = does_then (room_as b 0 entry_reports r) (does_report _ g p) d in
      let u = becomes_then (does_becomes d) f in
      record {
        ordered = f.ordered;
        venue = f.venue ∙ ap (finished o.id o.stamp) (does_becomes d).venue ∙ entry_after;
        same = u.same;
        wrote = subst (λ (l : List Report). Put (reports_bytes l) 0 b end b₂) (sym entry_reports) x.wrote;
      }
