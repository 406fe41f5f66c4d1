-- What a new bid and a tape price report and leave: the start of the restriction, the pass, and the end of the event. Assumes nothing.
use Prim.Native.Nat.{ℕ, ◌+◌, ◌≤◌, ◌<◌}
use native.Mathlib.Omega.{arith}
use mathlib.Core.Path.{◌≡◌, sym, ap, ap₂, ◌∙◌, subst}
use mathlib.Core.List.{List, [], ◌∷◌, ◌++◌}
use lib.Dec.{T}
use lib.ListN.{length, get_or}
use Rattle.numbers.specs.SevenBit.{Put}
use Rattle.numbers.proofs.TestLaws.{pick_yes, pick_no, eq→T, ne→T}
use Rattle.numbers.proofs.WriteLaws.{put_then}
use Rattle.prices.specs.Prices.{is_bid}
use Rattle.prices.proofs.RestrictionLaws.{tape_phase}
use Rattle.book.specs.rules.Words.{resting}
use Rattle.engine.specs.declared.Market.{Market}
use Rattle.engine.specs.declared.Event.TheVariants.{Bid as bid, Tape as tape}
use Rattle.engine.specs.rules.Market.{market_after}
use Rattle.engine.specs.rules.Reports.{restriction_starts}
use Rattle.engine.specs.rules.Pass.{Effect, pass_over}
use Rattle.engine.specs.rules.Venue.{Venue, the_pass, restriction_report, effect_of_tape, effect_of}
use Rattle.engine.specs.rules.Sound.{most_events, sound}
use Rattle.engine.specs.rules.Records.{reports_bytes}
use Rattle.engine.specs.steps.Memory.{Becomes, Room, DoesEffect, in_market, with_orders, finished, effect_in, MayAccept, AcceptsFrom, Accepts}
use Rattle.engine.specs.rules.Layout.{venue_of}
use Rattle.engine.specs.steps.Steps.{ids_of, pass_in, PassesAndFinishes}
use Rattle.engine.proofs.refinement.MemoryLaws.{becomes_then, becomes_as, does_becomes}
use Rattle.engine.proofs.demand3.SoundLaws.{SoundMarket, sound_venue, venue_sound}
use Rattle.engine.proofs.refinement.StepLaws.{reports_append, put_as, room_as, room_first, room_then}

-- the report of the restriction

pub restriction_same : (k m : Market) → k.phase ≡ m.phase → restriction_report k m ≡ []
unfolding restriction_report
restriction_same k m e = pick_yes _ _ _ (eq→T e)

pub restriction_new : (k m : Market) → (k.phase ≡ m.phase → ⊥) → restriction_report k m ≡ restriction_starts ∷ []
unfolding restriction_report
restriction_new k m n = pick_no _ _ _ (ne→T k.phase m.phase n)

-- the pass in the market of the words, and the end of the event

last_stamp_lem : (w : List ℕ) {s : ℕ} → s ≡ get_or w 5 0 → s ≡ (venue_of w).last_stamp
unfolding venue_of
last_stamp_lem w e = e

last_id_lem : (w : List ℕ) {i : ℕ} → i ≡ get_or w 4 0 → i ≡ (venue_of w).last_id
unfolding venue_of
last_id_lem w e = e

module _ (w : List ℕ) (a : MayAccept w) (m : Market) (s : ℕ) (em : m ≡ (venue_of w).market) (es : s ≡ get_or w 5 0) where
  abbrev Pass : Effect
  Pass = pass_over m (ids_of (resting w)) (resting w) s

  the_pass_lem : Pass ≡ pass_in w
  unfolding the_pass venue_of
  the_pass_lem = ap₂ (λ (x : Market) (k : ℕ). pass_over x (ids_of (resting w)) (resting w) k) em es

  pub pass_may : (b : List ℕ) (at : ℕ) → Room b at (pass_in w).reports → T (is_bid m.step m.bid) × (s + 256 < 4294967296) × Room b at Pass.reports
  pass_may b at r =
      let v = sound_venue (venue_of w) a.sound in
      (subst (λ (x : Market). T (is_bid x.step x.bid)) (sym em) v.market.bid, omega (arith, last_stamp_lem w es, v.stamps, a.events), room_as b at (ap (λ (x : Effect). x.reports) (sym the_pass_lem)) r)

  module _ {w₁ b b₁ : List ℕ} {at e t : ℕ} (d : DoesEffect w w₁ b b₁ at Pass e t) where
    passed : Becomes w w₁ (with_orders Pass.orders (venue_of w))
    passed = does_becomes d.does

    pub pass_counts : (venue_of w₁).accepted_events < most_events
    pass_counts = rw passed.venue a.events

    pub pass_finishes : {w' : List ℕ} {id : ℕ} → id ≡ get_or w 4 0 → Becomes w₁ w' (finished id t (venue_of w₁)) → PassesAndFinishes w w' b b₁ at e
    pass_finishes {id = id} ei f =
        let p : t ≡ (pass_in w).stamp = d.stamped ∙ ap (λ (x : Effect). x.stamp) the_pass_lem in
        let q : id ≡ (venue_of w).last_id = last_id_lem w ei in
        record {
          becomes = becomes_as (becomes_then passed f) (ap (finished id t) passed.venue ∙ (λ i. finished (q i) (p i) (with_orders (the_pass_lem i).orders (venue_of w))));
          wrote = put_as (ap (λ (x : Effect). reports_bytes x.reports) the_pass_lem) d.does.wrote;
        }

-- the words in a new market

module _ {w w₁ : List ℕ} {m : Market} (f : Becomes w w₁ (in_market m (venue_of w))) where
  moved_accepts : MayAccept w → m.step ≡ (venue_of w).market.step → SoundMarket m → MayAccept w₁
  moved_accepts a k g =
      let v = sound_venue (venue_of w) a.sound in
      record {
        ordered = f.ordered;
        sound = subst (λ (u : Venue). T (sound u)) (sym f.venue) (venue_sound (in_market m (venue_of w)) (record { book = rw k v.book; market = g; kept = rw k v.kept; events = v.events; stamps = v.stamps }));
        events = rw f.venue a.events;
      }

  new_pass : pass_in w₁ ≡ the_pass m (venue_of w)
  unfolding the_pass
  new_pass = ap (λ (u : Venue). the_pass u.market u) f.venue

  news_end : {w' b b' : List ℕ} {at e : ℕ} → PassesAndFinishes w₁ w' b b' at e → Becomes w w' (finished (venue_of w).last_id (the_pass m (venue_of w)).stamp (with_orders (the_pass m (venue_of w)).orders (in_market m (venue_of w))))
  news_end p =
      becomes_as (becomes_then f p.becomes) (λ i. finished (f.venue i).last_id (new_pass i).stamp (with_orders (new_pass i).orders (f.venue i)))

-- a new bid

module _ (w : List ℕ) (x : ℕ) (m : Market) (e : m ≡ market_after (bid x) (venue_of w).market) where
  bid_effect : the_pass m (venue_of w) ≡ effect_in w (bid x)
  unfolding effect_in effect_of
  bid_effect = ap (λ (y : Market). the_pass y (venue_of w)) e

  bid_sound : MayAccept w → T (is_bid (venue_of w).market.step x) → SoundMarket m
  bid_sound a t =
      let g = (sound_venue (venue_of w) a.sound).market in
      subst SoundMarket (sym e) (record { step = g.step; phase = g.phase; close = g.close; bid = t })

  module _ {w₁ : List ℕ} (f : Becomes w w₁ (in_market m (venue_of w))) where
    pub bid_may : MayAccept w → T (is_bid (venue_of w).market.step x) → (b : List ℕ) → Room b 0 (effect_in w (bid x)).reports → MayAccept w₁ × Room b 0 (pass_in w₁).reports
    bid_may a t b r =
        (moved_accepts f a (ap (λ (y : Market). y.step) e) (bid_sound a t), room_as b 0 (ap (λ (y : Effect). y.reports) (sym (new_pass f ∙ bid_effect))) r)

    pub bid_done : {w' b b' : List ℕ} {end : ℕ} → PassesAndFinishes w₁ w' b b' 0 end → Accepts w w' b b' (bid x) end
    bid_done p =
        let q = news_end f p in
        record {
          ordered = q.ordered;
          venue = q.venue ∙ (λ i. finished (venue_of w).last_id (bid_effect i).stamp (with_orders (bid_effect i).orders (in_market (e i) (venue_of w))));
          same = q.same;
          wrote = put_as (ap (λ (y : Effect). reports_bytes y.reports) (new_pass f ∙ bid_effect)) p.wrote;
        }

-- a tape price; k is the market before it

module _ (w : List ℕ) (x : ℕ) (k m : Market) (ek : k ≡ (venue_of w).market) (em : m ≡ market_after (tape x) k) where
  after_tape_lem : m ≡ market_after (tape x) (venue_of w).market
  after_tape_lem = em ∙ ap (market_after (tape x)) ek

  tape_effect : effect_of_tape m (venue_of w) ≡ effect_in w (tape x)
  unfolding effect_in effect_of
  tape_effect = ap (λ (y : Market). effect_of_tape y (venue_of w)) after_tape_lem

  tape_reports : (effect_in w (tape x)).reports ≡ restriction_report k m ++ (the_pass m (venue_of w)).reports
  tape_reports =
      ap (λ (y : Effect). y.reports) (sym tape_effect) ∙ ap (λ (y : Market). restriction_report y m ++ (the_pass m (venue_of w)).reports) (sym ek)

  tape_sound : MayAccept w → SoundMarket m
  tape_sound a =
      let g = (sound_venue (venue_of w) a.sound).market in
      let v = (venue_of w).market in
      subst SoundMarket (sym after_tape_lem) (record { step = g.step; phase = tape_phase v.close v.phase x g.phase; close = g.close; bid = g.bid })

  module _ (b : List ℕ) (at : ℕ) (r : Room b at (effect_in w (tape x)).reports) where
    both : Room b at (restriction_report k m ++ (the_pass m (venue_of w)).reports)
    both = room_as b at tape_reports r

    pub tape_first : Room b at (restriction_report k m)
    tape_first = room_first b at (restriction_report k m) (the_pass m (venue_of w)).reports both

    module _ {b₁ w₁ : List ℕ} {m₁ : ℕ} (put : Put (reports_bytes (restriction_report k m)) at b m₁ b₁) (f : Becomes w w₁ (in_market m (venue_of w))) where
      pub tape_may : MayAccept w → MayAccept w₁ × Room b₁ m₁ (pass_in w₁).reports
      tape_may a =
          (moved_accepts f a (ap (λ (y : Market). y.step) after_tape_lem) (tape_sound a), room_as b₁ m₁ (ap (λ (y : Effect). y.reports) (sym (new_pass f))) (room_then (restriction_report k m) (the_pass m (venue_of w)).reports both put))

      tape_wrote : {b' : List ℕ} {end : ℕ} → Put (reports_bytes (pass_in w₁).reports) m₁ b₁ end b' → Put (reports_bytes (effect_in w (tape x)).reports) at b end b'
      tape_wrote p =
          let xs = restriction_report k m in
          let ys = (the_pass m (venue_of w)).reports in
          let h : at + length (reports_bytes xs ++ reports_bytes ys) ≤ length b = omega (arith, both, ap length (reports_append xs ys)) in
          put_as (sym (ap reports_bytes tape_reports ∙ reports_append xs ys)) (put_then (reports_bytes ys) h put (put_as (ap (λ (y : Effect). reports_bytes y.reports) (new_pass f)) p))

      pub tape_done : {w' b' : List ℕ} {end : ℕ} → PassesAndFinishes w₁ w' b₁ b' m₁ end → AcceptsFrom w w' b b' (tape x) at end
      tape_done p =
          let q = news_end f p in
          record {
            ordered = q.ordered;
            venue = q.venue ∙ (λ i. finished (venue_of w).last_id (tape_effect i).stamp (with_orders (tape_effect i).orders (in_market (after_tape_lem i) (venue_of w))));
            same = q.same;
            wrote = tape_wrote p.wrote;
          }
