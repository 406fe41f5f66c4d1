-- What a timed price is refused for, reports and leaves: its time, report 7, the price kept, and then a tape price. Assumes nothing.
use Prim.Native.Nat.{ℕ, ◌+◌, ◌-◌, ◌≤◌, ◌<◌}
use native.Mathlib.Omega.{arith}
use mathlib.Core.Path.{◌≡◌, sym, ap, ◌∙◌, subst}
use mathlib.Core.List.{List, [], ◌∷◌, ◌++◌}
use mathlib.Core.Option.{Option, none}
use lib.Dec.{T}
use lib.ListN.{length, get_or, drop, length-drop}
use Rattle.numbers.specs.SevenBit.{Put}
use Rattle.numbers.proofs.TestLaws.{pick_yes, pick_no, eq→T, ne→T}
use Rattle.numbers.proofs.WriteLaws.{put_then}
use Rattle.prices.specs.declared.TimedPrice.{TimedPrice}
use Rattle.prices.specs.Pause.{within, keeping, most_kept, direction}
use Rattle.prices.specs.KeptWords.{kept_in, KeepsNew}
use Rattle.prices.specs.Prices.{highest}
use Rattle.prices.proofs.PriceLaws.{legal_out}
use Rattle.prices.proofs.PauseLaws.{sound_few, sound_ordered, keeping_sound}
use Rattle.prices.proofs.KeptWordLaws.{kept_length}
use Rattle.book.specs.rules.Words.{book_words}
use Rattle.engine.specs.declared.Event.TheVariants.{Tape as tape, TimedTape as timed_tape}
use Rattle.engine.specs.rules.Market.{market_after}
use Rattle.engine.specs.rules.Reports.{pause_triggered}
use Rattle.engine.specs.rules.Pass.{Effect}
use Rattle.engine.specs.rules.Venue.{Venue, with_kept, the_pass, direction_report, effect_of, venue_after}
use Rattle.engine.specs.rules.Sound.{sound}
use Rattle.engine.specs.rules.Refusals.{refusal_of_kind}
use Rattle.engine.specs.rules.Records.{reports_bytes}
use Rattle.engine.specs.rules.Layout.{venue_of}
use Rattle.engine.specs.steps.Memory.{Ordered, KeepsOrdered, Becomes, Room, effect_in, MayAccept, AcceptsFrom, Accepts}
use Rattle.engine.proofs.refinement.RefusalLaws.{TimedAllowed, Unless, sound_step, refusal_of_kind_known}
use Rattle.engine.proofs.refinement.MemoryLaws.{spare_then, becomes_then, becomes_as, new_kept}
use Rattle.engine.proofs.refinement.StepLaws.{reports_append, put_as, room_as, room_first, room_then}
use Rattle.engine.proofs.demand3.SoundLaws.{sound_venue, venue_sound}

-- the kept prices by their count
pub kept_by_count : (w : List ℕ) {n : ℕ} → n ≡ length (venue_of w).kept → kept_in w book_words n ≡ (venue_of w).kept
unfolding venue_of
kept_by_count w e = ap (kept_in w book_words) (e ∙ kept_length w book_words (get_or w 8 0))

-- report 7, by the direction

pub no_direction : (d p : ℕ) → d ≡ 0 → direction_report d p ≡ []
unfolding direction_report
no_direction d p e = pick_yes _ _ _ (eq→T e)

pub a_direction : (d p : ℕ) → (d ≡ 0 → ⊥) → direction_report d p ≡ pause_triggered d p ∷ []
unfolding direction_report
a_direction d p n = pick_no _ _ _ (ne→T d 0 n)

-- a new price behind those from a position on, counted
pub price_kept : {w w₁ w₂ : List ℕ} {from n : ℕ} {x : TimedPrice} → Ordered w → n ≡ length (venue_of w).kept → within x.time (venue_of w).kept ≡ drop from (venue_of w).kept → KeepsNew w w₁ book_words from n x → Becomes w₁ w₂ (with_kept (kept_in w₁ book_words (n - from + 1)) (venue_of w₁)) → Becomes w w₂ (with_kept (keeping x.time x.price (venue_of w).kept) (venue_of w))
unfolding keeping
price_kept {w} {w₁} {w₂} {from} {n} {x} o e q k f =
    let new = new_kept o k in
    let kept : kept_in w₁ book_words (n - from + 1) ≡ within x.time (venue_of w).kept ++ x ∷ [] = k.kept ∙ ap (λ (l : List TimedPrice). drop from l ++ x ∷ []) (kept_by_count w e) ∙ ap (λ (l : List TimedPrice). l ++ x ∷ []) (sym q) in
    becomes_as (becomes_then new f) (λ i. with_kept (kept i) (new.venue i))

-- a timed price that isn't refused

module _ (w : List ℕ) (x : TimedPrice) (a : MayAccept w) (none-given : refusal_of_kind (venue_of w) (timed_tape x) ≡ none) where
  allowed : TimedAllowed (venue_of w) x
  allowed =
      subst (λ (r : Option ℕ). Unless r (TimedAllowed (venue_of w) x)) none-given (refusal_of_kind_known (venue_of w) (sound_step (venue_of w) a.sound) (timed_tape x))

  abbrev kept : List TimedPrice
  kept = (venue_of w).kept

  few : length kept ≤ most_kept
  few = sound_few _ _ (sound_venue (venue_of w) a.sound).kept

  pub kept_ordered : KeepsOrdered w
  kept_ordered =
      record { few = few; in_order = sound_ordered _ _ (sound_venue (venue_of w) a.sound).kept }

  module _ (from : ℕ) (inside : from ≤ length kept) (earlier : within x.time kept ≡ drop from kept) where
    pub direction_may : (from ≤ length kept) × (0 < x.price) × (x.price ≤ highest)
    direction_may =
        let l = legal_out (venue_of w).market.step x.price allowed.price in
        (inside, l.low, l.high)

    pub keep_may : (n : ℕ) → n ≡ length kept → ((n ≡ length kept) × (from ≤ n) × (n ≤ most_kept) × (n - from < most_kept)) × (within x.time kept ≡ drop from kept)
    keep_may n e =
        ((e, omega arith, omega (arith, few), omega (arith, allowed.few, ap length earlier, length-drop from kept)), earlier)

    module _ (d : ℕ) (ed : d ≡ direction x.price (drop from kept)) (b : List ℕ) (room : Room b 0 (effect_in w (timed_tape x)).reports) where
      reports : (effect_in w (timed_tape x)).reports ≡ direction_report d x.price ++ (effect_in w (tape x.price)).reports
      unfolding effect_in effect_of
      reports =
          ap (λ (k : ℕ). direction_report k x.price ++ (effect_in w (tape x.price)).reports) (ap (direction x.price) earlier ∙ sym ed)

      both : Room b 0 (direction_report d x.price ++ (effect_in w (tape x.price)).reports)
      both = room_as b 0 reports room

      pub pause_first : Room b 0 (direction_report d x.price)
      pause_first = room_first b 0 (direction_report d x.price) (effect_in w (tape x.price)).reports both

      module _ {w₁ b₁ : List ℕ} {at : ℕ} (put : Put (reports_bytes (direction_report d x.price)) 0 b at b₁) (f : Becomes w w₁ (with_kept (keeping x.time x.price (venue_of w).kept) (venue_of w))) where
        -- a tape price reads nothing of the kept prices
        tape_same : effect_in w₁ (tape x.price) ≡ effect_in w (tape x.price)
        unfolding effect_in effect_of the_pass
        tape_same = ap (λ (u : Venue). effect_of (market_after (tape x.price) u.market) u (tape x.price)) f.venue

        pub tape_may_follow : MayAccept w₁ × Room b₁ at (effect_in w₁ (tape x.price)).reports
        tape_may_follow =
            let g = sound_venue (venue_of w) a.sound in
            let t = allowed in
            let k = keeping_sound (venue_of w).market.step x.time x.price (venue_of w).kept g.kept t.price t.time t.few in (
              record {
                ordered = f.ordered;
                sound = subst (λ (u : Venue). T (sound u)) (sym f.venue) (venue_sound _ (record { book = g.book; market = g.market; kept = k; events = g.events; stamps = g.stamps }));
                events = rw f.venue a.events;
              },
              room_as b₁ at (ap (λ (y : Effect). y.reports) (sym tape_same)) (room_then (direction_report d x.price) (effect_in w (tape x.price)).reports both put),
            )

        pub timed_done : {w' b' : List ℕ} {end : ℕ} → AcceptsFrom w₁ w' b₁ b' (tape x.price) at end → Accepts w w' b b' (timed_tape x) end
        unfolding effect_in effect_of the_pass
        timed_done p =
            let xs = direction_report d x.price in
            let ys = (effect_in w (tape x.price)).reports in
            let h : 0 + length (reports_bytes xs ++ reports_bytes ys) ≤ length b = omega (arith, both, ap length (reports_append xs ys)) in
            record {
              ordered = p.ordered;
              venue = p.venue ∙ ap (λ (u : Venue). venue_after u (tape x.price) (effect_of (market_after (tape x.price) u.market) u (tape x.price))) f.venue;
              same = spare_then f.same p.same;
              wrote = put_as (sym (ap reports_bytes reports ∙ reports_append xs ys)) (put_then (reports_bytes ys) h put (put_as (ap (λ (y : Effect). reports_bytes y.reports) tape_same) p.wrote));
            }
