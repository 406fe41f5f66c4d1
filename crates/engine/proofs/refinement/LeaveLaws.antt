-- What a cancel and the day end report and leave. Assumes nothing.
use Prim.Native.Nat.{ℕ, ◌+◌, ◌≤◌, ◌<◌}
use native.Mathlib.Omega.{arith}
use native.Mathlib.Numerals.{add-one}
use mathlib.Core.Path.{◌≡◌, sym, ap, ◌∙◌, subst}
use mathlib.Core.List.{List, [], ◌∷◌, ◌++◌, map}
use lib.ListN.{length, get_or, drop, drop_of_length-le, length-append}
use lib.Seq.{drop-cons}
use Rattle.numbers.specs.SevenBit.{Put}
use Rattle.numbers.proofs.PlaceLaws.{length_overwrite}
use Rattle.numbers.proofs.WriteLaws.{put_then, Remaining}
use Rattle.prices.specs.KeptWords.{kept_in}
use Rattle.prices.proofs.KeptWordLaws.{kept_none}
use Rattle.book.specs.declared.Order.{Order}
use Rattle.book.specs.rules.Orders.{without}
use Rattle.book.specs.rules.Sound.{ids_rise}
use Rattle.book.specs.rules.Words.{book_words, empty_order, resting}
use Rattle.book.specs.steps.BookSteps.{Holds}
use Rattle.book.proofs.definitions.RisingLaws.{ids_rise_rises, rises_ids_rise, rises_without}
use Rattle.book.proofs.refinement.PositionLaws.{shares_at}
use Rattle.engine.specs.declared.Market.{Market}
use Rattle.engine.specs.declared.Event.{Event}
use Rattle.engine.specs.declared.Event.TheVariants.{Cancel as cancel, DayEnd as day_end}
use Rattle.engine.specs.rules.Market.{market_after}
use Rattle.engine.specs.rules.Reports.{cancelled, day_ended, asked_for, end_of_day}
use Rattle.engine.specs.rules.Venue.{Venue, effect_of_cancel, cancelled_at_end, effect_of_day_end, effect_of, venue_after}
use Rattle.engine.specs.rules.Sound.{most_events}
use Rattle.engine.specs.rules.Records.{report_bytes, reports_bytes}
use Rattle.engine.specs.steps.Memory.{Becomes, Room, in_market, with_orders, finished, effect_in, MayAccept, Accepts}
use Rattle.engine.specs.rules.Venue.{with_kept}
use Rattle.engine.specs.rules.Layout.{venue_of}
use Rattle.engine.proofs.refinement.StepLaws.{reports_one, reports_append}
use Rattle.engine.proofs.refinement.MemoryLaws.{becomes_then, becomes_as, holds_becomes}

-- bytes of reports

pub remaining_as : {before all bytes rest more : List ℕ} {at i : ℕ} → rest ≡ more → Remaining before at all bytes i rest → Remaining before at all bytes i more
remaining_as {before} {all} {bytes} {at = at} {i = i} e r = subst (λ (l : List ℕ). Remaining before at all bytes i l) e r

-- an event that leaves the last id and the last stamp

accepted_same : {w w₁ w' : List ℕ} {v : Venue} → Becomes w w₁ v → Becomes w₁ w' (finished (venue_of w₁).last_id (venue_of w₁).last_stamp (venue_of w₁)) → Becomes w w' (finished v.last_id v.last_stamp v)
accepted_same a b = becomes_as (becomes_then a b) (ap (λ (u : Venue). finished u.last_id u.last_stamp u) a.venue)

accepts_as : {w w' b b' : List ℕ} {e : Event} {end : ℕ} → Becomes w w' (venue_after (venue_of w) e (effect_in w e)) → Put (reports_bytes (effect_in w e).reports) 0 b end b' → Accepts w w' b b' e end
accepts_as a p = record { ordered = a.ordered; venue = a.venue; same = a.same; wrote = p }

-- a cancel

module _ (w : List ℕ) (i : ℕ) (a : MayAccept w) (h : i < length (resting w)) where
  abbrev TheId : ℕ
  TheId = (get_or (resting w) i empty_order).id

  pub cancel_bytes : (o : Order) → o ≡ get_or (resting w) i empty_order → reports_bytes (effect_in w (cancel TheId)).reports ≡ report_bytes (cancelled o.id o.shares asked_for)
  unfolding effect_in effect_of effect_of_cancel venue_of
  cancel_bytes o e =
      reports_one _ ∙ ap (λ (q : ℕ). report_bytes (cancelled TheId q asked_for)) (shares_at 0 (resting w) empty_order i (ids_rise_rises 0 (resting w) a.ordered.rises) h) ∙ ap (λ (x : Order). report_bytes (cancelled x.id x.shares asked_for)) (sym e)

  pub taken_out : {w₁ : List ℕ} → Holds w w₁ (without TheId (resting w)) → Becomes w w₁ (with_orders (without TheId (resting w)) (venue_of w))
  taken_out =
      holds_becomes (rises_ids_rise 0 (without TheId (resting w)) (rises_without 0 TheId (resting w) (ids_rise_rises 0 (resting w) a.ordered.rises)))

  pub taken_accepts : {w₁ : List ℕ} → Holds w w₁ (without TheId (resting w)) → (venue_of w₁).accepted_events < most_events
  taken_accepts g = rw (taken_out g).venue a.events

  pub cancel_done : {w₁ w' b b' : List ℕ} {end : ℕ} (o : Order) → o ≡ get_or (resting w) i empty_order → Put (report_bytes (cancelled o.id o.shares asked_for)) 0 b end b' → Holds w w₁ (without TheId (resting w)) → Becomes w₁ w' (finished (venue_of w₁).last_id (venue_of w₁).last_stamp (venue_of w₁)) → Accepts w w' b b' (cancel TheId) end
  unfolding effect_in effect_of effect_of_cancel venue_of
  cancel_done {b = b} {b' = b'} {end = end} o e p g f =
      accepts_as (accepted_same (taken_out g) f) (subst (λ (l : List ℕ). Put l 0 b end b') (sym (cancel_bytes o e)) p)

-- the day end

pub cancels_next : (os : List Order) (i : ℕ) (o : Order) → i < length os → o ≡ get_or os i empty_order → reports_bytes (map cancelled_at_end (drop i os)) ≡ report_bytes (cancelled o.id o.shares end_of_day) ++ reports_bytes (map cancelled_at_end (drop (i + 1) os))
unfolding reports_bytes
cancels_next os i o h e = rw (add-one, drop-cons os i empty_order h, e)

pub cancels_none : (os : List Order) (i : ℕ) → length os ≤ i → reports_bytes (map cancelled_at_end (drop i os)) ≡ []
unfolding reports_bytes
cancels_none os i h = rw (drop_of_length-le os {i = i} h)

module _ (w : List ℕ) (close : ℕ) (m : Market) (e : m ≡ market_after (day_end close) (venue_of w).market) where
  abbrev Cancels : List ℕ
  Cancels = reports_bytes (map cancelled_at_end (resting w))

  pub day_bytes : reports_bytes (effect_in w (day_end close)).reports ≡ Cancels ++ report_bytes (day_ended m.phase)
  unfolding effect_in effect_of effect_of_day_end venue_of
  day_bytes =
      reports_append (map cancelled_at_end (resting w)) (day_ended _ ∷ []) ∙ ap (λ (l : List ℕ). Cancels ++ l) (reports_one _ ∙ ap (λ (x : Market). report_bytes (day_ended x.phase)) (sym e))

  module _ (b : List ℕ) (room : Room b 0 (effect_in w (day_end close)).reports) where
    both_fit : length Cancels + length (report_bytes (day_ended m.phase)) ≤ length b
    both_fit = omega (arith, ap length day_bytes, length-append Cancels (report_bytes (day_ended m.phase)))

    pub cancels_fit : Room b 0 (map cancelled_at_end (resting w))
    cancels_fit = omega (arith, both_fit)

    pub ended_fits : {b₁ : List ℕ} {at : ℕ} → Put Cancels 0 b at b₁ → at + length (report_bytes (day_ended m.phase)) ≤ length b₁
    ended_fits p =
        omega (arith, both_fit, p.ends, ap length p.leaves, length_overwrite b 0 Cancels (omega (arith, both_fit)))

  module _ (a : MayAccept w) {w₁ : List ℕ} (g : Holds w w₁ []) where
    pub emptied : Becomes w w₁ (with_orders [] (venue_of w))
    unfolding ids_rise
    emptied = holds_becomes tt g

    pub emptied_may_set : m.step ≡ (venue_of w₁).market.step
    emptied_may_set = ap (λ (x : Market). x.step) e ∙ ap (λ (v : Venue). v.market.step) (sym emptied.venue)

    pub emptied_in : {w₂ : List ℕ} → Becomes w₁ w₂ (in_market m (venue_of w₁)) → Becomes w w₂ (in_market m (with_orders [] (venue_of w)))
    emptied_in f = becomes_as (becomes_then emptied f) (ap (in_market m) emptied.venue)

    -- and no price is kept
    pub emptied_kept : {w₂ w₃ : List ℕ} → Becomes w₁ w₂ (in_market m (venue_of w₁)) → Becomes w₂ w₃ (with_kept (kept_in w₂ book_words 0) (venue_of w₂)) → Becomes w w₃ (with_kept [] (in_market m (with_orders [] (venue_of w))))
    emptied_kept {w₂} f k =
        let r = emptied_in f in
        becomes_as (becomes_then r k) (λ i. with_kept (kept_none w₂ book_words i) (r.venue i))

    pub emptied_accepts : {w₂ w₃ : List ℕ} → Becomes w₁ w₂ (in_market m (venue_of w₁)) → Becomes w₂ w₃ (with_kept (kept_in w₂ book_words 0) (venue_of w₂)) → (venue_of w₃).accepted_events < most_events
    emptied_accepts f k = rw (emptied_kept f k).venue a.events

  pub day_done : {w₂ w' b b₁ b' : List ℕ} {at end : ℕ} → Room b 0 (effect_in w (day_end close)).reports → Put Cancels 0 b at b₁ → Put (report_bytes (day_ended m.phase)) at b₁ end b' → Becomes w w₂ (with_kept [] (in_market m (with_orders [] (venue_of w)))) → Becomes w₂ w' (finished (venue_of w₂).last_id (venue_of w₂).last_stamp (venue_of w₂)) → Accepts w w' b b' (day_end close) end
  unfolding effect_in effect_of effect_of_day_end venue_of
  day_done {b = b} {b' = b'} {end = end} r p q g f =
      accepts_as (becomes_as (accepted_same g f) (ap (λ (x : Market). finished (venue_of w).last_id (venue_of w).last_stamp (with_kept [] (in_market x (with_orders [] (venue_of w))))) e)) (subst (λ (l : List ℕ). Put l 0 b end b') (sym day_bytes) (put_then _ (omega (arith, ap length day_bytes)) p q))
