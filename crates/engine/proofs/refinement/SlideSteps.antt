-- Laws of the steps of the pass: a re-priced order, one move, one turn, the ids, and the pass as a loop. Assumes nothing.
use Prim.Native.Nat.{ℕ, zero, suc, ◌+◌, ◌≤◌, ◌<◌}
use native.Mathlib.Nat.{not-suc-le-zero, le_of_suc-le-suc}
use native.Mathlib.Numerals.{add-one}
use native.Mathlib.Decide.{dec_lt}
use native.Mathlib.Omega.{arith}
use mathlib.Core.Path.{◌≡◌, refl, sym, ap, ap₂, ◌∙◌, subst}
use mathlib.Core.Bool.{Bool, false, ◌&&◌}
use mathlib.Core.Option.{Option, none, some}
use mathlib.Core.List.{List, [], ◌∷◌, ◌++◌}
use lib.Dec.{eqb}
use lib.ListN.{length, get_or, set, drop, drop_of_length-le}
use lib.Seq.{get_or-set_same, get_or-set_other}
use Rattle.numbers.specs.Tests.{pick, All}
use Rattle.numbers.specs.SevenBit.{Put}
use Rattle.prices.specs.Restriction.{restriction_on}
use Rattle.book.specs.declared.Order.{Order}
use Rattle.book.specs.rules.Orders.{find, without}
use Rattle.book.specs.rules.Words.{empty_order, resting}
use Rattle.book.specs.steps.BookSteps.{Holds}
use Rattle.book.proofs.definitions.OrderLaws.{Other, taken_length, without_other, mem_taken}
use Rattle.book.proofs.definitions.RisingLaws.{rises_without}
use Rattle.book.proofs.refinement.PositionLaws.{id_above}
use Rattle.book.proofs.refinement.HoldsLaws.{holds_as}
use Rattle.engine.specs.declared.Market.{Market}
use Rattle.engine.specs.declared.Move.{Move}
use Rattle.engine.specs.declared.Move.TheVariants.{Stay, Cancel, Reprice}
use Rattle.engine.specs.rules.Reports.{Report, repriced}
use Rattle.engine.specs.rules.Records.{report_bytes}
use Rattle.engine.specs.rules.Working.{work}
use Rattle.engine.specs.rules.Market.{restricted}
use Rattle.engine.specs.rules.Pass.{Effect, move_of, at_new_price, after_move, pass_one, pass_over}
use Rattle.engine.specs.steps.Memory.{Ordered, Room, Does, DoesEffect}
use Rattle.engine.specs.steps.Steps.{MayEnter, move_in_pass, repriced_reports, turn_of, ids_of}
use Rattle.engine.proofs.refinement.StepLaws.{put_one, room_as, room_first, room_one, room_then, ordered_rises, ordered_distinct, holds_ordered, holds_header, does_as, does_then, at_member, Underway, underway_start, underway_as, underway_room, underway_then, underway_end}

-- an order is taken out, with a report or none
pub does_without : {w w' b b' : List ℕ} {at e : ℕ} {rs : List Report} (i : ℕ) → Ordered w → Holds w w' (without i (resting w)) → Does w w b b' at (resting w) rs e → Does w w' b b' at (without i (resting w)) rs e
does_without {w} i o h d =
    record { ordered = holds_ordered h (rises_without 0 i (resting w) (ordered_rises o)); same = holds_header h; orders = h.rests; wrote = d.wrote }

-- the order x, that was at i, works at its new price

module _ (w : List ℕ) (x : Order) (i : ℕ) (o : Ordered w) (h : i < length (resting w)) (ex : x.id ≡ (get_or (resting w) i empty_order).id) where
  pub reprice_first : (b : List ℕ) (at : ℕ) → Room b at (repriced_reports x (without x.id (resting w))) → at + length (report_bytes (repriced x.id x.price x.stamp)) ≤ length b
  reprice_first b at r = room_one b at _ (room_first b at (repriced x.id x.price x.stamp ∷ []) (work x (without x.id (resting w))).reports r)

  module _ {w₁ : List ℕ} (out : Holds w w₁ (without (get_or (resting w) i empty_order).id (resting w))) where
    taken : Holds w w₁ (without x.id (resting w))
    taken = holds_as out (ap (λ (k : ℕ). without k (resting w)) (sym ex))

    pub reprice_enters : MayEnter x w₁
    reprice_enters =
        record {
          ordered = holds_ordered taken (rises_without 0 x.id (resting w) (ordered_rises o));
          apart = subst (All (Other x.id)) (sym taken.rests) (without_other x.id (resting w));
          positive = omega (arith, ex, id_above 0 (resting w) empty_order i (ordered_rises o) h);
          place = λ z. omega (arith, o.book.few, ap length out.rests, taken_length (mem_taken (at_member (resting w) empty_order i h) (ordered_distinct o)));
        }

    module _ {b b₁ : List ℕ} {at n : ℕ} (r : Room b at (repriced_reports x (without x.id (resting w)))) (put : Put (report_bytes (repriced x.id x.price x.stamp)) at b n b₁) where
      pub reprice_room : Room b₁ n (work x (resting w₁)).reports
      reprice_room =
          room_as b₁ n (ap (λ (l : List Order). (work x l).reports) (sym taken.rests))
          (room_then (repriced x.id x.price x.stamp ∷ []) (work x (without x.id (resting w))).reports r (put_one _ put))

      pub reprices : {w₂ b₂ : List ℕ} {e : ℕ} → Does w₁ w₂ b₁ b₂ n (work x (resting w₁)).orders (work x (resting w₁)).reports e → Does w w₂ b b₂ at (work x (without x.id (resting w))).orders (repriced_reports x (without x.id (resting w))) e
      reprices d = does_then r first (does_as (ap (λ (l : List Order). (work x l).orders) taken.rests) (ap (λ (l : List Order). (work x l).reports) taken.rests) d)
        where
          first : Does w w₁ b b₁ at (without x.id (resting w)) (repriced x.id x.price x.stamp ∷ []) n
          first =
              record {
                ordered = holds_ordered taken (rises_without 0 x.id (resting w) (ordered_rises o));
                same = holds_header taken;
                orders = taken.rests;
                wrote = put_one _ put;
              }

-- one move

pub moves : {w w' b b' : List ℕ} {at e t : ℕ} {v made : Move} (o : Order) (os : List Order) (s : ℕ) → made ≡ v → DoesEffect w w' b b' at (after_move v o os s) e t → DoesEffect w w' b b' at (after_move made o os s) e t
moves {w} {w'} {b} {b'} {at} {e} {t} o os s q d = subst (λ (z : Move). DoesEffect w w' b b' at (after_move z o os s) e t) (sym q) d

pub move_room : (b : List ℕ) (at : ℕ) {v made : Move} (o : Order) (os : List Order) (s : ℕ) → made ≡ v → Room b at (after_move made o os s).reports → Room b at (after_move v o os s).reports
move_room b at o os s q h = room_as b at (ap (λ (z : Move). (after_move z o os s).reports) q) h

-- re-pricing, where x is the order at its new price
module _ (x o : Order) (p s : ℕ) (u : Bool) (os : List Order) (e : x ≡ at_new_price p (s + 1) u o) where
  pub new_price_reports : repriced_reports x (without x.id os) ≡ (after_move (Reprice p u) o os s).reports
  unfolding after_move
  new_price_reports = ap (λ (z : Order). repriced_reports z (without z.id os)) e

  pub new_price_orders : (work x (without x.id os)).orders ≡ (after_move (Reprice p u) o os s).orders
  unfolding after_move
  new_price_orders = ap (λ (z : Order). (work z (without z.id os)).orders) e

-- one turn

module _ (m : Market) (i : ℕ) (os : List Order) (s : ℕ) where
  pub turn_found : (o : Order) (v : Move) → find i os ≡ some o → v ≡ move_in_pass m o → after_move v o os s ≡ turn_of m i os s
  unfolding pass_one
  turn_found o v e q = ap (λ (z : Move). after_move z o os s) q ∙ ap (λ (z : Option Order). pass_one m z os s) (sym e)

  pub turn_absent : find i os ≡ none → record { reports = []; orders = os; stamp = s } ≡ turn_of m i os s
  unfolding pass_one
  turn_absent e = ap (λ (z : Option Order). pass_one m z os s) (sym e)

move_stamp : (v : Move) (o : Order) (os : List Order) (s : ℕ) → (after_move v o os s).stamp ≤ s + 1
unfolding after_move
move_stamp Stay o os s = omega arith
move_stamp Cancel o os s = omega arith
move_stamp (Reprice p u) o os s = omega arith

pub turn_stamp : (m : Market) (i : ℕ) (os : List Order) (s : ℕ) → (turn_of m i os s).stamp ≤ s + 1
unfolding pass_one
turn_stamp m i os s = go (find i os)
  where
    go : (z : Option Order) → (pass_one m z os s).stamp ≤ s + 1
    go none = omega arith
    go (some o) = move_stamp (move_in_pass m o) o os s

-- the ids, and one more of them copied

pub ids_at : (os : List Order) (i : ℕ) → i < length os → drop i (ids_of os) ≡ (get_or os i empty_order).id ∷ drop (i + 1) (ids_of os)
ids_at os i h = rw add-one (go os i h)
  where
    go : (os : List Order) (i : ℕ) → i < length os → drop i (ids_of os) ≡ (get_or os i empty_order).id ∷ drop (suc i) (ids_of os)
    go [] i h = absurd (not-suc-le-zero h)
    go (x ∷ xs) zero h = refl
    go (x ∷ xs) (suc i) h = go xs i (le_of_suc-le-suc h)

ids_length : (os : List Order) → length (ids_of os) ≡ length os
ids_length [] = refl
ids_length (x ∷ xs) = ap suc (ids_length xs)

pub ids_end : (os : List Order) (i : ℕ) → length os ≤ i → drop i (ids_of os) ≡ []
ids_end os i h = let g : length (ids_of os) ≤ i = omega (arith, ids_length os) in drop_of_length-le (ids_of os) g

pub copy_more : (os : List Order) (ids : List ℕ) (i x : ℕ) → i < length ids → x ≡ (get_or os i empty_order).id → ((k : ℕ) → k < i → get_or ids k 0 ≡ (get_or os k empty_order).id) → (k : ℕ) → k < i + 1 → get_or (set ids i x) k 0 ≡ (get_or os k empty_order).id
copy_more os ids i x h e f k q = go (dec_lt k i)
  where
    go : Dec (k < i) → get_or (set ids i x) k 0 ≡ (get_or os k empty_order).id
    go (yes a) = get_or-set_other ids i k x 0 (λ z. omega arith) ∙ f k a
    go (no a) = let z : k ≡ i = omega arith in rw z (get_or-set_same ids i x 0 h ∙ e)

-- the pass as a loop: what is still to be done with the ids is gives what was to be done with is₀
pub record Passing (w₀ w b₀ b : List ℕ) (at n : ℕ) (m : Market) (is₀ is : List ℕ) (s₀ s : ℕ) : Type 0 where
  pub orders : (pass_over m is₀ (resting w₀) s₀).orders ≡ (pass_over m is (resting w) s).orders
  pub stamped : (pass_over m is₀ (resting w₀) s₀).stamp ≡ (pass_over m is (resting w) s).stamp
  pub way : Underway w₀ w b₀ b at n (pass_over m is₀ (resting w₀) s₀).reports (pass_over m is (resting w) s).reports

pub passing_start : (w b : List ℕ) (at : ℕ) (m : Market) (is : List ℕ) (s : ℕ) → Ordered w → Passing w w b b at at m is is s s
passing_start w b at m is s o = record { orders = refl; stamped = refl; way = underway_start w b at _ o }

over_none : (m : Market) (os : List Order) (s : ℕ) → pass_over m [] os s ≡ record { reports = []; orders = os; stamp = s }
unfolding pass_over
over_none m os s = refl

pub passing_end : {w₀ w b₀ b : List ℕ} {at n : ℕ} {m : Market} {is₀ is : List ℕ} {s₀ s : ℕ} → is ≡ [] → Passing w₀ w b₀ b at n m is₀ is s₀ s → DoesEffect w₀ w b₀ b at (pass_over m is₀ (resting w₀) s₀) n s
passing_end {w = w} {m = m} {s = s} e f =
    let z = ap (λ (js : List ℕ). pass_over m js (resting w) s) e ∙ over_none m (resting w) s in
    record {
      does = does_as (sym (f.orders ∙ ap (λ (x : Effect). x.orders) z)) refl (underway_end (underway_as (ap (λ (x : Effect). x.reports) z) f.way));
      stamped = sym (f.stamped ∙ ap (λ (x : Effect). x.stamp) z);
    }

abbrev before : Effect → Effect → Effect
before x y = record { reports = x.reports ++ y.reports; orders = y.orders; stamp = y.stamp }

over_more : (m : Market) (i : ℕ) (js : List ℕ) (os : List Order) (s : ℕ) → pass_over m (i ∷ js) os s ≡ before (turn_of m i os s) (pass_over m js (turn_of m i os s).orders (turn_of m i os s).stamp)
unfolding pass_over
over_more m i js os s = refl

-- while the restriction is off, no order is restricted, and the pass does nothing

abbrev nothing : List Order → ℕ → Effect
nothing os s = record { reports = []; orders = os; stamp = s }

turn_off : (m : Market) (i : ℕ) (os : List Order) (s : ℕ) → restriction_on m.phase ≡ false → turn_of m i os s ≡ nothing os s
unfolding pass_one after_move restricted pick
turn_off m i os s e = go (find i os)
  where
    go : (z : Option Order) → pass_one m z os s ≡ nothing os s
    go none = refl
    go (some o) = ap (λ (b : Bool). after_move (pick (b && eqb o.mark 2) (move_of m o) Stay) o os s) e

pub pass_off : (m : Market) (is : List ℕ) (os : List Order) (s : ℕ) → restriction_on m.phase ≡ false → nothing os s ≡ pass_over m is os s
pass_off m [] os s e = sym (over_none m os s)
pass_off m (i ∷ is) os s e =
    sym (over_more m i is os s ∙ ap (λ (x : Effect). before x (pass_over m is x.orders x.stamp)) (turn_off m i os s e) ∙ ap (before (nothing os s)) (sym (pass_off m is os s e)))

-- one turn more, of the order with the id i
module _ {w₀ w b₀ b : List ℕ} {at n : ℕ} {m : Market} {is₀ is : List ℕ} {s₀ s : ℕ} (i : ℕ) (js : List ℕ) (e : is ≡ i ∷ js) (room : Room b₀ at (pass_over m is₀ (resting w₀) s₀).reports) (f : Passing w₀ w b₀ b at n m is₀ is s₀ s) where
  first : pass_over m is (resting w) s ≡ before (turn_of m i (resting w) s) (pass_over m js (turn_of m i (resting w) s).orders (turn_of m i (resting w) s).stamp)
  first = ap (λ (ks : List ℕ). pass_over m ks (resting w) s) e ∙ over_more m i js (resting w) s

  pub passing_room : Room b n (turn_of m i (resting w) s).reports
  passing_room =
      underway_room (turn_of m i (resting w) s).reports (pass_over m js (turn_of m i (resting w) s).orders (turn_of m i (resting w) s).stamp).reports room
      (underway_as (ap (λ (x : Effect). x.reports) first) f.way)

  pub passing_then : {w' b' : List ℕ} {n' s' : ℕ} → DoesEffect w w' b b' n (turn_of m i (resting w) s) n' s' → Passing w₀ w' b₀ b' at n' m is₀ js s₀ s'
  passing_then {w'} {b'} {n'} {s'} d =
      record {
        orders = f.orders ∙ ap (λ (x : Effect). x.orders) next;
        stamped = f.stamped ∙ ap (λ (x : Effect). x.stamp) next;
        way = underway_then (turn_of m i (resting w) s).reports (pass_over m js (resting w') s').reports room (underway_as (ap (λ (x : Effect). x.reports) next) f.way) d.does;
      }
    where
      next : pass_over m is (resting w) s ≡ before (turn_of m i (resting w) s) (pass_over m js (resting w') s')
      next = first ∙ ap₂ (λ (l : List Order) (k : ℕ). before (turn_of m i (resting w) s) (pass_over m js l k)) (sym d.does.orders) (sym d.stamped)
