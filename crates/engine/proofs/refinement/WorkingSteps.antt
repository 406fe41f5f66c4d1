-- Laws of a working order's steps: one meeting, matching as a loop, the remainder, and all of it. Assumes nothing.
use Prim.Native.Nat.{ℕ, ◌+◌, ◌-◌, ◌≤◌, ◌<◌, min}
use native.Mathlib.Omega.{arith}
use native.Mathlib.Decide.{dec_le}
use mathlib.Core.Path.{◌≡◌, refl, sym, ap, ap₂, ◌∙◌, subst}
use mathlib.Core.Bool.{true, false}
use mathlib.Core.Option.{none, some}
use mathlib.Core.List.{List, [], ◌∷◌, ◌++◌, Memᴰ}
use lib.Dec.{eqb}
use lib.ListN.{length, get_or}
use Rattle.numbers.specs.Tests.{pick, All}
use Rattle.numbers.specs.SevenBit.{Put}
use Rattle.numbers.proofs.TestLaws.{pick_yes, pick_no, eq→T, ne→T}
use Rattle.book.specs.declared.Order.{Order}
use Rattle.book.specs.rules.Orders.{reduced, without, insert}
use Rattle.book.specs.rules.Matching.{counterparty, execution, after_trade, Meeting, trading, withdrawing, same_owner, meeting, Matched, matching}
use Rattle.book.specs.rules.Words.{empty_order, resting}
use Rattle.book.specs.steps.BookSteps.{Holds}
use Rattle.book.proofs.definitions.OrderLaws.{Other, Distinct, taken_length, mem_taken, without_all}
use Rattle.book.proofs.definitions.RisingLaws.{rises_insert, rises_without, rises_after_trade}
use Rattle.book.proofs.definitions.CounterpartyLaws.{Reached, counterparty_reached}
use Rattle.book.proofs.definitions.MeetingLaws.{meeting_by}
use Rattle.book.proofs.definitions.MatchingLaws.{after_trade_all, after_trade-length, after_trade_shorter, matching_none, matching_some}
use Rattle.engine.specs.declared.Remainder.{Remainder}
use Rattle.engine.specs.rules.Reports.{executed, cancelled, same_firm}
use Rattle.engine.specs.rules.Records.{report_bytes}
use Rattle.engine.specs.rules.Working.{Worked, remainder, after_remainder, happened, work}
use Rattle.engine.specs.steps.Memory.{Ordered, Room, Does}
use Rattle.engine.specs.steps.Steps.{HasPlace, MayEnter, Meets, matching_reports, Matches, rested_or_cancelled}
use Rattle.engine.proofs.refinement.RefusalLaws.{place_kept}
use Rattle.engine.proofs.refinement.StepLaws.{put_as, put_one, room_as, room_first, room_one, room_then, ordered_rises, ordered_distinct, holds_ordered, holds_header, does_holds, does_as, does_then, at_member, Underway, underway_start, underway_as, underway_room, underway_then, underway_end}

-- an execution, by the side of the working order

pub execution_buy : (o x : Order) (q : ℕ) → o.mark ≡ 0 → execution o x q ≡ record { buyer = o.id; seller = x.id; price = x.price; shares = q }
unfolding execution
execution_buy o x q e = pick_yes (eqb o.mark 0) _ _ (eq→T e)

pub execution_sell : (o x : Order) (q : ℕ) → (o.mark ≡ 0 → ⊥) → execution o x q ≡ record { buyer = x.id; seller = o.id; price = x.price; shares = q }
unfolding execution
execution_sell o x q e = pick_no (eqb o.mark 0) _ _ (ne→T o.mark 0 e)

-- ids still rise after a trade, and after the order at a position is taken out

pub trade_ordered : (w : List ℕ) (i q : ℕ) → Ordered w → i < length (resting w) → {w' : List ℕ} → Holds w w' (after_trade (get_or (resting w) i empty_order) q (resting w)) → Ordered w'
trade_ordered w i q o h k =
    holds_ordered k (rises_after_trade 0 (get_or (resting w) i empty_order) q (resting w) (at_member (resting w) empty_order i h) (ordered_rises o))

pub taken_ordered : (w : List ℕ) (id : ℕ) → Ordered w → {w' : List ℕ} → Holds w w' (without id (resting w)) → Ordered w'
taken_ordered w id o k = holds_ordered k (rises_without 0 id (resting w) (ordered_rises o))

-- a trade, as the code has it: x is the order at i, and q the smaller number of shares

module _ (w : List ℕ) (o x : Order) (i q : ℕ) (ordered : Ordered w) (h : i < length (resting w)) (ex : x ≡ get_or (resting w) i empty_order) (eq : q ≡ min o.shares x.shares) where
  abbrev y : Order
  y = get_or (resting w) i empty_order

  abbrev p : ℕ
  p = min o.shares (get_or (resting w) i empty_order).shares

  same : q ≡ p
  same = eq ∙ ap (λ (a : Order). min o.shares a.shares) ex

  same_report : report_bytes (executed (execution o x q)) ≡ report_bytes (executed (execution o y p))
  same_report = ap₂ (λ (a : Order) (k : ℕ). report_bytes (executed (execution o a k))) ex same

  pub trade_room : (b : List ℕ) (at : ℕ) → Room b at (happened (trading o (get_or (resting w) i empty_order) (resting w)).happening ∷ []) → at + length (report_bytes (executed (execution o x q))) ≤ length b
  unfolding trading
  trade_room b at r = omega (arith, room_one b at (executed (execution o y p)) r, ap length same_report)

  pub trades : {w' b b' : List ℕ} {at e : ℕ} {left : Order} → Put (report_bytes (executed (execution o x q))) at b e b' → Holds w w' (after_trade (get_or (resting w) i empty_order) q (resting w)) → left ≡ reduced q o → Meets w w' b b' at (trading o (get_or (resting w) i empty_order) (resting w)) left e
  unfolding trading
  trades {w'} put holds rests =
      let k : Holds w w' (after_trade y p (resting w)) = subst (λ (n : ℕ). Holds w w' (after_trade y n (resting w))) same holds in
      record {
        does = record {
          ordered = holds_ordered k (rises_after_trade 0 y p (resting w) (at_member (resting w) empty_order i h) (ordered_rises ordered));
          same = holds_header k;
          orders = k.rests;
          wrote = put_one (executed (execution o y p)) (put_as same_report put);
        };
        rests = rests ∙ ap (λ (n : ℕ). reduced n o) same;
      }

-- the order at i, which is x, is cancelled

module _ (w : List ℕ) (o x : Order) (i : ℕ) (ordered : Ordered w) (ex : x ≡ get_or (resting w) i empty_order) where
  abbrev z : Order
  z = get_or (resting w) i empty_order

  same_cancel : report_bytes (cancelled x.id x.shares same_firm) ≡ report_bytes (cancelled z.id z.shares same_firm)
  same_cancel = ap (λ (a : Order). report_bytes (cancelled a.id a.shares same_firm)) ex

  pub withdraw_room : (b : List ℕ) (at : ℕ) → Room b at (happened (withdrawing o (get_or (resting w) i empty_order) (resting w)).happening ∷ []) → at + length (report_bytes (cancelled x.id x.shares same_firm)) ≤ length b
  unfolding withdrawing
  withdraw_room b at r = omega (arith, room_one b at (cancelled z.id z.shares same_firm) r, ap length same_cancel)

  pub withdraws : {w' b b' : List ℕ} {at e : ℕ} → Put (report_bytes (cancelled x.id x.shares same_firm)) at b e b' → Holds w w' (without (get_or (resting w) i empty_order).id (resting w)) → Meets w w' b b' at (withdrawing o (get_or (resting w) i empty_order) (resting w)) o e
  unfolding withdrawing
  withdraws put holds =
      record {
        does = record {
          ordered = holds_ordered holds (rises_without 0 z.id (resting w) (ordered_rises ordered));
          same = holds_header holds;
          orders = holds.rests;
          wrote = put_one (cancelled z.id z.shares same_firm) (put_as same_cancel put);
        };
        rests = refl;
      }

-- a meeting is the one or the other, by whose the resting order is

pub meets_own : (o x : Order) (os : List Order) → same_owner o x ≡ true → meeting o x os ≡ withdrawing o x os
unfolding meeting pick
meets_own o x os t = rw t

pub meets_other : (o x : Order) (os : List Order) → same_owner o x ≡ false → meeting o x os ≡ trading o x os
unfolding meeting pick
meets_other o x os t = rw t

-- a meeting lowers the orders and the shares taken together

trading_less : (o x : Order) (os : List Order) → Reached o os (some x) → Distinct os → length (trading o x os).orders + (trading o x os).left.shares < length os + o.shares
unfolding trading
trading_less o x os r d = go (dec_le x.shares o.shares)
  where
    go : Dec (x.shares ≤ o.shares) → length (after_trade x (min o.shares x.shares) os) + (o.shares - min o.shares x.shares) < length os + o.shares
    go (yes h) = omega (arith, after_trade_shorter (min o.shares x.shares) r.0 d (omega arith))
    go (no h) = omega (arith, r.2, after_trade-length (min o.shares x.shares) r.0 d)

meeting_less : (o x : Order) (os : List Order) → Reached o os (some x) → Distinct os → length (meeting o x os).orders + (meeting o x os).left.shares < length os + o.shares
unfolding withdrawing
meeting_less o x os r d =
    meeting_by (λ (z : Meeting). length z.orders + z.left.shares < length os + o.shares) o x os (omega (arith, taken_length (mem_taken r.0 d))) (trading_less o x os r d)

-- what a meeting leaves: the working order's id and life, other ids in the book, no more orders
record Leaves (o : Order) (os : List Order) (z : Meeting) : Type 0 where
  same : z.left.id ≡ o.id
  life : z.left.life ≡ o.life
  apart : All (Other o.id) z.orders
  few : length z.orders ≤ length os

meeting_leaves : (o x : Order) (os : List Order) → Memᴰ x os → Distinct os → All (Other o.id) os → Leaves o os (meeting o x os)
unfolding trading withdrawing
meeting_leaves o x os member d k =
    let q : ℕ = min o.shares x.shares in
    meeting_by (Leaves o os) o x os
    (record { same = refl; life = refl; apart = without_all (Other o.id) x.id os k; few = omega (arith, taken_length (mem_taken member d)) })
    (record { same = refl; life = refl; apart = after_trade_all q member d (Other o.id) (λ z n l f. f) k; few = after_trade-length q member d })

-- what is left of the working order may enter what is left of the book
meets_enters : {w w' b b' : List ℕ} {n e : ℕ} {o x left : Order} → MayEnter o w → Memᴰ x (resting w) → Meets w w' b b' n (meeting o x (resting w)) left e → MayEnter left w'
meets_enters {w} {w'} {o = o} {x = x} {left = left} k member m =
    let v = meeting_leaves o x (resting w) member (ordered_distinct k.ordered) k.apart in
    let same : left.id ≡ o.id = ap (λ (a : Order). a.id) m.rests ∙ v.same in
    record {
      ordered = m.does.ordered;
      apart = subst (λ (i : ℕ). All (Other i) (resting w')) (sym same) (subst (All (Other o.id)) (sym m.does.orders) v.apart);
      positive = omega (arith, same, k.positive);
      place = subst (λ (l : ℕ). HasPlace l (length (resting w'))) (sym (ap (λ (a : Order). a.life) m.rests ∙ v.life)) (place_kept k.place (omega (arith, ap length m.does.orders, v.few)));
    }

-- matching as a loop: what is still to be done with o, which is left, and the words w gives what was to be done with o₀ and w₀
pub record Matching (w₀ w b₀ b : List ℕ) (at n : ℕ) (o₀ o : Order) : Type 0 where
  pub enters : MayEnter o w
  pub orders : (matching o₀ (resting w₀)).orders ≡ (matching o (resting w)).orders
  pub rests : (matching o₀ (resting w₀)).left ≡ (matching o (resting w)).left
  pub way : Underway w₀ w b₀ b at n (matching_reports (matching o₀ (resting w₀))) (matching_reports (matching o (resting w)))

pub matching_start : (w b : List ℕ) (at : ℕ) (o : Order) → MayEnter o w → Matching w w b b at at o o
matching_start w b at o k = record { enters = k; orders = refl; rests = refl; way = underway_start w b at _ k.ordered }

pub matching_end : {w₀ w b₀ b : List ℕ} {at n : ℕ} {o₀ o : Order} → Matching w₀ w b₀ b at n o₀ o → counterparty o (resting w) ≡ none → Matches w₀ w b₀ b at o₀ o n
matching_end {w = w} {o = o} f e =
    let z = matching_none o (resting w) e in
    record {
      does = does_as (sym (f.orders ∙ ap (λ (m : Matched). m.orders) z)) refl (underway_end (underway_as (ap matching_reports z) f.way));
      rests = sym (f.rests ∙ ap (λ (m : Matched). m.left) z);
      enters = f.enters;
    }

-- one meeting more, with x
module _ {w₀ w b₀ b : List ℕ} {at n : ℕ} {o₀ o : Order} (x : Order) (f : Matching w₀ w b₀ b at n o₀ o) (found : counterparty o (resting w) ≡ some x) where
  reached : Reached o (resting w) (some x)
  reached = subst (Reached o (resting w)) found (counterparty_reached o (resting w))

  abbrev later : List Order → Order → Matched
  later os left =
      record {
        happenings = (meeting o x (resting w)).happening ∷ (matching left os).happenings;
        left = (matching left os).left;
        orders = (matching left os).orders;
      }

  first : matching o (resting w) ≡ later (meeting o x (resting w)).orders (meeting o x (resting w)).left
  first = matching_some o x (resting w) (ordered_distinct f.enters.ordered) found

  pub matching_room : Room b₀ at (matching_reports (matching o₀ (resting w₀))) → Room b n (happened (meeting o x (resting w)).happening ∷ [])
  matching_room room = underway_room _ (matching_reports (matching (meeting o x (resting w)).left (meeting o x (resting w)).orders)) room (underway_as (ap matching_reports first) f.way)

  module _ {w' b' : List ℕ} {n' : ℕ} {left : Order} (m : Meets w w' b b' n (meeting o x (resting w)) left n') where
    next : matching o (resting w) ≡ later (resting w') left
    next = first ∙ ap₂ later (sym m.does.orders) (sym m.rests)

    pub matching_then : Room b₀ at (matching_reports (matching o₀ (resting w₀))) → Matching w₀ w' b₀ b' at n' o₀ left
    matching_then room =
        record {
          enters = meets_enters f.enters reached.0 m;
          orders = f.orders ∙ ap (λ (z : Matched). z.orders) next;
          rests = f.rests ∙ ap (λ (z : Matched). z.left) next;
          way = underway_then (happened (meeting o x (resting w)).happening ∷ []) (matching_reports (matching left (resting w'))) room (underway_as (ap matching_reports next) f.way) m.does;
        }

    pub matching_less : length (resting w') + left.shares < length (resting w) + o.shares
    matching_less =
        omega (arith, meeting_less o x (resting w) reached (ordered_distinct f.enters.ordered), ap length m.does.orders, ap (λ (a : Order). a.shares) m.rests)

-- what becomes of the remainder, by what it is
pub rests_or_cancels : {w w' b b' : List ℕ} {at e : ℕ} (o : Order) (v : Remainder) → v ≡ remainder o → Does w w' b b' at (after_remainder v o (resting w)).orders (after_remainder v o (resting w)).reports e → Does w w' b b' at (rested_or_cancelled o (resting w)).orders (rested_or_cancelled o (resting w)).reports e
rests_or_cancels {w} {w'} {b} {b'} {at} {e} o v q d =
    subst (λ (z : Remainder). Does w w' b b' at (after_remainder z o (resting w)).orders (after_remainder z o (resting w)).reports e) q d

pub remainder_room : (w b : List ℕ) (at : ℕ) (o : Order) (v : Remainder) → v ≡ remainder o → Room b at (rested_or_cancelled o (resting w)).reports → Room b at (after_remainder v o (resting w)).reports
remainder_room w b at o v q h = room_as b at (ap (λ (z : Remainder). (after_remainder z o (resting w)).reports) (sym q)) h

pub does_insert : {w w' : List ℕ} (b : List ℕ) (at : ℕ) (o : Order) → MayEnter o w → Holds w w' (insert o (resting w)) → Does w w' b b at (insert o (resting w)) [] at
does_insert {w} b at o k h = does_holds b at h (rises_insert 0 o (resting w) k.positive k.apart (ordered_rises k.ordered))

-- a working order: matching, then the remainder

pub match_room : (w b : List ℕ) (at : ℕ) (o : Order) → Room b at (work o (resting w)).reports → Room b at (matching_reports (matching o (resting w)))
unfolding work
match_room w b at o h =
    let m : Matched = matching o (resting w) in
    room_first b at (matching_reports m) (rested_or_cancelled m.left m.orders).reports h

module _ {w w₁ b b₁ : List ℕ} {at n : ℕ} {o left : Order} (f : Matches w w₁ b b₁ at o left n) (room : Room b at (work o (resting w)).reports) where
  remainder_same : rested_or_cancelled left (resting w₁) ≡ rested_or_cancelled (matching o (resting w)).left (matching o (resting w)).orders
  remainder_same = ap₂ rested_or_cancelled f.rests f.does.orders

  work_reports : (work o (resting w)).reports ≡ matching_reports (matching o (resting w)) ++ (rested_or_cancelled left (resting w₁)).reports
  unfolding work
  work_reports = ap (λ (z : Worked). matching_reports (matching o (resting w)) ++ z.reports) (sym remainder_same)

  work_orders : (work o (resting w)).orders ≡ (rested_or_cancelled left (resting w₁)).orders
  unfolding work
  work_orders = ap (λ (z : Worked). z.orders) (sym remainder_same)

  all_room : Room b at (matching_reports (matching o (resting w)) ++ (rested_or_cancelled left (resting w₁)).reports)
  all_room = room_as b at work_reports room

  pub rest_room : Room b₁ n (rested_or_cancelled left (resting w₁)).reports
  rest_room = room_then (matching_reports (matching o (resting w))) (rested_or_cancelled left (resting w₁)).reports all_room f.does.wrote

  pub works : {w₂ b₂ : List ℕ} {e : ℕ} → Does w₁ w₂ b₁ b₂ n (rested_or_cancelled left (resting w₁)).orders (rested_or_cancelled left (resting w₁)).reports e → Does w w₂ b b₂ at (work o (resting w)).orders (work o (resting w)).reports e
  works d = does_as (sym work_orders) (sym work_reports) (does_then all_room f.does d)
