-- Laws of the engine's steps: reports and steps one after another, and steps that are under way. Assumes nothing.
use Prim.Native.Nat.{ℕ, zero, suc, ◌+◌, ◌≤◌, ◌<◌}
use native.Mathlib.Nat.{not-suc-le-zero, le_of_suc-le-suc}
use native.Mathlib.Omega.{arith}
use mathlib.Core.Path.{◌≡◌, refl, sym, ap, ◌∙◌, subst}
use mathlib.Core.List.{List, [], ◌∷◌, ◌++◌, append_assoc, append-nil, Memᴰ}
use lib.ListN.{length, get_or, length-append}
use Rattle.numbers.specs.SevenBit.{Put}
use Rattle.numbers.proofs.WriteLaws.{put_none, put_room, put_then, put_length}
use Rattle.book.specs.declared.Order.{Order}
use Rattle.book.specs.rules.Words.{resting}
use Rattle.book.specs.steps.BookSteps.{Holds}
use Rattle.book.proofs.definitions.OrderLaws.{Distinct}
use Rattle.book.proofs.definitions.RisingLaws.{Rises, ids_rise_rises, rises_ids_rise, rises_distinct}
use Rattle.engine.specs.rules.Reports.{Report}
use Rattle.engine.specs.rules.Records.{report_bytes, reports_bytes}
use Rattle.engine.specs.rules.Pass.{Effect}
use Rattle.engine.specs.steps.Memory.{Ordered, SameHeader, Room, Does, DoesEffect}

-- the bytes of reports

pub reports_append : (xs ys : List Report) → reports_bytes (xs ++ ys) ≡ reports_bytes xs ++ reports_bytes ys
unfolding reports_bytes
reports_append [] ys = refl
reports_append (x ∷ xs) ys =
    ap (λ (l : List ℕ). report_bytes x ++ l) (reports_append xs ys) ∙ sym (append_assoc (report_bytes x) (reports_bytes xs) (reports_bytes ys))

pub reports_one : (r : Report) → reports_bytes (r ∷ []) ≡ report_bytes r
unfolding reports_bytes
reports_one r = append-nil (report_bytes r)

pub reports_none : reports_bytes [] ≡ []
unfolding reports_bytes
reports_none = refl

pub put_as : {x y b b' : List ℕ} {at e : ℕ} → x ≡ y → Put x at b e b' → Put y at b e b'
put_as {b = b} {b' = b'} {at = at} {e = e} q p = subst (λ (z : List ℕ). Put z at b e b') q p

pub put_one : {b b' : List ℕ} {at e : ℕ} (r : Report) → Put (report_bytes r) at b e b' → Put (reports_bytes (r ∷ [])) at b e b'
put_one r p = put_as (sym (reports_one r)) p

-- room for reports

pub room_as : (b : List ℕ) (at : ℕ) {xs ys : List Report} → xs ≡ ys → Room b at xs → Room b at ys
room_as b at e h = subst (λ (z : List Report). Room b at z) e h

pub room_first : (b : List ℕ) (at : ℕ) (xs ys : List Report) → Room b at (xs ++ ys) → Room b at xs
room_first b at xs ys h = omega (arith, h, ap length (reports_append xs ys), length-append (reports_bytes xs) (reports_bytes ys))

pub room_one : (b : List ℕ) (at : ℕ) (r : Report) → Room b at (r ∷ []) → at + length (report_bytes r) ≤ length b
room_one b at r h = omega (arith, h, ap length (reports_one r))

pub room_then : {b b₁ : List ℕ} {at m : ℕ} (xs ys : List Report) → Room b at (xs ++ ys) → Put (reports_bytes xs) at b m b₁ → Room b₁ m ys
room_then {b} {b₁} {at} xs ys h p =
    let r : at + length (reports_bytes xs ++ reports_bytes ys) ≤ length b = omega (arith, h, ap length (reports_append xs ys)) in
    put_room (reports_bytes ys) r p

-- ordered books, and headers that are kept

pub ordered_rises : {w : List ℕ} → Ordered w → Rises 0 (resting w)
ordered_rises {w} o = ids_rise_rises 0 (resting w) o.rises

pub ordered_distinct : {w : List ℕ} → Ordered w → Distinct (resting w)
ordered_distinct {w} o = rises_distinct 0 (resting w) (ordered_rises o)

pub holds_ordered : {w w' : List ℕ} {l : List Order} → Holds w w' l → Rises 0 l → Ordered w'
holds_ordered {w} {w'} h r = record { book = h.book; rises = rises_ids_rise 0 (resting w') (subst (Rises 0) (sym h.rests) r) }

pub holds_header : {w w' : List ℕ} {l : List Order} → Holds w w' l → SameHeader w w'
holds_header h = record { size = h.size; header = h.header; behind = h.behind }

pub header_same : (w : List ℕ) → SameHeader w w
header_same w = record { size = refl; header = λ j h₀ h. refl; behind = λ j h. refl }

pub header_then : {w w₁ w₂ : List ℕ} → SameHeader w w₁ → SameHeader w₁ w₂ → SameHeader w w₂
header_then p q =
    record {
      size = q.size ∙ p.size;
      header = λ j h₀ h. q.header j h₀ h ∙ p.header j h₀ h;
      behind = λ j h. q.behind j h ∙ p.behind j h;
    }

-- steps

pub does_holds : {w w' : List ℕ} {l : List Order} (b : List ℕ) (at : ℕ) → Holds w w' l → Rises 0 l → Does w w' b b at l [] at
does_holds b at h r =
    record { ordered = holds_ordered h r; same = holds_header h; orders = h.rests; wrote = put_as (sym reports_none) (put_none b at) }

pub does_none : (w b : List ℕ) (at : ℕ) → Ordered w → Does w w b b at (resting w) [] at
does_none w b at o = record { ordered = o; same = header_same w; orders = refl; wrote = put_as (sym reports_none) (put_none b at) }

pub does_report : {w b b' : List ℕ} {at e : ℕ} (r : Report) → Ordered w → Put (report_bytes r) at b e b' → Does w w b b' at (resting w) (r ∷ []) e
does_report {w} r o p = record { ordered = o; same = header_same w; orders = refl; wrote = put_one r p }

pub does_as : {w w' b b' : List ℕ} {at e : ℕ} {l m : List Order} {xs ys : List Report} → l ≡ m → xs ≡ ys → Does w w' b b' at l xs e → Does w w' b b' at m ys e
does_as p q d = record { ordered = d.ordered; same = d.same; orders = d.orders ∙ p; wrote = put_as (ap reports_bytes q) d.wrote }

pub does_then : {w w₁ w₂ b b₁ b₂ : List ℕ} {at m e : ℕ} {l l' : List Order} {xs ys : List Report} → Room b at (xs ++ ys) → Does w w₁ b b₁ at l xs m → Does w₁ w₂ b₁ b₂ m l' ys e → Does w w₂ b b₂ at l' (xs ++ ys) e
does_then {b = b} {at = at} {xs = xs} {ys = ys} h p q =
    let r : at + length (reports_bytes xs ++ reports_bytes ys) ≤ length b = omega (arith, h, ap length (reports_append xs ys)) in
    record {
      ordered = q.ordered;
      same = header_then p.same q.same;
      orders = q.orders;
      wrote = put_as (sym (reports_append xs ys)) (put_then (reports_bytes ys) r p.wrote q.wrote);
    }

pub effect_as : {w w' b b' : List ℕ} {at e s : ℕ} {x y : Effect} → x ≡ y → DoesEffect w w' b b' at x e s → DoesEffect w w' b b' at y e s
effect_as {w} {w'} {b} {b'} {at} {e} {s} q d = subst (λ (z : Effect). DoesEffect w w' b b' at z e s) q d

-- the order at a position is one of the orders

pub at_member : (os : List Order) (d : Order) (i : ℕ) → i < length os → Memᴰ (get_or os i d) os
at_member [] d i h = absurd (not-suc-le-zero h)
at_member (x ∷ xs) d zero h = Memᴰ.head refl
at_member (x ∷ xs) d (suc i) h = Memᴰ.tail (at_member xs d i (le_of_suc-le-suc h))

-- steps that are under way: of the reports all, the reports rest are still to come
pub record Underway (w₀ w b₀ b : List ℕ) (at n : ℕ) (all rest : List Report) : Type 0 where
  pub done : List Report
  pub does : Does w₀ w b₀ b at (resting w) done n
  pub reports : all ≡ done ++ rest
  pub long : length b ≡ length b₀

pub underway_start : (w b : List ℕ) (at : ℕ) (all : List Report) → Ordered w → Underway w w b b at at all all
underway_start w b at all o = record { done = []; does = does_none w b at o; reports = refl; long = refl }

pub underway_as : {w₀ w b₀ b : List ℕ} {at n : ℕ} {all rest rest' : List Report} → rest ≡ rest' → Underway w₀ w b₀ b at n all rest → Underway w₀ w b₀ b at n all rest'
underway_as {w₀} {w} {b₀} {b} {at} {n} {all} e u = subst (λ (z : List Report). Underway w₀ w b₀ b at n all z) e u

module _ {w₀ w b₀ b : List ℕ} {at n : ℕ} {all : List Report} (xs ys : List Report) (room : Room b₀ at all) (u : Underway w₀ w b₀ b at n all (xs ++ ys)) where
  pub underway_room : Room b n xs
  underway_room = room_first b n xs ys (room_then u.done (xs ++ ys) (room_as b₀ at u.reports room) u.does.wrote)

  split : all ≡ (u.done ++ xs) ++ ys
  split = u.reports ∙ sym (append_assoc u.done xs ys)

  pub underway_then : {w' b' : List ℕ} {e : ℕ} {l : List Order} → Does w w' b b' n l xs e → Underway w₀ w' b₀ b' at e all ys
  underway_then d =
      record {
        done = u.done ++ xs;
        does = does_as (sym d.orders) refl (does_then (room_first b₀ at (u.done ++ xs) ys (room_as b₀ at split room)) u.does d);
        reports = split;
        long = put_length underway_room d.wrote ∙ u.long;
      }

pub underway_end : {w₀ w b₀ b : List ℕ} {at n : ℕ} {all : List Report} → Underway w₀ w b₀ b at n all [] → Does w₀ w b₀ b at (resting w) all n
underway_end u = does_as refl (sym (u.reports ∙ append-nil u.done)) u.does
