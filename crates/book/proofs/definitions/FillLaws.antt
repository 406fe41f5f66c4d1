-- Laws of the front of the book that fills an order, and that matching fills it just where enough shares are reached. Assumes nothing.
use Prim.Native.Nat.{ℕ, zero, suc, ◌+◌, ◌-◌, ◌≤◌, ◌<◌, min}
use native.Mathlib.Nat.{le_of_suc-le-suc}
use native.Mathlib.Decide.{dec_le}
use native.Mathlib.Omega.{arith}
use mathlib.Core.Path.{◌≡◌, refl, sym, ap₂, ◌∙◌, subst}
use mathlib.Core.Bool.{Bool, true, false, not}
use mathlib.Core.Logic.{inl, inr}
use mathlib.Core.Option.{none, some}
use mathlib.Core.List.{List, [], ◌∷◌, Memᴰ}
use lib.Dec.{T, leb, leb→le, le→leb}
use lib.ListN.{length, take}
use lib.Seq.{take_all}
use Rattle.numbers.specs.Tests.{All}
use Rattle.numbers.proofs.TestLaws.{by_test, pick_yes, pick_no, tests}
use Rattle.book.specs.declared.Order.{Order}
use Rattle.book.specs.rules.Orders.{reduced, without}
use Rattle.book.specs.rules.Matching.{reaches, after_trade, Meeting, meeting, Matched, matching}
use Rattle.book.specs.rules.Fill.{shares_reached, all_reached, suffices, least_below, front_length, front_read}
use Rattle.book.proofs.definitions.OrderLaws.{Distinct, TakenOut, here, there, mem_taken, insert_taken}
use Rattle.book.proofs.definitions.CounterpartyLaws.{Unreached, Reached}
use Rattle.book.proofs.definitions.MeetingLaws.{trading_known, unowned_trades}
use Rattle.book.proofs.definitions.MatchingLaws.{meeting_distinct, matching_keeps, matching_ends, unread}

-- the least number that passes a test

least_bound : (m : ℕ) (test : ℕ → Bool) → least_below m test ≤ m
unfolding least_below
least_bound zero test = omega arith
least_bound (suc m) test =
    by_test (λ (k : ℕ). k ≤ suc m) (test zero) (λ t. omega arith) (λ t. omega (arith, least_bound m (λ k. test (suc k))))

least_passes : (m : ℕ) (test : ℕ → Bool) → least_below m test < m → T (test (least_below m test))
unfolding least_below
least_passes zero test l = absurd (omega arith)
least_passes (suc m) test l =
    by_test (λ (k : ℕ). k < suc m → T (test k)) (test zero) (λ t u. t) (λ t u. least_passes m (λ k. test (suc k)) (le_of_suc-le-suc u)) l

least_first : (m : ℕ) (test : ℕ → Bool) (j : ℕ) → j < least_below m test → T (not (test j))
unfolding least_below
least_first zero test j l = absurd (omega arith)
least_first (suc m) test j l =
    by_test (λ (k : ℕ). j < k → T (not (test j))) (test zero) (λ t u. absurd (omega arith)) (λ t. go (least_first m (λ k. test (suc k))) t j) l
  where
    go : ((i : ℕ) → i < least_below m (λ k. test (suc k)) → T (not (test (suc i)))) → T (not (test zero)) → (i : ℕ) → i < suc (least_below m (λ k. test (suc k))) → T (not (test i))
    go f t zero u = t
    go f t (suc i) u = f i (le_of_suc-le-suc u)

-- the front of the book

take_reached : (k : ℕ) (w : Order) (os : List Order) → all_reached w (take k os) ≤ all_reached w os
unfolding all_reached
take_reached zero w os = omega arith
take_reached (suc k) w [] = omega arith
take_reached (suc k) w (o ∷ os) = omega (arith, take_reached k w os)

module _ (w : Order) (os : List Order) where
  abbrev enough : List Order → Bool
  enough l = leb w.shares (all_reached w l)

  abbrev front : List Order
  front = take (front_read w os).read os

  -- the yes or no is that of the whole book
  pub front_fills : (front_read w os).fills ≡ leb w.shares (all_reached w os)
  unfolding front_read suffices
  front_fills = refl

  -- no more orders are read than there are
  pub front_bound : (front_read w os).read ≤ length os
  unfolding front_read front_length
  front_bound = least_bound (length os) (λ k. suffices w.shares w (take k os))

  -- no shorter front suffices
  pub front_shortest : (j : ℕ) → j < (front_read w os).read → T (not (leb w.shares (all_reached w (take j os))))
  unfolding front_read front_length suffices
  front_shortest j l = least_first (length os) (λ k. enough (take k os)) j l

  -- one that is shorter than the book does
  short_enough : (front_read w os).read < length os → T (enough front)
  unfolding front_read front_length suffices
  short_enough l = least_passes (length os) (λ k. enough (take k os)) l

  -- for a yes it suffices
  pub front_enough : (front_read w os).fills ≡ true → T (leb w.shares (all_reached w (take (front_read w os).read os)))
  front_enough e = go (dec_le (length os) (front_read w os).read)
    where
      go : Dec (length os ≤ (front_read w os).read) → T (enough front)
      go (yes l) = subst (λ (x : List Order). T (enough x)) (sym (take_all (front_read w os).read os l)) (subst T (sym (sym front_fills ∙ e)) tt)
      go (no l) = short_enough (omega arith)

  -- for a no it is the whole book
  pub front_whole : (front_read w os).fills ≡ false → (front_read w os).read ≡ length os
  front_whole e = go (dec_le (length os) (front_read w os).read)
    where
      go : Dec (length os ≤ (front_read w os).read) → (front_read w os).read ≡ length os
      go (yes l) = omega (arith, front_bound)
      go (no l) =
          let k = leb→le w.shares (all_reached w front) (short_enough (omega arith)) in
          absurd (subst T (sym front_fills ∙ e) (le→leb w.shares (all_reached w os) (omega (arith, k, take_reached (front_read w os).read w os))))

-- whom an order reaches depends on its mark and its price alone

share_alike : (w x o : Order) → w.mark ≡ x.mark → w.price ≡ x.price → shares_reached w o ≡ shares_reached x o
unfolding shares_reached reaches
share_alike w x o m p = rw (m, p)

pub reached_alike : (w x : Order) → w.mark ≡ x.mark → w.price ≡ x.price → (os : List Order) → all_reached w os ≡ all_reached x os
unfolding all_reached
reached_alike w x m p [] = refl
reached_alike w x m p (o ∷ os) = ap₂ (λ (j k : ℕ). j + k) (share_alike w x o m p) (reached_alike w x m p os)

-- matching

taken_reached : (w : Order) {o : Order} {os rs : List Order} → TakenOut o os rs → all_reached w os ≡ shares_reached w o + all_reached w rs
unfolding all_reached
taken_reached w here = refl
taken_reached w (there t) = omega (arith, taken_reached w t)

shares_reached_lem : (w o : Order) → T (reaches w o) → shares_reached w o ≡ o.shares
unfolding shares_reached
shares_reached_lem w o t = pick_yes (reaches w o) _ _ t

none_reached : (w : Order) (os : List Order) → All (Unreached w) os → all_reached w os ≡ 0
unfolding all_reached shares_reached
none_reached w [] h = refl
none_reached w (o ∷ os) h = omega (arith, pick_no (reaches w o) o.shares 0 h.0, none_reached w os h.1)

reduced_reached : (q : ℕ) (w o : Order) → T (reaches w o) → shares_reached w (reduced q o) ≡ o.shares - q
unfolding shares_reached reaches
reduced_reached q w o t = pick_yes (reaches w (reduced q o)) _ _ t

-- a trade of q shares with an order that is reached
trade_reached : (q : ℕ) (w : Order) {o : Order} {os : List Order} → Memᴰ o os → Distinct os → T (reaches w o) → q ≤ o.shares → all_reached w (after_trade o q os) + q ≡ all_reached w os
unfolding after_trade
trade_reached q w {o} {os} m d t l =
    let e = taken_reached w (mem_taken m d) in
    let s = shares_reached_lem w o t in
    by_test
    (λ (x : List Order). all_reached w x + q ≡ all_reached w os)
    _
    (λ u. omega (tests, e, s))
    (λ u. omega (tests, e, s, taken_reached w (insert_taken (reduced q o) (without o.id os)), reduced_reached q w o t))

-- what is left of a working order that has no owner: its shares less those that it reaches
pub matching_left : (w : Order) (os : List Order) → w.owner ≡ 0 → Distinct os → (matching w os).left.shares ≡ w.shares - all_reached w os
matching_left w os u d = go (matching_ends w os d) (matching_keeps unread Kept keeps w os tt (d, u, refl)).2
  where
    Kept : Order → List Order → Unit {0} → Type 0
    Kept x l a = Distinct l × (x.owner ≡ 0) × (x.shares - all_reached x l ≡ w.shares - all_reached w os)

    keeps : (x o : Order) (l : List Order) (a : Unit {0}) → Reached x l (some o) → Kept x l a → Kept (meeting x o l).left (meeting x o l).orders a
    keeps x o l a r k =
        let q : ℕ = min x.shares o.shares in
        subst
        (λ (z : Meeting). Distinct z.orders → Kept z.left z.orders a)
        (sym (unowned_trades x o l k.1 ∙ trading_known x o l))
        (λ n. (n, k.1, omega (arith, k.2, reached_alike (reduced q x) x refl refl (after_trade o q l), trade_reached q x r.0 k.0 r.1 (omega arith))))
        (meeting_distinct x o l r.0 k.0)

    go : let m : Matched = matching w os in Reached m.left m.orders none → (m.left.shares - all_reached m.left m.orders ≡ w.shares - all_reached w os) → m.left.shares ≡ w.shares - all_reached w os
    go (inl e) h = omega (arith, e, h)
    go (inr e) h = omega (arith, h, none_reached (matching w os).left (matching w os).orders e)
