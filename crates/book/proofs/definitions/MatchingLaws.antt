-- Laws of the book after a trade, of one meeting, and of matching. Assumes nothing.
use Prim.Native.Nat.{ℕ, zero, suc, ◌+◌, ◌-◌, ◌≤◌, ◌<◌, min}
use native.Mathlib.Omega.{arith}
use native.Mathlib.Decide.{dec_le}
use mathlib.Core.Path.{◌≡◌, refl, sym, ap, ◌∙◌, subst}
use mathlib.Core.Bool.{Bool, true, false, not}
use mathlib.Core.Logic.{◌⊎◌, inl, inr}
use mathlib.Core.Option.{Option, none, some}
use mathlib.Core.List.{List, [], ◌∷◌, foldl, Memᴰ}
use lib.Dec.{T, leb, nleb→lt}
use lib.ListN.{length}
use Rattle.numbers.specs.Tests.{All}
use Rattle.numbers.proofs.TestLaws.{by_test, tests}
use Rattle.book.specs.declared.Order.{Order}
use Rattle.book.specs.rules.Orders.{is_buy, reduced, if_same, resting_shares, without}
use Rattle.book.specs.rules.Matching.{counterparty, after_trade, Happening, Meeting, trading, withdrawing, meeting, Matched, matching_with, matching_up_to, matching}
use Rattle.book.proofs.definitions.ShareLaws.{if_same_less}
use Rattle.book.proofs.definitions.OrderLaws.{id_of, Other, Differ, Distinct, taken_all, all_taken, taken_differ, differ_taken, taken_shares, taken_length, without_all, without_differ, mem_taken, insert_taken, taken_mem, without_mem, same_id}
use Rattle.book.proofs.definitions.MeetingLaws.{meeting_by}
use Rattle.book.proofs.definitions.CounterpartyLaws.{reach_opposite, Reached, counterparty_reached}

-- the book after a trade

-- what holds of an order holds of it with fewer shares; the same where some shares remain
abbrev pub KeptReduced : (Order → Type 0) → Type 0
KeptReduced P = (o : Order) (q : ℕ) → P o → P (reduced q o)

abbrev pub KeptResting : (Order → Type 0) → Type 0
KeptResting P = (o : Order) (q : ℕ) → q < o.shares → P o → P (reduced q o)

module _ {o : Order} {os : List Order} (q : ℕ) (m : Memᴰ o os) (d : Distinct os) where
  pub after_trade_all : (P : Order → Type 0) → KeptResting P → All P os → All P (after_trade o q os)
  unfolding after_trade
  after_trade_all P s h =
      let r = taken_all P (mem_taken m d) h in
      by_test (All P) _ (λ t. r.1) (λ t. all_taken P (insert_taken (reduced q o) (without o.id os)) (s o q (nleb→lt o.shares q t) r.0) r.1)

  pub after_trade_differ : (f : Order → ℕ) → f (reduced q o) ≡ f o → Differ f os → Differ f (after_trade o q os)
  unfolding after_trade
  after_trade_differ f e h =
      let r = taken_differ f (mem_taken m d) h in
      by_test (Differ f) _ (λ t. r.1) (λ t. differ_taken f (insert_taken (reduced q o) (without o.id os)) (rw e r.0) r.1)

  pub after_trade_shares : q ≤ o.shares → (k : ℕ) → resting_shares k (after_trade o q os) + if_same k o.id q ≡ resting_shares k os
  unfolding after_trade
  after_trade_shares h k =
      by_test
      (λ (l : List Order). resting_shares k l + if_same k o.id q ≡ resting_shares k os)
      _
      (λ t. omega (arith, taken_shares (mem_taken m d) k, ap (if_same k o.id) (same t)))
      (λ t. omega (arith, taken_shares (mem_taken m d) k, taken_shares (insert_taken (reduced q o) (without o.id os)) k, if_same_less k o.id o.shares q h))
    where
      same : T (leb o.shares q) → q ≡ o.shares
      same t = omega tests

  pub after_trade-length : length (after_trade o q os) ≤ length os
  unfolding after_trade
  after_trade-length =
      let e = taken_length (mem_taken m d) in
      by_test (λ (l : List Order). length l ≤ length os) _ (λ t. omega arith) (λ t. omega (arith, taken_length (insert_taken (reduced q o) (without o.id os))))

  -- an order that has traded all its shares no longer rests
  pub after_trade_shorter : o.shares ≤ q → length (after_trade o q os) < length os
  unfolding after_trade
  after_trade_shorter h =
      let e = taken_length (mem_taken m d) in
      by_test (λ (l : List Order). length l < length os) _ (λ t. omega arith) (λ t. absurd (omega tests))

-- an order with another id stays
after_trade_mem : {o : Order} {os : List Order} (x : Order) (q : ℕ) → Other x.id o → Memᴰ o os → Memᴰ o (after_trade x q os)
unfolding after_trade
after_trade_mem {o} {os} x q n m =
    let r : Memᴰ o (without x.id os) = without_mem x.id n m in
    by_test (Memᴰ o) _ (λ t. r) (λ t. taken_mem (insert_taken (reduced q x) (without x.id os)) r)

-- one meeting

pub meeting_distinct : (w o : Order) (os : List Order) → Memᴰ o os → Distinct os → Distinct (meeting w o os).orders
unfolding trading withdrawing
meeting_distinct w o os m d =
    meeting_by (λ (x : Meeting). Distinct x.orders) w o os (without_differ id_of o.id os d) (after_trade_differ (min w.shares o.shares) m d id_of refl d)

pub meeting_all : (P : Order → Type 0) → KeptReduced P → (w o : Order) (os : List Order) → Memᴰ o os → Distinct os → P w → All P os → P (meeting w o os).left × All P (meeting w o os).orders
unfolding trading withdrawing
meeting_all P s w o os m d p h =
    let q : ℕ = min w.shares o.shares in
    meeting_by (λ (x : Meeting). P x.left × All P x.orders) w o os (p, without_all P o.id os h) (s w q p, after_trade_all q m d P (λ z n l k. s z n k) h)

-- at most n more meetings: the working order has no shares, or at most n orders rest
abbrev pub Within : ℕ → Order → List Order → Type 0
Within n w os = (w.shares ≡ 0) ⊎ (length os ≤ n)

pub trading_within : (n : ℕ) (w o : Order) (os : List Order) → Memᴰ o os → Distinct os → Within (suc n) w os → Within n (trading w o os).left (trading w o os).orders
unfolding trading
trading_within n w o os m d z = go z (dec_le o.shares w.shares)
  where
    go : Within (suc n) w os → Dec (o.shares ≤ w.shares) → (w.shares - min w.shares o.shares ≡ 0) ⊎ (length (after_trade o (min w.shares o.shares) os) ≤ n)
    go (inl e) y = inl (omega arith)
    go (inr e) (yes y) = inr (omega (arith, after_trade_shorter (min w.shares o.shares) m d (omega arith)))
    go (inr e) (no y) = inl (omega arith)

pub withdrawing_within : (n : ℕ) (w o : Order) (os : List Order) → Memᴰ o os → Distinct os → Within (suc n) w os → Within n (withdrawing w o os).left (withdrawing w o os).orders
unfolding withdrawing
withdrawing_within n w o os m d (inl e) = inl e
withdrawing_within n w o os m d (inr e) = inr (omega (arith, taken_length (mem_taken m d)))

meeting_within : (n : ℕ) (w o : Order) (os : List Order) → Memᴰ o os → Distinct os → Within (suc n) w os → Within n (meeting w o os).left (meeting w o os).orders
meeting_within n w o os m d z =
    meeting_by (λ (x : Meeting). Within n x.left x.orders) w o os (withdrawing_within n w o os m d z) (trading_within n w o os m d z)

-- matching

module _ {A : Type 0} (read : A → Happening → A) (I : Order → List Order → A → Type 0) where
  -- I is kept by each meeting; what happens in it is read
  abbrev pub KeptByMeeting : Type 0
  KeptByMeeting =
      (w o : Order) (os : List Order) (a : A) → Reached w os (some o) → I w os a → I (meeting w o os).left (meeting w o os).orders (read a (meeting w o os).happening)

  up_to_keeps : KeptByMeeting → (n : ℕ) (w : Order) (os : List Order) (a : A) → I w os a → let m : Matched = matching_up_to n w os in I m.left m.orders (foldl read a m.happenings)
  unfolding matching_up_to matching_with
  up_to_keeps k zero w os a i = i
  up_to_keeps k (suc n) w os a i = go (counterparty w os) (counterparty_reached w os) (up_to_keeps k n)
    where
      go : (t : Option Order) → Reached w os t → ((w : Order) (os : List Order) (a : A) → I w os a → let m : Matched = matching_up_to n w os in I m.left m.orders (foldl read a m.happenings)) → let m : Matched = matching_with (matching_up_to n) t w os in I m.left m.orders (foldl read a m.happenings)
      go none r f = i
      go (some o) r f = f _ _ _ (k w o os a r i)

  -- what each meeting keeps, matching keeps, whoever reads what happens
  pub matching_keeps : KeptByMeeting → (w : Order) (os : List Order) (a : A) → I w os a → let m : Matched = matching w os in I m.left m.orders (foldl read a m.happenings)
  unfolding matching
  matching_keeps k w os a i = up_to_keeps k (length os) w os a i

-- for what nothing is read
abbrev pub unread : Unit {0} → Happening → Unit {0}
unread a x = a

pub matching_all : (P : Order → Type 0) → KeptReduced P → (w : Order) (os : List Order) → Distinct os → P w → All P os → let m : Matched = matching w os in Distinct m.orders × P m.left × All P m.orders
matching_all P s w os d p h =
    matching_keeps
    unread
    (λ w os a. Distinct os × P w × All P os)
    (λ w o os a r i. let z = meeting_all P s w o os r.0 i.0 i.1 i.2 in (meeting_distinct w o os r.0 i.0, z.0, z.1))
    w
    os
    tt
    (d, p, h)

-- orders on the working order's own side stay as they are

abbrev OwnSide : Order → Order → List Order → Type 0
OwnSide o w os = Distinct os × (is_buy o ≡ is_buy w) × Memᴰ o os

meeting_own_side : (o w x : Order) (os : List Order) → Reached w os (some x) → OwnSide o w os → OwnSide o (meeting w x os).left (meeting w x os).orders
unfolding trading withdrawing
meeting_own_side o w x os r i =
    meeting_by (λ (z : Meeting). Distinct z.orders → OwnSide o z.left z.orders) w x os
    (λ d. (d, i.1, without_mem x.id other i.2))
    (λ d. (d, i.1, after_trade_mem x (min w.shares x.shares) other i.2))
    (meeting_distinct w x os r.0 i.0)
  where
    opposite : (b : Bool) → b ≡ not b → ⊥
    opposite true e = subst T e tt
    opposite false e = subst T (sym e) tt

    other : Other x.id o
    other e = opposite (is_buy w) (sym i.1 ∙ ap is_buy (same_id i.2 r.0 i.0 e) ∙ reach_opposite w x r.1)

pub matching_own_side : (o w : Order) (os : List Order) → Distinct os → is_buy o ≡ is_buy w → Memᴰ o os → Memᴰ o (matching w os).orders
matching_own_side o w os d e m = (matching_keeps unread (λ x l a. OwnSide o x l) (λ x y l a r i. meeting_own_side o x y l r i) w os tt (d, e, m)).2

-- matching ends where no shares remain or nobody is reached

abbrev Ends : Matched → Type 0
Ends m = Reached m.left m.orders none

up_to_ends : (n : ℕ) (w : Order) (os : List Order) → Distinct os → Within n w os → Ends (matching_up_to n w os)
unfolding matching_up_to matching_with
up_to_ends zero w [] d z = inr tt
up_to_ends zero w (x ∷ xs) d (inl e) = inl e
up_to_ends zero w (x ∷ xs) d (inr e) = absurd (omega arith)
up_to_ends (suc n) w os d z = go (counterparty w os) (counterparty_reached w os) (up_to_ends n)
  where
    go : (t : Option Order) → Reached w os t → ((w : Order) (os : List Order) → Distinct os → Within n w os → Ends (matching_up_to n w os)) → Ends (matching_with (matching_up_to n) t w os)
    go none r f = r
    go (some o) r f = f _ _ (meeting_distinct w o os r.0 d) (meeting_within n w o os r.0 d z)

pub matching_ends : (w : Order) (os : List Order) → Distinct os → let m : Matched = matching w os in Reached m.left m.orders none
unfolding matching
matching_ends w os d = up_to_ends (length os) w os d (inr (omega arith))

-- matching, one meeting at a time: how many more are allowed doesn't matter while it is enough

abbrev pub unmatched : Order → List Order → Matched
unmatched w os = record { happenings = []; left = w; orders = os }

abbrev pub once_more : Happening → Matched → Matched
once_more x m = record { happenings = x ∷ m.happenings; left = m.left; orders = m.orders }

pub none_within : (w o : Order) (os : List Order) → Distinct os → Within zero w os → Reached w os (some o) → ⊥
none_within w o os d (inl e) r = omega (arith, r.2)
none_within w o os d (inr e) r = omega (arith, taken_length (mem_taken r.0 d))

up_to_same : (m n : ℕ) (w : Order) (os : List Order) → Distinct os → Within m w os → Within n w os → matching_up_to m w os ≡ matching_up_to n w os
unfolding matching_up_to matching_with
up_to_same zero zero w os d y z = refl
up_to_same zero (suc n) w os d y z = go (counterparty w os) (counterparty_reached w os)
  where
    go : (t : Option Order) → Reached w os t → unmatched w os ≡ matching_with (matching_up_to n) t w os
    go none r = refl
    go (some o) r = absurd (none_within w o os d y r)
up_to_same (suc m) zero w os d y z = go (counterparty w os) (counterparty_reached w os)
  where
    go : (t : Option Order) → Reached w os t → matching_with (matching_up_to m) t w os ≡ unmatched w os
    go none r = refl
    go (some o) r = absurd (none_within w o os d z r)
up_to_same (suc m) (suc n) w os d y z = go (counterparty w os) (counterparty_reached w os) (up_to_same m n)
  where
    go : (t : Option Order) → Reached w os t → ((w : Order) (os : List Order) → Distinct os → Within m w os → Within n w os → matching_up_to m w os ≡ matching_up_to n w os) → matching_with (matching_up_to m) t w os ≡ matching_with (matching_up_to n) t w os
    go none r f = refl
    go (some o) r f =
        ap (once_more (meeting w o os).happening) (f _ _ (meeting_distinct w o os r.0 d) (meeting_within m w o os r.0 d y) (meeting_within n w o os r.0 d z))

-- matching where there is no counterparty
pub matching_none : (w : Order) (os : List Order) → counterparty w os ≡ none → matching w os ≡ record { happenings = []; left = w; orders = os }
unfolding matching matching_up_to matching_with
matching_none w os e = go (length os)
  where
    go : (n : ℕ) → matching_up_to n w os ≡ unmatched w os
    go zero = refl
    go (suc n) = rw e

-- matching where there is one: their meeting, then matching with what it leaves
pub matching_some : (w o : Order) (os : List Order) → Distinct os → counterparty w os ≡ some o → let x : Meeting = meeting w o os in let m : Matched = matching x.left x.orders in matching w os ≡ record { happenings = x.happening ∷ m.happenings; left = m.left; orders = m.orders }
unfolding matching matching_up_to matching_with
matching_some w o os d e = go (length os) (omega arith)
  where
    r : Reached w os (some o)
    r = subst (Reached w os) e (counterparty_reached w os)

    go : (n : ℕ) → length os ≤ n → matching_up_to n w os ≡ once_more (meeting w o os).happening (matching (meeting w o os).left (meeting w o os).orders)
    go zero l = absurd (none_within w o os d (inr l) r)
    go (suc n) l =
        rw e (ap (once_more (meeting w o os).happening) (up_to_same n (length (meeting w o os).orders) _ _ (meeting_distinct w o os r.0 d) (meeting_within n w o os r.0 d (inr l)) (inr (omega arith))))
