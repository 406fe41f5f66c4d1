-- A working order trades with others as if its owner's orders weren't there. Assumes nothing.
use Prim.Native.Nat.{ℕ, zero, suc, ◌<◌, min}
use native.Mathlib.Omega.{arith}
use native.Mathlib.Decide.{ℕ_discrete}
use mathlib.Core.Path.{◌≡◌, refl, sym, ap, ◌∙◌, subst}
use mathlib.Core.Bool.{Bool, true, false, not}
use mathlib.Core.Logic.{inl, inr}
use mathlib.Core.Option.{Option, none, some}
use mathlib.Core.List.{List, [], ◌∷◌, foldl, Memᴰ}
use lib.Dec.{T, leb, ltb, eqb, ltb→lt, lt→ltb, T_not}
use lib.ListN.{length}
use Rattle.numbers.specs.Tests.{pick, All}
use Rattle.numbers.proofs.TestLaws.{by_test, pick_yes, T_false, all_map, all_both}
use Rattle.book.specs.declared.Order.{Order}
use Rattle.book.specs.rules.Orders.{reduced, without, insert}
use Rattle.book.specs.rules.Matching.{reaches, better, counterparty, Execution, execution, after_trade, Happening, traded, withdrawn, Meeting, trading, withdrawing, same_owner, meeting, Matched, matching_with, matching_up_to, matching}
use Rattle.book.specs.claims.OnlyTrading.{trading_with, trading_up_to, only_trading}
use Rattle.book.specs.claims.OwnOrders.{others, executions_of, OwnOrder, WithdrawsOwn, TradesAsWithoutOwn}
use Rattle.book.proofs.definitions.OrderLaws.{id_of, stamp_of, Other, Differ, Distinct, all_taken, insert_taken, without_none, without_all, without_differ, without_other, all_members, same_id}
use Rattle.book.proofs.definitions.RisingLaws.{Rises, ids_rise_rises, rises_all, rises_distinct, rises_without, rises_after_trade}
use Rattle.book.proofs.definitions.CounterpartyLaws.{Unreached, Reached, counterparty_reached}
use Rattle.book.proofs.definitions.PriorityLaws.{better_total, counterparty_best}
use Rattle.book.proofs.definitions.MeetingLaws.{meeting_by_owner}
use Rattle.book.proofs.definitions.MatchingLaws.{after_trade_all, after_trade_differ, Within, trading_within, withdrawing_within, matching_keeps, matching_ends, unmatched, once_more, none_within}
use Rattle.book.proofs.refinement.SoundBookLaws.{stamps_differ_differ}

-- what holds of all orders of a list holds of one of them

all-at : (P : Order → Type 0) {o : Order} {os : List Order} → Memᴰ o os → All P os → P o
all-at P (Memᴰ.head e) h = subst P (sym e) h.0
all-at P (Memᴰ.tail m) h = all-at P m h.1

same_by : (f : Order → ℕ) {o x : Order} {os : List Order} → Memᴰ o os → Memᴰ x os → Differ f os → f o ≡ f x → o ≡ x
same_by f (Memᴰ.head e) (Memᴰ.head g) d h = e ∙ sym g
same_by f {o} {x} (Memᴰ.head {x = y} e) (Memᴰ.tail n) d h = absurd (all-at (λ (z : Order). f z ≡ f y → ⊥) n d.0 (sym h ∙ ap f e))
same_by f {o} {x} (Memᴰ.tail m) (Memᴰ.head {x = y} g) d h = absurd (all-at (λ (z : Order). f z ≡ f y → ⊥) m d.0 (h ∙ ap f g))
same_by f (Memᴰ.tail m) (Memᴰ.tail n) d h = same_by f m n d.1 h

insert_first : (x : Order) (os : List Order) → All (λ (y : Order). x.id < y.id) os → insert x os ≡ x ∷ os
unfolding insert
insert_first x [] h = refl
insert_first x (o ∷ os) h = pick_yes (ltb x.id o.id) _ _ (lt→ltb x.id o.id h.0)

-- others' orders

module _ (w : Order) where
  others_all : (P : Order → Type 0) (os : List Order) → All P os → All P (others w os)
  unfolding others
  others_all P [] h = tt
  others_all P (o ∷ os) h = by_test (All P) _ (λ t. others_all P os h.1) (λ t. (h.0, others_all P os h.1))

  others_differ : (f : Order → ℕ) (os : List Order) → Differ f os → Differ f (others w os)
  unfolding others
  others_differ f [] d = tt
  others_differ f (o ∷ os) d =
      by_test (Differ f) _ (λ t. others_differ f os d.1) (λ t. (others_all (λ (x : Order). f x ≡ f o → ⊥) os d.0, others_differ f os d.1))

  others_not_own : (os : List Order) → All (λ (o : Order). T (not (same_owner w o))) (others w os)
  unfolding others
  others_not_own [] = tt
  others_not_own (o ∷ os) = by_test (All (λ (x : Order). T (not (same_owner w x)))) _ (λ t. others_not_own os) (λ t. (t, others_not_own os))

  others_mem : {o : Order} {os : List Order} → T (not (same_owner w o)) → Memᴰ o os → Memᴰ o (others w os)
  unfolding others
  others_mem {o} n (Memᴰ.head {x = x} e) =
      by_test (Memᴰ o) (same_owner w x) (λ t. absurd (T_not (same_owner w o) n (subst (λ (z : Order). T (same_owner w z)) (sym e) t))) (λ t. Memᴰ.head e)
  others_mem {o} n (Memᴰ.tail {x = x} m) = by_test (Memᴰ o) (same_owner w x) (λ t. others_mem n m) (λ t. Memᴰ.tail (others_mem n m))

  mem_others : {o : Order} (os : List Order) → Memᴰ o (others w os) → Memᴰ o os
  mem_others {o} os m = all-at (λ (x : Order). Memᴰ x os) m (others_all (λ (x : Order). Memᴰ x os) os (all_members os))

  -- taking out and putting in

  others_without : (i : ℕ) (os : List Order) → others w (without i os) ≡ without i (others w os)
  unfolding others without pick
  others_without i [] = refl
  others_without i (o ∷ os) = go (same_owner w o) (eqb i o.id) refl refl (others_without i os)
    where
      go : (s g : Bool) → same_owner w o ≡ s → eqb i o.id ≡ g → others w (without i os) ≡ without i (others w os) → others w (pick g (without i os) (o ∷ without i os)) ≡ without i (pick s (others w os) (o ∷ others w os))
      go true true e h r = r
      go true false e h r = rw e r
      go false true e h r = rw h r
      go false false e h r = rw (e, h) (ap (λ (l : List Order). o ∷ l) r)

  others_insert : (k : ℕ) (x : Order) (os : List Order) → T (not (same_owner w x)) → Rises k os → others w (insert x os) ≡ insert x (others w os)
  unfolding others insert pick
  others_insert k x [] n r = rw (T_false (same_owner w x) n)
  others_insert k x (o ∷ os) n r = go (same_owner w o) (ltb x.id o.id) refl refl (others_insert o.id x os n r.1)
    where
      before : ltb x.id o.id ≡ true → x.id < o.id
      before h = ltb→lt x.id o.id (subst T (sym h) tt)

      later : x.id < o.id → All (λ (y : Order). x.id < y.id) (others w os)
      later l = others_all (λ (y : Order). x.id < y.id) os (all_map (λ y m. omega arith) os (rises_all o.id os r.1))

      go : (s g : Bool) → same_owner w o ≡ s → ltb x.id o.id ≡ g → others w (insert x os) ≡ insert x (others w os) → others w (pick g (x ∷ o ∷ os) (o ∷ insert x os)) ≡ insert x (pick s (others w os) (o ∷ others w os))
      go true true e h q = rw (T_false (same_owner w x) n, e) (sym (insert_first x (others w os) (later (before h))))
      go true false e h q = rw e q
      go false true e h q = rw (T_false (same_owner w x) n, e) (sym (insert_first x (o ∷ others w os) (before h, later (before h))))
      go false false e h q = rw (e, h) (ap (λ (l : List Order). o ∷ l) q)

  -- a trade with another's order
  others_after_trade : (o : Order) (q : ℕ) (os : List Order) → T (not (same_owner w o)) → Rises 0 os → others w (after_trade o q os) ≡ after_trade o q (others w os)
  unfolding after_trade same_owner pick
  others_after_trade o q os n r = go (leb o.shares q)
    where
      go : (b : Bool) → others w (pick b (without o.id os) (insert (reduced q o) (without o.id os))) ≡ pick b (without o.id (others w os)) (insert (reduced q o) (without o.id (others w os)))
      go true = others_without o.id os
      go false = others_insert 0 (reduced q o) (without o.id os) n (rises_without 0 o.id os r) ∙ ap (insert (reduced q o)) (others_without o.id os)

  -- an own order that is taken out isn't missed
  others_withdrawn : (o : Order) (os : List Order) → T (same_owner w o) → Memᴰ o os → Distinct os → others w (without o.id os) ≡ others w os
  others_withdrawn o os t m d = others_without o.id os ∙ without_none o.id (others w os) apart
    where
      apart : All (Other o.id) (others w os)
      apart =
          all_both (λ x k n e. T_not (same_owner w x) n (subst (λ (z : Order). T (same_owner w z)) (sym (same_id k m d e)) t)) (others w os) (others_all (λ (x : Order). Memᴰ x os) os (all_members os)) (others_not_own os)

  -- whom the order meets next

  next_none : (os : List Order) → counterparty w os ≡ none → counterparty w (others w os) ≡ none
  next_none os e = go (counterparty w (others w os)) (counterparty_reached w (others w os)) (subst (Reached w os) e (counterparty_reached w os))
    where
      go : (t : Option Order) → Reached w (others w os) t → Reached w os none → t ≡ none
      go none r h = refl
      go (some x) r (inl h) = absurd (omega (arith, r.2))
      go (some x) r (inr h) = absurd (T_not (reaches w x) (all-at (Unreached w) (mem_others os r.0) h) r.1)

  next_some : (o : Order) (os : List Order) → Differ stamp_of os → T (not (same_owner w o)) → counterparty w os ≡ some o → counterparty w (others w os) ≡ some o
  next_some o os d n e = go (counterparty w (others w os)) (counterparty_reached w (others w os)) refl
    where
      r : Reached w os (some o)
      r = subst (Reached w os) e (counterparty_reached w os)

      m : Memᴰ o (others w os)
      m = others_mem n r.0

      by_stamp : (x : Order) → counterparty w (others w os) ≡ some x → Memᴰ x os → T (reaches w x) → Dec (x.stamp ≡ o.stamp) → x ≡ o
      by_stamp x h k t (yes z) = same_by stamp_of k r.0 d z
      by_stamp x h k t (no z) =
          let first : T (not (better w x o)) = all-at (λ (y : Order). T (reaches w y) → T (not (better w y o))) k (counterparty_best w o os e) t in
          let second : T (not (better w o x)) = all-at (λ (y : Order). T (reaches w y) → T (not (better w y x))) m (counterparty_best w x (others w os) h) r.1 in
          absurd (T_not (better w o x) second (better_total w x o z first))

      go : (t : Option Order) → Reached w (others w os) t → counterparty w (others w os) ≡ t → t ≡ some o
      go none (inl h) q = absurd (omega (arith, r.2))
      go none (inr h) q = absurd (T_not (reaches w o) (all-at (Unreached w) m h) r.1)
      go (some x) h q = ap some (by_stamp x q (mem_others os h.0) h.1 (ℕ_discrete x.stamp o.stamp))

-- others are the same for what is left of an order
others_left : (w : Order) (q : ℕ) (os : List Order) → others (reduced q w) os ≡ others w os
unfolding others same_owner
others_left w q [] = refl
others_left w q (o ∷ os) = rw (others_left w q os)

-- where nobody is met, nothing happens
trading_none : (m : ℕ) (w : Order) (os : List Order) → counterparty w os ≡ none → trading_up_to m w os ≡ unmatched w os
unfolding trading_up_to trading_with
trading_none zero w os e = refl
trading_none (suc m) w os e = rw e

-- the one matching beside the other

record Same (w : Order) (a b : Matched) : Type 0 where
  executions : executions_of a.happenings ≡ executions_of b.happenings
  left : a.left ≡ b.left
  orders : others w a.orders ≡ b.orders

-- at most n meetings of the one and m of the other, each enough
abbrev SameUpTo : ℕ → Type 0
SameUpTo n = (m : ℕ) (w : Order) (os : List Order) → Rises 0 os → Differ stamp_of os → Within n w os → Within m w (others w os) → Same w (matching_up_to n w os) (trading_up_to m w (others w os))

same_none : (m : ℕ) (w : Order) (os : List Order) → counterparty w os ≡ none → Same w (unmatched w os) (trading_up_to m w (others w os))
same_none m w os e = rw (trading_none m w (others w os) (next_none w os e)) (record { executions = refl; left = refl; orders = refl })

module _ (n : ℕ) (later : SameUpTo n) (w o : Order) (os : List Order) (r : Rises 0 os) (d : Differ stamp_of os) (y : Within (suc n) w os) (e : counterparty w os ≡ some o) where
  reached : Reached w os (some o)
  reached = subst (Reached w os) e (counterparty_reached w os)

  distinct : Distinct os
  distinct = rises_distinct 0 os r

  -- the meeting, and matching with what it leaves
  abbrev goes_on : Meeting → Matched
  goes_on x = once_more x.happening (matching_up_to n x.left x.orders)

  same_own : (m : ℕ) → Within m w (others w os) → T (same_owner w o) → Same w (goes_on (withdrawing w o os)) (trading_up_to m w (others w os))
  unfolding withdrawing executions_of
  same_own m z t =
      let q : others w (without o.id os) ≡ others w os = others_withdrawn w o os t reached.0 distinct in
      let s = later m w (without o.id os) (rises_without 0 o.id os r) (without_differ stamp_of o.id os d) (withdrawing_within n w o os reached.0 distinct y) (subst (Within m w) (sym q) z) in
      let k : Same w (matching_up_to n w (without o.id os)) (trading_up_to m w (others w os)) = subst (λ (l : List Order). Same w (matching_up_to n w (without o.id os)) (trading_up_to m w l)) q s in
      record { executions = k.executions; left = k.left; orders = k.orders }

  same_other : (m : ℕ) → Within m w (others w os) → T (not (same_owner w o)) → Same w (goes_on (trading w o os)) (trading_up_to m w (others w os))
  unfolding trading executions_of trading_up_to trading_with
  same_other zero z t = absurd (none_within w o (others w os) (others_differ w id_of os distinct) z (subst (Reached w (others w os)) (next_some w o os d t e) (counterparty_reached w (others w os))))
  same_other (suc m) z t =
      let q : ℕ = min w.shares o.shares in
      let x : Order = reduced q w in
      let l : others x (after_trade o q os) ≡ after_trade o q (others w os) = others_left w q (after_trade o q os) ∙ others_after_trade w o q os t r in
      let f : Within m x (after_trade o q (others w os)) = trading_within m w o (others w os) (others_mem w t reached.0) (others_differ w id_of os distinct) z in
      let s = later m x (after_trade o q os) (rises_after_trade 0 o q os reached.0 r) (after_trade_differ q reached.0 distinct stamp_of refl d) (trading_within n w o os reached.0 distinct y) (subst (Within m x) (sym l) f) in
      let k : Same x (matching_up_to n x (after_trade o q os)) (trading_up_to m x (after_trade o q (others w os))) = subst (λ (u : List Order). Same x (matching_up_to n x (after_trade o q os)) (trading_up_to m x u)) l s in
      rw (next_some w o os d t e)
      (record {
        executions = ap (λ (u : List Execution). execution w o q ∷ u) k.executions;
        left = k.left;
        orders = sym (others_left w q (matching_up_to n x (after_trade o q os)).orders) ∙ k.orders;
      })

  same_some : (m : ℕ) → Within m w (others w os) → Same w (goes_on (meeting w o os)) (trading_up_to m w (others w os))
  same_some m z = meeting_by_owner (λ (x : Meeting). Same w (goes_on x) (trading_up_to m w (others w os))) w o os (same_own m z) (same_other m z)

same_up_to : (n : ℕ) → SameUpTo n
unfolding matching_up_to matching_with
same_up_to zero m w os r d y z = go (counterparty w os) refl
  where
    go : (t : Option Order) → counterparty w os ≡ t → Same w (unmatched w os) (trading_up_to m w (others w os))
    go none e = same_none m w os e
    go (some o) e = absurd (none_within w o os (rises_distinct 0 os r) y (subst (Reached w os) e (counterparty_reached w os)))
same_up_to (suc n) m w os r d y z = go (counterparty w os) refl (same_up_to n)
  where
    go : (t : Option Order) → counterparty w os ≡ t → SameUpTo n → Same w (matching_with (matching_up_to n) t w os) (trading_up_to m w (others w os))
    go none e f = same_none m w os e
    go (some o) e f = same_some n f w o os r d y e m z

-- what is withdrawn

consed_all : (P : Happening → Type 0) (hs xs : List Happening) → All P (foldl (λ (l : List Happening) (x : Happening). x ∷ l) hs xs) → All P hs × All P xs
consed_all P hs [] h = (h, tt)
consed_all P hs (x ∷ xs) h = let r = consed_all P (x ∷ hs) xs h in (r.0.1, (r.0.0, r.1))

-- the owner alone tells whose an order is
same_firm_lem : (w x o : Order) → x.owner ≡ w.owner → same_owner x o ≡ same_owner w o
unfolding same_owner
same_firm_lem w x o e = rw e

module _ (w : Order) (os : List Order) where
  -- an own order is as it was
  abbrev AsItWas : Order → Type 0
  AsItWas o = T (same_owner w o) → Memᴰ o os

  record Kept (x : Order) (l : List Order) (hs : List Happening) : Type 0 where
    owner : x.owner ≡ w.owner
    distinct : Distinct l
    own : All AsItWas l
    withdrawals : All (WithdrawsOwn w os l) hs

  own_trade : (o : Order) (q : ℕ) (l : List Order) → T (not (same_owner w o)) → All AsItWas l → All AsItWas (after_trade o q l)
  unfolding after_trade same_owner
  own_trade o q l n h =
      let r = without_all AsItWas o.id l h in
      by_test (All AsItWas) _ (λ t. r) (λ t. all_taken AsItWas (insert_taken (reduced q o) (without o.id l)) (λ u. absurd (T_not (same_owner w o) n u)) r)

  -- what is gone stays gone in a book with none but ids of the one before
  still_gone : (l k : List Order) → ((i : ℕ) → All (Other i) l → All (Other i) k) → (hs : List Happening) → All (WithdrawsOwn w os l) hs → All (WithdrawsOwn w os k) hs
  still_gone l k f [] h = tt
  still_gone l k f (traded x ∷ hs) h = (tt, still_gone l k f hs h.1)
  still_gone l k f (withdrawn i q ∷ hs) h = ((h.0.0, f i h.0.1), still_gone l k f hs h.1)

  withdraws_own : (x o : Order) (l : List Order) (hs : List Happening) → Reached x l (some o) → Kept x l hs → let z : Meeting = meeting x o l in Kept z.left z.orders (z.happening ∷ hs)
  unfolding trading withdrawing
  withdraws_own x o l hs r i = meeting_by_owner (λ (z : Meeting). Kept z.left z.orders (z.happening ∷ hs)) x o l own other
    where
      own : T (same_owner x o) → Kept (withdrawing x o l).left (withdrawing x o l).orders ((withdrawing x o l).happening ∷ hs)
      own t =
          let u : T (same_owner w o) = subst T (same_firm_lem w x o i.owner) t in
          let was : OwnOrder w os o.id o.shares = record { order = o; rests = all-at AsItWas r.0 i.own u; own = u; id = refl; shares = refl } in
          record {
            owner = i.owner;
            distinct = without_differ id_of o.id l i.distinct;
            own = without_all AsItWas o.id l i.own;
            withdrawals = ((was, without_other o.id l), still_gone l (without o.id l) (λ k h. without_all (Other k) o.id l h) hs i.withdrawals);
          }

      other : T (not (same_owner x o)) → Kept (trading x o l).left (trading x o l).orders ((trading x o l).happening ∷ hs)
      other t =
          let q : ℕ = min x.shares o.shares in
          record {
            owner = i.owner;
            distinct = after_trade_differ q r.0 i.distinct id_of refl i.distinct;
            own = own_trade o q l (subst (λ (b : Bool). T (not b)) (same_firm_lem w x o i.owner) t) i.own;
            withdrawals = (tt, still_gone l (after_trade o q l) (λ k h. after_trade_all q r.0 i.distinct (Other k) (λ z n j f. f) h) hs i.withdrawals);
          }

  all_own : Distinct os → All (WithdrawsOwn w os (matching w os).orders) (matching w os).happenings × All AsItWas (matching w os).orders
  all_own d =
      let start : Kept w os [] = record { owner = refl; distinct = d; own = all_map (λ o m t. m) os (all_members os); withdrawals = tt } in
      let k = matching_keeps (λ (l : List Happening) (x : Happening). x ∷ l) Kept withdraws_own w os [] start in
      ((consed_all (WithdrawsOwn w os (matching w os).orders) [] (matching w os).happenings k.withdrawals).1, k.own)

pub trades_as_without_own : TradesAsWithoutOwn
unfolding matching only_trading
trades_as_without_own w os i j =
    let r = ids_rise_rises 0 os i in
    let d = rises_distinct 0 os r in
    let s = same_up_to (length os) (length (others w os)) w os r (stamps_differ_differ os j) (inr (omega arith)) (inr (omega arith)) in
    let k = all_own w os d in
    record { executions = s.executions; left = s.left; orders = s.orders; withdrawals = k.0; kept = k.1; ends = matching_ends w os d }
