-- A meeting, matching, and what becomes of the remainder keep the tallies in agreement with the book. Assumes nothing.
use Prim.Native.Nat.{ℕ, suc, ◌+◌, ◌≤◌, ◌<◌, min, max}
use native.Mathlib.Omega.{arith}
use mathlib.Core.Path.{◌≡◌, refl, sym, ◌∙◌}
use mathlib.Core.Bool.{not}
use mathlib.Core.Logic.{◌⊎◌, inl, inr}
use mathlib.Core.Option.{none, some}
use mathlib.Core.List.{List, foldl, foldl-append, foldl-map}
use lib.Dec.{T, eqb, eqb→eq}
use Rattle.numbers.specs.Tests.{pick, All}
use Rattle.numbers.proofs.TestLaws.{by_test, ne→T, neqb, tests, all_both}
use Rattle.book.specs.declared.Order.{Order}
use Rattle.book.specs.rules.Orders.{is_buy, reduced, if_same, without, insert}
use Rattle.book.specs.rules.Matching.{Execution, after_trade, Happening, Meeting, trading, meeting, Matched, matching}
use Rattle.book.proofs.definitions.ShareLaws.{if_same_less}
use Rattle.book.proofs.definitions.OrderLaws.{shares_first, id_of, Other, Distinct, TakenOut, taken_all, taken_differ, taken_shares, all_taken, mem_taken, insert_taken}
use Rattle.book.proofs.definitions.CounterpartyLaws.{reach_sell, Unreached, unreached_buy, unreached_sell, Reached}
use Rattle.book.proofs.definitions.MeetingLaws.{execution_by, meeting_by, trading_known, withdrawing_known}
use Rattle.book.proofs.definitions.MatchingLaws.{KeptReduced, KeptResting, after_trade_all, after_trade_differ, after_trade_shares, matching_keeps, matching_all, matching_ends}
use Rattle.engine.specs.declared.Market.{Market}
use Rattle.engine.specs.declared.Remainder.{Remainder}
use Rattle.engine.specs.declared.Remainder.TheVariants.{Filled, Cancelled, Rests}
use Rattle.engine.specs.rules.Working.{remainder, after_remainder, happened, work}
use Rattle.engine.specs.claims.Account.{Tallies, fill_of, read_execution, read_cancelled, read_report}
use Rattle.engine.specs.claims.Demand3.{FilledLawfully}
use Rattle.engine.proofs.demand3.MarketLaws.{restricted_in}
use Rattle.engine.proofs.demand3.Invariant.{TalliesKnow, Separated, AboveOrClear, SafelyPriced, BookAgrees, WhileWorking}
use Rattle.engine.proofs.demand3.TallyLaws.{agree_placed, agree_cancelled, agree_filled}

-- a meeting

module _ (m : Market) (n : ℕ) (w o : Order) (os : List Order) (c : Tallies) (r : Reached w os (some o)) (i : WhileWorking m n w os c) where
  distinct : Distinct os
  distinct = i.tallies.distinct.1

  taken : TakenOut o os (without o.id os)
  taken = mem_taken r.0 distinct

  known : TalliesKnow n c o
  known = (taken_all (TalliesKnow n c) taken i.tallies.known.1).0

  -- q shares are traded between x and y, who are w and o
  trade_keeps : (q x y : ℕ) → q ≤ w.shares → q ≤ o.shares → ((k : ℕ) → if_same k x q + if_same k y q ≡ if_same k w.id q + if_same k o.id q) → FilledLawfully (fill_of m c x o.price) → FilledLawfully (fill_of m c y o.price)
      → WhileWorking m n (reduced q w) (after_trade o q os) (read_execution m c (record { buyer = x; seller = y; price = o.price; shares = q }))
  trade_keeps q x y hw ho e fx fy =
      record {
        tallies =
            record {
              known = (i.tallies.known.0, kept (TalliesKnow n c) (λ z s l h. h) i.tallies.known.1);
              distinct = (kept (Other w.id) (λ z s l h. h) i.tallies.distinct.0, after_trade_differ q r.0 distinct id_of refl distinct);
              shares = λ k. omega (arith, i.tallies.shares k, e k, shares_first k w os, shares_first k (reduced q w) (after_trade o q os), after_trade_shares q r.0 distinct ho k, if_same_less k w.id w.shares q hw);
              executions = (fx, (fy, i.tallies.executions));
            };
        uncrossed = record { border = i.uncrossed.border; separated = kept (Separated i.uncrossed.border) (λ z s l h. h) i.uncrossed.separated };
        working = i.working;
        above = i.above;
        safe = λ z. kept (SafelyPriced m) (λ z s l h. h) (i.safe z);
      }
    where
      kept : (P : Order → Type 0) → KeptResting P → All P os → All P (after_trade o q os)
      kept = after_trade_all q r.0 distinct

  -- the resting order's side, where w buys
  resting_lawful : T (is_buy w) → FilledLawfully (fill_of m c o.id o.price)
  resting_lawful t p e =
      go ((taken_all (SafelyPriced m) taken (i.safe (eqb→eq w.mark 0 t))).0 (restricted_in m o.mark p (sym known.mark ∙ e)))
    where
      other : o.id ≡ c.working → ⊥
      other z = (taken_all (Other w.id) taken i.tallies.distinct.0).0 (z ∙ i.working)

      go : AboveOrClear m o → (m.bid < o.price) ⊎ (T (not (eqb o.id c.working)) × (c.show o.id ≡ 1) × (o.price ≡ c.last_given o.id) × (c.bid_then o.id < c.last_given o.id))
      go (inl h) = inl h
      go (inr h) = inr (ne→T o.id c.working other, known.show ∙ h.0, sym known.last_given, omega (arith, known.clear h.1, known.last_given))

  -- the working order's side, where w sells
  working_lawful : T (not (is_buy w)) → FilledLawfully (fill_of m c w.id o.price)
  working_lawful t p e =
      inl (omega (arith, i.above (restricted_in m w.mark p (sym i.tallies.known.0.mark ∙ e)), (reach_sell w o t r.1).1))

  -- a buyer isn't short
  buyer_lawful : (z : Order) → TalliesKnow n c z → T (is_buy z) → FilledLawfully (fill_of m c z.id o.price)
  buyer_lawful z h t p e = absurd (omega (tests, h.mark))

  trading_keeps : WhileWorking m n (trading w o os).left (trading w o os).orders (read_report m c (happened (trading w o os).happening))
  trading_keeps =
      let q : ℕ = min w.shares o.shares in
      rw
      (trading_known w o os)
      (execution_by
      (λ (x : Execution). WhileWorking m n (reduced q w) (after_trade o q os) (read_execution m c x))
      w
      o
      q
      (λ t. trade_keeps q w.id o.id (omega arith) (omega arith) (λ k. refl) (buyer_lawful w i.tallies.known.0 t) (resting_lawful t))
      (λ t. trade_keeps q o.id w.id (omega arith) (omega arith) (λ k. omega arith) (buyer_lawful o known (reach_sell w o t r.1).0) (working_lawful t)))

  -- the resting order is cancelled
  withdrawn_keeps : WhileWorking m n w (without o.id os) (read_cancelled o.id o.shares c)
  withdrawn_keeps =
      record {
        tallies =
            record {
              known = (i.tallies.known.0, (taken_all (TalliesKnow n c) taken i.tallies.known.1).1);
              distinct = ((taken_all (Other w.id) taken i.tallies.distinct.0).1, (taken_differ id_of taken distinct).1);
              shares = λ k. omega (arith, i.tallies.shares k, shares_first k w os, shares_first k w (without o.id os), taken_shares taken k);
              executions = i.tallies.executions;
            };
        uncrossed = record { border = i.uncrossed.border; separated = (taken_all (Separated i.uncrossed.border) taken i.uncrossed.separated).1 };
        working = i.working;
        above = i.above;
        safe = λ z. (taken_all (SafelyPriced m) taken (i.safe z)).1;
      }

  meeting_keeps : WhileWorking m n (meeting w o os).left (meeting w o os).orders (read_report m c (happened (meeting w o os).happening))
  meeting_keeps =
      meeting_by (λ (x : Meeting). WhileWorking m n x.left x.orders (read_report m c (happened x.happening))) w o os (rw (withdrawing_known w o os) withdrawn_keeps) trading_keeps

-- what becomes of the remainder

-- the border once w rests too
border_with : Order → ℕ → ℕ
border_with w b = pick (is_buy w) (max b (suc w.price)) (min b w.price)

insert_separated : (w : Order) (os : List Order) (b : ℕ) → All (Unreached w) os → All (Separated b) os → All (Separated (border_with w b)) (insert w os)
unfolding border_with
insert_separated w os b h s =
    by_test
    (λ (x : ℕ). All (Separated x) (insert w os))
    _
    (λ t. all_taken (Separated (max b (suc w.price))) (insert_taken w os) (record { buy = λ e. omega arith; sell = λ z. absurd (z (eqb→eq w.mark 0 t)) }) (all_both (λ x y z. record { buy = λ e. omega (arith, y.buy e); sell = λ e. omega (arith, y.sell e, unreached_buy w x t z e) }) os s h))
    (λ t. all_taken (Separated (min b w.price)) (insert_taken w os) (record { buy = λ e. absurd (neqb w.mark 0 t e); sell = λ e. omega arith }) (all_both (λ x y z. record { buy = λ e. omega (arith, y.buy e, unreached_sell w x t z e); sell = λ e. omega (arith, y.sell e) }) os s h))

-- what is known where this becomes of the remainder
abbrev RemainderFits : Remainder → Order → List Order → Type 0
RemainderFits Filled w os = w.shares ≡ 0
RemainderFits (Cancelled cause) w os = Unit {0}
RemainderFits Rests w os = All (Unreached w) os

remainder_fits : (w : Order) (os : List Order) → Reached w os none → RemainderFits (remainder w) w os
unfolding remainder
remainder_fits w os h =
    by_test Fits _ (λ t. eqb→eq w.shares 0 t) (λ t. by_test Fits _ (λ s. tt) (λ s. by_test Fits _ (λ r. tt) (λ r. unreached (neqb w.shares 0 t) h)))
  where
    Fits : Remainder → Type 0
    Fits x = RemainderFits x w os

    unreached : (w.shares ≡ 0 → ⊥) → Reached w os none → All (Unreached w) os
    unreached z (inl e) = absurd (z e)
    unreached z (inr x) = x

after_remainder_keeps : (m : Market) (n : ℕ) (x : Remainder) (w : Order) (os : List Order) (c : Tallies) → RemainderFits x w os → WhileWorking m n w os c → BookAgrees n (after_remainder x w os).orders (foldl (read_report m) c (after_remainder x w os).reports)
unfolding after_remainder
after_remainder_keeps m n Filled w os c h i = record { tallies = agree_filled i.tallies h; uncrossed = i.uncrossed }
after_remainder_keeps m n (Cancelled cause) w os c h i = record { tallies = agree_cancelled i.tallies; uncrossed = i.uncrossed }
after_remainder_keeps m n Rests w os c h i =
    record {
      tallies = agree_placed (insert_taken w os) i.tallies;
      uncrossed = record { border = border_with w i.uncrossed.border; separated = insert_separated w os i.uncrossed.border h i.uncrossed.separated };
    }

pub after_remainder_all : (P : Order → Type 0) (x : Remainder) (w : Order) (os : List Order) → P w → All P os → All P (after_remainder x w os).orders
unfolding after_remainder
after_remainder_all P Filled w os p h = h
after_remainder_all P (Cancelled cause) w os p h = h
after_remainder_all P Rests w os p h = all_taken P (insert_taken w os) p h

-- what the tallies read of a meeting
abbrev read_happening : Market → Tallies → Happening → Tallies
read_happening m c x = read_report m c (happened x)

-- an order works

pub work_keeps : (m : Market) (n : ℕ) (w : Order) (os : List Order) (c : Tallies) → WhileWorking m n w os c → BookAgrees n (work w os).orders (foldl (read_report m) c (work w os).reports)
unfolding work
work_keeps m n w os c i =
    let x : Matched = matching w os in
    rw (foldl-append, foldl-map) (after_remainder_keeps m n (remainder x.left) x.left x.orders (foldl (read_happening m) c x.happenings) (remainder_fits x.left x.orders (matching_ends w os i.tallies.distinct.1)) (matching_keeps (read_happening m) (WhileWorking m n) (meeting_keeps m n) w os c i))

-- what the shares of an order don't touch is kept
pub work_all : (P : Order → Type 0) → KeptReduced P → (w : Order) (os : List Order) → Distinct os → P w → All P os → All P (work w os).orders
unfolding work
work_all P s w os d p h = let r = matching_all P s w os d p h in after_remainder_all P _ _ _ r.1 r.2
