-- Laws of tallies that agree with a list of orders. Assumes nothing.
use Prim.Native.Nat.{ℕ, ◌≤◌, ◌<◌}
use native.Mathlib.Omega.{arith}
use mathlib.Core.Path.{◌≡◌, ap, ◌∙◌}
use mathlib.Core.List.{List, ◌∷◌}
use lib.Dec.{T, eqb, eqb_refl}
use Rattle.numbers.specs.Tests.{All}
use Rattle.numbers.proofs.TestLaws.{pick_yes, pick_no, ne→T, all_both}
use Rattle.book.specs.declared.Order.{Order}
use Rattle.book.specs.rules.Orders.{if_same}
use Rattle.book.proofs.definitions.ShareLaws.{if_same_zero}
use Rattle.book.proofs.definitions.OrderLaws.{shares_first, id_of, Other, TakenOut, taken_all, all_taken, taken_differ, differ_taken, taken_shares}
use Rattle.engine.specs.claims.Account.{Tallies, set_at, give_price, read_cancelled}
use Rattle.engine.proofs.demand3.Invariant.{TalliesKnow, TalliesAgree}

-- a column with one entry set

pub set_at_same : {A : Type 0} (k : ℕ) (x : A) (f : ℕ → A) → set_at k x f k ≡ x
unfolding set_at
set_at_same k x f = pick_yes (eqb k k) _ _ (eqb_refl k)

pub set_at_other : {A : Type 0} (k : ℕ) (x : A) (f : ℕ → A) (j : ℕ) → (j ≡ k → ⊥) → set_at k x f j ≡ f j
unfolding set_at
set_at_other k x f j h = pick_no (eqb j k) _ _ (ne→T j k h)

-- a price is given to one order

module _ (n b : ℕ) (c : Tallies) where
  pub give_price_others : (k p : ℕ) (os : List Order) → All (Other k) os → All (TalliesKnow n c) os → All (TalliesKnow n (give_price b k p c)) os
  give_price_others k p =
      all_both (λ x e t. record { id = t.id; mark = t.mark; show = t.show; last_given = set_at_other k p c.last_given x.id e ∙ t.last_given; clear = λ s. omega (arith, set_at_other k b c.bid_then x.id e, t.clear s) })

  pub give_price_own : (w : Order) → w.id ≤ n → c.mark w.id ≡ w.mark → c.show w.id ≡ w.show → (T w.clear → b < w.price) → TalliesKnow n (give_price b w.id w.price c) w
  give_price_own w l e f h =
      record {
        id = l;
        mark = e;
        show = f;
        last_given = set_at_same w.id w.price c.last_given;
        clear = λ t. omega (arith, set_at_same w.id b c.bid_then, h t);
      }

-- one order first, and in its place

module _ {n : ℕ} {c : Tallies} {o : Order} {os rs : List Order} (t : TakenOut o os rs) where
  pub agree_first : TalliesAgree n os c → TalliesAgree n (o ∷ rs) c
  agree_first h =
      record {
        known = taken_all (TalliesKnow n c) t h.known;
        distinct = taken_differ id_of t h.distinct;
        shares = λ k. omega (arith, h.shares k, taken_shares t k, shares_first k o rs);
        executions = h.executions;
      }

  pub agree_placed : TalliesAgree n (o ∷ rs) c → TalliesAgree n os c
  agree_placed h =
      record {
        known = all_taken (TalliesKnow n c) t h.known.0 h.known.1;
        distinct = differ_taken id_of t h.distinct.0 h.distinct.1;
        shares = λ k. omega (arith, h.shares k, taken_shares t k, shares_first k o rs);
        executions = h.executions;
      }

-- the first order leaves

module _ {n : ℕ} {c : Tallies} {o : Order} {os : List Order} (h : TalliesAgree n (o ∷ os) c) where
  pub agree_cancelled : TalliesAgree n os (read_cancelled o.id o.shares c)
  agree_cancelled = record { known = h.known.1; distinct = h.distinct.1; shares = λ k. omega (arith, h.shares k, shares_first k o os); executions = h.executions }

  pub agree_filled : o.shares ≡ 0 → TalliesAgree n os c
  agree_filled e =
      record {
        known = h.known.1;
        distinct = h.distinct.1;
        shares = λ k. omega (arith, h.shares k, shares_first k o os, ap (if_same k o.id) e ∙ if_same_zero k o.id);
        executions = h.executions;
      }
