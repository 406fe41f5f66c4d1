-- An account in agreement with its venue is lawful, and so demand 3 holds. Assumes nothing.
use Prim.Native.Nat.{ℕ, ◌+◌, ◌≤◌, ◌<◌}
use native.Mathlib.Omega.{arith}
use mathlib.Core.Path.{◌≡◌, ap, sym, ◌∙◌, subst}
use mathlib.Core.Logic.{◌⊎◌, inl, inr}
use mathlib.Core.Option.{Option, none, some}
use mathlib.Core.List.{List, [], ◌∷◌, map}
use lib.Dec.{T, eqb→eq}
use Rattle.numbers.specs.Tests.{All}
use Rattle.numbers.proofs.TestLaws.{by_test, neqb, all_map, all_both, map_all}
use Rattle.prices.specs.Restriction.{restriction_on}
use Rattle.book.proofs.definitions.OrderLaws.{shares_first, shares_empty}
use Rattle.book.specs.declared.Order.{Order}
use Rattle.book.specs.rules.Orders.{if_same, resting_shares}
use Rattle.engine.specs.rules.Venue.{Venue, opened}
use Rattle.engine.specs.claims.Account.{Account, fresh_account}
use Rattle.engine.specs.claims.Demand3.{Resting, resting_of, RestsLawfully, higher_of, lower_of, best_buy, best_sell, shares_left, Lawful, Demand3}
use Rattle.engine.proofs.demand3.MarketLaws.{restricted_in}
use Rattle.engine.proofs.demand3.Invariant.{TalliesKnow, TalliesAgree, Separated, AboveOrClear, SafelyPriced, AccountAgrees}
use Rattle.engine.proofs.refinement.OpeningLaws.{opening_known}
use Rattle.engine.proofs.demand3.EventKeeps.{run_keeps, opened_agrees}

shares_left_resting : (k : ℕ) (os : List Order) → shares_left k (map resting_of os) ≡ resting_shares k os
unfolding shares_left
shares_left_resting k [] = sym (shares_empty k)
shares_left_resting k (o ∷ os) = ap (λ (x : ℕ). if_same k o.id o.shares + x) (shares_left_resting k os) ∙ sym (shares_first k o os)

-- the best prices are on their sides of the border

abbrev Below : ℕ → Option ℕ → Type 0
Below b none = Unit {0}
Below b (some p) = p < b

abbrev NotBelow : ℕ → Option ℕ → Type 0
NotBelow b none = Unit {0}
NotBelow b (some p) = b ≤ p

higher_of_below : (b p : ℕ) (x : Option ℕ) → p < b → Below b x → Below b (higher_of p x)
higher_of_below b p none h k = h
higher_of_below b p (some q) h k = omega arith

lower_of_not_below : (b p : ℕ) (x : Option ℕ) → b ≤ p → NotBelow b x → NotBelow b (lower_of p x)
lower_of_not_below b p none h k = h
lower_of_not_below b p (some q) h k = omega arith

module _ (n : ℕ) (a : Account) (b : ℕ) where
  best_buy_below : (os : List Order) → All (TalliesKnow n a.tallies) os → All (Separated b) os → Below b (best_buy a (map resting_of os))
  unfolding best_buy
  best_buy_below [] k s = tt
  best_buy_below (o ∷ os) k s =
      let r = best_buy_below os k.1 s.1 in
      by_test (Below b) _ (λ t. higher_of_below b o.price (best_buy a (map resting_of os)) (s.0.buy (sym k.0.mark ∙ eqb→eq (a.tallies.mark o.id) 0 t)) r) (λ t. r)

  best_sell_not_below : (os : List Order) → All (TalliesKnow n a.tallies) os → All (Separated b) os → NotBelow b (best_sell a (map resting_of os))
  unfolding best_sell
  best_sell_not_below [] k s = tt
  best_sell_not_below (o ∷ os) k s =
      let r = best_sell_not_below os k.1 s.1 in
      by_test (NotBelow b) _ (λ t. r) (λ t. lower_of_not_below b o.price (best_sell a (map resting_of os)) (s.0.sell (λ e. neqb (a.tallies.mark o.id) 0 t (k.0.mark ∙ e))) r)

agrees_lawful : (v : Venue) (a : Account) → AccountAgrees v a → Lawful a (map resting_of v.orders)
agrees_lawful v a h =
    record {
      resting = λ p. map_all (RestsLawfully a) resting_of v.orders (all_both (lawful (rw h.market at p)) v.orders t.known h.safe);
      executions = t.executions;
      uncrossed = λ p q e f. lower p q (subst (Below border) e (best_buy_below v.last_id a border v.orders t.known h.book.uncrossed.separated)) (subst (NotBelow border) f (best_sell_not_below v.last_id a border v.orders t.known h.book.uncrossed.separated));
      shares = λ k. rw shares_left_resting (t.shares k);
      last_given = map_all (λ (r : Resting). r.price ≡ a.tallies.last_given r.id) resting_of v.orders (all_map (λ x k. sym k.last_given) v.orders t.known);
    }
  where
    t : TalliesAgree v.last_id v.orders a.tallies
    t = h.book.tallies

    border : ℕ
    border = h.book.uncrossed.border

    lower : (p q : ℕ) → p < border → border ≤ q → p < q
    lower p q x y = omega arith

    lawful : T (restriction_on (v.market.phase)) → (x : Order) → TalliesKnow v.last_id a.tallies x → SafelyPriced v.market x → RestsLawfully a (resting_of x)
    lawful p x k s e = go (s (restricted_in v.market x.mark p (sym k.mark ∙ e)))
      where
        go : AboveOrClear v.market x → (a.market.bid < x.price) ⊎ ((a.tallies.show x.id ≡ 1) × (a.tallies.bid_then x.id < x.price))
        go (inl y) = inl (rw h.market y)
        go (inr y) = inr (k.show ∙ y.0, k.clear y.1)

pub demand3 : Demand3
demand3 s close v e cs =
    rw (opening_known s close v e).fresh (agrees_lawful _ _ (run_keeps cs (opened s close) (fresh_account s close) (opened_agrees s close)))
