-- Laws of whom a working order reaches, and of whom it meets next. Assumes nothing.
use Prim.Native.Nat.{◌≤◌, ◌<◌}
use mathlib.Core.Path.{◌≡◌, refl, subst}
use mathlib.Core.Bool.{Bool, true, false, not, ◌&&◌}
use mathlib.Core.Logic.{◌⊎◌, inl, inr}
use mathlib.Core.Option.{Option, none, some}
use mathlib.Core.List.{List, [], ◌∷◌, Memᴰ}
use lib.Dec.{T, leb, leb→le, eqb→eq}
use Rattle.numbers.specs.Tests.{pick, All}
use Rattle.numbers.proofs.TestLaws.{by_test, pick_yes, pick_no, T_true, T_false, and_T, nand_T, notnot_T, neqb, tests, all_map}
use Rattle.book.specs.declared.Order.{Order}
use Rattle.book.specs.rules.Orders.{is_buy}
use Rattle.book.specs.rules.Matching.{reaches, better_of, best_from, best, counterparty}
use Rattle.book.proofs.definitions.OrderLaws.{all_members}

-- whom a working order reaches

pub reach_sell : (w o : Order) → T (not (is_buy w)) → T (reaches w o) → T (is_buy o) × (w.price ≤ o.price)
unfolding reaches
reach_sell w o t r =
    let s = and_T (is_buy o) (leb w.price o.price) (subst T (pick_no (is_buy w) _ _ t) r) in
    (s.0, leb→le w.price o.price s.1)

-- it is on the other side
pub reach_opposite : (w o : Order) → T (reaches w o) → is_buy o ≡ not (is_buy w)
unfolding reaches pick
reach_opposite w o = go (is_buy w)
  where
    go : (b : Bool) → T (pick b (not (is_buy o) && leb o.price w.price) (is_buy o && leb w.price o.price)) → is_buy o ≡ not b
    go true r = T_false (is_buy o) (and_T (not (is_buy o)) _ r).0
    go false r = T_true (is_buy o) (and_T (is_buy o) _ r).0

abbrev pub Unreached : Order → Order → Type 0
Unreached w o = T (not (reaches w o))

pub unreached_buy : (w o : Order) → T (is_buy w) → Unreached w o → (o.mark ≡ 0 → ⊥) → w.price < o.price
unfolding reaches
unreached_buy w o t r z =
    go (nand_T (not (is_buy o)) (leb o.price w.price) (subst (λ (b : Bool). T (not b)) (pick_yes (is_buy w) _ _ t) r))
  where
    go : T (not (not (is_buy o))) ⊎ T (not (leb o.price w.price)) → w.price < o.price
    go (inl h) = absurd (z (eqb→eq o.mark 0 (notnot_T (is_buy o) h)))
    go (inr h) = omega tests

pub unreached_sell : (w o : Order) → T (not (is_buy w)) → Unreached w o → o.mark ≡ 0 → o.price < w.price
unfolding reaches
unreached_sell w o t r z =
    go (nand_T (is_buy o) (leb w.price o.price) (subst (λ (b : Bool). T (not b)) (pick_no (is_buy w) _ _ t) r))
  where
    go : T (not (is_buy o)) ⊎ T (not (leb w.price o.price)) → o.price < w.price
    go (inl h) = absurd (neqb o.mark 0 h z)
    go (inr h) = omega tests

-- whom a working order meets next

-- what is known where the counterparty is this: none, as no shares remain or nobody is reached, or an order that rests and is reached
abbrev pub Reached : Order → List Order → Option Order → Type 0
Reached w os none = (w.shares ≡ 0) ⊎ All (Unreached w) os
Reached w os (some o) = Memᴰ o os × T (reaches w o) × (0 < w.shares)

abbrev IfSome : (Order → Type 0) → Option Order → Type 0
IfSome P none = Unit {0}
IfSome P (some o) = P o

abbrev IfNone : Type 0 → Option Order → Type 0
IfNone Q none = Q
IfNone Q (some o) = Unit {0}

better_of_by : (P : Option Order → Type 0) (w : Order) (x : Option Order) (o : Order) → P (some o) → ((y : Order) → x ≡ some y → P (some y)) → P (better_of w x o)
unfolding better_of
better_of_by P w none o h k = h
better_of_by P w (some y) o h k = by_test P _ (λ t. h) (λ t. k y refl)

best_from_if : (w : Order) (P : Order → Type 0) (os : List Order) (x : Option Order) → All (λ (o : Order). T (reaches w o) → P o) os → IfSome P x → IfSome P (best_from w x os)
unfolding best_from
best_from_if w P [] x h k = k
best_from_if w P (o ∷ os) x h k =
    best_from_if w P os _ h.1 (by_test (IfSome P) _ (λ t. better_of_by (IfSome P) w x o (h.0 t) (λ y e. subst (IfSome P) e k)) (λ t. k))

best_from_some : (w : Order) (os : List Order) (y : Order) → IfNone ⊥ (best_from w (some y) os)
unfolding best_from
best_from_some w [] y = tt
best_from_some w (o ∷ os) y =
    by_test (λ (x : Option Order). IfNone ⊥ (best_from w x os)) _ (λ t. better_of_by (λ (x : Option Order). IfNone ⊥ (best_from w x os)) w (some y) o (best_from_some w os o) (λ z e. best_from_some w os z)) (λ t. best_from_some w os y)

best_from_none : (w : Order) (os : List Order) (x : Option Order) → IfNone (All (Unreached w) os) (best_from w x os)
unfolding best_from
best_from_none w [] x = nothing x
  where
    nothing : (x : Option Order) → IfNone (Unit {0}) x
    nothing none = tt
    nothing (some o) = tt
best_from_none w (o ∷ os) x =
    by_test
    (λ (y : Option Order). IfNone (All (Unreached w) (o ∷ os)) (best_from w y os))
    _
    (λ t. better_of_by (λ (y : Option Order). IfNone (All (Unreached w) (o ∷ os)) (best_from w y os)) w x o (never (best_from w (some o) os) (best_from_some w os o)) (λ y e. never (best_from w (some y) os) (best_from_some w os y)))
    (λ t. more t (best_from w x os) (best_from_none w os x))
  where
    never : (r : Option Order) → IfNone ⊥ r → IfNone (All (Unreached w) (o ∷ os)) r
    never none h = absurd h
    never (some y) h = tt

    more : Unreached w o → (r : Option Order) → IfNone (All (Unreached w) os) r → IfNone (All (Unreached w) (o ∷ os)) r
    more t none h = (t, h)
    more t (some y) h = tt

pub counterparty_reached : (w : Order) (os : List Order) → Reached w os (counterparty w os)
unfolding counterparty best
counterparty_reached w os =
    by_test (Reached w os) _ (λ t. inl (eqb→eq w.shares 0 t)) (λ t. both (omega tests) (best_from w none os) (best_from_if w Met os none (all_map (λ o m r. (m, r)) os (all_members os)) tt) (best_from_none w os none))
  where
    Met : Order → Type 0
    Met o = Memᴰ o os × T (reaches w o)

    both : 0 < w.shares → (r : Option Order) → IfSome Met r → IfNone (All (Unreached w) os) r → Reached w os r
    both l none h k = inr k
    both l (some o) h k = (h.0, h.1, l)
