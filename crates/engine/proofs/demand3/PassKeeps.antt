-- The pass keeps the tallies in agreement with the book, and leaves every order safely priced. Assumes nothing.
use Prim.Native.Nat.{ℕ, ◌+◌, ◌<◌, max}
use native.Mathlib.Omega.{arith}
use mathlib.Core.Path.{◌≡◌, refl, sym, subst}
use mathlib.Core.Bool.{Bool, true, not, ◌&&◌}
use mathlib.Core.Logic.{◌⊎◌, inl, inr}
use mathlib.Core.Option.{Option, none, some}
use mathlib.Core.List.Memᴰ
use mathlib.Core.List.{List, [], ◌∷◌, map, foldl, foldl-append, Memᴰ}
use lib.Dec.{T, leb, ltb, eqb, leb→le, eqb→eq, T_not}
use Rattle.numbers.specs.Tests.{pick, All}
use Rattle.prices.specs.Prices.{is_step}
use Rattle.numbers.proofs.TestLaws.{by_test, and_T, nand_T, notnot_T, tests, all_map, all_both}
use Rattle.book.specs.declared.Order.{Order}
use Rattle.book.specs.rules.Orders.{find, without}
use Rattle.book.proofs.definitions.OrderLaws.{shares_first, id_of, Other, Distinct, all_taken, mem_taken, without_all, without_other, without_differ, Found, find_found}
use Rattle.engine.specs.declared.Market.{Market}
use Rattle.engine.specs.declared.Move.{Move}
use Rattle.engine.specs.declared.Move.TheVariants.{Stay, Cancel, Reprice}
use Rattle.engine.specs.rules.Market.{restricted}
use Rattle.engine.specs.rules.Pass.{displayed_clear, move_down, slide_once, slide_down, move_of, at_new_price, Effect, after_move, pass_one, pass_over}
use Rattle.engine.specs.rules.Venue.{Venue, the_pass}
use Rattle.engine.specs.claims.Account.{Tallies, give_price, read_report}
use Rattle.engine.proofs.demand3.MarketLaws.{restricted_mark, permitted_now_above}
use Rattle.engine.proofs.demand3.Invariant.{TalliesAgree, Uncrossed, without_uncrossed, AboveOrClear, SafelyPriced, BookAgrees, WhileWorking, EffectAgrees}
use Rattle.engine.proofs.demand3.TallyLaws.{give_price_others, give_price_own, agree_first, agree_cancelled}
use Rattle.engine.proofs.demand3.WorkingKeeps.{work_keeps, work_all}

-- where an order goes

module _ (m : Market) (o : Order) where
  -- what is known where the order goes there
  abbrev MovesLawfully : Move → Type 0
  MovesLawfully Stay = SafelyPriced m o
  MovesLawfully Cancel = Unit {0}
  MovesLawfully (Reprice p used) = (m.bid < p) × T (restricted m o.mark)

  module _ (k : T (is_step m.step)) (r : T (restricted m o.mark)) where
    move_down_lawful : (t : ℕ) (used : Bool) → m.bid < t → AboveOrClear m o → MovesLawfully (move_down t used o)
    unfolding move_down
    move_down_lawful t used l h = by_test MovesLawfully _ (λ s. (l, r)) (λ s p. h)

    slide_once_lawful : AboveOrClear m o → MovesLawfully (slide_once m o)
    unfolding slide_once
    slide_once_lawful h =
        let t : ℕ = max o.limit o.entry_bid in
        by_test MovesLawfully _ (λ s. move_down_lawful t true (leb→le _ _ (and_T (not o.used) (ltb m.bid t) s).1) h) (λ s p. h)

    slide_down_lawful : AboveOrClear m o → MovesLawfully (slide_down m o)
    unfolding slide_down
    slide_down_lawful h =
        by_test MovesLawfully _ (λ s. move_down_lawful _ _ (omega (arith, permitted_now_above m k)) h) (λ s. by_test MovesLawfully _ (λ t. slide_once_lawful h) (λ t p. h))

    move_of_lawful : MovesLawfully (move_of m o)
    unfolding move_of displayed_clear
    move_of_lawful =
        by_test
        MovesLawfully
        _
        (λ s. by_test MovesLawfully _ (λ t. tt) (λ t. (permitted_now_above m k, r)))
        (λ s. let h : AboveOrClear m o = above (nand_T (leb o.price m.bid) (not (eqb o.show 1 && o.clear)) s) in by_test MovesLawfully _ (λ t. slide_down_lawful h) (λ t p. h))
      where
        above : T (not (leb o.price m.bid)) ⊎ T (not (not (eqb o.show 1 && o.clear))) → AboveOrClear m o
        above (inl x) = inl (omega tests)
        above (inr x) = let y = and_T (eqb o.show 1) o.clear (notnot_T (eqb o.show 1 && o.clear) x) in inr (eqb→eq o.show 1 y.0, y.1)

  turn_lawful : T (is_step m.step) → MovesLawfully (pick (restricted m o.mark) (move_of m o) Stay)
  turn_lawful k = by_test MovesLawfully _ (move_of_lawful k) (λ t p. absurd (T_not (restricted m o.mark) t p))

module _ (m : Market) (k : T (is_step m.step)) (n : ℕ) where
  -- an order of the book moves

  module _ (o : Order) (os : List Order) (c : Tallies) (e : Memᴰ o os) (i : BookAgrees n os c) where
    first : TalliesAgree n (o ∷ without o.id os) c
    first = agree_first (mem_taken e i.tallies.distinct) i.tallies

    uncrossed : Uncrossed (without o.id os)
    uncrossed = without_uncrossed o.id os i.uncrossed

    at_new_price_works : (p s : ℕ) (used : Bool) → m.bid < p → T (restricted m o.mark) → WhileWorking m n (at_new_price p s used o) (without o.id os) (give_price m.bid o.id p c)
    at_new_price_works p s used l r =
        record {
          tallies =
              record {
                known = (give_price_own n m.bid c (at_new_price p s used o) first.known.0.id first.known.0.mark first.known.0.show (λ t. l), give_price_others n m.bid c o.id p (without o.id os) first.distinct.0 first.known.1);
                distinct = first.distinct;
                shares = λ k. omega (arith, first.shares k, shares_first k o (without o.id os), shares_first k (at_new_price p s used o) (without o.id os));
                executions = first.executions;
              };
          uncrossed = uncrossed;
          working = refl;
          above = λ t. l;
          safe = λ z. absurd (omega (arith, restricted_mark m o.mark r));
        }

    after_move_keeps : (x : Move) (s : ℕ) → MovesLawfully m o x → BookAgrees n (after_move x o os s).orders (foldl (read_report m) c (after_move x o os s).reports)
    unfolding after_move
    after_move_keeps Stay s h = i
    after_move_keeps Cancel s h = record { tallies = agree_cancelled first; uncrossed = uncrossed }
    after_move_keeps (Reprice p used) s h = work_keeps m n _ _ _ (at_new_price_works p (s + 1) used h.0 h.1)

  pass_one_keeps : (i : ℕ) (x : Option Order) (os : List Order) (s : ℕ) (c : Tallies) → Found i os x → BookAgrees n os c → BookAgrees n (pass_one m x os s).orders (foldl (read_report m) c (pass_one m x os s).reports)
  unfolding pass_one
  pass_one_keeps i none os s c f h = h
  pass_one_keeps i (some o) os s c f h = after_move_keeps o os c f.0 h _ s (turn_lawful m o k)

  -- the orders whose turn has been are safely priced

  -- the order's turn is still to come, or it is safely priced
  abbrev WaitsOrSafe : List ℕ → Order → Type 0
  WaitsOrSafe is o = Memᴰ o.id is ⊎ SafelyPriced m o

  others_wait : (i : ℕ) (is : List ℕ) (x : Order) → WaitsOrSafe (i ∷ is) x → Other i x → WaitsOrSafe is x
  others_wait i is x (inr h) z = inr h
  others_wait i is x (inl h) z = go (Memᴰ.cases_cons h)
    where
      go : (x.id ≡ i) ⊎ Memᴰ x.id is → WaitsOrSafe is x
      go (inl e) = absurd (z e)
      go (inr e) = inl e

  after_move_safe : (x : Move) (o : Order) (is : List ℕ) (os : List Order) (s : ℕ) → MovesLawfully m o x → Memᴰ o os → Distinct os → All (WaitsOrSafe (o.id ∷ is)) os → All (WaitsOrSafe is) (after_move x o os s).orders
  unfolding after_move
  after_move_safe x o is os s h e d t = go x h
    where
      others : All (WaitsOrSafe is) (without o.id os)
      others = all_both (others_wait o.id is) (without o.id os) (without_all (WaitsOrSafe (o.id ∷ is)) o.id os t) (without_other o.id os)

      go : (x : Move) → MovesLawfully m o x → All (WaitsOrSafe is) (after_move x o os s).orders
      go Stay h = all_taken (WaitsOrSafe is) (mem_taken e d) (inr h) others
      go Cancel h = others
      go (Reprice p used) h =
          work_all (WaitsOrSafe is) (λ z q k. k) (at_new_price p (s + 1) used o) (without o.id os) (without_differ id_of o.id os d) (inr (λ r. inl h.0)) others

  pass_one_safe : (i : ℕ) (x : Option Order) (is : List ℕ) (os : List Order) (s : ℕ) → Found i os x → Distinct os → All (WaitsOrSafe (i ∷ is)) os → All (WaitsOrSafe is) (pass_one m x os s).orders
  unfolding pass_one
  pass_one_safe i none is os s f d t = all_both (others_wait i is) os t f
  pass_one_safe i (some o) is os s f d t = after_move_safe _ o is os s (turn_lawful m o k) f.0 d (subst (λ (z : ℕ). All (WaitsOrSafe (z ∷ is)) os) (sym f.1) t)

  -- the whole pass

  pass_over_keeps : (is : List ℕ) (os : List Order) (s : ℕ) (c : Tallies) → All (WaitsOrSafe is) os → BookAgrees n os c → EffectAgrees m n (pass_over m is os s) c
  unfolding pass_over
  pass_over_keeps [] os s c t h = (h, all_map safe os t)
    where
      safe : (x : Order) → WaitsOrSafe [] x → SafelyPriced m x
      safe x (inl z) = absurd (Memᴰ.not-nil z)
      safe x (inr z) = z
  pass_over_keeps (i ∷ is) os s c t h =
      let f : Found i os (find i os) = find_found i os in
      let x : Effect = pass_one m (find i os) os s in
      let r = pass_over_keeps is x.orders x.stamp (foldl (read_report m) c x.reports) (pass_one_safe i (find i os) is os s f h.tallies.distinct t) (pass_one_keeps i (find i os) os s c f h) in
      (rw foldl-append r.0, r.1)

  all_wait : (os : List Order) → All (λ (o : Order). Memᴰ o.id (map (λ (o : Order). o.id) os)) os
  all_wait [] = tt
  all_wait (x ∷ xs) = (Memᴰ.head refl, all_map (λ y e. Memᴰ.tail e) xs (all_wait xs))

  pub the_pass_keeps : (v : Venue) (c : Tallies) → BookAgrees n v.orders c → EffectAgrees m n (the_pass m v) c
  unfolding the_pass
  the_pass_keeps v c h = pass_over_keeps _ v.orders v.last_stamp c (all_map (λ x e. inl e) v.orders (all_wait v.orders)) h
