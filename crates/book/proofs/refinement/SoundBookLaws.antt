-- Laws of the conditions of refusal 16 on words: all of them together are those of each place. Assumes nothing.
use Prim.Native.Nat.{ℕ, zero, suc, ◌<◌, zero-le, suc-le-suc}
use native.Mathlib.Nat.{le_of_suc-le-suc, not-suc-le-zero}
use mathlib.Core.Path.{◌≡◌, refl, sym, subst}
use mathlib.Core.Bool.{Bool, not, ◌&&◌}
use mathlib.Core.List.{List, [], ◌∷◌}
use lib.Dec.{T, ltb, eqb, leb→le, le→leb}
use lib.ListN.{get_or}
use Rattle.numbers.specs.Tests.{every, All}
use Rattle.numbers.proofs.TestLaws.{and_T, T_and, every_T, T-every, neqb, ne→T, all_map}
use Rattle.book.specs.declared.Order.{Order}
use Rattle.book.specs.rules.Sound.{ids_rise, stamps_differ, sound_order}
use Rattle.numbers.specs.Lists.{tabulate}
use Rattle.book.specs.rules.Words.{word, order_at, resting, flags_at, is_book, sound_book}
use Rattle.book.specs.steps.RecordWalk.{stamp_at, stamp_seen, id_before, flags_in, sound_in, sound_at}
use Rattle.book.proofs.definitions.OrderLaws.{stamp_of, Differ}
use Rattle.book.proofs.definitions.RisingLaws.{Rises, ids_rise_rises, rises_ids_rise}
use Rattle.numbers.proofs.TabulateLaws.{all_tabulate, tabulate_all}
use Rattle.book.proofs.refinement.WordLaws.{HeaderLaidOut, LaidOut, is_book-laid_out, laid_out-is_book}
use Rattle.book.proofs.refinement.StampLaws.{unseen_T, T-unseen}

-- rising ids, place by place

abbrev before : ℕ → (ℕ → Order) → ℕ → ℕ
before k f zero = k
before k f (suc i) = (f i).id

before_next : (k : ℕ) (f : ℕ → Order) (i : ℕ) → before (f zero).id (λ j. f (suc j)) i ≡ before k f (suc i)
before_next k f zero = refl
before_next k f (suc i) = refl

rises_at : (k n : ℕ) (f : ℕ → Order) → Rises k (tabulate n f) → (i : ℕ) → i < n → before k f i < (f i).id
rises_at k zero f h i l = absurd (not-suc-le-zero l)
rises_at k (suc n) f h zero l = h.0
rises_at k (suc n) f h (suc i) l =
    subst (λ (x : ℕ). x < (f (suc i)).id) (before_next k f i) (rises_at (f zero).id n (λ j. f (suc j)) h.1 i (le_of_suc-le-suc l))

at_rises : (k n : ℕ) (f : ℕ → Order) → ((i : ℕ) → i < n → before k f i < (f i).id) → Rises k (tabulate n f)
at_rises k zero f h = tt
at_rises k (suc n) f h =
    (h zero (suc-le-suc zero-le), at_rises (f zero).id n (λ j. f (suc j)) (λ i l. subst (λ (x : ℕ). x < (f (suc i)).id) (sym (before_next k f i)) (h (suc i) (suc-le-suc l))))

before_is : (w : List ℕ) (i : ℕ) → before 0 (order_at w) i ≡ id_before w i
before_is w zero = refl
before_is w (suc i) = refl

-- different stamps, place by place

pub stamps_differ_differ : (os : List Order) → T (stamps_differ os) → Differ stamp_of os
unfolding stamps_differ
stamps_differ_differ [] t = tt
stamps_differ_differ (o ∷ os) t =
    let f : Order → Bool = λ x. not (eqb o.stamp x.stamp) in
    let r = and_T (every f os) (stamps_differ os) t in
    (all_map (λ x e z. neqb o.stamp x.stamp e (sym z)) os (every_T f os r.0), stamps_differ_differ os r.1)

pub differ_stamps_differ : (os : List Order) → Differ stamp_of os → T (stamps_differ os)
unfolding stamps_differ
differ_stamps_differ [] h = tt
differ_stamps_differ (o ∷ os) h =
    let f : Order → Bool = λ x. not (eqb o.stamp x.stamp) in
    T_and (every f os) (stamps_differ os) (T-every f os (all_map (λ x e. ne→T o.stamp x.stamp (λ z. e (sym z))) os h.0)) (differ_stamps_differ os h.1)

differ_at : (n : ℕ) (f : ℕ → Order) → Differ stamp_of (tabulate n f) → (i j : ℕ) → i < n → j < i → (f j).stamp ≡ (f i).stamp → ⊥
differ_at zero f h i j l m e = not-suc-le-zero l
differ_at (suc n) f h zero j l m e = not-suc-le-zero m
differ_at (suc n) f h (suc i) zero l m e =
    all_tabulate (λ (x : Order). x.stamp ≡ (f zero).stamp → ⊥) n (λ k. f (suc k)) h.0 i (le_of_suc-le-suc l) (sym e)
differ_at (suc n) f h (suc i) (suc j) l m e =
    differ_at n (λ k. f (suc k)) h.1 i j (le_of_suc-le-suc l) (le_of_suc-le-suc m) e

at_differ : (n : ℕ) (f : ℕ → Order) → ((i j : ℕ) → i < n → j < i → (f j).stamp ≡ (f i).stamp → ⊥) → Differ stamp_of (tabulate n f)
at_differ zero f h = tt
at_differ (suc n) f h =
    (tabulate_all (λ (x : Order). x.stamp ≡ (f zero).stamp → ⊥) n (λ k. f (suc k)) (λ i l e. h (suc i) zero (suc-le-suc l) (suc-le-suc zero-le) (sym e)), at_differ n (λ k. f (suc k)) (λ i j l m. h (suc i) (suc j) (suc-le-suc l) (suc-le-suc m)))

-- all conditions, place by place

pub record SoundPlaces (step last_id last_stamp : ℕ) (w : List ℕ) : Type 0 where
  pub header : HeaderLaidOut w
  pub sound : (i : ℕ) → i < get_or w 0 0 → T (sound_at step last_id last_stamp w i)
  pub unseen : (i : ℕ) → i < get_or w 0 0 → T (not (stamp_seen w (stamp_at w i) i))

-- what a sound book is, for the layer above
pub record SoundParts (step last_id last_stamp : ℕ) (w : List ℕ) : Type 0 where
  pub layout : T (is_book w)
  pub rising : T (ids_rise 0 (resting w))
  pub orders : All (λ (o : Order). T (sound_order step last_id last_stamp o)) (resting w)
  pub stamps : T (stamps_differ (resting w))

module _ (step last_id last_stamp : ℕ) (w : List ℕ) where
  pub sound_book_parts : T (sound_book step last_id last_stamp w) → SoundParts step last_id last_stamp w
  unfolding sound_book
  sound_book_parts t =
      let a = and_T (is_book w) _ t in
      let b = and_T (ids_rise 0 (resting w)) _ a.1 in
      let c = and_T (every (sound_order step last_id last_stamp) (resting w)) (stamps_differ (resting w)) b.1 in
      record { layout = a.0; rising = b.0; orders = every_T (sound_order step last_id last_stamp) (resting w) c.0; stamps = c.1 }

  pub parts_sound_book : SoundParts step last_id last_stamp w → T (sound_book step last_id last_stamp w)
  unfolding sound_book
  parts_sound_book p =
      T_and (is_book w) _ p.layout (T_and (ids_rise 0 (resting w)) _ p.rising (T_and (every (sound_order step last_id last_stamp) (resting w)) _ (T-every (sound_order step last_id last_stamp) (resting w) p.orders) p.stamps))

  parts_places : SoundParts step last_id last_stamp w → SoundPlaces step last_id last_stamp w
  unfolding sound_in flags_in flags_at resting
  parts_places p =
      let n = get_or w 0 0 in
      let h : LaidOut w = is_book-laid_out w p.layout in
      let r = rises_at 0 n (order_at w) (ids_rise_rises 0 (resting w) p.rising) in
      record {
        header = h.header;
        sound =
            λ i l. T_and (flags_at w i) _ (h.flags i l) (T_and (ltb (id_before w i) (word w i 0)) _ (le→leb _ _ (subst (λ (x : ℕ). x < word w i 0) (before_is w i) (r i l))) (all_tabulate (λ (o : Order). T (sound_order step last_id last_stamp o)) n (order_at w) p.orders i l));
        unseen =
            λ i l. T-unseen w (stamp_at w i) i (λ j m. differ_at n (order_at w) (stamps_differ_differ (resting w) p.stamps) i j l m);
      }

  places_parts : SoundPlaces step last_id last_stamp w → SoundParts step last_id last_stamp w
  unfolding sound_in flags_in flags_at resting
  places_parts p =
      let n = get_or w 0 0 in
      let a : (i : ℕ) → i < n → T (flags_at w i) × T (ltb (id_before w i) (word w i 0) && sound_order step last_id last_stamp (order_at w i)) = λ i l. and_T (flags_at w i) _ (p.sound i l) in
      let b : (i : ℕ) → i < n → T (ltb (id_before w i) (word w i 0)) × T (sound_order step last_id last_stamp (order_at w i)) = λ i l. and_T (ltb (id_before w i) (word w i 0)) _ (a i l).1 in
      record {
        layout = laid_out-is_book w (record { header = p.header; flags = λ i l. (a i l).0 });
        rising =
            rises_ids_rise 0 (resting w) (at_rises 0 n (order_at w) (λ i l. subst (λ (x : ℕ). x < word w i 0) (sym (before_is w i)) (leb→le _ _ (b i l).0)));
        orders = tabulate_all (λ (o : Order). T (sound_order step last_id last_stamp o)) n (order_at w) (λ i l. (b i l).1);
        stamps =
            differ_stamps_differ (resting w) (at_differ n (order_at w) (λ i j l m. unseen_T w (stamp_at w i) i (p.unseen i l) j m));
      }

  pub sound_book_places : T (sound_book step last_id last_stamp w) → SoundPlaces step last_id last_stamp w
  sound_book_places t = parts_places (sound_book_parts t)

  pub places_sound_book : SoundPlaces step last_id last_stamp w → T (sound_book step last_id last_stamp w)
  places_sound_book p = parts_sound_book (places_parts p)
