-- Laws of the conditions on one order, in the groups of the record walk. Assumes nothing.
use Prim.Native.Nat.{ℕ, ◌/◌, ◌≤◌, ◌<◌}
use native.Mathlib.Omega.{arith}
use mathlib.Core.Path.{◌≡◌, ap, ◌∙◌, subst}
use mathlib.Core.Bool.{Bool, false, ◌&&◌}
use mathlib.Core.Logic.{◌⊎◌, inl, inr}
use mathlib.Core.List.{List}
use lib.Bits.{bit_or, or_lt, or_add_and, and_le_l, and_le_r}
use lib.ListN.{get_or}
use lib.Dec.{T, leb, ltb, eqb, leb→le, le→leb, eqb→eq}
use Rattle.numbers.proofs.TestLaws.{and-false, and_no, and_T, T_and, or_T, T-inl, T-inr, eq→T, bool_ext, conj_T, T-conj, tests}
use Rattle.prices.specs.Prices.{legal}
use Rattle.book.specs.declared.Order.{Order}
use Rattle.book.specs.rules.Sound.{most_shares, most_owner, slide_allowed, market_allowed, order_conditions, sound_order}
use Rattle.book.specs.rules.Words.{order_of}
use Rattle.book.specs.steps.RecordWalk.{from_one, codes_sound, prices_sound, bits_in, flags_in, market_in, sound_in}
use Rattle.book.proofs.definitions.OrderConditionLaws.{MayRest, order_may_rest}

-- an order whose show is 0 or 1, whose owner is in range and whose market flag is allowed
sound_groups : (step last_id last_stamp : ℕ) (o : Order) → o.show ≤ 1 → o.owner ≤ most_owner → T (market_allowed o.market o.mark o.limit) → sound_order step last_id last_stamp o ≡ (leb o.id last_id && (from_one o.shares most_shares && (from_one o.stamp last_stamp && (codes_sound o.mark o.life o.slide && prices_sound step o.limit o.price o.entry_bid))))
unfolding sound_order from_one codes_sound prices_sound
sound_groups step last_id last_stamp o h owner k = bool_ext _ _ there back
  where
    there : T (sound_order step last_id last_stamp o) → T (leb o.id last_id && (from_one o.shares most_shares && (from_one o.stamp last_stamp && (codes_sound o.mark o.life o.slide && prices_sound step o.limit o.price o.entry_bid))))
    there t =
        let (id, (mark, (limit, (shares_low, (shares_high, (show, (life, (slide, (stamp_low, (stamp_high, (price, (bid, (_, (_, _)))))))))))))) = conj_T (order_conditions step last_id last_stamp o) t in
        T_and (leb o.id last_id) _ id (T_and (from_one o.shares most_shares) _ (T_and (leb 1 o.shares) _ shares_low shares_high) (T_and (from_one o.stamp last_stamp) _ (T_and (leb 1 o.stamp) _ stamp_low stamp_high) (T_and (codes_sound o.mark o.life o.slide) _ (T_and (eqb o.life 0) _ life (T_and (leb o.mark 3) _ mark slide)) (T_and (legal step o.limit) _ limit (T_and (legal step o.price) _ price bid)))))

    back : T (leb o.id last_id && (from_one o.shares most_shares && (from_one o.stamp last_stamp && (codes_sound o.mark o.life o.slide && prices_sound step o.limit o.price o.entry_bid)))) → T (sound_order step last_id last_stamp o)
    back t =
        let a = and_T (leb o.id last_id) _ t in
        let b = and_T (from_one o.shares most_shares) _ a.1 in
        let c = and_T (from_one o.stamp last_stamp) _ b.1 in
        let d = and_T (codes_sound o.mark o.life o.slide) _ c.1 in
        let shares = and_T (leb 1 o.shares) _ b.0 in
        let stamp = and_T (leb 1 o.stamp) _ c.0 in
        let life = and_T (eqb o.life 0) _ d.0 in
        let mark = and_T (leb o.mark 3) _ life.1 in
        let limit = and_T (legal step o.limit) _ d.1 in
        let price = and_T (legal step o.price) _ limit.1 in
        T-conj (order_conditions step last_id last_stamp o) (a.0, (mark.0, (limit.0, (shares.0, (shares.1, (le→leb _ _ h, (life.0, (mark.1, (stamp.0, (stamp.1, (price.0, (price.1, (k, (le→leb _ _ owner, tt))))))))))))))

-- the order of a place's words
pub place_groups : (step last_id last_stamp : ℕ) (place : List ℕ) → get_or place 4 0 ≤ 1 → get_or place 14 0 ≤ most_owner → T (market_in place) → let o : Order = order_of place in sound_order step last_id last_stamp o ≡ (leb o.id last_id && (from_one o.shares most_shares && (from_one o.stamp last_stamp && (codes_sound o.mark o.life o.slide && prices_sound step o.limit o.price o.entry_bid))))
unfolding market_in
place_groups step last_id last_stamp place h owner k = sound_groups step last_id last_stamp (order_of place) h owner k

-- a place of which one group fails
module _ (step last_id last_stamp : ℕ) (place : List ℕ) (h : get_or place 4 0 ≤ 1) (owner : get_or place 14 0 ≤ most_owner) (k : T (market_in place)) where
  abbrev o : Order
  o = order_of place

  abbrev id : Bool
  id = leb o.id last_id

  abbrev shares : Bool
  shares = from_one o.shares most_shares

  abbrev stamp : Bool
  stamp = from_one o.stamp last_stamp

  abbrev codes : Bool
  codes = codes_sound o.mark o.life o.slide

  abbrev prices : Bool
  prices = prices_sound step o.limit o.price o.entry_bid

  pub unsound_last_id : id ≡ false → sound_order step last_id last_stamp o ≡ false
  unsound_last_id e = place_groups step last_id last_stamp place h owner k ∙ and_no (shares && (stamp && (codes && prices))) e

  pub unsound_shares : shares ≡ false → sound_order step last_id last_stamp o ≡ false
  unsound_shares e =
      place_groups step last_id last_stamp place h owner k ∙ ap (λ (b : Bool). id && b) (and_no (stamp && (codes && prices)) e) ∙ and-false id

  pub unsound_stamp : stamp ≡ false → sound_order step last_id last_stamp o ≡ false
  unsound_stamp e =
      place_groups step last_id last_stamp place h owner k ∙ ap (λ (b : Bool). id && (shares && b)) (and_no (codes && prices) e) ∙ ap (λ (b : Bool). id && b) (and-false shares) ∙ and-false id

  pub unsound_codes : codes ≡ false → sound_order step last_id last_stamp o ≡ false
  unsound_codes e =
      place_groups step last_id last_stamp place h owner k ∙ ap (λ (b : Bool). id && (shares && (stamp && b))) (and_no prices e) ∙ ap (λ (b : Bool). id && (shares && b)) (and-false stamp) ∙ ap (λ (b : Bool). id && b) (and-false shares) ∙ and-false id

-- the slide of a short, and that of another order

pub slide_of_short : (mark slide : ℕ) → mark ≡ 2 → leb slide 3 ≡ slide_allowed mark slide
slide_of_short mark slide e =
    bool_ext _ _ (λ t. T_and (leb slide 3) _ t (T-inr (eqb slide 0) (eqb mark 2) (eq→T e))) (λ t. (and_T (leb slide 3) _ t).0)

pub slide_of_other : (mark slide : ℕ) → (mark ≡ 2 → ⊥) → eqb slide 0 ≡ slide_allowed mark slide
slide_of_other mark slide n =
    bool_ext _ _ (λ t. T_and (leb slide 3) _ (le→leb slide 3 (omega tests)) (T-inl (eqb slide 0) (eqb mark 2) t)) (λ t. go (or_T (eqb slide 0) (eqb mark 2) (and_T (leb slide 3) _ t).1))
  where
    go : T (eqb slide 0) ⊎ T (eqb mark 2) → T (eqb slide 0)
    go (inl t) = t
    go (inr t) = absurd (n (eqb→eq mark 2 t))

-- words of one bit

both_bits : (a b : ℕ) → leb (bit_or a b) 1 ≡ (leb a 1 && leb b 1)
both_bits a b = bool_ext _ _ there back
  where
    there : T (leb (bit_or a b) 1) → T (leb a 1 && leb b 1)
    there t =
        let h = leb→le (bit_or a b) 1 t in
        T_and (leb a 1) _ (le→leb a 1 (omega (arith, h, or_add_and a b, and_le_r a b))) (le→leb b 1 (omega (arith, h, or_add_and a b, and_le_l a b)))

    back : T (leb a 1 && leb b 1) → T (leb (bit_or a b) 1)
    back t =
        let p = and_T (leb a 1) _ t in
        let f : a < 2 = omega (arith, leb→le a 1 p.0) in
        let g : b < 2 = omega (arith, leb→le b 1 p.1) in
        le→leb (bit_or a b) 1 (omega (arith, or_lt 1 a b f g))

-- more words of one bit, one after another
more_bits : (a b : ℕ) {t : Bool} → leb b 1 ≡ t → leb (bit_or a b) 1 ≡ (leb a 1 && t)
more_bits a b h = both_bits a b ∙ ap (λ (x : Bool). leb a 1 && x) h

-- an owner divided by 32,768 is 0 or 1 just where it is in range
owner_bit : (k : ℕ) → leb (k / 32_768) 1 ≡ leb k most_owner
owner_bit k = bool_ext _ _ (λ t. le→leb k most_owner (omega (arith, leb→le (k / 32_768) 1 t))) (λ t. le→leb (k / 32_768) 1 (omega (arith, leb→le k most_owner t)))

pub six_bits : (a k b c d e : ℕ) → leb (bit_or a (bit_or (k / 32_768) (bit_or b (bit_or c (bit_or d e))))) 1 ≡ (leb a 1 && (leb k most_owner && (leb b 1 && (leb c 1 && (leb d 1 && leb e 1)))))
six_bits a k b c d e =
    more_bits a _ (more_bits (k / 32_768) _ (more_bits b _ (more_bits c _ (both_bits d e))) ∙ ap (λ (x : Bool). x && (leb b 1 && (leb c 1 && (leb d 1 && leb e 1)))) (owner_bit k))

module _ (step last_id last_stamp before : ℕ) (place : List ℕ) where
  -- what holds of a place that is sound
  sound_flags : T (sound_in step last_id last_stamp before place) → T (flags_in place) × MayRest step last_id last_stamp (order_of place)
  unfolding sound_in
  sound_flags t =
      let p = and_T (flags_in place) _ t in
      (p.0, order_may_rest step last_id last_stamp (order_of place) (and_T (ltb before (get_or place 0 0)) _ p.1).1)

  pub unsound_bits : bits_in place ≡ false → sound_in step last_id last_stamp before place ≡ false
  unfolding bits_in
  unsound_bits e =
      bool_ext _ _ (λ t. let p = sound_flags t in subst T e (T_and (leb (get_or place 4 0) 1) _ (le→leb _ _ p.1.works.fields.show) (T_and (leb (get_or place 14 0) most_owner) _ (le→leb _ _ p.1.works.fields.owner) p.0))) (λ t. absurd t)

  pub unsound_market : market_in place ≡ false → sound_in step last_id last_stamp before place ≡ false
  unfolding market_in
  unsound_market e = bool_ext _ _ (λ t. subst T e (sound_flags t).1.works.fields.market) (λ t. absurd t)

  pub unsound_id : ltb before (get_or place 0 0) ≡ false → sound_in step last_id last_stamp before place ≡ false
  unfolding sound_in
  unsound_id e = rw e (and-false (flags_in place))
