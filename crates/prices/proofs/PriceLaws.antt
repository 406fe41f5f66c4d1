-- Laws of prices, bids and the permitted price, for every step. Assumes nothing.
use Prim.Native.Nat.{ℕ, suc, ◌+◌, ◌-◌, ◌*◌, ◌/◌, ◌%◌, ◌≤◌, ◌<◌, max}
use native.Mathlib.Nat.{zero-mul, mul_comm, add-mul, mul_assoc, mul_right_comm, mul-le-mul_right, mod-lt, mod-eq_of_lt, mod-add-div, add-mod_right, add-mul-mod_self_right, le_of_dvd, dvd_of_mod-eq-zero, dvd-sub}
use native.Mathlib.Omega.{arith}
use native.Mathlib.Decide.{dec_le, dec_lt}
use mathlib.Core.Path.{◌≡◌, refl, sym, ap, ◌∙◌, subst}
use mathlib.Core.Bool.{Bool, false, not, ◌&&◌, ◌||◌}
use mathlib.Core.Logic.{◌⊎◌, inl, inr}
use lib.Dec.{T, leb, ltb, eqb, leb→le, le→leb, eqb→eq, not_T, T_not}
use Rattle.prices.specs.Prices.{highest, dollar_border, is_step, highest_bid, legal, is_bid, permitted, at_step, price_of, permitted_of}
use Rattle.numbers.specs.Tests.{pick}
use Rattle.numbers.specs.Answers.{Outcome, gives, refuses}
use Rattle.numbers.proofs.TestLaws.{by_test, answered_no, pick_yes, pick_no, bool_ext, and_T, T_and, or_T, T-inl, T-inr, eq→T, tests}

-- what the laws use of a step, and no law but this one looks at 50 and 100; a step that isn't a cent is half of one, for `share_of`

pub record Step (step : ℕ) : Type 0 where
  pub positive : 0 < step
  pub small : step ≤ 100
  pub border : dollar_border % step ≡ 0
  pub top : highest % step ≡ 0
  pub half : (step ≡ 100 → ⊥) → 2 * step ≡ 100

pub step_known : (step : ℕ) → T (is_step step) → Step step
unfolding is_step
step_known step t = go (or_T (eqb step 50) (eqb step 100) t)
  where
    like : (k : ℕ) → step ≡ k → Step k → Step step
    like k e s = rw e s

    go : T (eqb step 50) ⊎ T (eqb step 100) → Step step
    go (inl x) =
        like 50 (eqb→eq step 50 x) (record { positive = omega arith; small = omega arith; border = refl; top = refl; half = λ n. refl })
    go (inr x) =
        like 100 (eqb→eq step 100 x) (record { positive = omega arith; small = omega arith; border = refl; top = refl; half = λ n. absurd (n refl) })

pub step_refused : {A : Type 0} {t : Bool} (step : ℕ) (x : Outcome A) → t ≡ is_step step → t ≡ false → refuses 17 ≡ at_step step x
unfolding at_step
step_refused step x e f = answered_no x _ e f

-- m being the share of the step in 2^32 + 4, a price up to the highest is a multiple of the step just where its product with m leaves less than m by 2^32
module _ (step m p : ℕ) (e : m * step ≡ 4294967300) (s : Step step) (h : p ≤ highest) where
  abbrev whole : ℕ
  whole = p / step

  abbrev rest : ℕ
  rest = p % step

  parts : rest + step * whole ≡ p
  parts = mod-add-div p step

  -- what the product leaves
  abbrev left : ℕ
  left = 4 * whole + rest * m

  product : p * m ≡ left + whole * 4294967296
  product =
      let a : p * m ≡ rest * m + step * whole * m = subst (λ (x : ℕ). x * m ≡ rest * m + step * whole * m) parts (add-mul rest (step * whole) m) in
      let b : step * whole * m ≡ whole * 4294967300 = mul_right_comm step whole m ∙ ap (λ (x : ℕ). x * whole) (mul_comm step m ∙ e) ∙ mul_comm 4294967300 whole in
      omega (arith, a, b)

  -- the share is above four times the whole steps, and the rest below one step
  small : 4 * (whole + 1) < m
  small = go (dec_lt (4 * (whole + 1)) m)
    where
      go : Dec (4 * (whole + 1) < m) → 4 * (whole + 1) < m
      go (yes l) = l
      go (no l) =
          let f : m * step ≤ 4 * (whole + 1) * step = mul-le-mul_right {m = m} {n = 4 * (whole + 1)} step (omega arith) in
          absurd (omega (arith, e, f, mul_assoc 4 (whole + 1) step, add-mul whole 1 step, mul_comm whole step, parts, s.small, h))

  room : rest * m + m ≤ 4294967300
  room =
      omega (arith, e, mul_comm step m, add-mul rest 1 m, mul-le-mul_right {m = rest + 1} {n = step} m (omega (arith, mod-lt p s.positive)))

  fits : left < 4294967296
  fits = omega (arith, small, room)

  leaves : p * m % 4294967296 ≡ left
  leaves = ap (λ (x : ℕ). x % 4294967296) product ∙ add-mul-mod_self_right left whole 4294967296 ∙ mod-eq_of_lt fits

  pub multiple_by_share : ltb (p * m % 4294967296) m ≡ eqb rest 0
  multiple_by_share = bool_ext _ _ (λ t. eq→T (down (dec_le 1 rest) (leb→le _ _ t))) (λ t. le→leb _ _ (up (eqb→eq rest 0 t)))
    where
      down : Dec (1 ≤ rest) → p * m % 4294967296 < m → rest ≡ 0
      down (yes l) f = absurd (omega (arith, f, leaves, mul-le-mul_right {m = 1} {n = rest} m l))
      down (no l) f = omega arith

      up : rest ≡ 0 → p * m % 4294967296 < m
      up z = omega (arith, leaves, small, ap (λ (x : ℕ). x * m) z, zero-mul m)

-- multiples of a step that differ do so by a step at least
apart : (step a b : ℕ) → a % step ≡ 0 → b % step ≡ 0 → a < b → a + step ≤ b
apart step a b e f l =
    let d : 0 < b - a = omega arith in
    omega (arith, le_of_dvd {m = step} {n = b - a} d (dvd-sub step (dvd_of_mod-eq-zero step f) (dvd_of_mod-eq-zero step e)))

module _ (step : ℕ) where
  -- what the test of a legal price says

  pub record Legal (p : ℕ) : Type 0 where
    pub low : 1 ≤ p
    pub high : p ≤ highest
    pub on_step : (p < dollar_border) ⊎ (p % step ≡ 0)

  pub legal_out : (p : ℕ) → T (legal step p) → Legal p
  unfolding legal
  legal_out p t =
      let a = and_T (leb 1 p) (leb p highest && (ltb p dollar_border || eqb (p % step) 0)) t in
      let b = and_T (leb p highest) (ltb p dollar_border || eqb (p % step) 0) a.1 in
      record { low = leb→le 1 p a.0; high = leb→le p highest b.0; on_step = go (or_T (ltb p dollar_border) (eqb (p % step) 0) b.1) }
    where
      go : T (ltb p dollar_border) ⊎ T (eqb (p % step) 0) → (p < dollar_border) ⊎ (p % step ≡ 0)
      go (inl x) = inl (leb→le (suc p) dollar_border x)
      go (inr x) = inr (eqb→eq (p % step) 0 x)

  pub legal_in : (p : ℕ) → Legal p → T (legal step p)
  unfolding legal
  legal_in p h = T_and (leb 1 p) _ (le→leb 1 p h.low) (T_and (leb p highest) _ (le→leb p highest h.high) (go h.on_step))
    where
      go : (p < dollar_border) ⊎ (p % step ≡ 0) → T (ltb p dollar_border || eqb (p % step) 0)
      go (inl x) = T-inl (ltb p dollar_border) (eqb (p % step) 0) (le→leb (suc p) dollar_border x)
      go (inr x) = T-inr (ltb p dollar_border) (eqb (p % step) 0) (eq→T x)

  -- what taking a number as a price says of it, by the three answers
  price_by : (P : Outcome ℕ → Type 0) (n : ℕ) → (T (is_step step) → T (legal step n) → P (gives n)) → (T (is_step step) → T (not (legal step n)) → P (refuses 3)) → (T (not (is_step step)) → P (refuses 17)) → P (price_of step n)
  unfolding price_of at_step
  price_by P n f g h = by_test P (is_step step) (λ s. by_test P (legal step n) (f s) (g s)) h

  pub price_given : (n p : ℕ) → gives p ≡ price_of step n → T (is_step step) × T (legal step n) × (p ≡ n)
  price_given n p =
      price_by (λ (o : Outcome ℕ). gives p ≡ o → T (is_step step) × T (legal step n) × (p ≡ n)) n (λ s t e. (s, t, cc)) (λ s t e. absurd (differ e)) (λ s e. absurd (differ e))
    where
      differ : {k : ℕ} → gives p ≡ refuses k → ⊥
      differ e = let z : ◌≡◌ {A = ℕ} 0 1 = cc in omega arith

  pub price_refused : (n k : ℕ) → refuses k ≡ price_of step n → T (not (is_step step && legal step n))
  price_refused n k =
      price_by (λ (o : Outcome ℕ). refuses k ≡ o → T (not both)) n (λ s t e. absurd (differ e)) (λ s t e. not_T both (λ a. T_not (legal step n) t (and_T (is_step step) (legal step n) a).1)) (λ s e. not_T both (λ a. T_not (is_step step) s (and_T (is_step step) (legal step n) a).0))
    where
      both : Bool
      both = is_step step && legal step n

      differ : refuses k ≡ gives n → ⊥
      differ e = let z : ◌≡◌ {A = ℕ} 0 1 = cc in omega arith

  -- what depends on it in the same way is refused with the same number
  pub price_refusal : {A : Type 0} {k : ℕ} (x : A) (n : ℕ) → refuses k ≡ price_of step n → refuses k ≡ at_step step (pick (legal step n) (gives x) (refuses 3))
  unfolding at_step
  price_refusal {A} {k} x n =
      price_by Same n (λ s t e. absurd (differ e)) (λ s t e. let z : k ≡ 3 = cc in ap refuses z ∙ sym (pick_yes (is_step step) _ _ s ∙ pick_no (legal step n) _ _ t)) (λ s e. let z : k ≡ 17 = cc in ap refuses z ∙ sym (pick_no (is_step step) _ _ s))
    where
      Same : Outcome ℕ → Type 0
      Same o = refuses k ≡ o → refuses k ≡ at_step step (pick (legal step n) (gives x) (refuses 3))

      differ : refuses k ≡ gives n → ⊥
      differ e = let z : ◌≡◌ {A = ℕ} 0 1 = cc in omega arith

  pub legal_positive : (p : ℕ) → T (legal step p) → 1 ≤ p
  legal_positive p t = (legal_out p t).low

  pub max_legal : (p q : ℕ) → T (legal step p) → T (legal step q) → T (legal step (max p q))
  max_legal p q h k = go (dec_le p q)
    where
      go : Dec (p ≤ q) → T (legal step (max p q))
      go (yes l) = let e : max p q ≡ q = omega arith in rw e k
      go (no l) = let e : max p q ≡ p = omega arith in rw e h

  -- bids

  -- what the test of a bid says: no bid, or a legal price up to the highest bid
  pub bid_out : (b : ℕ) → T (is_bid step b) → (b ≡ 0) ⊎ (Legal b × (b ≤ highest_bid step))
  unfolding is_bid
  bid_out b t = go (or_T (eqb b 0) (legal step b && leb b (highest_bid step)) t)
    where
      go : T (eqb b 0) ⊎ T (legal step b && leb b (highest_bid step)) → (b ≡ 0) ⊎ (Legal b × (b ≤ highest_bid step))
      go (inl x) = inl (eqb→eq b 0 x)
      go (inr x) = let r = and_T (legal step b) (leb b (highest_bid step)) x in inr (legal_out b r.0, leb→le b (highest_bid step) r.1)

  bid_in : (b : ℕ) → (b ≡ 0) ⊎ (Legal b × (b ≤ highest_bid step)) → T (is_bid step b)
  unfolding is_bid
  bid_in b (inl z) = T-inl (eqb b 0) _ (eq→T z)
  bid_in b (inr l) = T-inr (eqb b 0) _ (T_and (legal step b) _ (legal_in b l.0) (le→leb b (highest_bid step) l.1))

  pub bid_highest : (b : ℕ) → T (is_bid step b) → b ≤ highest_bid step
  bid_highest b t = go (bid_out b t)
    where
      go : (b ≡ 0) ⊎ (Legal b × (b ≤ highest_bid step)) → b ≤ highest_bid step
      go (inl x) = omega arith
      go (inr x) = x.1

  pub no_bid : T (is_bid step 0)
  unfolding is_bid
  no_bid = tt

  pub max_bid_legal : (p b : ℕ) → T (legal step p) → T (is_bid step b) → T (legal step (max p b))
  max_bid_legal p b h t = go (bid_out b t)
    where
      go : (b ≡ 0) ⊎ (Legal b × (b ≤ highest_bid step)) → T (legal step (max p b))
      go (inl x) = let e : max p b ≡ p = omega arith in rw e h
      go (inr x) = max_legal p b h (legal_in b x.0)

  -- the permitted price

  -- what the permitted price of b is, by where b stands
  pub permitted_by : (P : ℕ → Type 0) (b : ℕ) → (b ≡ 0 → P 1) → (1 ≤ b → b < dollar_border → P (b + 1)) → (dollar_border ≤ b → P (b + step)) → P (permitted step b)
  unfolding permitted
  permitted_by P b f g h =
      by_test P _ (λ z. f (eqb→eq b 0 z)) (λ z. by_test P _ (λ y. g (omega tests) (omega tests)) (λ y. h (omega tests)))

  -- the rule of the permitted price gives a legal price for bids alone
  permitted_of_bid : (b : ℕ) → b ≤ highest_bid step → T (legal step (permitted step b)) → T (is_bid step b)
  permitted_of_bid b h =
      permitted_by
      (λ (x : ℕ). T (legal step x) → T (is_bid step b))
      b
      (λ z t. bid_in b (inl z))
      (λ l k t. bid_in b (inr (record { low = l; high = omega arith; on_step = inl k }, h)))
      (λ k t. bid_in b (inr (record { low = omega arith; high = omega arith; on_step = inr (on_step k (legal_out (b + step) t).on_step) }, h)))
    where
      on_step : dollar_border ≤ b → (b + step < dollar_border) ⊎ ((b + step) % step ≡ 0) → b % step ≡ 0
      on_step k (inl x) = absurd (omega arith)
      on_step k (inr x) = sym (add-mod_right b step) ∙ x

  -- no legal price lies strictly between a bid and its permitted price
  pub permitted_next : (b p : ℕ) → T (is_bid step b) → T (legal step p) → b < p → permitted step b ≤ p
  permitted_next b p t l h =
      permitted_by (λ (x : ℕ). x ≤ p) b (λ z. omega arith) (λ k m. omega arith) (λ m. far m (bid_out b t) (legal_out p l).on_step)
    where
      far : dollar_border ≤ b → (b ≡ 0) ⊎ (Legal b × (b ≤ highest_bid step)) → (p < dollar_border) ⊎ (p % step ≡ 0) → b + step ≤ p
      far m (inl x) y = absurd (omega arith)
      far m (inr x) (inl y) = absurd (omega arith)
      far m (inr x) (inr y) = further x.0.on_step
        where
          further : (b < dollar_border) ⊎ (b % step ≡ 0) → b + step ≤ p
          further (inl z) = absurd (omega arith)
          further (inr z) = apart step b p z y h

  pub one_legal : T (legal step 1)
  one_legal = legal_in 1 (record { low = omega arith; high = omega arith; on_step = inl (omega arith) })

  -- "1 if b = 0"
  pub permitted_none : permitted step 0 ≡ 1
  unfolding permitted pick
  permitted_none = refl

module _ (step : ℕ) (is : T (is_step step)) where
  abbrev known : Step step
  known = step_known step is

  pub permitted_above : (b : ℕ) → b < permitted step b
  permitted_above b = permitted_by step (λ (x : ℕ). b < x) b (λ z. omega arith) (λ l h. omega arith) (λ h. omega (arith, known.positive))

  pub permitted_legal : (b : ℕ) → T (is_bid step b) → T (legal step (permitted step b))
  permitted_legal b t =
      permitted_by
      step
      (λ (x : ℕ). T (legal step x))
      b
      (λ z. legal_in step 1 (record { low = omega arith; high = omega arith; on_step = inl (omega arith) }))
      (λ l h. legal_in step (b + 1) (record { low = omega arith; high = omega arith; on_step = small h (dec_lt (b + 1) dollar_border) }))
      (λ h. legal_in step (b + step) (large h (bid_out step b t)))
    where
      small : b < dollar_border → Dec (b + 1 < dollar_border) → (b + 1 < dollar_border) ⊎ ((b + 1) % step ≡ 0)
      small h (yes x) = inl x
      small h (no x) = let e : b + 1 ≡ dollar_border = omega arith in inr (rw e known.border)

      on_step : dollar_border ≤ b → (b < dollar_border) ⊎ (b % step ≡ 0) → (b + step) % step ≡ 0
      on_step h (inl x) = absurd (omega arith)
      on_step h (inr x) = add-mod_right b step ∙ x

      large : dollar_border ≤ b → (b ≡ 0) ⊎ (Legal step b × (b ≤ highest_bid step)) → Legal step (b + step)
      large h (inl x) = absurd (omega arith)
      large h (inr x) = record { low = omega arith; high = omega (arith, x.1); on_step = inr (on_step h x.0.on_step) }

  pub permitted_taken : (b : ℕ) {p : ℕ} {o : Outcome ℕ} → b ≤ highest_bid step → p ≡ permitted step b → o ≡ price_of step p → o ≡ permitted_of step b
  unfolding price_of permitted_of
  permitted_taken b h e f =
      f ∙ ap (price_of step) e ∙ ap (λ (t : Bool). at_step step (pick t (gives (permitted step b)) (refuses 3))) (bool_ext _ _ (permitted_of_bid step b h) (permitted_legal b))

  pub permitted_beyond : (b : ℕ) → highest_bid step < b → refuses 3 ≡ permitted_of step b
  unfolding permitted_of at_step
  permitted_beyond b h =
      sym (pick_yes (is_step step) _ _ is ∙ pick_no (is_bid step b) _ _ (not_T (is_bid step b) (λ t. omega (arith, bid_highest step b t))))

  pub permitted_rises : (b c : ℕ) → T (is_bid step b) → T (is_bid step c) → b < c → permitted step b < permitted step c
  permitted_rises b c s t h = go (bid_out step c t)
    where
      go : (c ≡ 0) ⊎ (Legal step c × (c ≤ highest_bid step)) → permitted step b < permitted step c
      go (inl x) = absurd (omega arith)
      go (inr x) = omega (arith, permitted_next step b c s (legal_in step c x.0) h, permitted_above c)

  -- the price that a market buy works at
  pub highest_legal : T (legal step highest)
  highest_legal = legal_in step highest (record { low = omega arith; high = omega arith; on_step = inr known.top })
