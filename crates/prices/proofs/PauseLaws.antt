-- Laws of timed prices: those that a new time keeps, their order, the conditions of a venue record, and the direction of a price. Assumes nothing.
use Prim.Native.Nat.{ℕ, zero, suc, ◌+◌, ◌-◌, ◌≤◌, ◌<◌, zero-le}
use native.Mathlib.Omega.{arith}
use mathlib.Core.Path.{◌≡◌, refl, sym, ap, ◌∙◌}
use mathlib.Core.Bool.{Bool, true, false, ◌&&◌}
use mathlib.Core.List.{List, [], ◌∷◌, ◌++◌}
use lib.Dec.{T, leb, leb→le, le→leb}
use lib.ListN.{length, drop, length-append, drop_of_length-le}
use borrow.Author.Tests.{le-leb, lt-leb}
use Rattle.numbers.specs.Tests.{pick, every, any, All}
use Rattle.numbers.proofs.TestLaws.{by_test, pick_yes, and_T, T_and, conj_T, T-conj, every_T, T-every, all_append, and-false, any_next, any_none, tests}
use Rattle.prices.specs.declared.TimedPrice.{TimedPrice}
use Rattle.prices.specs.Prices.{legal}
use Rattle.prices.specs.Pause.{rolling_seconds, within, keeping, most_kept, is_fall, is_rise, some_fall, some_rise, direction, first_time, last_time_from, last_time, times_in_order, sound_kept}

abbrev legal_at : ℕ → TimedPrice → Bool
legal_at step x = legal step x.price

-- the prices that a new time keeps

abbrev is_within : ℕ → TimedPrice → Bool
is_within t x = leb (t - rolling_seconds) x.time

pub within_yes : (t : ℕ) (x : TimedPrice) (xs : List TimedPrice) → t - rolling_seconds ≤ x.time → within t (x ∷ xs) ≡ x ∷ within t xs
unfolding within
within_yes t x xs h = pick_yes (is_within t x) (x ∷ within t xs) (within t xs) (le→leb (t - rolling_seconds) x.time h)

pub within_no : (t : ℕ) (x : TimedPrice) (xs : List TimedPrice) → x.time < t - rolling_seconds → within t (x ∷ xs) ≡ within t xs
unfolding within pick
within_no t x xs h = rw (lt-leb (t - rolling_seconds) x.time h)

pub within_none : (t : ℕ) → within t [] ≡ []
unfolding within
within_none t = refl

-- what is within, by cases
by_within : (t : ℕ) (x : TimedPrice) (xs : List TimedPrice) (P : List TimedPrice → Type 0) → (t - rolling_seconds ≤ x.time → P (x ∷ within t xs)) → (x.time < t - rolling_seconds → P (within t xs)) → P (within t (x ∷ xs))
unfolding within
by_within t x xs P a b = by_test P (is_within t x) (λ h. a (omega (tests, h))) (λ h. b (omega (tests, h)))

pub within_within : (t u : ℕ) (xs : List TimedPrice) → t ≤ u → within u (within t xs) ≡ within u xs
within_within t u [] h = ap (within u) (within_none t)
within_within t u (x ∷ xs) h =
    by_within t x xs (λ (l : List TimedPrice). within u l ≡ within u (x ∷ xs))
    (λ a. by_within u x xs (λ (l : List TimedPrice). within u (x ∷ within t xs) ≡ l) (λ b. within_yes u x (within t xs) b ∙ ap (λ (l : List TimedPrice). x ∷ l) (within_within t u xs h)) (λ b. within_no u x (within t xs) b ∙ within_within t u xs h))
    (λ a. within_within t u xs h ∙ sym (within_no u x xs (omega arith)))

pub within_append : (t : ℕ) (xs ys : List TimedPrice) → within t (xs ++ ys) ≡ within t xs ++ within t ys
within_append t [] ys = ap (λ (l : List TimedPrice). l ++ within t ys) (sym (within_none t))
within_append t (x ∷ xs) ys =
    by_within t x xs (λ (l : List TimedPrice). within t (x ∷ (xs ++ ys)) ≡ l ++ within t ys)
    (λ a. within_yes t x (xs ++ ys) a ∙ ap (λ (l : List TimedPrice). x ∷ l) (within_append t xs ys))
    (λ a. within_no t x (xs ++ ys) a ∙ within_append t xs ys)

all_within : (P : TimedPrice → Type 0) (t : ℕ) (xs : List TimedPrice) → All P xs → All P (within t xs)
all_within P t [] h = rw within_none tt
all_within P t (x ∷ xs) h = by_within t x xs (All P) (λ a. (h.0, all_within P t xs h.1)) (λ a. all_within P t xs h.1)

-- times in order

pub order_first : (k : ℕ) (x : TimedPrice) (xs : List TimedPrice) → T (times_in_order k (x ∷ xs)) → (k ≤ x.time) × T (times_in_order x.time xs)
unfolding times_in_order
order_first k x xs h = let r = and_T (leb k x.time) (times_in_order x.time xs) h in (leb→le k x.time r.0, r.1)

first_order : (k : ℕ) (x : TimedPrice) (xs : List TimedPrice) → k ≤ x.time → T (times_in_order x.time xs) → T (times_in_order k (x ∷ xs))
unfolding times_in_order
first_order k x xs h o = T_and (leb k x.time) (times_in_order x.time xs) (le→leb k x.time h) o

order_none : (k : ℕ) → T (times_in_order k [])
unfolding times_in_order
order_none k = tt

order_less : (k m : ℕ) (xs : List TimedPrice) → k ≤ m → T (times_in_order m xs) → T (times_in_order k xs)
order_less k m [] l h = order_none k
order_less k m (x ∷ xs) l h = let r = order_first m x xs h in first_order k x xs (omega arith) r.1

-- those behind the first are in order
pub order_rest : (x : TimedPrice) (xs : List TimedPrice) → T (times_in_order 0 (x ∷ xs)) → T (times_in_order 0 xs)
order_rest x xs h = order_less 0 x.time xs zero-le (order_first 0 x xs h).1

order_within_from : (k t : ℕ) (xs : List TimedPrice) → T (times_in_order k xs) → T (times_in_order k (within t xs))
order_within_from k t [] h = rw within_none (order_none k)
order_within_from k t (x ∷ xs) h =
    let r = order_first k x xs h in
    let o = order_within_from x.time t xs r.1 in
    by_within t x xs (λ (l : List TimedPrice). T (times_in_order k l)) (λ a. first_order k x (within t xs) r.0 o) (λ a. order_less k x.time (within t xs) r.0 o)

pub order_within : (t : ℕ) (xs : List TimedPrice) → T (times_in_order 0 xs) → T (times_in_order 0 (within t xs))
order_within t xs h = order_within_from 0 t xs h

order_append_from : (k : ℕ) (xs : List TimedPrice) (x : TimedPrice) → T (times_in_order k xs) → last_time_from k xs ≤ x.time → T (times_in_order k (xs ++ x ∷ []))
order_append_from k [] x h l = first_order k x [] l (order_none x.time)
order_append_from k (y ∷ xs) x h l =
    let r = order_first k y xs h in
    first_order k y (xs ++ x ∷ []) r.0 (order_append_from y.time xs x r.1 l)

pub order_append : (xs : List TimedPrice) (x : TimedPrice) → T (times_in_order 0 xs) → last_time xs ≤ x.time → T (times_in_order 0 (xs ++ x ∷ []))
unfolding last_time
order_append xs x h l = order_append_from 0 xs x h l

-- in order, all are within where the time in front of them is
pub within_all : (k t : ℕ) (xs : List TimedPrice) → T (times_in_order k xs) → t - rolling_seconds ≤ k → within t xs ≡ xs
within_all k t [] h l = within_none t
within_all k t (x ∷ xs) h l =
    let r = order_first k x xs h in
    within_yes t x xs (omega arith) ∙ ap (λ (l : List TimedPrice). x ∷ l) (within_all x.time t xs r.1 (omega arith))

-- so they are where the first is
pub within_first : (t : ℕ) (x : TimedPrice) (xs : List TimedPrice) → T (times_in_order 0 (x ∷ xs)) → t - rolling_seconds ≤ x.time → within t (x ∷ xs) ≡ x ∷ xs
within_first t x xs h l = within_yes t x xs l ∙ ap (λ (ys : List TimedPrice). x ∷ ys) (within_all x.time t xs (order_first 0 x xs h).1 l)

-- the last time, which is that of a price behind which none stands

last_at_from : (k i : ℕ) (x : TimedPrice) (xs ys : List TimedPrice) → drop i xs ≡ x ∷ ys → length xs ≤ i + 1 → last_time_from k xs ≡ x.time
last_at_from k zero x xs [] e h = rw e refl
last_at_from k zero x xs (y ∷ ys) e h = absurd (omega (arith, ap length e))
last_at_from k (suc i) x [] ys e h = absurd (cc)
last_at_from k (suc i) x (y ∷ xs) ys e h = last_at_from y.time i x xs ys e (omega arith)

pub last_at : (i : ℕ) (x : TimedPrice) (xs ys : List TimedPrice) → drop i xs ≡ x ∷ ys → length xs ≤ i + 1 → last_time xs ≡ x.time
unfolding last_time
last_at i x xs ys e h = last_at_from 0 i x xs ys e h

last_append_from : (k : ℕ) (xs : List TimedPrice) (x : TimedPrice) → last_time_from k (xs ++ x ∷ []) ≡ x.time
last_append_from k [] x = refl
last_append_from k (y ∷ xs) x = last_append_from y.time xs x

pub last_append : (xs : List TimedPrice) (x : TimedPrice) → last_time (xs ++ x ∷ []) ≡ x.time
unfolding last_time
last_append xs x = last_append_from 0 xs x

pub last_keeping : (t p : ℕ) (xs : List TimedPrice) → last_time (keeping t p xs) ≡ t
unfolding keeping
last_keeping t p xs = last_append (within t xs) (record { time = t; price = p })

last_less : (k m : ℕ) (xs : List TimedPrice) → k ≤ m → last_time_from k xs ≤ last_time_from m xs
last_less k m [] h = h
last_less k m (x ∷ xs) h = omega arith

last_within_from : (k t : ℕ) (xs : List TimedPrice) → T (times_in_order k xs) → last_time_from k (within t xs) ≤ last_time_from k xs
last_within_from k t [] h = rw within_none (omega arith)
last_within_from k t (x ∷ xs) h =
    let r = order_first k x xs h in
    let o = last_within_from x.time t xs r.1 in
    by_within t x xs (λ (l : List TimedPrice). last_time_from k l ≤ last_time_from x.time xs) (λ a. o) (λ a. omega (arith, o, last_less k x.time (within t xs) r.0))

pub last_within : (t : ℕ) (xs : List TimedPrice) → T (times_in_order 0 xs) → last_time (within t xs) ≤ last_time xs
unfolding last_time
last_within t xs h = last_within_from 0 t xs h

-- the first time of those that a new time keeps, and of the new one
first_keeping : (t : ℕ) (xs : List TimedPrice) (x : TimedPrice) → x.time ≡ t → t - rolling_seconds ≤ first_time (within t xs ++ x ∷ [])
first_keeping t [] x e = rw (within_none t) (omega arith)
first_keeping t (y ∷ xs) x e =
    by_within t y xs (λ (l : List TimedPrice). t - rolling_seconds ≤ first_time (l ++ x ∷ [])) (λ a. a) (λ a. first_keeping t xs x e)

-- the conditions of a venue record

sound_parts : (step : ℕ) (xs : List TimedPrice) → T (sound_kept step xs) → T (leb (length xs) most_kept) × (T (every (legal_at step) xs) × (T (times_in_order 0 xs) × T (leb (last_time xs - first_time xs) rolling_seconds)))
unfolding sound_kept
sound_parts step xs h =
    let r = conj_T (leb (length xs) most_kept ∷ every (legal_at step) xs ∷ times_in_order 0 xs ∷ leb (last_time xs - first_time xs) rolling_seconds ∷ []) h in
    (r.0, (r.1.0, (r.1.1.0, r.1.1.1.0)))

parts_sound : (step : ℕ) (xs : List TimedPrice) → length xs ≤ most_kept → T (every (legal_at step) xs) → T (times_in_order 0 xs) → last_time xs - first_time xs ≤ rolling_seconds → T (sound_kept step xs)
unfolding sound_kept
parts_sound step xs a b c d =
    T-conj (leb (length xs) most_kept ∷ every (legal_at step) xs ∷ times_in_order 0 xs ∷ leb (last_time xs - first_time xs) rolling_seconds ∷ [])
    (le→leb (length xs) most_kept a, (b, (c, (le→leb (last_time xs - first_time xs) rolling_seconds d, tt))))

pub none_sound : (step : ℕ) → T (sound_kept step [])
unfolding sound_kept every times_in_order last_time
none_sound step = tt

pub sound_few : (step : ℕ) (xs : List TimedPrice) → T (sound_kept step xs) → length xs ≤ most_kept
sound_few step xs h = leb→le (length xs) most_kept (sound_parts step xs h).0

pub sound_ordered : (step : ℕ) (xs : List TimedPrice) → T (sound_kept step xs) → T (times_in_order 0 xs)
sound_ordered step xs h = (sound_parts step xs h).1.1.0

pub keeping_sound : (step t p : ℕ) (xs : List TimedPrice) → T (sound_kept step xs) → T (legal step p) → last_time xs ≤ t → length (within t xs) < most_kept → T (sound_kept step (keeping t p xs))
unfolding keeping
keeping_sound step t p xs h l e m =
    let r = sound_parts step xs h in
    let x : TimedPrice = record { time = t; price = p } in
    let ys = within t xs in
    parts_sound step (ys ++ x ∷ [])
    (omega (arith, length-append ys (x ∷ []), m))
    (T-every (legal_at step) (ys ++ x ∷ []) (all_append (λ (y : TimedPrice). T (legal_at step y)) ys (x ∷ []) (all_within (λ (y : TimedPrice). T (legal_at step y)) t xs (every_T (legal_at step) xs r.1.0)) (l, tt)))
    (order_append ys x (order_within t xs r.1.1.0) (omega (arith, e, last_within t xs r.1.1.0)))
    (omega (arith, last_append ys x, first_keeping t xs x refl))

-- no price stands behind the last
pub none_behind : (i : ℕ) (xs : List TimedPrice) → length xs ≤ i → drop i xs ≡ []
none_behind i xs h = drop_of_length-le xs {i = i} h

-- prices that are legal and in order behind a time: the first falls, isn't legal, or leaves it to the others

abbrev pub in_order : ℕ → ℕ → List TimedPrice → Bool
in_order step k xs = every (λ (x : TimedPrice). legal step x.price) xs && times_in_order k xs

pub in_order_falls : (step k : ℕ) (x : TimedPrice) (xs : List TimedPrice) → x.time < k → in_order step k (x ∷ xs) ≡ false
unfolding times_in_order
in_order_falls step k x xs h = rw (lt-leb k x.time h) (and-false (every (legal_at step) (x ∷ xs)))

pub in_order_illegal : (step k : ℕ) (x : TimedPrice) (xs : List TimedPrice) → legal step x.price ≡ false → in_order step k (x ∷ xs) ≡ false
unfolding every
in_order_illegal step k x xs e = rw e

pub in_order_next : (step k : ℕ) (x : TimedPrice) (xs : List TimedPrice) → k ≤ x.time → legal step x.price ≡ true → in_order step k (x ∷ xs) ≡ in_order step x.time xs
unfolding every times_in_order
in_order_next step k x xs h e = rw (e, le-leb k x.time h)

pub in_order_none : (step k : ℕ) → in_order step k [] ≡ true
unfolding every times_in_order
in_order_none step k = refl

-- the direction, by what was found of falls and of rises
pub direction_found : {d : ℕ} {f r : Bool} (p : ℕ) (xs : List TimedPrice) → d ≡ pick f 1 (pick r 2 0) → f ≡ any (is_fall p) xs → r ≡ any (is_rise p) xs → d ≡ direction p xs
unfolding direction some_fall some_rise
direction_found p xs e ef er = rw (e, ef, er)

pub direction_few : (p : ℕ) (xs : List TimedPrice) → direction p xs ≤ 2
unfolding direction
direction_few p xs = by_test (λ (d : ℕ). d ≤ 2) _ (λ a. omega arith) (λ a. by_test (λ (d : ℕ). d ≤ 2) _ (λ b. omega arith) (λ b. omega arith))

-- the laws of each loop over kept prices, for the check to try

pub ruleset order_walk = (in_order_falls, in_order_illegal, in_order_next, in_order_none, none_behind)

pub ruleset within_walk = (within_none, within_no, within_first, order_rest, none_behind)

pub ruleset direction_walk = (direction_found, any_next, any_none, none_behind)
