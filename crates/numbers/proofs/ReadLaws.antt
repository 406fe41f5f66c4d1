-- Reading and the bytes of a number: each undoes the other. Assumes nothing.
use Prim.Native.Nat.{ℕ, zero, suc, ◌+◌, ◌-◌, ◌*◌, ◌^◌, ◌/◌, ◌%◌, ◌≤◌, ◌<◌}
use native.Mathlib.Nat.{pow-suc, pow-le-pow_right, mul-add, mul_assoc, mul-le-mul_left}
use native.Mathlib.Numerals.{add-one}
use native.Mathlib.Decide.{dec_lt}
use native.Mathlib.Omega.{arith}
use mathlib.Core.Path.{◌≡◌, refl, sym, ap, ap₂, ◌∙◌, subst}
use mathlib.Core.Bool.{Bool, true, false, not, ◌&&◌}
use mathlib.Core.Logic.{◌⊎◌, inl, inr}
use mathlib.Core.List.{List, [], ◌∷◌, ◌++◌}
use lib.Dec.{T, leb, ltb, eqb, leb→le, nleb→lt}
use lib.ListN.{length, get_or, drop, length-append, length-drop, drop_of_length-le}
use lib.Seq.{drop-append_seam, drop-drop, drop-cons}
use borrow.Author.Tests.{le-ltb, lt-ltb, le-leb, lt-leb, ne_eqb}
use Rattle.numbers.specs.Tests.{pick, All}
use Rattle.numbers.specs.Answers.{Outcome, gives, refuses, Read}
use Rattle.numbers.specs.declared.read.Group.{Group}
use Rattle.numbers.specs.declared.read.Group.TheVariants.{More, Last, Bad}
use Rattle.numbers.specs.SevenBit.{IsByte, bytes_of, judge, on_group, by_group, groups_at, number_at, Stands}
use Rattle.numbers.proofs.TestLaws.{by_test, nand_T, and-false, neqb, tests}
use Rattle.numbers.proofs.PlaceLaws.{stands_first}
use Rattle.numbers.proofs.ByteLaws.{bytes_last, bytes_more, length_last, length_more, length_positive}

-- what a byte is as a group

pub judge_more : (k b : ℕ) → (k ≡ 9 → ⊥) → 128 ≤ b → judge k b ≡ More
unfolding judge pick
judge_more k b h l = simp (ne_eqb k 9 h, le-leb 128 b l)

pub judge_last : (k b : ℕ) → (k ≡ 9 → ⊥) → b < 128 → (0 < k → 0 < b) → judge k b ≡ Last
unfolding judge pick
judge_last zero b h l p = simp (lt-leb 128 b l)
judge_last (suc k) b h l p = simp (ne_eqb (suc k) 9 h, lt-leb 128 b l, ne_eqb b 0 (λ e. omega (arith, p (omega arith))), and-false)

pub judge_tenth : (b : ℕ) → b < 2 → 0 < b → judge 9 b ≡ Last
unfolding judge pick
judge_tenth b l p = simp (le-ltb 1 b (omega arith), lt-leb 128 b (omega arith), ne_eqb b 0 (λ e. omega arith))

pub judge_zero : (k : ℕ) → 0 < k → judge k 0 ≡ Bad
unfolding judge pick
judge_zero k p = by_nine (eqb k 9)
  where
    by_nine : (t : Bool) → pick (t && false) Bad (pick false More (pick (ltb 0 k && true) Bad Last)) ≡ Bad
    by_nine true = simp (lt-ltb 0 k p)
    by_nine false = simp (lt-ltb 0 k p)

-- a number that was read, with its end
abbrev pub number : ℕ → ℕ → Outcome (Read ℕ)
number x e = gives (record { value = x; end = e })

-- What was written is read back, whatever stands behind it

read_last : (k i x : ℕ) (behind : List ℕ) → x < 128 → judge k x ≡ Last → groups_at k i (bytes_of x ++ behind) ≡ number x (i + length (bytes_of x))
unfolding groups_at
read_last k i x behind l j = rw (bytes_last x l, j) (ap (number x) (omega arith))

read_more : (k i x : ℕ) (behind : List ℕ) → 128 ≤ x → k < 9 → groups_at (suc k) (suc i) (bytes_of (x / 128) ++ behind) ≡ number (x / 128) (suc i + length (bytes_of (x / 128))) → groups_at k i (bytes_of x ++ behind) ≡ number x (i + length (bytes_of x))
unfolding groups_at
read_more k i x behind l h later =
    rw (bytes_more x l, judge_more k (x % 128 + 128) (λ e. omega arith) (omega arith), later) (ap₂ number (omega arith) (omega arith))

-- k groups stand before the number, and at most r may follow its first
read_groups : (r k i x : ℕ) (behind : List ℕ) → r + k ≡ 9 → x < 2 * 128 ^ r → (0 < k → 0 < x) → groups_at k i (bytes_of x ++ behind) ≡ number x (i + length (bytes_of x))
read_groups zero k i x behind e h p =
    let n : k ≡ 9 = omega arith in
    read_last k i x behind (omega arith) (ap (λ m. judge m x) n ∙ judge_tenth x h (p (omega arith)))
read_groups (suc r) k i x behind e h p =
    elim (dec_lt x 128) [
      | yes l ↦ read_last k i x behind l (judge_last k x (λ n. omega arith) l p)
      | no l ↦ read_more k i x behind (omega arith) (omega arith) (read_groups r (suc k) (suc i) (x / 128) behind (omega arith) (omega (arith, pow-suc 128 r)) (λ q. omega arith))
    ]

-- a number whose bytes stand at an offset is read there, whatever stands behind it
pub read_there : {bytes : List ℕ} {at e : ℕ} (x : ℕ) → x < 2 ^ 64 → Stands bytes at (bytes_of x) e → number_at bytes at ≡ number x e
unfolding number_at
read_there {bytes} {at} {e} x h s =
    ap (groups_at 0 at) s.there ∙ read_groups 9 0 at x (drop e bytes) refl h (λ p. absurd (omega arith)) ∙ ap (number x) (sym s.ends)

abbrev value_of : Outcome (Read ℕ) → ℕ
value_of (gives r) = r.value
value_of (refuses n) = n

-- so the bytes of one number are never the front of another's
pub not_a_front : (x y : ℕ) (r s : List ℕ) → x < 2 ^ 64 → y < 2 ^ 64 → bytes_of x ++ r ≡ bytes_of y ++ s → x ≡ y
not_a_front x y r s h k e =
    ap value_of (sym (read_there x h (stands_first (bytes_of x) r)) ∙ ap (λ l. number_at l 0) e ∙ read_there y k (stands_first (bytes_of y) s))

-- What reads as a number is exactly its bytes

-- what a reading says of the bytes from the place i on, k groups standing before them; r more may follow the first
abbrev GroupsSay : ℕ → ℕ → ℕ → List ℕ → Outcome (Read ℕ) → Type 0
GroupsSay r k i bs (gives x) =
    record {
      behind : List ℕ;
      bytes : bs ≡ bytes_of x.value ++ behind;
      end : x.end ≡ i + length (bytes_of x.value);
      high : x.value < 2 * 128 ^ r;
      positive : 0 < k → 0 < x.value;
    }
GroupsSay r k i bs (refuses n) = Unit {0}

-- what a group's kind says of its byte
abbrev JudgeSays : ℕ → ℕ → Group → Type 0
JudgeSays k b More = (128 ≤ b) × (k ≡ 9 → ⊥)
JudgeSays k b Last = (b < 128) × (0 < k → 0 < b) × (k ≡ 9 → b < 2)
JudgeSays k b Bad = Unit {0}

judge_says : (k b : ℕ) → JudgeSays k b (judge k b)
unfolding judge
judge_says k b =
    by_test (JudgeSays k b) _ (λ t. tt) (λ s. by_test (JudgeSays k b) _ (λ m. (leb→le 128 b m, λ e. tenth s m e)) (λ m. by_test (JudgeSays k b) _ (λ z. tt) (λ z. (nleb→lt 128 b m, λ p. positive z p, λ e. small s e))))
  where
    small : T (not (eqb k 9 && ltb 1 b)) → k ≡ 9 → b < 2
    small s e = go (nand_T (eqb k 9) (ltb 1 b) s)
      where
        go : T (not (eqb k 9)) ⊎ T (not (ltb 1 b)) → b < 2
        go (inl x) = absurd (neqb k 9 x e)
        go (inr x) = omega tests

    tenth : T (not (eqb k 9 && ltb 1 b)) → T (leb 128 b) → k ≡ 9 → ⊥
    tenth s m e = omega (tests, small s e)

    positive : T (not (ltb 0 k && eqb b 0)) → 0 < k → 0 < b
    positive z p = go (nand_T (ltb 0 k) (eqb b 0) z)
      where
        go : T (not (ltb 0 k)) ⊎ T (not (eqb b 0)) → 0 < b
        go (inl x) = absurd (omega tests)
        go (inr x) = omega tests

power_positive : (r : ℕ) → 0 < r → 128 ≤ 128 ^ r
power_positive r h = pow-le-pow_right {n = 128} (omega arith) {i = 1} {j = r} h

-- one group in front of what the bytes behind it say
group_says : (r k i b : ℕ) (bs : List ℕ) → r + k ≡ 9 → IsByte b → (g : Group) → JudgeSays k b g → (o : Outcome (Read ℕ)) → ((q : ℕ) → suc q ≡ r → GroupsSay q (suc k) (suc i) bs o) → GroupsSay r k i (b ∷ bs) (by_group g b i o)
group_says r k i b bs e y Bad j o later = tt
group_says r k i b bs e y Last j o later =
    record {
      behind = bs;
      bytes = ap (λ l. l ++ bs) (sym (bytes_last b j.0));
      end = omega (arith, length_last b j.0);
      high = high (dec_lt 0 r);
      positive = j.1;
    }
  where
    high : Dec (0 < r) → b < 2 * 128 ^ r
    high (yes l) = omega (arith, power_positive r l, j.0)
    high (no l) = let z : r ≡ 0 = omega arith in rw z (j.2 (omega arith))
group_says r k i b bs e y More j (refuses n) later = tt
group_says zero k i b bs e y More j (gives x) later = absurd (j.1 (omega arith))
group_says (suc q) k i b bs e y More j (gives x) later =
    let s = later q refl in
    let v : ℕ = b - 128 + 128 * x.value in
    let big : 128 ≤ v = omega (arith, s.positive (omega arith)) in
    let low : v % 128 + 128 ≡ b = omega (arith, j.0) in
    let rest : v / 128 ≡ x.value = omega (arith, j.0) in
    record {
      behind = s.behind;
      bytes = rw (bytes_more v big, low, rest) (ap (λ l. b ∷ l) s.bytes);
      end = omega (arith, s.end, length_more v big, ap (λ z. length (bytes_of z)) rest);
      high = omega (arith, s.high, pow-suc 128 q);
      positive = λ p. omega arith;
    }

groups_say : (bs : List ℕ) (r k i : ℕ) → r + k ≡ 9 → All IsByte bs → GroupsSay r k i bs (groups_at k i bs)
unfolding groups_at
groups_say [] r k i e h = tt
groups_say (b ∷ bs) r k i e h =
    group_says r k i b bs e h.0 (judge k b) (judge_says k b) (groups_at (suc k) (suc i) bs) (λ q z. groups_say bs q (suc k) (suc i) (omega arith) h.1)

all_drop : (n : ℕ) (bs : List ℕ) → All IsByte bs → All IsByte (drop n bs)
all_drop zero bs h = h
all_drop (suc n) [] h = h
all_drop (suc n) (b ∷ bs) h = all_drop n bs h.1

-- where a number is read its bytes stand, and nothing else
pub record NumberStands (bytes : List ℕ) (at : ℕ) (r : Read ℕ) : Type 0 where
  pub fits : r.value < 2 ^ 64
  pub stands : Stands bytes at (bytes_of r.value) r.end

pub read_unique : (bytes : List ℕ) (at : ℕ) → All IsByte bytes → (r : Read ℕ) → number_at bytes at ≡ gives r → NumberStands bytes at r
unfolding number_at
read_unique bytes at h r e = record { fits = s.high; stands = record { ends = s.end; inside = inside; there = s.bytes ∙ ap (λ l. new ++ l) (sym behind) } }
  where
    s : GroupsSay 9 0 at (drop at bytes) (gives r)
    s = subst (GroupsSay 9 0 at (drop at bytes)) e (groups_say (drop at bytes) 9 0 at refl (all_drop at bytes h))

    new : List ℕ
    new = bytes_of r.value

    inside : r.end ≤ length bytes
    inside = omega (arith, s.end, sym (length-drop at bytes) ∙ ap length s.bytes ∙ length-append new s.behind, length_positive r.value)

    behind : drop r.end bytes ≡ s.behind
    behind = ap (λ n. drop n bytes) s.end ∙ sym (drop-drop (length new) at bytes) ∙ ap (drop (length new)) s.bytes ∙ drop-append_seam new s.behind

-- the elements of a slice of bytes
pub all_bytes : (bs : List ℕ) → ((i : ℕ) → get_or bs i 0 < 256) → All IsByte bs
all_bytes [] h = tt
all_bytes (b ∷ bs) h = (h zero, all_bytes bs (λ i. h (suc i)))

-- The loop of `read_number`

-- what is read of a number whose groups so far say v, the next one counting s
abbrev pub continued : ℕ → ℕ → Outcome (Read ℕ) → Outcome (Read ℕ)
continued v s (gives r) = number (v + s * r.value) r.end
continued v s (refuses n) = refuses n

continued_all : (o : Outcome (Read ℕ)) → o ≡ continued 0 1 o
continued_all (gives r) = ap (λ x. number x r.end) (omega arith)
continued_all (refuses n) = refl

continued_more : (v s g : ℕ) (o : Outcome (Read ℕ)) → continued v s (on_group g o) ≡ continued (v + s * g) (s * 128) o
continued_more v s g (gives r) = ap (λ x. number x r.end) (omega (arith, mul-add s g (128 * r.value), mul_assoc s 128 r.value))
continued_more v s g (refuses n) = refl

-- the state of the loop: `before` groups were read up to the place i, and say `value`
pub record Reading (bytes : List ℕ) (at value scale before i : ℕ) : Type 0 where
  pub few : before ≤ 9
  pub power : scale ≡ 128 ^ before
  pub below : value < scale
  pub rest : number_at bytes at ≡ continued value scale (groups_at before i (drop i bytes))

pub reading_start : (bytes : List ℕ) (at : ℕ) → Reading bytes at 0 1 0 at
unfolding number_at
reading_start bytes at = record { few = omega arith; power = refl; below = omega arith; rest = continued_all (groups_at 0 at (drop at bytes)) }

module _ {bytes : List ℕ} {at value scale before i : ℕ} (h : Reading bytes at value scale before i) where
  pub reading_missing : length bytes ≤ i → number_at bytes at ≡ refuses 9
  unfolding groups_at
  reading_missing l = h.rest ∙ rw (drop_of_length-le bytes l)

  module _ {b : ℕ} (l : i < length bytes) (is : b ≡ get_or bytes i 0) where
    group_at : groups_at before i (drop i bytes) ≡ by_group (judge before b) b i (groups_at (suc before) (suc i) (drop (suc i) bytes))
    unfolding groups_at
    group_at = rw (is, drop-cons bytes i 0)

    by_kind : (g : Group) → judge before b ≡ g → number_at bytes at ≡ continued value scale (by_group g b i (groups_at (suc before) (suc i) (drop (suc i) bytes)))
    by_kind g e = h.rest ∙ ap (continued value scale) (group_at ∙ ap (λ x. by_group x b i (groups_at (suc before) (suc i) (drop (suc i) bytes))) e)

    pub reading_bad : judge before b ≡ Bad → number_at bytes at ≡ refuses 10
    reading_bad e = by_kind Bad e

    pub reading_last : judge before b ≡ Last → number_at bytes at ≡ number (value + scale * b) (i + 1)
    reading_last e = by_kind Last e ∙ ap (number (value + scale * b)) (omega arith)

    says : (g : Group) → judge before b ≡ g → JudgeSays before b g
    says g e = subst (JudgeSays before b) e (judge_says before b)

    -- the scale while another group may follow, and in any case
    scale_more : before < 9 → scale * 128 ≤ 2 ^ 63
    scale_more s = omega (arith, h.power, pow-suc 128 before, pow-le-pow_right {n = 128} (omega arith) {i = suc before} {j = 9} s)

    scale_most : scale ≤ 2 ^ 63
    scale_most = omega (arith, h.power, pow-le-pow_right {n = 128} (omega arith) {i = before} {j = 9} h.few)

    pub last_fits : judge before b ≡ Last → value + scale * b < 2 ^ 64
    last_fits e = go (says Last e) (dec_lt before 9)
      where
        go : JudgeSays before b Last → Dec (before < 9) → value + scale * b < 2 ^ 64
        go j (yes s) = omega (arith, h.below, scale_more s, mul-le-mul_left {m = b} {n = 127} scale (omega (arith, j.0)))
        go j (no s) = omega (arith, h.below, scale_most, mul-le-mul_left {m = b} {n = 1} scale (omega (arith, j.2 (omega (arith, h.few)))))

    module _ (e : judge before b ≡ More) (y : IsByte b) where
      pub more_high : 128 ≤ b
      more_high = (says More e).0

      pub more_few : before < 9
      more_few = let n = (says More e).1 in omega (arith, h.few, n)

      group_below : scale * (b - 128) ≤ scale * 127
      group_below = mul-le-mul_left {m = b - 128} {n = 127} scale (omega arith)

      pub more_fits : value + scale * (b - 128) < 2 ^ 64
      more_fits = omega (arith, h.below, scale_more more_few, group_below)

      pub scale_fits : scale * 128 < 2 ^ 64
      scale_fits = omega (arith, scale_more more_few)

      pub reading_more : Reading bytes at (value + scale * (b - 128)) (scale * 128) (before + 1) (i + 1)
      reading_more =
          record {
            few = omega (arith, more_few);
            power = rw (add-one, pow-suc 128 before) (ap (λ x. x * 128) h.power);
            below = omega (arith, h.below, group_below);
            rest = rw (add-one before, add-one i) (by_kind More e ∙ continued_more value scale (b - 128) (groups_at (suc before) (suc i) (drop (suc i) bytes)));
          }

-- the laws of the loop over groups, for the check to try
pub ruleset reading_steps = (reading_start, reading_missing, reading_bad, reading_last, last_fits, more_high, more_fits, scale_fits)
