-- Laws of tests and of lists of tests, cited by the proofs of every layer. Assumes nothing.
use Prim.Native.Nat.{ℕ}
use native.Mathlib.Omega.{arith}
use mathlib.Core.Path.{◌≡◌, refl, sym, ◌∙◌, subst}
use mathlib.Core.Bool.{Bool, true, false, not, ◌&&◌, ◌||◌, or-false}
use mathlib.Core.Logic.{◌⊎◌, inl, inr}
use mathlib.Core.List.{List, [], ◌∷◌, ◌++◌, map}
use lib.Dec.{T, eqb, leb→le, nleb→lt, eqb→eq, eqb_refl, not_T, T_not}
use Rattle.numbers.specs.Tests.{pick, conj, every, any, All}

-- what a choice gives, by its test

pub by_test : {A : Type 0} (P : A → Type 0) (b : Bool) {x y : A} → (T b → P x) → (T (not b) → P y) → P (pick b x y)
unfolding pick
by_test P true f g = f tt
by_test P false f g = g tt

pub pick_yes : {A : Type 0} (b : Bool) (x y : A) → T b → pick b x y ≡ x
unfolding pick
pick_yes true x y h = refl
pick_yes false x y h = absurd h

pub pick_no : {A : Type 0} (b : Bool) (x y : A) → T (not b) → pick b x y ≡ y
unfolding pick
pick_no true x y h = absurd h
pick_no false x y h = refl

-- the same where a call has answered the test
pub answered_yes : {A : Type 0} {t b : Bool} (x y : A) → t ≡ b → t ≡ true → x ≡ pick b x y
unfolding pick
answered_yes x y e f = rw (sym e ∙ f)

pub answered_no : {A : Type 0} {t b : Bool} (x y : A) → t ≡ b → t ≡ false → y ≡ pick b x y
unfolding pick
answered_no x y e f = rw (sym e ∙ f)

-- what a test that a call has answered says
pub answered_T : {t b : Bool} → t ≡ b → t ≡ true → T b
answered_T e f = rw (sym e ∙ f) tt

-- conjunctions and disjunctions

pub and_T : (a b : Bool) → T (a && b) → T a × T b
and_T true b h = (tt, h)
and_T false b h = absurd h

pub T_and : (a b : Bool) → T a → T b → T (a && b)
T_and true b h k = k
T_and false b h k = h

pub or_T : (a b : Bool) → T (a || b) → T a ⊎ T b
or_T true b h = inl tt
or_T false b h = inr h

pub T-inl : (a b : Bool) → T a → T (a || b)
T-inl true b h = tt
T-inl false b h = absurd h

pub T-inr : (a b : Bool) → T b → T (a || b)
T-inr true b h = tt
T-inr false b h = h

pub nand_T : (a b : Bool) → T (not (a && b)) → T (not a) ⊎ T (not b)
nand_T true b h = inr h
nand_T false b h = inl tt

pub notnot_T : (a : Bool) → T (not (not a)) → T a
notnot_T true h = tt
notnot_T false h = h

-- the same as equations

pub T_true : (b : Bool) → T b → b ≡ true
T_true true h = refl
T_true false h = absurd h

pub T_false : (b : Bool) → T (not b) → b ≡ false
T_false true h = absurd h
T_false false h = refl

pub not_yes : (b : Bool) → not b ≡ true → b ≡ false
not_yes true e = sym e
not_yes false e = refl

pub not_no : (b : Bool) → not b ≡ false → b ≡ true
not_no true e = refl
not_no false e = sym e

pub and_yes : {a : Bool} (b : Bool) → a ≡ true → (a && b) ≡ b
and_yes b e = rw e

pub and_no : {a : Bool} (b : Bool) → a ≡ false → (a && b) ≡ false
and_no b e = rw e

pub and-false : (b : Bool) → (b && false) ≡ false
and-false true = refl
and-false false = refl

pub and_last : (b : Bool) → (b && true) ≡ b
and_last true = refl
and_last false = refl

pub bool_ext : (a b : Bool) → (T a → T b) → (T b → T a) → a ≡ b
bool_ext true true f g = refl
bool_ext true false f g = absurd (f tt)
bool_ext false true f g = absurd (g tt)
bool_ext false false f g = refl

or_assoc : (a b c : Bool) → (a || (b || c)) ≡ ((a || b) || c)
or_assoc true b c = refl
or_assoc false b c = refl

-- each test of a list, as a tuple
abbrev pub Each : List Bool → Type 0
Each [] = Unit {0}
Each (b ∷ bs) = T b × Each bs

pub conj_T : (bs : List Bool) → T (conj bs) → Each bs
conj_T [] h = tt
conj_T (b ∷ bs) h = let r = and_T b (conj bs) h in (r.0, conj_T bs r.1)

pub T-conj : (bs : List Bool) → Each bs → T (conj bs)
T-conj [] h = tt
T-conj (b ∷ bs) h = T_and b (conj bs) h.0 (T-conj bs h.1)

-- a test of each element of a list

pub every_T : {A : Type 0} (f : A → Bool) (xs : List A) → T (every f xs) → All (λ (x : A). T (f x)) xs
unfolding every
every_T f [] h = tt
every_T f (x ∷ xs) h = let r = and_T (f x) (every f xs) h in (r.0, every_T f xs r.1)

pub T-every : {A : Type 0} (f : A → Bool) (xs : List A) → All (λ (x : A). T (f x)) xs → T (every f xs)
unfolding every
T-every f [] h = tt
T-every f (x ∷ xs) h = T_and (f x) (every f xs) h.0 (T-every f xs h.1)

-- a test of some element of a list, looked for one after another: b is whether one before the first passed
pub any_next : {A : Type 0} {b' t : Bool} (b : Bool) (f : A → Bool) (x : A) (xs : List A) → b' ≡ (b || t) → t ≡ f x → (b' || any f xs) ≡ (b || any f (x ∷ xs))
unfolding any
any_next b f x xs e h = rw (e, h) (sym (or_assoc b (f x) (any f xs)))

pub any_none : {A : Type 0} (f : A → Bool) (b : Bool) → (b || any f []) ≡ b
unfolding any
any_none f b = or-false b

-- equality tests

pub neqb : (m n : ℕ) → T (not (eqb m n)) → m ≡ n → ⊥
neqb m n h e = T_not (eqb m n) h (subst (λ (x : ℕ). T (eqb m x)) e (eqb_refl m))

pub ne→T : (m n : ℕ) → (m ≡ n → ⊥) → T (not (eqb m n))
ne→T m n h = not_T (eqb m n) (λ t. h (eqb→eq m n t))

pub eq→T : {m n : ℕ} → m ≡ n → T (eqb m n)
eq→T {m} e = subst (λ (x : ℕ). T (eqb m x)) e (eqb_refl m)

-- for `omega`, where tests stand among the hypotheses
pub ruleset tests = (arith, leb→le, nleb→lt, eqb→eq, neqb)

-- facts of each element of a list

pub all_map : {A : Type 0} {P Q : A → Type 0} → ((x : A) → P x → Q x) → (xs : List A) → All P xs → All Q xs
all_map f [] h = tt
all_map f (x ∷ xs) h = (f x h.0, all_map f xs h.1)

pub all_both : {A : Type 0} {P Q R : A → Type 0} → ((x : A) → P x → Q x → R x) → (xs : List A) → All P xs → All Q xs → All R xs
all_both f [] h k = tt
all_both f (x ∷ xs) h k = (f x h.0 k.0, all_both f xs h.1 k.1)

pub map_all : {A B : Type 0} (P : B → Type 0) (f : A → B) (xs : List A) → All (λ (x : A). P (f x)) xs → All P (map f xs)
map_all P f [] h = tt
map_all P f (x ∷ xs) h = (h.0, map_all P f xs h.1)

pub all_append : {A : Type 0} (P : A → Type 0) (xs ys : List A) → All P xs → All P ys → All P (xs ++ ys)
all_append P [] ys h k = k
all_append P (x ∷ xs) ys h k = (h.0, all_append P xs ys h.1 k)
