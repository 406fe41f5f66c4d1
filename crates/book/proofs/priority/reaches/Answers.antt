-- `reaches` by the side of the working order. Assumes nothing.
use Prim.Native.Nat.{ℕ, zero, suc, ◌+◌, ◌*◌, ◌<◌}
use native.Mathlib.Omega.{arith}
use mathlib.Core.Path.{◌≡◌, sym, ap, ◌∙◌}
use mathlib.Core.Bool.{Bool, true, false, not, ◌&&◌}
use lib.Dec.{leb, eqb}
use borrow.Author.Tests.{eq-eqb, ne_eqb, lt-leb}
use Rattle.numbers.specs.Tests.{pick}
use Rattle.book.specs.declared.Order.{Order}
use Rattle.book.specs.rules.Matching.{reaches}
use Rattle.book.proofs.priority.reaches.Goals as goal

-- one comparison for both tests
joined : (b : Bool) (p q : ℕ) {s : ℕ} → q < 4_294_967_296 → s ≡ pick b 0 4_294_967_296 → leb (s + p) q ≡ (b && leb p q)
unfolding pick
joined true p q h e = ap (λ (n : ℕ). leb n q) (omega (arith, e))
joined false p q {s} h e = lt-leb (s + p) q (omega (arith, e, h))

-- the same where the test is that a mark is 0
by-mark : (k p q : ℕ) → q < 4_294_967_296 → leb (k * 4_294_967_296 + p) q ≡ (eqb k 0 && leb p q)
by-mark zero p q h = ap (λ (n : ℕ). leb n q) (omega arith)
by-mark (suc k) p q h =
    lt-leb (suc k * 4_294_967_296 + p) q (omega arith) ∙ sym (ap (λ (b : Bool). b && leb p q) (ne_eqb (suc k) 0 (λ e. omega arith)))

-- the two sides

buys : (o x : Order) → o.mark ≡ 0 → (not (eqb x.mark 0) && leb x.price o.price) ≡ reaches o x
unfolding reaches pick
buys o x e = rw (eq-eqb o.mark 0 e)

sells : (o x : Order) → (o.mark ≡ 0 → ⊥) → (eqb x.mark 0 && leb o.price x.price) ≡ reaches o x
unfolding reaches pick
sells o x e = rw (ne_eqb o.mark 0 e)

pub overflow_add-result : goal.overflow_add-result
overflow_add-result c = omega (arith, c.out_of_reach.ensures.1, c.struct_known-then-o-eq0-2-1.given)

pub returns-then-o-eq0 : goal.returns-then-o-eq0
returns-then-o-eq0 c =
    joined (not (eqb c.args.x.mark 0)) c.args.x.price c.args.o.price (omega (arith, c.struct_known-then-o-eq0-3-1.given)) c.out_of_reach.ensures.0 ∙ buys c.args.o c.args.x c.if-o-eq0.true

pub returns : goal.returns
returns c =
    by-mark c.args.x.mark c.args.o.price c.args.x.price (omega (arith, c.struct_known-4-1.given)) ∙ sells c.args.o c.args.x c.if-o-eq0.false
