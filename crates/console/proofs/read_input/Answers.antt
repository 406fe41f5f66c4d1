-- Where the reader's bytes are known: those that came are its first, all of them or as many as there was room for.
use Rattle.std.proofs.Common.{◌≡◌, ℕ, ◌+◌, ◌-◌, ◌≤◌, List, [], ◌++◌, IfSome, Option, None, Some, rules, arith, length, take, drop, sym, ap, ◌∙◌, subst, le_refl, drop_at, length-take-le}
use Rattle.std.proofs.lemmas.Grind.{common_steps}
use Rattle.std.proofs.lemmas.Slice.{take-put_mid_below}
use Rattle.std.specs.Io.KnownBytes.{Consumes, IsAtEnd}
use Rattle.std.proofs.KnownBytes.{Consumes-trans}
use borrow.Rule.Slice.PartMut.{put_mid, post_of}
use lib.Seq.{take-add, take-append-le}
use Rattle.console.proofs.read_input.Goals as goal

-- what was read stands behind what had come
came_more : (a k n : ℕ) (xs ys : List ℕ) → a ≤ length xs → n ≤ length ys → take a xs ++ take n ys ≡ take (a + n) (put_mid a k xs ys)
came_more a k n xs ys within fits =
    let behind : drop a (put_mid a k xs ys) ≡ ys ++ post_of a k xs = drop_at (take a xs) (ys ++ post_of a k xs) a (length-take-le a xs within) in
    sym (take-add a n (put_mid a k xs ys) ∙ ap (λ l. l ++ take n (drop a (put_mid a k xs ys))) (take-put_mid_below a k xs ys a (le_refl a) within) ∙ ap (λ l. take a xs ++ l) (ap (take n) behind ∙ take-append-le n ys (post_of a k xs) fits))

-- a read gives nothing and nothing is left, so all came
all_came : (old mid new : Option (List ℕ)) (came none : List ℕ) (room : ℕ) → Consumes old mid came → Consumes mid new none → none ≡ [] → IsAtEnd new → length came ≤ room → IfSome old (λ bytes. came ≡ take room bytes)
all_came None mid new came none room c d e f h = tt
all_came (Some xs) None new came none room c d e f h = absurd c
all_came (Some xs) (Some ys) None came none room c d e f h = absurd d
all_came (Some xs) (Some ys) (Some zs) came none room c d e f h = grind (arith, common_steps, c, d, e, f, h)

-- no room is left, so what came is the front
front_came : (old new : Option (List ℕ)) (room : ℕ) (came : List ℕ) → Consumes old new came → length came ≡ room → IfSome old (λ bytes. came ≡ take room bytes)
front_came None new room came c h = tt
front_came (Some xs) None room came c h = absurd c
front_came (Some xs) (Some ys) room came c h = grind (arith, common_steps, c, h)

pub loop-count-init : goal.loop-count-init
loop-count-init g c = search rules

pub loop-count-preserved : goal.loop-count-preserved
loop-count-preserved g c =
    let from = c.loop-count.count in
    let room = length c.loop-count.input - from in
    let within = c.loop-count.invariant.1 in
    let more = c.in_ok-more.more in
    (search rules, search rules, subst (Consumes _ _) (came_more from room more _ _ within c.in_ok-more.ensures.bound.0) (Consumes-trans _ _ _ _ _ c.loop-count.invariant.2 c.in_ok-more.ensures.bytes.0))

pub returns-then-more-eq0-clause-front : goal.returns-then-more-eq0-clause-front
returns-then-more-eq0-clause-front g c =
    let from = c.loop-count.count in
    let within = c.loop-count.invariant.1 in
    let room : length (take from c.loop-count.input) ≤ length c.args.input.now = omega (arith, length-take-le from c.loop-count.input within, within, c.loop-count.invariant.0) in
    let empty : take c.in_ok-more.more c.read.new.buf ≡ [] = ap (λ n. take n c.read.new.buf) c.if-more-eq0.true in
    let ends : IsAtEnd (g.R.Read.remaining c.read.new.self) = c.in_ok-more.ensures.bytes.1 c.if-more-eq0.true (omega (arith, c.loop-count-test.true, c.read.auto.buf)) in
    subst (λ came. IfSome (g.R.Read.remaining c.args.from.now) (λ bytes. came ≡ take (length c.args.input.now) bytes)) (sym (take-put_mid_below _ _ _ _ _ (le_refl _) within))
    (all_came _ _ _ _ _ _ c.loop-count.invariant.2 c.in_ok-more.ensures.bytes.0 empty ends room)

pub returns-clause-bound : goal.returns-clause-bound
returns-clause-bound g c = (c.loop-count.invariant.1, sym (length-take-le c.loop-count.count c.loop-count.input c.loop-count.invariant.1))

pub returns-clause-front : goal.returns-clause-front
returns-clause-front g c =
    let within = c.loop-count.invariant.1 in
    let full : c.loop-count.count ≡ length c.args.input.now = omega (arith, c.loop-count-test.false, within, c.loop-count.invariant.0) in
    front_came _ _ _ _ c.loop-count.invariant.2 (length-take-le c.loop-count.count c.loop-count.input within ∙ full)
