-- `rank_from_end`: where the last id is not above the id, no id is. Assumes nothing.
use Prim.Native.Nat.{ℕ, ◌-◌, ◌≤◌}
use mathlib.Core.Path.{◌≡◌, sym, subst}
use native.Mathlib.Omega.{arith}
use lib.ListN.{length}
use Rattle.book.specs.rules.Words.{resting}
use Rattle.book.proofs.definitions.RisingLaws.{ids_rise_rises}
use Rattle.book.proofs.refinement.RankLaws.{rank_is, rank_length, rank_of_found, none_above}
use Rattle.book.proofs.BookView.rank_from_end.Goals as goal

pub returns-then-n-eq0 : goal.returns-then-n-eq0
returns-then-n-eq0 c = omega (arith, rank_length c.args.id (resting c.args.self.words.now), c.count-n.ensures, c.if-n-eq0.true)

pub returns-then-id_at-id : goal.returns-then-id_at-id
returns-then-id_at-id c = let l = resting c.args.self.words.now in let id = c.args.id in let r = ids_rise_rises 0 l c.requires in let n = c.count-n.result in let e : n ≡ length l = c.count-n.ensures in sym (rank_is id l n (omega arith) (λ j h. none_above l id (n - 1) r (omega arith) (subst (λ (x : ℕ). x ≤ id) c.id_at.ensures c.if-id_at-id.true) j (omega arith)) (λ k. absurd (omega arith)))

pub returns-in-Ok : goal.returns-in-Ok
returns-in-Ok c =
    let l = resting c.args.self.words.now in
    let at = c.in-Ok.ensures.found in
    omega (arith, rank_of_found c.args.id l c.in-Ok.i (ids_rise_rises 0 l c.requires) at.0 at.1)
