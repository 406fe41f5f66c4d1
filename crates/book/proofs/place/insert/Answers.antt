-- An order is put in at the rank of its id. Assumes nothing.
use Prim.Native.Nat.{ℕ}
use mathlib.Core.Path.{sym, ap, ◌∙◌}
use native.Mathlib.Omega.{arith}
use Rattle.book.specs.rules.Words.{resting}
use Rattle.book.specs.steps.Positions.{insert_at}
use Rattle.book.proofs.refinement.RankLaws.{rank_length, insert_rank}
use Rattle.book.proofs.refinement.HoldsLaws.{holds_as}
use Rattle.book.proofs.place.insert.Goals as goal

pub insert_at-requires : goal.insert_at-requires
insert_at-requires c = let r = rw c.new.ensures at c.rank_from_end-i.ensures in (c.requires.0, omega (arith, r, rank_length c.args.o.id (resting c.args.w.now)), c.requires.1)

pub returns : goal.returns
returns c = let l = resting c.args.w.now in let o = c.args.o in let r = rw c.new.ensures at c.rank_from_end-i.ensures in holds_as c.insert_at.ensures (ap (λ (k : ℕ). insert_at k o l) r ∙ sym (insert_rank o l))
