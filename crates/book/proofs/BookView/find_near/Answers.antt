-- `find_near`: the order at the position has the id, and no other has, or `find` says. Assumes nothing.
use Prim.Native.Nat.{ℕ, ◌<◌}
use mathlib.Core.Path.{◌≡◌, sym, ◌∙◌, subst}
use native.Mathlib.Omega.{arith}
use mathlib.Core.Option.{some}
use lib.ListN.{length, get_or}
use Rattle.book.specs.rules.Orders.{find}
use Rattle.book.specs.rules.Words.{resting, empty_order}
use Rattle.book.proofs.definitions.RisingLaws.{ids_rise_rises}
use Rattle.book.proofs.refinement.PositionLaws.{find_at}
use Rattle.book.proofs.BookView.find_near.Goals as goal

pub returns-then-id_at-id : goal.returns-then-id_at-id
returns-then-id_at-id c = let l = resting c.args.self.words.now in let i = c.args.near in let b : i < length l = omega (arith, c.if-near-count.true, c.count.ensures) in record { is = sym (subst (λ (x : ℕ). find x l ≡ some (get_or l i empty_order)) (sym c.id_at.ensures ∙ c.if-id_at-id.true) (find_at 0 l empty_order i (ids_rise_rises 0 l c.requires) b)); below = b }
