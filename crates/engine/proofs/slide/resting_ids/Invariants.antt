-- Each id is copied to its place. Assumes nothing.
use Prim.Native.Nat.{ℕ, ◌<◌}
use mathlib.Core.Path.{◌≡◌}
use lib.ListN.{length, get_or}
use Rattle.book.specs.rules.Words.{empty_order, resting}
use Rattle.engine.proofs.slide.resting_ids.Given as goal

abbrev pub invariant-loop-i : goal.invariant-loop-i
invariant-loop-i l = ((k : ℕ) → k < l.i → get_or l.ids k 0 ≡ (get_or (resting l.book.words.now) k empty_order).id) × (length l.ids ≡ 256)
