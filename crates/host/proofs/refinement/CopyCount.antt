-- Copy out fills at most 256 records, so its count is an answer. Assumes nothing.
use mathlib.Core.Path.{◌≡◌, refl, sym, subst}
use Prim.Native.Nat.{ℕ}
use native.Mathlib.Omega.{arith}
use mathlib.Core.Bool.{Bool, true, false}
use mathlib.Core.List.{List}
use lib.Dec.{leb}
use lib.ListN.{length}
use Rattle.book.specs.rules.Words.{resting}
use Rattle.engine.specs.rules.Layout.{sound_words}
use Rattle.engine.specs.rules.Copy.{copy_outcome}
use Rattle.engine.proofs.refinement.CopyLaws.{copy_broken, copy_short, copy_fills, sound_book_lem}
use Rattle.host.specs.claims.Calls.{AnswerFits}

fits_at : (w : List ℕ) (n : ℕ) (y z : Bool) → sound_words w ≡ y → leb (length (resting w)) n ≡ z → AnswerFits (copy_outcome w n)
fits_at w n true true s h = let b = sound_book_lem w (sym s) refl in subst AnswerFits (sym (copy_fills w n s h)) (omega (arith, b.few))
fits_at w n true false s h = subst AnswerFits (sym (copy_short w n s h)) (omega arith)
fits_at w n false z s h = subst AnswerFits (sym (copy_broken w n s)) (omega arith)

pub copy_fits : (w : List ℕ) (n : ℕ) → AnswerFits (copy_outcome w n)
copy_fits w n = fits_at w n (sound_words w) (leb (length (resting w)) n) refl refl
