-- The sum that the loop of `depth` makes is the sum over the run. Assumes nothing.
use mathlib.Core.Path.{◌≡◌, refl, ap, ◌∙◌}
use Prim.Native.Nat.{ℕ, zero, suc, ◌+◌}
use mathlib.Core.List.{List, [], ◌∷◌}
use native.Mathlib.Omega.{arith}
use native.Mathlib.Numerals.{add-one}
use lib.ListN.{length, get_or}
use Rattle.book.specs.declared.OrderRecord.{OrderRecord}
use Rattle.book.specs.declared.Side.{Side}
use Rattle.book.specs.steps.LentRuns.{empty_record}
use Rattle.book.specs.rules.Depth.{shares_shown, all_shown}

-- ---- the sum over the first i records
unfoldable pub shown_to : ℕ → ℕ → Side → List OrderRecord → ℕ
shown_to zero p s l = 0
shown_to (suc i) p s l = shown_to i p s l + shares_shown p s (get_or l i empty_record)

pub shown_none : (p : ℕ) (s : Side) (l : List OrderRecord) → 0 ≡ shown_to 0 p s l
unfolding shown_to
shown_none p s l = refl

pub shown_next : (i p : ℕ) (s : Side) (l : List OrderRecord) → shown_to i p s l + shares_shown p s (get_or l i empty_record) ≡ shown_to (i + 1) p s l
unfolding shown_to
shown_next i p s l = rw (add-one i)

shown_cons : (i p : ℕ) (s : Side) (o : OrderRecord) (l : List OrderRecord) → shown_to (suc i) p s (o ∷ l) ≡ shares_shown p s o + shown_to i p s l
unfolding shown_to
shown_cons zero p s o l = omega arith
shown_cons (suc i) p s o l = omega (arith, shown_cons i p s o l)

pub shown_all : (p : ℕ) (s : Side) (l : List OrderRecord) → shown_to (length l) p s l ≡ all_shown p s l
unfolding shown_to all_shown
shown_all p s [] = refl
shown_all p s (o ∷ l) = shown_cons (length l) p s o l ∙ ap (λ (n : ℕ). shares_shown p s o + n) (shown_all p s l)
