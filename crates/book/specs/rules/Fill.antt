-- Would an order fill: document 02, No. 4, "Orders are read in id order and reading ends as soon as enough shares are found." Assumes nothing.
use Rattle.std.specs.Prelude.{ℕ, zero, suc, ◌+◌, Bool, List, [], ◌∷◌, leb, length, take}
use Rattle.numbers.specs.Tests.{pick}
use Rattle.book.specs.declared.Order.{Order}
use Rattle.book.specs.declared.FrontRead.{FrontRead}
use Rattle.book.specs.rules.Matching.{reaches}

-- the shares of the resting order o if the working order w reaches it, and those of all that w reaches
unfoldable pub shares_reached : Order → Order → ℕ
shares_reached w o = pick (reaches w o) o.shares 0

unfoldable pub all_reached : Order → List Order → ℕ
all_reached w [] = 0
all_reached w (o ∷ os) = shares_reached w o + all_reached w os

-- "enough shares are found": w reaches n shares or more
unfoldable pub suffices : ℕ → Order → List Order → Bool
suffices n w os = leb n (all_reached w os)

-- the least number below m that passes a test, or m where none does
unfoldable pub least_below : ℕ → (ℕ → Bool) → ℕ
least_below zero test = zero
least_below (suc m) test = pick (test zero) zero (suc (least_below m (λ k. test (suc k))))

-- "the shortest front of the book that suffices, or the whole book": how many orders it has
unfoldable pub front_length : ℕ → Order → List Order → ℕ
front_length n w os = least_below (length os) (λ k. suffices n w (take k os))

-- "The yes or no equals the one from the whole book", and "the count of orders read"
unfoldable pub front_read : Order → List Order → FrontRead
front_read w os = record { fills = suffices w.shares w os; read = front_length w.shares w os }
