-- Depth: document 01, "Depth". A run of order records is lent by the host and may hold anything. Assumes nothing.
use Rattle.std.specs.Prelude.{ℕ, ◌+◌, Bool, ◌&&◌, List, [], ◌∷◌, eqb, leb, ltb, length, Result, Ok, Err}
use Rattle.numbers.specs.Tests.{pick}
use Rattle.numbers.specs.Answers.{Outcome, gives, refuses}
use Rattle.book.specs.declared.OrderRecord.{OrderRecord}
use Rattle.book.specs.declared.Side.{Side}
use Rattle.book.specs.declared.Side.TheVariants.{Buy, Sell}
use Rattle.book.specs.declared.TooManyRecords.{TooManyRecords}

-- "Mark 0 counts as a buy, 1 to 3 as a sell, any other mark .. as nothing"
unfoldable pub on_side : Side → ℕ → Bool
on_side Buy mark = eqb mark 0
on_side Sell mark = leb 1 mark && leb mark 3

-- "the displayed shares whose present price that is": whether the shares of a record count, and how many do. "any show but 1 as nothing"
unfoldable pub counts : ℕ → Side → OrderRecord → Bool
counts p s o = eqb o.show 1 && (eqb o.price p && on_side s o.mark)

unfoldable pub shares_shown : ℕ → Side → OrderRecord → ℕ
shares_shown p s o = pick (counts p s o) o.shares 0

-- over the whole run
unfoldable pub all_shown : ℕ → Side → List OrderRecord → ℕ
all_shown p s [] = 0
all_shown p s (o ∷ os) = shares_shown p s o + all_shown p s os

-- "15 if the run has over 256 records": the outcome of a run with n records and a sum of shares
unfoldable pub depth_outcome : ℕ → ℕ → Outcome ℕ
depth_outcome n sum = pick (ltb 256 n) (refuses 15) (gives sum)

-- "takes such a run, a price and buy or sell"
unfoldable pub depth_of : List OrderRecord → ℕ → Side → Outcome ℕ
depth_of run p s = depth_outcome (length run) (all_shown p s run)

-- the paper's terms for an answer: the shares, or 15
abbrev pub outcome_of_depth : Result ℕ TooManyRecords → Outcome ℕ
outcome_of_depth (Ok n) = gives n
outcome_of_depth (Err e) = refuses 15
