-- The calls of a host program that change no venue: copy out, depth and watch of document 01 and document 02, No. 2,
-- each answered by one number. Assumes nothing.
use Rattle.std.specs.Prelude.{ℕ, eqb}
use Rattle.numbers.specs.Tests.{pick}
use Rattle.numbers.specs.Answers.{Outcome, gives, refuses}
use Rattle.book.specs.declared.Side.{Side}
use Rattle.book.specs.declared.Side.TheVariants.{Buy, Sell}

-- a host asks for buys with 0, and for sells with any other number
unfoldable pub side_of : ℕ → Side
side_of n = pick (eqb n 0) Buy Sell

-- depth gives the sum of shares, which is below 2^40; the highest number of 64 bits stands for its refusal, 15
abbrev pub depth_number : Outcome ℕ → ℕ
depth_number (gives sum) = sum
depth_number (refuses n) = 18_446_744_073_709_551_615

-- watch answers nothing beside the record, so its count is 0
abbrev pub watch_count : Outcome (Unit {0}) → Outcome ℕ
watch_count (gives u) = gives 0
watch_count (refuses n) = refuses n
