-- Copy out: document 01, "Copy out". Assumes nothing.
use Rattle.std.specs.Prelude.{ℕ, List, ◌++◌, map, leb, length, drop, Result, Ok, Err}
use Rattle.numbers.specs.Tests.{pick}
use Rattle.numbers.specs.Answers.{Outcome, gives, refuses}
use Rattle.book.specs.declared.OrderRecord.{OrderRecord}
use Rattle.book.specs.rules.Words.{resting}
use Rattle.book.specs.rules.OrderRecords.{record_of}
use Rattle.engine.specs.declared.CopyError.{CopyError}
use Rattle.engine.specs.declared.CopyError.TheVariants.{RunTooShort, VenueBroken}
use Rattle.engine.specs.rules.Layout.{sound_words}

-- "the result being how many were filled; 16 first, then 14 if the run is shorter than the book"; n is the length of the run
unfoldable pub copy_outcome : List ℕ → ℕ → Outcome ℕ
copy_outcome w n =
    pick (sound_words w)
    (pick (leb (length (resting w)) n) (gives (length (resting w))) (refuses 14))
    (refuses 16)

-- the run after it: "filled in id order, the rest kept". The book stands in id order, and a refusal changes no record
abbrev pub run_after : Outcome ℕ → List OrderRecord → List OrderRecord → List OrderRecord
run_after (gives n) records run = records ++ drop n run
run_after (refuses k) records run = run

unfoldable pub copied : List ℕ → List OrderRecord → List OrderRecord
copied w run = run_after (copy_outcome w (length run)) (map record_of (resting w)) run

-- the paper's terms for an answer
abbrev pub copy_error_number : CopyError → ℕ
copy_error_number RunTooShort = 14
copy_error_number VenueBroken = 16

abbrev pub outcome_of_copy : Result ℕ CopyError → Outcome ℕ
outcome_of_copy (Ok n) = gives n
outcome_of_copy (Err e) = refuses (copy_error_number e)
