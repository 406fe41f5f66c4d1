-- The calls of a host program: open, the event, the record check and the permitted price of document 01 and document 02, No. 2, each
-- answered by one number. Assumes nothing.
use Rattle.std.specs.Prelude.{ℕ, ◌*◌, ◌/◌, List, ◌++◌, leb, ltb, length, drop}
use Rattle.numbers.specs.Tests.{pick}
use Rattle.numbers.specs.Answers.{Outcome, gives, refuses, Read}
use Rattle.book.specs.rules.Words.{venue_words}
use Rattle.engine.specs.rules.Venue.{Venue, opening}
use Rattle.engine.specs.rules.Layout.{opened_words}

-- the number that a host call answers, refusal × 65,536 + byte count: a byte count has no refusal, and a refusal no byte count
abbrev pub host_answer : Outcome ℕ → ℕ
host_answer (gives count) = count
host_answer (refuses n) = n * 65_536

-- how a host reads the number: below 65,536 it is a byte count, any other is a refusal
unfoldable pub outcome_of : ℕ → Outcome ℕ
outcome_of answer = pick (ltb answer 65_536) (gives answer) (refuses (answer / 65_536))

-- Open

-- open reports nothing, so its byte count is 0
abbrev pub open_count : Outcome Venue → Outcome ℕ
open_count (gives v) = gives 0
open_count (refuses n) = refuses n

-- 16 where the run is shorter than a venue, then what open says of the step s and the close: 17, and "3 if it isn't legal; no venue is made"
unfoldable pub host_opening : List ℕ → ℕ → ℕ → Outcome ℕ
host_opening w s close = pick (leb venue_words (length w)) (open_count (opening s close)) (refuses 16)

-- the words after the call: those that open gives, and those behind the venue as they were; a refusal leaves every word as it was
abbrev pub words_opened : List ℕ → ℕ → ℕ → Outcome ℕ → List ℕ
words_opened w s close (gives count) = opened_words s close ++ drop venue_words w
words_opened w s close (refuses n) = w

-- The permitted price, which takes the step with each call (No. 2), and the record check

-- "these give 0 on refusal (3; 9 to 12)", from No. 2 on 17 too, "else the price, or the record's byte count; the check reads at offset 0"
abbrev pub end_or_zero : {A : Type 0} → Outcome (Read A) → ℕ
end_or_zero (gives r) = r.end
end_or_zero (refuses n) = 0

abbrev pub value_or_zero : Outcome ℕ → ℕ
value_or_zero (gives x) = x
value_or_zero (refuses n) = 0
