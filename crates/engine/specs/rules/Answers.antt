-- The paper's terms for the answers of an event: numbers of refusals, the byte count, the report buffer. Assumes nothing.
use Rattle.std.specs.Prelude.{ℕ, List, length, Result, Ok, Err}
use Rattle.std.proofs.Math.Option.{Option, none as nothing, some}
use Rattle.numbers.specs.Answers.{Outcome, gives, refuses}
use Rattle.numbers.specs.SevenBit.{overwrite}
use Rattle.engine.specs.declared.Refusal.{Refusal}
use Rattle.engine.specs.declared.Refusal.TheVariants.{BufferTooShort, EventsSpent, PriceNotLegal, SharesOutOfRange, ShowOrLifeOutOfRange, IdNotNew, BookFull, NotResting, VenueBroken, NotStep, MarkOutOfRange, SlideOutOfRange, SlideOnWrongMark, OwnerOutOfRange, TimeBeforeLast, KeptPricesFull}
use Rattle.engine.specs.rules.Reports.{Report}
use Rattle.engine.specs.rules.Records.{reports_bytes}

-- the paper's numbers of the refusals
abbrev pub refusal_number : Refusal → ℕ
refusal_number BufferTooShort = 1
refusal_number EventsSpent = 2
refusal_number PriceNotLegal = 3
refusal_number SharesOutOfRange = 4
refusal_number ShowOrLifeOutOfRange = 5
refusal_number IdNotNew = 6
refusal_number BookFull = 7
refusal_number NotResting = 8
refusal_number VenueBroken = 16
refusal_number NotStep = 17
refusal_number MarkOutOfRange = 18
refusal_number SlideOutOfRange = 19
refusal_number SlideOnWrongMark = 20
refusal_number OwnerOutOfRange = 21
refusal_number TimeBeforeLast = 22
refusal_number KeptPricesFull = 23

-- the paper's terms for what the refusals say of an event
abbrev pub refused_with : Result (Unit {0}) Refusal → Option ℕ
refused_with (Ok _) = nothing
refused_with (Err r) = some (refusal_number r)

-- the paper's terms for the answer of an event: "The result has their byte count"
abbrev pub outcome_of_answer : Result ℕ Refusal → Outcome ℕ
outcome_of_answer (Ok n) = gives n
outcome_of_answer (Err r) = refuses (refusal_number r)

-- the answer of a step with the count of its reports' bytes in their place
abbrev pub count_of : Outcome (List Report) → Outcome ℕ
count_of (gives rs) = gives (length (reports_bytes rs))
count_of (refuses n) = refuses n

-- the report buffer after a step: its reports at the front, "bytes behind them keep their content"; a refusal leaves it as it was
abbrev pub buffer_after : List ℕ → Outcome (List Report) → List ℕ
buffer_after b (gives rs) = overwrite b 0 (reports_bytes rs)
buffer_after b (refuses n) = b
