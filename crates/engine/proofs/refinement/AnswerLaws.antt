-- The numbers of the refusals: from 1 on, and each of one byte. Assumes nothing.
use Prim.Native.Nat.{◌≤◌, ◌<◌}
use native.Mathlib.Omega.{arith}
use Rattle.engine.specs.declared.Refusal.{Refusal}
use Rattle.engine.specs.declared.Refusal.TheVariants.{BufferTooShort, EventsSpent, PriceNotLegal, SharesOutOfRange, ShowOrLifeOutOfRange, IdNotNew, BookFull, NotResting, VenueBroken, NotStep, MarkOutOfRange, SlideOutOfRange, SlideOnWrongMark, OwnerOutOfRange, TimeBeforeLast, KeptPricesFull}
use Rattle.engine.specs.rules.Answers.{refusal_number}

pub refusal_range : (r : Refusal) → (1 ≤ refusal_number r) × (refusal_number r < 128)
refusal_range BufferTooShort = (omega arith, omega arith)
refusal_range EventsSpent = (omega arith, omega arith)
refusal_range PriceNotLegal = (omega arith, omega arith)
refusal_range SharesOutOfRange = (omega arith, omega arith)
refusal_range ShowOrLifeOutOfRange = (omega arith, omega arith)
refusal_range IdNotNew = (omega arith, omega arith)
refusal_range BookFull = (omega arith, omega arith)
refusal_range NotResting = (omega arith, omega arith)
refusal_range VenueBroken = (omega arith, omega arith)
refusal_range NotStep = (omega arith, omega arith)
refusal_range MarkOutOfRange = (omega arith, omega arith)
refusal_range SlideOutOfRange = (omega arith, omega arith)
refusal_range SlideOnWrongMark = (omega arith, omega arith)
refusal_range OwnerOutOfRange = (omega arith, omega arith)
refusal_range TimeBeforeLast = (omega arith, omega arith)
refusal_range KeptPricesFull = (omega arith, omega arith)
