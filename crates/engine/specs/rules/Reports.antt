-- Reports: document 01, "Reports, in the order of happening", and document 02, No. 7 and No. 10. Assumes nothing.
use Rattle.std.specs.Prelude.{ℕ}
use Rattle.book.specs.rules.Matching.{Execution}
use Rattle.engine.specs.declared.Cause.{Cause}
use Rattle.engine.specs.declared.Cause.TheVariants.{AskedFor, ImmediateOrCancel, OptOut, EndOfDay, SameFirm}

pub data Report : Type 0 where
  -- 1: id, stamp, working price
  accepted : ℕ → ℕ → ℕ → Report
  -- 2: buyer id, seller id, price, shares
  executed : Execution → Report
  -- 3: id, shares, cause
  cancelled : ℕ → ℕ → ℕ → Report
  -- 4: id, price, stamp
  repriced : ℕ → ℕ → ℕ → Report
  -- 5
  restriction_starts : Report
  -- 6: new phase
  day_ended : ℕ → Report
  -- 7 (No. 10): direction, 1 a fall and 2 a rise, and the price
  pause_triggered : ℕ → ℕ → Report

-- the causes of report 3: "1 asked for, others above"
abbrev pub asked_for : ℕ
asked_for = 1

abbrev pub immediate_or_cancel : ℕ
immediate_or_cancel = 2

abbrev pub opt_out : ℕ
opt_out = 3

abbrev pub end_of_day : ℕ
end_of_day = 4

-- No. 7: "cancelled (cause 5)", an order that one of its owner's own would have traded with
abbrev pub same_firm : ℕ
same_firm = 5

-- the number of each
abbrev pub cause_number : Cause → ℕ
cause_number AskedFor = asked_for
cause_number ImmediateOrCancel = immediate_or_cancel
cause_number OptOut = opt_out
cause_number EndOfDay = end_of_day
cause_number SameFirm = same_firm
