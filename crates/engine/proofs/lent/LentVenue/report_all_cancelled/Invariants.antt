-- `report_all_cancelled`: the reports of the orders from here on remain to be written. Assumes nothing.
use mathlib.Core.List.{map}
use mathlib.Core.Path.{◌≡◌}
use lib.ListN.{drop}
use Rattle.numbers.proofs.WriteLaws.{Remaining}
use Rattle.engine.specs.rules.Venue.{cancelled_at_end}
use Rattle.engine.specs.rules.Records.{reports_bytes}
use Rattle.engine.specs.steps.Lent.{SameLoans, words_in, resting_in}
use Rattle.engine.proofs.lent.LentVenue.report_all_cancelled.Given as goal

abbrev pub invariant-loop-i : goal.invariant-loop-i
invariant-loop-i l =
    record {
      way : Remaining l.initial.self.buffer.now l.initial.self.end (reports_bytes (map cancelled_at_end (resting_in l.initial.self))) l.self.buffer.now l.self.end (reports_bytes (map cancelled_at_end (drop l.i (resting_in l.initial.self))));
      words : words_in l.self ≡ words_in l.initial.self;
      same_loans : SameLoans l.initial.self l.self;
    }
