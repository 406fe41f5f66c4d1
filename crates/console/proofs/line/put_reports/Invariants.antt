-- Each turn goes on in the reports.
use Rattle.std.proofs.Common.{◌-◌, length}
use Rattle.console.proofs.line.put_reports.Given as goal

abbrev pub decreases-loop-kind : goal.decreases-loop-kind
decreases-loop-kind g l = length l.reports - l.next
