-- Each field ends behind the kind.
use Rattle.std.proofs.Common.{◌≤◌}
use Rattle.console.proofs.line.put_report.Given as goal

abbrev pub invariant-loop : goal.invariant-loop
invariant-loop g l = l.fn.kind.end ≤ l.next
