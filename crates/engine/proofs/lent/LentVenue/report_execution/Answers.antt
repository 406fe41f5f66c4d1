-- The buyer is the working order where that is a buy. Assumes nothing.
use Prim.Native.Nat.{◌+◌, ◌≤◌}
use mathlib.Core.Path.{sym, ap, subst}
use lib.ListN.{length}
use Rattle.book.specs.rules.Matching.{Execution}
use Rattle.engine.specs.rules.Reports.{executed}
use Rattle.engine.specs.rules.Records.{report_bytes}
use Rattle.engine.proofs.refinement.StepLaws.{put_as}
use Rattle.engine.proofs.refinement.WorkingSteps.{execution_buy, execution_sell}
use Rattle.engine.proofs.lent.LentVenue.report_execution.Goals as goal

pub report_executed-requires : goal.report_executed-requires
report_executed-requires c = let a = c.args in subst (λ (z : Execution). a.self.now.end + length (report_bytes (executed z)) ≤ length a.self.now.buffer.now) (execution_buy a.o a.x a.q c.if-o-eq0.true) c.requires

pub returns-then-o-eq0-clause-reported : goal.returns-then-o-eq0-clause-reported
returns-then-o-eq0-clause-reported c = let a = c.args in let r = c.report_executed.ensures.reported in record { words = r.words; wrote = put_as (ap (λ (z : Execution). report_bytes (executed z)) (sym (execution_buy a.o a.x a.q c.if-o-eq0.true))) r.wrote }

pub report_executed-requires-else-o-eq0 : goal.report_executed-requires-else-o-eq0
report_executed-requires-else-o-eq0 c = let a = c.args in subst (λ (z : Execution). a.self.now.end + length (report_bytes (executed z)) ≤ length a.self.now.buffer.now) (execution_sell a.o a.x a.q c.if-o-eq0.false) c.requires

pub returns-else-o-eq0-clause-reported : goal.returns-else-o-eq0-clause-reported
returns-else-o-eq0-clause-reported c = let a = c.args in let r = c.report_executed-else-o-eq0.ensures.reported in record { words = r.words; wrote = put_as (ap (λ (z : Execution). report_bytes (executed z)) (sym (execution_sell a.o a.x a.q c.if-o-eq0.false))) r.wrote }
