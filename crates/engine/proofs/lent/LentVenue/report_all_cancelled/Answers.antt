use Prim.Native.Nat.{◌+◌}
use mathlib.Core.Path.{◌≡◌, ◌∙◌}
use mathlib.Core.List.{map, ◌++◌}
use native.Mathlib.Omega.{arith}
use lib.ListN.{length, get_or, drop}
use Rattle.numbers.proofs.WriteLaws.{remaining_fits, remaining_put, remaining_none}
use Rattle.book.specs.rules.Words.{empty_order, resting}
use Rattle.engine.specs.rules.Reports.{cancelled, end_of_day}
use Rattle.engine.specs.rules.Venue.{cancelled_at_end}
use Rattle.engine.specs.rules.Records.{report_bytes, reports_bytes}
use Rattle.engine.proofs.refinement.LeaveLaws.{remaining_as, cancels_next, cancels_none}
use Rattle.engine.proofs.lent.LentVenue.report_all_cancelled.Goals as goal
use Rattle.engine.proofs.lent.LentVenue.report_all_cancelled.Goals.{After-order-o}

-- the order of this turn is the next that is reported
next : (c : After-order-o) → let l = resting c.args.self.now.words.now in let i = c.loop-i.i in let o = c.order-o.result in reports_bytes (map cancelled_at_end (drop i l)) ≡ report_bytes (cancelled o.id o.shares end_of_day) ++ reports_bytes (map cancelled_at_end (drop (i + 1) l))
next c =
    let v = c.args.self.now in
    let n : c.count-i-end.result ≡ length (resting v.words.now) = rw c.view.ensures at c.count-i-end.ensures in
    let o : c.order-o.result ≡ get_or (resting v.words.now) c.loop-i.i empty_order = rw (c.view-in-loop-i.ensures ∙ c.loop-i.invariant.words) at c.order-o.ensures in
    cancels_next (resting v.words.now) c.loop-i.i c.order-o.result (omega (arith, n, c.loop-i-test.true)) o

pub report_cancelled-requires : goal.report_cancelled-requires
report_cancelled-requires c =
    let o = c.order-o.result in
    let rest = reports_bytes (map cancelled_at_end (drop (c.loop-i.i + 1) (resting c.args.self.now.words.now))) in
    remaining_fits c.requires (report_bytes (cancelled o.id o.shares end_of_day)) rest (remaining_as (next (goal.at.report_cancelled-requires c).After-order-o) c.loop-i.invariant.way)

pub loop-i-preserved : goal.loop-i-preserved
loop-i-preserved c =
    let f = c.loop-i.invariant in
    let t = c.report_cancelled.ensures in
    record {
      way = remaining_put c.requires _ _ (remaining_as (next (goal.at.loop-i-preserved c).After-order-o) f.way) t.reported.wrote;
      words = t.reported.words ∙ f.words;
      same_loans = (t.same_loans.0 ∙ f.same_loans.0, t.same_loans.1 ∙ f.same_loans.1);
    }

pub returns-clause-reported : goal.returns-clause-reported
returns-clause-reported c =
    let l = resting c.args.self.now.words.now in
    let f = c.loop-i.invariant in
    let n : c.count-i-end.result ≡ length l = rw c.view.ensures at c.count-i-end.ensures in
    record { words = f.words; wrote = remaining_none c.requires (remaining_as (cancels_none l c.loop-i.i (omega (arith, n, c.loop-i-test.false))) f.way) }
