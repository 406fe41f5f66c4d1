-- `end_day`: the reports, the orders taken out, the market set, no price kept, the event counted. Assumes nothing.
use mathlib.Core.Path.{◌≡◌, ap, ◌∙◌}
use mathlib.Core.List.{[]}
use Rattle.book.specs.steps.BookSteps.{Holds}
use Rattle.engine.specs.declared.Event.TheVariants.{DayEnd as day_end}
use Rattle.engine.specs.rules.Market.{market_after}
use Rattle.engine.specs.rules.Layout.{venue_of}
use Rattle.engine.proofs.refinement.LeaveLaws.{cancels_fit, ended_fits, emptied, emptied_may_set, emptied_kept, emptied_accepts, day_done}
use Rattle.engine.proofs.lent.LentVenue.end_day.Goals as goal
use Rattle.engine.proofs.lent.LentVenue.end_day.Goals.{After-market_after_day_end-m, After-clear}

-- the market after the day end
ended : (c : After-market_after_day_end-m) → c.market_after_day_end-m.result ≡ market_after (day_end c.args.close) (venue_of c.args.self.now.words.now).market
ended c = c.market_after_day_end-m.ensures ∙ ap (market_after (day_end c.args.close)) (rw c.view.ensures at c.market.ensures)

-- no order is left of the words that were lent, which the reports leave
cleared : (c : After-clear) → Holds c.args.self.now.words.now c.clear.new.w []
cleared c = rw (c.report_day_ended.ensures.reported.words ∙ c.report_all_cancelled.ensures.reported.words) at c.clear.ensures

pub report_all_cancelled-requires : goal.report_all_cancelled-requires
report_all_cancelled-requires c =
    let v = c.args.self.now in
    let e = ended (goal.at.report_all_cancelled-requires c).After-market_after_day_end-m in
    rw c.requires.none_written (cancels_fit v.words.now c.args.close c.market_after_day_end-m.result e v.buffer.now c.requires.room)

pub report_day_ended-requires : goal.report_day_ended-requires
report_day_ended-requires c =
    let v = c.args.self.now in
    let e = ended (goal.at.report_day_ended-requires c).After-market_after_day_end-m in
    ended_fits v.words.now c.args.close c.market_after_day_end-m.result e v.buffer.now c.requires.room (rw c.requires.none_written at c.report_all_cancelled.ensures.reported.wrote)

pub set_market-requires : goal.set_market-requires
set_market-requires c =
    let at = goal.at.set_market-requires c in
    emptied_may_set c.args.self.now.words.now c.args.close c.market_after_day_end-m.result (ended at.After-market_after_day_end-m) c.requires.may_accept (cleared at.After-clear)

pub count_event-requires : goal.count_event-requires
count_event-requires c =
    let at = goal.at.count_event-requires c in
    emptied_accepts c.args.self.now.words.now c.args.close c.market_after_day_end-m.result (ended at.After-market_after_day_end-m) c.requires.may_accept (cleared at.After-clear) c.set_market.ensures.becomes.venue c.set_kept_count.ensures.becomes.venue

pub invariant_of-self : goal.invariant_of-self
invariant_of-self c =
    let at = goal.at.invariant_of-self c in
    record { ordered = (emptied c.args.self.now.words.now c.args.close c.market_after_day_end-m.result (ended at.After-market_after_day_end-m) c.requires.may_accept (cleared at.After-clear)).ordered }

pub returns-clause-accepts : goal.returns-clause-accepts
returns-clause-accepts c =
    let at = goal.at.returns-clause-accepts c in
    let w = c.args.self.now.words.now in
    let x = c.args.close in
    let m = c.market_after_day_end-m.result in
    let e = ended at.After-market_after_day_end-m in
    let kept = emptied_kept w x m e c.requires.may_accept (cleared at.After-clear) c.set_market.ensures.becomes.venue c.set_kept_count.ensures.becomes.venue in
    let n = c.set_market.ensures.becomes in
    let k = c.set_kept_count.ensures.becomes in
    let f = c.count_event.ensures.becomes in
    rw (f.buffer ∙ k.buffer ∙ n.buffer, f.end ∙ k.end ∙ n.end) (day_done w x m e c.requires.room (rw c.requires.none_written at c.report_all_cancelled.ensures.reported.wrote) c.report_day_ended.ensures.reported.wrote kept f.venue)
