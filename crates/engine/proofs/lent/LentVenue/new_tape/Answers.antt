-- `new_tape`: the market, the report of the restriction, then the pass. Assumes nothing.
use mathlib.Core.Path.{◌≡◌, ap, ◌∙◌}
use Rattle.engine.specs.declared.Market.{Market}
use Rattle.engine.specs.declared.Event.TheVariants.{Tape as tape}
use Rattle.engine.specs.rules.Market.{market_after}
use Rattle.engine.specs.rules.Layout.{venue_of}
use Rattle.engine.proofs.refinement.QuoteLaws.{tape_first, tape_may, tape_done}
use Rattle.engine.proofs.lent.LentVenue.new_tape.Goals as goal
use Rattle.engine.proofs.lent.LentVenue.new_tape.Goals.{After-market-before}

-- the market before
read : (c : After-market-before) → c.market-before.result ≡ (venue_of c.args.self.now.words.now).market
read c = rw c.view.ensures at c.market-before.ensures

pub set_market-requires : goal.set_market-requires
set_market-requires c =
    ap (λ (y : Market). y.step) (c.market_after_tape-after.ensures ∙ ap (market_after (tape c.args.price)) (read (goal.at.set_market-requires c).After-market-before))

pub report_restriction-requires : goal.report_restriction-requires
report_restriction-requires c =
    let v = c.args.self.now in
    let after = c.market_after_tape-after in
    let n = c.set_market.ensures.becomes in
    rw (n.buffer, n.end) (tape_first v.words.now c.args.price c.market-before.result after.result (read (goal.at.report_restriction-requires c).After-market-before) after.ensures v.buffer.now v.end c.requires.1)

pub pass_and_finish-requires : goal.pass_and_finish-requires
pass_and_finish-requires c =
    let v = c.args.self.now in
    let after = c.market_after_tape-after in
    let n = c.set_market.ensures.becomes in
    let r = c.report_restriction.ensures.reported in
    rw r.words (tape_may v.words.now c.args.price c.market-before.result after.result (read (goal.at.pass_and_finish-requires c).After-market-before) after.ensures v.buffer.now v.end c.requires.1 (rw (n.buffer, n.end) at r.wrote) n.venue c.requires.0)

pub returns-clause-accepts : goal.returns-clause-accepts
returns-clause-accepts c =
    let v = c.args.self.now in
    let after = c.market_after_tape-after in
    let n = c.set_market.ensures.becomes in
    let r = c.report_restriction.ensures.reported in
    tape_done v.words.now c.args.price c.market-before.result after.result (read (goal.at.returns-clause-accepts c).After-market-before) after.ensures v.buffer.now v.end c.requires.1 (rw (n.buffer, n.end) at r.wrote) n.venue (rw r.words at c.pass_and_finish.ensures.passes)
