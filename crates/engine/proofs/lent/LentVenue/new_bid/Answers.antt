-- `new_bid`: the market, then the pass. Assumes nothing.
use mathlib.Core.Path.{◌≡◌, ap, ◌∙◌}
use Rattle.engine.specs.declared.Market.{Market}
use Rattle.engine.specs.declared.Event.TheVariants.{Bid as bid}
use Rattle.engine.specs.rules.Market.{market_after}
use Rattle.engine.specs.rules.Layout.{venue_of}
use Rattle.engine.proofs.refinement.QuoteLaws.{bid_may, bid_done}
use Rattle.engine.proofs.lent.LentVenue.new_bid.Goals as goal
use Rattle.engine.proofs.lent.LentVenue.new_bid.Goals.{After-market_after_bid-m}

-- the market after the bid
moved : (c : After-market_after_bid-m) → c.market_after_bid-m.result ≡ market_after (bid c.args.bid) (venue_of c.args.self.now.words.now).market
moved c = c.market_after_bid-m.ensures ∙ ap (market_after (bid c.args.bid)) (rw c.view.ensures at c.market.ensures)

pub set_market-requires : goal.set_market-requires
set_market-requires c =
    ap (λ (y : Market). y.step) (moved (goal.at.set_market-requires c).After-market_after_bid-m)

pub pass_and_finish-requires : goal.pass_and_finish-requires
pass_and_finish-requires c =
    let v = c.args.self.now in
    let r = c.requires in
    let n = c.set_market.ensures.becomes in
    rw (n.buffer, n.end, r.none_written) (bid_may v.words.now c.args.bid c.market_after_bid-m.result (moved (goal.at.pass_and_finish-requires c).After-market_after_bid-m) n.venue r.may_accept.0 r.may_accept.1 v.buffer.now r.room)

pub returns-clause-accepts : goal.returns-clause-accepts
returns-clause-accepts c =
    let n = c.set_market.ensures.becomes in
    bid_done c.args.self.now.words.now c.args.bid c.market_after_bid-m.result (moved (goal.at.returns-clause-accepts c).After-market_after_bid-m) n.venue (rw (n.buffer, n.end, c.requires.none_written) at c.pass_and_finish.ensures.passes)
